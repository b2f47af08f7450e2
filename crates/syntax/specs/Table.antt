-- How trees stand in the node table: children first.
use Rattle.std.specs.Prelude.{ℕ, ◌+◌, List, [], ◌∷◌, ◌++◌, Some, None, Option}
use Rattle.syntax.specs.declared.node.NodeKind.{NodeKind}
use Rattle.syntax.specs.declared.node.NodeKind.TheVariants as N
use Rattle.syntax.specs.declared.node.Use.{Use}
use Rattle.syntax.specs.declared.node.Use.TheVariants.{Value, Stored, Called}
use Rattle.syntax.specs.declared.node.Note.TheVariants.{Unjudged}
use Rattle.syntax.specs.declared.node.Node.{Node}
use Rattle.syntax.specs.Trees.{Tree, node, Forest, bare, grown, sizes}

-- how a node uses its first part: a store stores into it, a call calls it
abbrev pub first_use : NodeKind → Use
first_use N.Call = Called
first_use N.CallStatement = Called
first_use N.Assign = Stored
first_use N.Increment = Stored
first_use N.Decrement = Stored
first_use N.Read = Stored
first_use kind = Value

-- the index of a tree's own node where its nodes begin at b
abbrev pub root : ℕ → Tree → ℕ
root b (node k p f) = b + sizes f

-- the index of the first of some trees whose nodes begin at b, or else the one given
abbrev pub first_root : ℕ → Forest → Option ℕ → Option ℕ
first_root b bare next = next
first_root b (grown f t) next = first_root b f (Some (root (b + sizes f) t))

-- how a part is used that stands behind these: only the first is used in the way given
abbrev pub use_behind : Forest → Use → Use
use_behind bare u = u
use_behind (grown f t) u = Value

abbrev mutual
  -- the entries of a tree whose nodes begin at b, with its own node's right neighbour and use: its parts', then its own
  pub entries : ℕ → Option ℕ → Use → Tree → List Node
  entries b next u (node k p f) = parts b None (first_use k) f ++ record { kind = k; place = p; start = b; first = first_root b f None; next = next; used = u; note = Unjudged } ∷ []

  -- the entries of the parts of one node
  pub parts : ℕ → Option ℕ → Use → Forest → List Node
  parts b next u bare = []
  parts b next u (grown f t) = parts b (Some (root (b + sizes f) t)) u f ++ entries (b + sizes f) next (use_behind f u) t

-- the entries of trees that are no parts of a node
abbrev pub loose : ℕ → Forest → List Node
loose b bare = []
loose b (grown f t) = loose b f ++ entries (b + sizes f) None Value t
