-- What the links of the node table tell of a node. Only inner contracts speak of this.
use Rattle.std.specs.Prelude.{◌≡◌, ℕ, ◌<◌, List, [], ◌∷◌, Some, None, Option, length, slice_index_or}
use Rattle.syntax.specs.declared.Node.{Node}
use Rattle.mjtree.specs.Listing.{Row}

-- the table has this node at the index
pub record At (nodes : List Node) (i : ℕ) (n : Node) : Type 0 where
  pub within : i < length nodes
  pub here : (d : Node) → slice_index_or nodes i d ≡ n

-- a node's right neighbour, if there is one, stands behind it
abbrev pub Behind : ℕ → Option ℕ → Type 0
Behind i None = Unit {0}
Behind i (Some j) = i < j

-- the node that a link leads to, the one to its right and so on have these indices
pub data Follows (nodes : List Node) : Option ℕ → List ℕ → Type 0 where
  end : Follows nodes None []
  on : {i : ℕ} {is : List ℕ} {n : Node} → At nodes i n → Behind i n.next → Follows nodes n.next is → Follows nodes (Some i) (i ∷ is)

-- the row tells of the node at the index
pub record Told (nodes : List Node) (i : ℕ) (r : Row) : Type 0 where
  pub node : Node
  pub at : At nodes i node
  pub index : r.index ≡ i
  pub place : r.place ≡ node.place
  pub kind : r.kind ≡ node.kind
  pub parts : Follows nodes node.first r.parts
