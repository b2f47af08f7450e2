-- What the lister of trees prints of a recipe.
use Rattle.std.specs.Prelude.{ℕ, ◌+◌, List, [], ◌∷◌, ◌++◌, codes, decimal}
use Rattle.std.specs.List.{flat_map}
use Rattle.arith.specs.declared.Relation.{Relation}
use Rattle.arith.specs.declared.Relation.TheVariants as Q
use Rattle.lexer.specs.Refusals.{refused_text}
use Rattle.lexer.specs.Scan.{Accepted}
use Rattle.lexer.specs.declared.Token.{Token}
use Rattle.syntax.specs.Parsing.{Reads, NoTree}
use Rattle.syntax.specs.Table.{root}
use Rattle.syntax.specs.Trees.{Tree, node, Forest, bare, grown, sizes}
use Rattle.syntax.specs.declared.BinaryOp.{BinaryOp}
use Rattle.syntax.specs.declared.BinaryOp.TheVariants as B
use Rattle.syntax.specs.declared.NodeKind.{NodeKind}
use Rattle.syntax.specs.declared.NodeKind.TheVariants as N

-- the sign of an arithmetic operator
abbrev pub operator : BinaryOp → List ℕ
operator B.Add = codes "+"
operator B.Subtract = codes "-"
operator B.Multiply = codes "*"
operator B.Divide = codes "/"
operator B.Remainder = codes "%"

-- the sign of a relation
abbrev pub relation : Relation → List ℕ
relation Q.Equal = codes "=="
relation Q.NotEqual = codes "!="
relation Q.Less = codes "<"
relation Q.LessEqual = codes "<="
relation Q.Greater = codes ">"
relation Q.GreaterEqual = codes ">="

-- the word for a kind of node
abbrev pub label : NodeKind → List ℕ
label N.Empty = codes "empty"
label N.Method = codes "method"
label N.Parameter = codes "parameter"
label N.Name = codes "name"
label (N.Field p) = codes "field"
label N.Element = codes "element"
label N.Call = codes "call"
label N.CallStatement = codes "call"
label (N.Number v) = codes "number"
label (N.Character c) = codes "character"
label (N.New p) = codes "new"
label N.Negate = codes "neg"
label (N.Binary op) = operator op
label (N.Relation r) = relation r
label N.And = codes "&&"
label N.Or = codes "||"
label N.Assign = codes "="
label N.Increment = codes "++"
label N.Decrement = codes "--"
label N.If = codes "if"
label N.While = codes "while"
label (N.Break b) = codes "break"
label N.Return = codes "return"
label N.Read = codes "read"
label (N.Print w) = codes "print"
label N.Block = codes "block"

-- what is told of a node: its index, its place, its kind and the indices of its parts from left to right
pub record Row : Type 0 where
  pub index : ℕ
  pub place : ℕ
  pub kind : NodeKind
  pub parts : List ℕ

-- the indices of some trees' own nodes where their nodes begin at b
abbrev pub roots : ℕ → Forest → List ℕ
roots b bare = []
roots b (grown f t) = roots b f ++ root (b + sizes f) t ∷ []

abbrev mutual
  -- the rows of a tree whose nodes begin at b: its parts', and then its own
  pub tree_rows : ℕ → Tree → List Row
  tree_rows b (node k p f) = rows b f ++ record { index = b + sizes f; place = p; kind = k; parts = roots b f } ∷ []

  -- the rows of some trees whose nodes begin at b
  pub rows : ℕ → Forest → List Row
  rows b bare = []
  rows b (grown f t) = rows b f ++ tree_rows (b + sizes f) t

-- an index with a blank before it
abbrev pub spaced : ℕ → List ℕ
spaced i = codes " " ++ decimal i

-- a node's line: what is told of it, separated by one blank
abbrev pub line : Row → List ℕ
line r = decimal r.index ++ (codes " " ++ (decimal r.place ++ (codes " " ++ (label r.kind ++ (flat_map spaced r.parts ++ codes "\n")))))

-- the lines of some trees
abbrev pub lines : Forest → List ℕ
lines f = flat_map line (rows 0 f)

-- the last line: how many nodes there are
abbrev pub total : ℕ → List ℕ
total n = codes "nodes " ++ (decimal n ++ codes "\n")

-- the line of a refusal: its number and place
abbrev pub refused_line : ℕ → ℕ → List ℕ
refused_line number place = refused_text number place ++ codes "\n"

-- what is printed of a recipe
pub data Listed (recipe : List ℕ) : List ℕ → Type 0 where
  -- a line for each node of its tree and the count of all
  the_tree : {ts : List Token} {f : Forest} → Accepted recipe ts → Reads ts f → Listed recipe (lines f ++ total (sizes f))
  -- only the refusal, in a table of 65,542 entries
  the_refusal : {number place : ℕ} → NoTree recipe 65542 number place → Listed recipe (refused_line number place)
