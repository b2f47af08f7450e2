-- Worked examples: what some short recipes are by the definitions.
use Rattle.std.specs.Prelude.{ℕ, List, ◌∷◌, ◌++◌, replicate, codes}
use Rattle.arith.specs.declared.Relation.TheVariants as Q
use Rattle.lexer.specs.Scan.{Accepted}
use Rattle.lexer.specs.declared.Token.{Token}
use Rattle.syntax.specs.declared.node.BinaryOp.TheVariants as B
use Rattle.syntax.specs.declared.node.NodeKind.{NodeKind}
use Rattle.syntax.specs.declared.node.NodeKind.TheVariants as N
use Rattle.syntax.specs.Parsing.{Reads, NoTree}
use Rattle.syntax.specs.Trees.{Tree, node, Forest, bare, grown}

-- a tree with no part
abbrev pub leaf : NodeKind → ℕ → Tree
leaf k p = node k p bare

-- with one part
abbrev pub one : NodeKind → ℕ → Tree → Tree
one k p a = node k p (grown bare a)

-- with two parts
abbrev pub two : NodeKind → ℕ → Tree → Tree → Tree
two k p a b = node k p (grown (grown bare a) b)

-- with three parts
abbrev pub three : NodeKind → ℕ → Tree → Tree → Tree → Tree
three k p a b c = node k p (grown (grown (grown bare a) b) c)

-- the tree of a recipe of one method with one statement, the method at m and its block at b
abbrev pub tree : ℕ → ℕ → Tree → Forest
tree m b statement = grown bare (one N.Method m (one N.Block b statement))

-- the text is a recipe with these trees
abbrev pub Means : List ℕ → Forest → Type 0
Means text f = (ts : List Token) × Accepted text ts × Reads ts f

-- the text of a recipe that stores 1 with so many brackets around it: with n of them the number stands at 30 + n
abbrev pub bracketed : ℕ → List ℕ
bracketed n = codes "program P { void main() { x = " ++ (replicate n 40 ++ (49 ∷ (replicate n 41 ++ codes "; } }")))

pub record Examples : Type 0 where
  -- it stores the sum of -a and b
  pub minus : Means (codes "program P { void main() { x = -a + b; } }") (tree 17 24 (two N.Assign 28 (leaf N.Name 26) (two (N.Binary B.Add) 33 (one N.Negate 30 (leaf N.Name 31)) (leaf N.Name 35))))
  -- the inner if takes the else
  pub nearest : Means (codes "program P { void main() { if (a == b) if (c == d) ; else ; } }") (tree 17 24 (two N.If 26 (two (N.Relation Q.Equal) 32 (leaf N.Name 30) (leaf N.Name 35)) (three N.If 38 (two (N.Relation Q.Equal) 44 (leaf N.Name 42) (leaf N.Name 47)) (leaf N.Empty 50) (leaf N.Empty 57))))
  -- 62 brackets around a number are accepted
  pub deepest : Means (bracketed 62) (tree 17 24 (two N.Assign 28 (leaf N.Name 26) (leaf (N.Number 1) 92)))
  -- 63 are refused by 6 at the number, however large the table is
  pub deeper : (room : ℕ) → NoTree (bracketed 63) room 6 93
