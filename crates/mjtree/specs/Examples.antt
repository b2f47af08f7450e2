-- Worked examples: what is printed of some trees.
use Rattle.std.specs.Prelude.{◌≡◌, ◌++◌, false, codes}
use Rattle.syntax.specs.Trees.{node, bare, grown}
use Rattle.syntax.specs.declared.BinaryOp.TheVariants.{Add}
use Rattle.syntax.specs.declared.NodeKind.TheVariants as N
use Rattle.mjtree.specs.Listing.{lines, total}

pub record Examples : Type 0 where
  -- a method at 17 with a block at 24, in which a break stands at 26
  pub smallest : lines (grown bare (node N.Method 17 (grown bare (node N.Block 24 (grown bare (node (N.Break false) 26 bare)))))) ++ total 3 ≡ codes "0 26 break\n1 24 block 0\n2 17 method 1\nnodes 3\n"
  -- a sum at 3 of a minus at 0, whose part is the name at 1, and of the name at 5: node 0 is the part of node 1, and nodes 1 and 2
  -- are those of node 3
  pub sum : lines (grown bare (node (N.Binary Add) 3 (grown (grown bare (node N.Negate 0 (grown bare (node N.Name 1 bare)))) (node N.Name 5 bare)))) ≡ codes "0 1 name\n1 0 neg 0\n2 5 name\n3 3 + 1 2\n"
