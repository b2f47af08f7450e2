use Rattle.std.proofs.Common.{◌≡◌}
use Rattle.std.specs.String.{string_bytes}
use Rattle.syntax.specs.Table.{loose}
use Rattle.syntax.specs.Trees.{Forest}
use Rattle.mjtree.proofs.Printing.{Lined}
use Rattle.mjtree.proofs.listing.lines.Given as goal

-- the lines of the nodes before the index are printed
abbrev pub invariant-loop-index : goal.invariant-loop-index
invariant-loop-index l = (f : Forest) → l.nodes ≡ loose 0 f → Lined l.nodes f l.index (string_bytes l.lines)
