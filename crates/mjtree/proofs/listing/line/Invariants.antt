use Rattle.std.proofs.Common.{length}
use Rattle.std.specs.String.{string_bytes}
use Rattle.mjtree.specs.Links.{Told}
use Rattle.mjtree.specs.Listing.{Row}
use Rattle.mjtree.proofs.Printing.{Partly, left}
use Rattle.mjtree.proofs.listing.line.Given as goal

-- what is printed, and that the link leads to the other parts
abbrev pub invariant-loop-next : goal.invariant-loop-next
invariant-loop-next l = (r : Row) → Told l.nodes l.fn.index r → Partly l.nodes r (string_bytes l.line) l.next

abbrev pub decreases-loop-next : goal.decreases-loop-next
decreases-loop-next l = left (length l.nodes) l.next
