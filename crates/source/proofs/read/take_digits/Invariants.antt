use Rattle.std.proofs.Common.{length}
use Rattle.source.proofs.Steps.{Taken}
use Rattle.source.proofs.read.take_digits.Given as goal

abbrev pub invariant-loop-value : goal.invariant-loop-value
invariant-loop-value g l = let w = g.S.Source.waiting in Taken (w l.fn.source) (w l.source) l.amount

abbrev pub decreases-loop-value : goal.decreases-loop-value
decreases-loop-value g l = length (g.S.Source.waiting l.source)
