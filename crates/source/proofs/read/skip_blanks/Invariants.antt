use Rattle.std.proofs.Common.{◌≡◌, length}
use Rattle.source.specs.Reading.{after_blanks}
use Rattle.source.proofs.read.skip_blanks.Given as goal

abbrev pub invariant-loop : goal.invariant-loop
invariant-loop g l = let w = g.S.Source.waiting in after_blanks (w l.source) ≡ after_blanks (w l.initial.source)

abbrev pub decreases-loop : goal.decreases-loop
decreases-loop g l = length (g.S.Source.waiting l.source)
