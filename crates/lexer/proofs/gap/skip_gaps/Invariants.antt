use Rattle.std.proofs.Common.{◌-◌, [], length}
use Rattle.lexer.specs.Tokens.{Cut}
use Rattle.lexer.proofs.gap.skip_gaps.Given as goal

abbrev pub invariant-loop-n : goal.invariant-loop-n
invariant-loop-n l = Cut l.text l.at l.place []

abbrev pub decreases-loop-n : goal.decreases-loop-n
decreases-loop-n l = length l.text - l.place
