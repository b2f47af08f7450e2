use Rattle.std.proofs.Common.{◌≡◌, ◌++◌, length, vec_items}
use Rattle.mjrack.proofs.report.told.Given as goal

abbrev pub invariant-loop-byte : goal.invariant-loop-byte
invariant-loop-byte g l = vec_items l.bytes ++ g.S.Source.waiting l.source ≡ g.S.Source.waiting l.fn.source

abbrev pub decreases-loop-byte : goal.decreases-loop-byte
decreases-loop-byte g l = length (g.S.Source.waiting l.source)
