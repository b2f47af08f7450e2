use Rattle.std.proofs.Common.{◌≡◌, List, length, ℤ}
use Rattle.mjrack.specs.Report.{dead_of, sum_of, ReadSofar}
use Rattle.mjrack.proofs.report.read_back.Given as goal

abbrev pub invariant-loop-value : goal.invariant-loop-value
invariant-loop-value g l = (zs : List ℤ) × ReadSofar (g.S.Source.waiting l.fn.source) zs (g.S.Source.waiting l.source) × (l.sum ≡ sum_of zs) × (l.dead ≡ dead_of zs)

abbrev pub decreases-loop-value : goal.decreases-loop-value
decreases-loop-value g l = length (g.S.Source.waiting l.source)
