use Rattle.std.proofs.Common.{rules}
use lib.Seq.{take-set-lt}
use Rattle.slicevec.proofs.SliceVec.set.Goals as goal

pub returns-then-found-clause-changed : goal.returns-then-found-clause-changed
returns-then-found-clause-changed g c = search (rules, take-set-lt)
