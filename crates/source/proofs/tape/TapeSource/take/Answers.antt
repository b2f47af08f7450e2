use Rattle.std.proofs.Common.{suc, arith}
use Rattle.source.proofs.tape.TapeSource.take.Goals as goal

pub invariant_of-self : goal.invariant_of-self
invariant_of-self c = let tape = c.args.self.now in record { bytes = λ i. grind (arith, tape.bytes i, tape.bytes (suc i)) }
