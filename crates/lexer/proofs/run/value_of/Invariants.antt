use Rattle.std.proofs.Common.{◌≡◌, ◌^◌, ◌<◌, take}
use Rattle.lexer.specs.Runs.{decimal}
use Rattle.lexer.proofs.run.value_of.Given as goal

abbrev pub invariant-loop-byte : goal.invariant-loop-byte
invariant-loop-byte l = (l.value ≡ decimal (take l.byte-index l.digits)) × (l.value < 2 ^ 32)
