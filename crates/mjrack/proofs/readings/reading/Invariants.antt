use Rattle.std.proofs.Common.{◌≡◌, ◌+◌, ◌^◌, min, take, drop}
use Rattle.std.specs.List.{prefix_len}
use Rattle.lexer.specs.Classes.{digit}
use Rattle.lexer.specs.Runs.{decimal}
use Rattle.mjrack.proofs.readings.reading.Given as goal

abbrev pub invariant-loop-byte : goal.invariant-loop-byte
invariant-loop-byte l = (l.value ≡ min (decimal (take l.byte-index l.line)) (2 ^ 16)) × (l.byte-index + prefix_len digit (drop l.byte-index l.line) ≡ prefix_len digit l.line)
