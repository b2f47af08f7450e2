use Rattle.std.proofs.Common.{◌≡◌, List, length}
use Rattle.lexer.specs.declared.token.Token.{Token}
use Rattle.lexer.proofs.Streams.{Came}
use Rattle.lexer.proofs.scan.Given as goal

abbrev pub invariant-loop-token : goal.invariant-loop-token
invariant-loop-token l = (ts : List Token) × Came l.text l.token-iterator ts × (length ts ≡ l.count)
