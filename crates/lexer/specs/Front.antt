-- What a token at the front of some bytes promises.
use Rattle.std.specs.Prelude.{ℕ, List}
use Rattle.lexer.specs.Tokens.{Lexeme}
use Rattle.lexer.specs.declared.front.Front.{Front}

-- the bytes begin with this token
abbrev pub IsFront : List ℕ → Front → Type 0
IsFront s front = Lexeme s front.kind front.len
