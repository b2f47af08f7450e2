-- Runs of bytes: of a word, of a number, of a comment's line; the value of a number.
use Rattle.std.specs.Prelude.{ℕ, ◌+◌, ◌-◌, ◌*◌, Bool, not, ◌||◌, List, fold, ◌==◌}
use Rattle.lexer.specs.Classes.{letter, digit}

-- a letter, a digit or an underscore
abbrev pub word_byte : ℕ → Bool
word_byte b = letter b || digit b || b == 95

-- any byte but the line feed
abbrev pub line_byte : ℕ → Bool
line_byte b = not (b == 10)

-- the value of a list of digits, the highest first
abbrev pub decimal : List ℕ → ℕ
decimal digits = fold (λ value b. value * 10 + (b - 48)) 0 digits
