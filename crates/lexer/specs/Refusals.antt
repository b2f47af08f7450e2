-- The numbers of the refusals, and how a refusal prints.
use Rattle.std.specs.Prelude.{ℕ, List, ◌++◌, codes, decimal}
use Rattle.lexer.specs.declared.refusal.Reason.{Reason}
use Rattle.lexer.specs.declared.refusal.Reason.TheVariants.{TextTooLong, NoToken, NumberTooLarge}

-- 2 a text too long, 3 a byte that begins no token, 4 a number too large
abbrev pub number_of : Reason → ℕ
number_of TextTooLong = 2
number_of NoToken = 3
number_of NumberTooLarge = 4

-- what a refusal of this number at this place prints
abbrev pub refused_text : ℕ → ℕ → List ℕ
refused_text number place = codes "refused " ++ (decimal number ++ (codes " at " ++ decimal place))
