-- The numbers of the refusals.
use Rattle.std.specs.Prelude.{ℕ}
use Rattle.lexer.specs.Refusals.{number_of as lexical}
use Rattle.syntax.specs.declared.refusal.Reason.{Reason}
use Rattle.syntax.specs.declared.refusal.Reason.TheVariants.{Lexical, Grammar, Depth, TableFull}

-- 2 to 4 as the lexer has them, 5 where the grammar cannot go on, 6 for a token that stands too deep, 7 for a full table
abbrev pub number_of : Reason → ℕ
number_of (Lexical r) = lexical r
number_of Grammar = 5
number_of Depth = 6
number_of TableFull = 7
