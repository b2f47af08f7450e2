use Rattle.std.proofs.Common.{rules}
use Rattle.lexer.specs.Tokens.{a_character}
use Rattle.lexer.proofs.front.plain.Goals as goal

pub returns-in-39 : goal.returns-in-39
returns-in-39 c = a_character (search rules)
