use Rattle.std.proofs.Common.{arith}
use Rattle.std.proofs.lemmas.Bool.Decides.{nat_tests}
use Rattle.lexer.proofs.run.is_word_byte.Goals as goal

pub returns-in-Letter : goal.returns-in-Letter
returns-in-Letter c = let class = c.class_of.ensures in grind (arith, nat_tests)
