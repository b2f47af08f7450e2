use Rattle.std.proofs.Common.{rules}
use Rattle.lexer.proofs.Lexemes.{escaped_here}
use Rattle.lexer.proofs.front.escaped.Goals as goal

pub returns-in-39 : goal.returns-in-39
returns-in-39 c = escaped_here c.args.s.now c.escape.result c.map.result (search rules) (search rules) (search rules) c.escape.ensures (search rules)
