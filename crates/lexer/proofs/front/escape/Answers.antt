use Rattle.lexer.specs.Tokens.{carriage_return, line_feed}
use Rattle.lexer.proofs.front.escape.Goals as goal

pub returns-in-r : goal.returns-in-r
returns-in-r c = rw c.in-r.is carriage_return

pub returns-in-n : goal.returns-in-n
returns-in-n c = rw c.in-n.is line_feed
