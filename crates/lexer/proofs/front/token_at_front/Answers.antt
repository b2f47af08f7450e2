use Rattle.std.proofs.Common.{sym, ◌∙◌}
use Rattle.lexer.specs.Tokens.{a_comment}
use Rattle.lexer.proofs.Lexemes.{or_bad, other_bad}
use Rattle.lexer.proofs.front.token_at_front.Goals as goal

pub marked-requires : goal.marked-requires
marked-requires c b = c.requires.here _ (a_comment b)

pub returns-in-Sign : goal.returns-in-Sign
returns-in-Sign c = or_bad c.args.s.now c.requires.some c.requires.here (sym c.class_of.ensures ∙ c.in-Sign.is) c.marked.result c.ok_or.result c.ok_or.ensures.value c.marked.ensures

pub returns-in-Underscore : goal.returns-in-Underscore
returns-in-Underscore c = other_bad c.args.s.now c.requires.some c.requires.here c.class_of.result c.class_of.ensures c.in-Underscore.is
