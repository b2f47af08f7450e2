use Rattle.std.proofs.Common.{◌∙◌, rules}
use Rattle.lexer.proofs.Gaps.{blank_gap, only_comment}
use Rattle.lexer.proofs.gap.gap_len.Goals as goal

pub returns-in-Blank : goal.returns-in-Blank
returns-in-Blank c = blank_gap c.args.s.now (search rules) c.in-Blank.ensures

pub returns-in_default-class_of : goal.returns-in_default-class_of
returns-in_default-class_of c = only_comment c.args.s.now c.comment_len.result (λ e. c.in_default-class_of.not-Blank (c.class_of.ensures ∙ e)) c.comment_len.ensures
