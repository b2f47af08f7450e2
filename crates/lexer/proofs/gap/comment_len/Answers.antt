use Rattle.std.proofs.Common.{rules}
use Rattle.lexer.specs.Runs.{line_byte}
use Rattle.lexer.proofs.Gaps.{comment_gap}
use Rattle.lexer.proofs.gap.comment_len.Goals as goal

pub returns-in-47 : goal.returns-in-47
returns-in-47 c = comment_gap c.args.s.now c.run_len-line.result c.min.result (search rules) (search rules) (search rules) (c.run_len-line.ensures.len line_byte (λ byte r told. search rules)) (search rules)
