use Rattle.std.proofs.Common.{◌∙◌}
use Rattle.syntax.proofs.Lays.{laid_nowhere, laid_there}
use Rattle.syntax.proofs.table.lay.Goals as goal

pub returns-then-len-made-clause-laid : goal.returns-then-len-made-clause-laid
returns-then-len-made-clause-laid c = laid_nowhere _ _ _ _ (λ e. c.if-len-made.true (c.len.ensures ∙ e))

pub returns-clause-laid : goal.returns-clause-laid
returns-clause-laid c = laid_there c.args.table.now c.link-first.new.table c.push.new.self _ _ _ _ _ c.push.result c.first_use.ensures c.link-first.ensures.kept.size c.push.ensures.kept.size c.link-first.ensures.linked c.push.ensures.refused c.push.ensures.pushed
