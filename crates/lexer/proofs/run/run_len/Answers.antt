use Rattle.std.proofs.Common.{◌∙◌, ap, rules}
use Rattle.std.specs.Slice.Iter.{iter_rest}
use Rattle.std.proofs.lemmas.Iterator.{YieldsList-from_slice}
use Rattle.std.proofs.lemmas.Iterator.Consumers.{count_from_yields_List}
use Rattle.std.proofs.lemmas.Iterator.Search.{YieldsList-from_take_while}
use Rattle.std.proofs.lemmas.List.Folds.{length-prefix_len}
use Rattle.lexer.proofs.run.run_len.Goals as goal

pub returns-clause-len : goal.returns-clause-len
returns-clause-len g c = λ p fits.
    let all = YieldsList-from_slice c.args.s.now (ap iter_rest c.take_while.ensures.source ∙ c.iter.ensures.rest) in
    count_from_yields_List c.take_while.result c.count.result c.count.ensures.ran (YieldsList-from_take_while _ p all c.take_while.ensures.closure c.take_while.ensures.done (λ x b q k. search (rules, fits)))
    ∙ length-prefix_len p c.args.s.now
