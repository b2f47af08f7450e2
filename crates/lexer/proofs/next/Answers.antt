use Rattle.std.proofs.Common.{subst, MatchResult, rules}
use Rattle.std.proofs.lemmas.List.{take_rest}
use Rattle.lexer.specs.Refusals.{number_of}
use Rattle.lexer.specs.Scan.{then_end}
use Rattle.lexer.specs.Tokens.{Lexeme, Bad}
use Rattle.lexer.proofs.Scans.{stepped}
use Rattle.lexer.proofs.next.Goals as goal

pub returns-then-place-text : goal.returns-then-place-text
returns-then-place-text c = then_end c.skip_gaps-place.ensures.skipped c.if-place-text.true

pub returns : goal.returns
returns c =
    let here = subst (λ s. MatchResult c.token_at_front.result (λ f. Lexeme s f.kind f.len) (λ e. Bad s (number_of e))) (take_rest c.args.text.now c.skip_gaps-place.result) c.token_at_front.ensures in
    stepped c.args.text.now c.args.at c.skip_gaps-place.result c.token_at_front.result c.map.result c.map_err.result c.skip_gaps-place.ensures.skipped here (search rules) (search rules)
