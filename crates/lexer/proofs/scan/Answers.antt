use Rattle.std.proofs.Common.{◌+◌, [], ◌∷◌, ◌++◌, refl, ap, ◌∙◌}
use Rattle.std.proofs.lemmas.List.{length_push}
use Rattle.std.proofs.lemmas.Result.{err_from_is_err_and}
use Rattle.lexer.specs.Scan.{too_long}
use Rattle.lexer.specs.Stream.{StandsAt}
use Rattle.lexer.proofs.Streams.{none_came, one_came, all_came, no_more_came}
use Rattle.lexer.proofs.Worked.{worked}
use Rattle.lexer.proofs.scan.Goals as goal

pub returns-then-text-gt-MAX_TEXT : goal.returns-then-text-gt-MAX_TEXT
returns-then-text-gt-MAX_TEXT c = record { scanned = too_long c.if-text-gt-MAX_TEXT.true; examples = worked }

pub loop-token-init : goal.loop-token-init
loop-token-init c =
    let start : StandsAt c.into_iter-token-iterator.result c.args.text.now 0 = rw c.into_iter-token-iterator.ensures.into_iter_gives c.new-token-items.ensures in
    ([], none_came c.args.text.now c.into_iter-token-iterator.result start, refl)

pub returns-in_err-token : goal.returns-in_err-token
returns-in_err-token c =
    let p = err_from_is_err_and c.from_residual.result c.from_residual.ensures.1 in
    let before = c.loop-token.invariant in
    let refused = no_more_came c.args.text.now c.loop-token.token-iterator c.next.new.self before.0 before.1 c.in-Some.token c.in_err-token.field-0.0 c.in_err-token.was c.if-text-gt-MAX_TEXT.false c.in-Some.ensures.steps in
    record { scanned = rw (p.1, p.2) refused; examples = worked }

pub loop-token-preserved : goal.loop-token-preserved
loop-token-preserved c =
    let before = c.loop-token.invariant in
    let token = c.in_ok-token.field-0 in (
      before.0 ++ token ∷ [],
      one_came c.args.text.now c.loop-token.token-iterator c.next.new.self before.0 before.1 c.in-Some.token token c.in_ok-token.was c.in-Some.ensures.steps,
      length_push before.0 token ∙ ap (λ n. n + 1) before.2,
    )

pub returns : goal.returns
returns c =
    let before = c.loop-token.invariant in
    let accepted = all_came c.args.text.now c.loop-token.token-iterator c.next.new.self before.0 before.1 c.if-text-gt-MAX_TEXT.false c.in-None.ensures.steps in
    record { scanned = (before.0, accepted, before.2); examples = worked }
