use Rattle.std.proofs.Common.{◌∙◌, sym, arith}
use Rattle.syntax.proofs.Terminals.{found, missed}
use Rattle.syntax.proofs.Taking.{nothing_left, other_terminal, stands_deep, comes, not_refused, was_refused, was_token, nothing_taken}
use Rattle.syntax.proofs.parser.Parser.take.Goals as goal

pub returns-in_default-clause-taken : goal.returns-in_default-clause-taken
returns-in_default-clause-taken c = λ ts coming. nothing_left ts c.in_default.is coming

pub returns-then-ne-clause-taken : goal.returns-then-ne-clause-taken
returns-then-ne-clause-taken c = λ ts coming. other_terminal ts c.in-Some.is (λ x. missed c.ne.ensures c.if-ne.true (c.of.ensures ∙ x)) coming

pub returns-then-depth-gt-MAX_DEPTH-clause-taken : goal.returns-then-depth-gt-MAX_DEPTH-clause-taken
returns-then-depth-gt-MAX_DEPTH-clause-taken c = λ ts coming. stands_deep ts c.in-Some.is (sym c.of.ensures ∙ found c.ne.ensures c.if-ne.false) c.if-depth-gt-MAX_DEPTH.true coming

pub returns-in_err-self-clause-taken : goal.returns-in_err-self-clause-taken
returns-in_err-self-clause-taken c =
    let refused = was_refused _ _ c.transpose.result c.in_err-self.ensures.cases in
    nothing_taken _ _ _ c.from_residual.result c.from_residual.ensures.0
    (λ ts coming. not_refused c.next.new.self c.next.result ts c.in-Some.is c.next.ensures.steps (sym c.transpose.ensures ∙ refused.1) coming)

pub returns-clause-taken : goal.returns-clause-taken
returns-clause-taken c = (
  omega arith,
  λ ts coming.
      let next = was_token _ _ c.transpose.result (λ x none. none) c.in_ok-self.ensures.cases in
      let r = comes c.next.result ts c.in-Some.is c.next.ensures.steps (sym c.transpose.ensures ∙ next) c.saturating_sub-self.ensures coming in
      (r.0, r.1, sym c.of.ensures ∙ found c.ne.ensures c.if-ne.false, r.2),
)
