use Rattle.std.proofs.Common.{◌≡◌, ℕ, ◌+◌, ◌<◌, min, eqb, length, take, drop, vec_items, sym, ap, ◌∙◌, subst, arith, rules}
use Rattle.std.specs.Slice.Iter.{split_inclusive_rest}
use Rattle.std.proofs.Math.Seq.{drop-append_seam}
use Rattle.std.proofs.lemmas.List.{drop-drop, length-drop}
use Rattle.lexer.specs.Runs.{decimal}
use Rattle.std.proofs.lemmas.Fn.{always_returns_same}
use Rattle.mjrack.specs.Lines.{Sofar, begin, more, Refused, no_reading, Reading, IsReading}
use Rattle.mjrack.proofs.Lines.{Feeds, feeds, one_reading, none_reading, stripped}
use Rattle.mjrack.proofs.readings.readings.Goals as goal
use Rattle.mjrack.proofs.readings.readings.Goals.{After-unwrap_or}

-- where the line of this turn ends, and what it is without its line feed
turn : (c : After-unwrap_or) → (i : ℕ) × Feeds (split_inclusive_rest c.loop-line.line-iterator) i × (c.unwrap_or.result.now ≡ take i (split_inclusive_rest c.loop-line.line-iterator)) × (length c.in-Some.line.now ≡ min (i + 1) (length (split_inclusive_rest c.loop-line.line-iterator)))
turn c =
    let step = c.in-Some.ensures.steps in
    let rest = split_inclusive_rest c.loop-line.line-iterator in
    let f = feeds rest step.1.0 (step.1.2 (λ b. eqb b 10) (always_returns_same _ _ _ (λ a r q k. search rules))).1 in
    (step.1.0, f, ap (λ b. b.now) c.unwrap_or.ensures ∙ stripped rest (split_inclusive_rest c.next.new.self) c.in-Some.line step.1.0 c.strip_suffix.result f step.0 step.1.1 step.2 c.strip_suffix.ensures.cases, step.1.1)

pub loop-line-init : goal.loop-line-init
loop-line-init c = (0, omega arith, ap split_inclusive_rest c.into_iter-line-iterator.ensures.into_iter_gives ∙ c.split_inclusive-line-items.ensures.rest, subst (Sofar c.args.text.now 0) (sym c.new-found.ensures.items) begin)

pub returns-in_default : goal.returns-in_default
returns-in_default c =
    let text = c.args.text.now in
    let sofar = c.loop-line.invariant in
    let t = turn (goal.at.returns-in_default c).After-unwrap_or in
    let never = none_reading text _ sofar.0 t.0 sofar.1 sofar.2 t.1 (subst (λ l. IsReading l → ⊥) t.2 c.in_default.ensures) in
    let ahead : sofar.0 < length text = omega (arith, c.in-Some.ensures.steps.2, ap length sofar.2, length-drop sofar.0 text) in
    subst (λ n. Refused text (n + 1)) (sym (c.len.ensures ∙ c.loop-line.found.ok.0)) (no_reading sofar.3 ahead never)

pub loop-line-preserved : goal.loop-line-preserved
loop-line-preserved c =
    let text = c.args.text.now in
    let sofar = c.loop-line.invariant in
    let line = c.in-Some.line.now in
    let rest = split_inclusive_rest c.next.new.self in
    let t = turn (goal.at.loop-line-preserved c).After-unwrap_or in
    let read = c.in-Some-reading.ensures in
    let next = min (length text) (sofar.0 + t.0 + 1) in
    let place : sofar.0 + length line ≡ next = omega (arith, t.3, sofar.1, ap length sofar.2, length-drop sofar.0 text) in
    let left = sym (drop-append_seam line rest) ∙ ap (drop (length line)) (sym c.in-Some.ensures.steps.0 ∙ sofar.2) ∙ drop-drop (length line) sofar.0 text ∙ ap (λ n. drop n text) place in
    let one = subst (Reading text sofar.0 next) (ap decimal (sym t.2) ∙ sym read.1) (one_reading text _ sofar.0 t.0 sofar.1 sofar.2 t.1 (subst IsReading t.2 read.0)) in
    (next, omega arith, left, subst (Sofar text next) (sym c.in_ok-push.ensures.items) (more sofar.3 one))

pub returns : goal.returns
returns c =
    let text = c.args.text.now in
    let sofar = c.loop-line.invariant in
    let end : sofar.0 ≡ length text = omega (arith, c.in-None.ensures.steps.0, sofar.1, ap length sofar.2, length-drop sofar.0 text) in
    subst (λ n. Sofar text n (vec_items c.loop-line.found)) end sofar.3
