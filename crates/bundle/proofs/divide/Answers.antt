use Rattle.std.proofs.Common.{◌≡◌, ℕ, ◌<◌, ◌≤◌, true, false, List, length, take, drop, Some, None, sym, ap, ◌∙◌, subst, ⊎_elim, arith, rules}
use Rattle.std.proofs.lemmas.Iterator.{first_from_Range}
use Rattle.std.proofs.lemmas.List.{drop_min, get_or_past, length-take-le, take_rest}
use Rattle.std.proofs.lemmas.Bool.Decides.{nat_tests}
use Rattle.std.proofs.str.Laws.{order}
use Rattle.bundle.specs.Marks.{mark_at, Divided, at_mark, no_mark}
use Rattle.bundle.proofs.divide.Goals as goal
use Rattle.bundle.proofs.divide.Goals.{In-Some}

-- no mark stands past the end
past_end : (bytes : List ℕ) (p : ℕ) → length bytes ≤ p → mark_at bytes p ≡ false
past_end bytes p h = let zero = get_or_past bytes p 0 h in grind (arith, nat_tests)

-- what is found is the first mark
first : (c : In-Some) → (c.in-Some.at < length c.args.bytes.now) × (mark_at c.args.bytes.now c.in-Some.at ≡ true) × ((q : ℕ) → q < c.in-Some.at → mark_at c.args.bytes.now q ≡ false)
first c =
    let bytes = c.args.bytes.now in
    let found = first_from_Range _ _ _ (Some c.in-Some.at) (λ p. mark_at bytes p ≡ true) (λ p. mark_at bytes p ≡ false) c.in-Some.ensures.ran (λ p q k. search rules) (λ p q k. search rules) in
    (found.1, found.2, λ q. found.3 q (omega arith))

pub slice_bounds-result-end-in-Some : goal.slice_bounds-result-end-in-Some
slice_bounds-result-end-in-Some c = sym (length-take-le c.in-Some.at c.args.bytes.now (omega (arith, (first c).0)))

pub returns-in-Some : goal.returns-in-Some
returns-in-Some c =
    let bytes = c.args.bytes.now in
    let mark = first (goal.at.returns-in-Some c).In-Some in
    let behind = take_rest bytes c.min.result ∙ ap (λ n. drop n bytes) c.min.ensures ∙ drop_min _ bytes in
    subst (Divided bytes (take c.in-Some.at bytes)) (sym behind) (at_mark mark.1 mark.2)

pub returns-in-None : goal.returns-in-None
returns-in-None c =
    let bytes = c.args.bytes.now in
    let none = first_from_Range _ _ _ None (λ p. mark_at bytes p ≡ true) (λ p. mark_at bytes p ≡ false) c.in-None.ensures.ran (λ p q k. search rules) (λ p q k. search rules) in
    no_mark (λ p. ⊎_elim (λ h. none p (omega arith) h) (past_end bytes p) (order p (length bytes)))
