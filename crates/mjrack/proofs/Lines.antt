-- A line in front of what is left of a text, and what makes it a reading.
use Rattle.std.proofs.Common.{◌≡◌, ℕ, ◌+◌, ◌-◌, ◌<◌, ◌≤◌, min, true, false, eqb, List, [], ◌∷◌, ◌++◌, length, get_or, take, drop, Some, None, Option, Bor, MatchOption, unwrap_or, sym, ap, ◌∙◌, subst, ⊎_elim, arith}
use Rattle.std.specs.Cmp.Lexicographic.{pointwise, same_text, other_text}
use Rattle.std.specs.List.{IsFirstMatchOrLen, prefix_len}
use Rattle.std.proofs.lemmas.Bool.Decides.{nat_tests}
use Rattle.std.proofs.lemmas.List.{drop_all, drop_more, get_or-drop, get_or_append_left, get_or_past, length-drop, length-take-le, take-append-drop, take-append-le}
use Rattle.std.proofs.Math.Seq.{take-append_seam}
use Rattle.std.proofs.lemmas.List.Folds.{prefix_len-append}
use Rattle.std.proofs.lemmas.List.Sums.{prefix_len-drop_all, prefix_len-drop_no, prefix_len-le-length}
use Rattle.std.proofs.str.Laws.{order}
use Rattle.lexer.specs.Classes.{digit}
use Rattle.lexer.specs.Runs.{decimal}
use Rattle.mjrack.specs.Lines.{digits, value, line_ends, Reading, reading, IsReading}

-- the first line feed of w stands at i, or w ends there and has none
pub record Feeds (w : List ℕ) (i : ℕ) : Type 0 where
  within : i ≤ length w
  before : (k : ℕ) → k < i → eqb (get_or w k 0) 10 ≡ false
  here : i < length w → get_or w i 0 ≡ 10

-- so it is with the place of the first byte that is a line feed
pub feeds : (w : List ℕ) (i : ℕ) → IsFirstMatchOrLen (λ b. eqb b 10) w i → Feeds w i
feeds w i first = record {
  within = ⊎_elim (λ h. let past = first.0 (length w) 10 (omega arith) h in let none = get_or_past w (length w) 10 (omega arith) in absurd (grind (arith, nat_tests))) (λ h. h) (order (length w) i);
  before = λ k h. first.0 k 0 (omega arith) h;
  here = λ h. grind (arith, nat_tests, first.1 h 0);
}

module _ (text w : List ℕ) (p i : ℕ) (inside : p ≤ length text) (left : w ≡ drop p text) (f : Feeds w i) where
  -- the line is the i bytes before the line feed
  line_len : length (take i w) ≡ i
  line_len = length-take-le i w f.within

  -- no digit stands behind the line
  behind : prefix_len digit (drop i w) ≡ 0
  behind = ⊎_elim (λ h. prefix_len-drop_no digit w i 0 h (ap digit (f.here h))) (λ h. prefix_len-drop_all digit w i h) (order i (length w))

  -- so all digits in front are the line's
  same : prefix_len digit w ≡ prefix_len digit (take i w)
  same =
      let cut = ap (prefix_len digit) (sym (take-append-drop i w)) ∙ prefix_len-append digit (take i w) (drop i w) in
      let none = behind in
      grind (arith, nat_tests)

  count : digits text p ≡ prefix_len digit (take i w)
  count = ap (prefix_len digit) (sym left) ∙ same

  -- and where they are all of the line, their value is the line's
  amount : prefix_len digit (take i w) ≡ i → value text p ≡ decimal (take i w)
  amount all = ap (λ n. decimal (take n (drop p text))) (count ∙ all) ∙ ap (λ l. decimal (take i l)) (sym left)

  -- the byte at a place of what is left
  byte : (k : ℕ) → get_or text (p + k) 0 ≡ get_or w k 0
  byte k = sym (get_or-drop p text k 0) ∙ ap (λ l. get_or l k 0) (sym left)

  -- what is left reaches to the end of the text
  long : p + length w ≡ length text
  long = omega (arith, ap length left, length-drop p text)

  -- a line that is a reading is one in its text
  pub one_reading : IsReading (take i w) → Reading text p (min (length text) (p + i + 1)) (decimal (take i w))
  one_reading is =
      let all : prefix_len digit (take i w) ≡ i = omega (arith, line_len, is.1) in
      let ends : line_ends text (p + i) ≡ true = ⊎_elim (λ h. let b = byte i in let feed = f.here h in grind (arith, nat_tests)) (λ h. let l = long in let end = f.within in grind (arith, nat_tests)) (order i (length w)) in
      let read = reading (omega (arith, count, all, is.0, line_len)) (omega (arith, amount all, is.2)) (subst (λ k. line_ends text (p + k) ≡ true) (sym (count ∙ all)) ends) in
      subst (Reading text p (min (length text) (p + i + 1))) (amount all) (subst (λ k. Reading text p (min (length text) (p + k + 1)) (value text p)) (count ∙ all) read)

  -- and a line that is none is none there
  pub none_reading : (IsReading (take i w) → ⊥) → (q v : ℕ) → Reading text p q v → ⊥
  none_reading never q v (reading some small ends) =
      let k = digits text p in
      let few : k ≤ i = omega (arith, count, prefix_len-le-length digit (take i w), line_len) in
      let all : k ≡ i = ⊎_elim (λ h. let b = byte k in let none = f.before k h in let l = long in let end = f.within in absurd (grind (arith, nat_tests))) (λ h. omega arith) (order k i) in
      never (omega (arith, line_len), sym count ∙ all ∙ sym line_len, omega (arith, amount (sym count ∙ all)))

-- a line with its line feed left out is what stands in front of the first one
pub stripped : (w behind : List ℕ) (line : Bor (List ℕ)) (i : ℕ) (o : Option (Bor (List ℕ))) → Feeds w i → w ≡ line.now ++ behind → length line.now ≡ min (i + 1) (length w) → 0 < length w → MatchOption o (pointwise eqb (drop (length line.now - 1) line.now) (10 ∷ []) ≡ false) (λ x. (pointwise eqb (drop (length line.now - 1) line.now) (10 ∷ []) ≡ true) × (x.now ≡ take (length line.now - 1) line.now) × (length x.now + 1 ≡ length line.now)) → (unwrap_or o line).now ≡ take i w
stripped w behind line i None f cut long some e = ⊎_elim (λ h.
    let here : get_or line.now i 0 ≡ 10 = sym (get_or_append_left line.now behind 0 i (omega arith)) ∙ ap (λ l. get_or l i 0) (sym cut) ∙ f.here h in
    let last : drop i line.now ≡ 10 ∷ [] = drop_more line.now i 0 (omega arith) ∙ ap (λ b. b ∷ drop (i + 1) line.now) here ∙ ap (λ l. 10 ∷ l) (drop_all (i + 1) line.now (omega arith)) in
    let place : i ≡ length line.now - 1 = omega arith in
    absurd (other_text _ _ (sym e) (subst (λ n. drop n line.now ≡ 10 ∷ []) place last)))
    (λ h.
    let whole : length line.now ≡ i = omega (arith, f.within) in
    sym (ap (take i) cut ∙ ap (λ n. take n (line.now ++ behind)) (sym whole) ∙ take-append_seam line.now behind))
    (order i (length w))
stripped w behind line i (Some x) f cut long some e = ⊎_elim (λ h.
    let place : length line.now - 1 ≡ i = omega arith in
    e.1 ∙ ap (λ n. take n line.now) place ∙ sym (take-append-le i line.now behind (omega arith)) ∙ ap (take i) (sym cut))
    (λ h.
    let n = length line.now - 1 in
    let feed : drop n line.now ≡ 10 ∷ [] = same_text _ _ (sym e.0) in
    let last : get_or w (n + 0) 0 ≡ 10 = ap (λ l. get_or l (n + 0) 0) cut ∙ get_or_append_left line.now behind 0 (n + 0) (omega arith) ∙ sym (get_or-drop n line.now 0 0) ∙ ap (λ l. get_or l 0 0) feed in
    let none = f.before (n + 0) (omega (arith, f.within)) in
    absurd (grind (arith, nat_tests)))
    (order i (length w))
