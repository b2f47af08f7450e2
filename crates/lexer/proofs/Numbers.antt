-- The value of a list of digits, one digit on.
use Rattle.std.proofs.Common.{◌≡◌, ℕ, ◌+◌, ◌-◌, ◌*◌, ◌<◌, ◌≤◌, List, [], ◌∷◌, length, get_or, take, drop, fold, sym, ap, ◌∙◌, arith, take-append-drop}
use Rattle.std.proofs.lemmas.List.Sums.{fold_more, fold-append}
use Rattle.lexer.specs.Runs.{decimal}

pub decimal_more : (digits : List ℕ) (i : ℕ) → i < length digits → decimal (take (i + 1) digits) ≡ decimal (take i digits) * 10 + (get_or digits i 0 - 48)
decimal_more digits i h = fold_more (λ value b. value * 10 + (b - 48)) 0 digits i 0 h

grows : (value : ℕ) (digits : List ℕ) → value ≤ fold (λ v b. v * 10 + (b - 48)) value digits
grows value [] = omega arith
grows value (b ∷ digits) = let more = grows (value * 10 + (b - 48)) digits in omega arith

-- more digits make no number smaller
pub decimal_grows : (digits : List ℕ) (i : ℕ) → decimal (take i digits) ≤ decimal digits
decimal_grows digits i =
    let whole = ap decimal (sym (take-append-drop i digits)) ∙ fold-append (λ v b. v * 10 + (b - 48)) 0 (take i digits) (drop i digits) in
    let more = grows (decimal (take i digits)) (drop i digits) in
    omega arith
