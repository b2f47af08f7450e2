-- What std prints of a word is its digits, each the remainder by ten of what is left. Assumes nothing.
use Rattle.std.proofs.Common.{◌≡◌, ℕ, zero, suc, ◌+◌, ◌/◌, ◌%◌, ◌^◌, ◌<◌, cond, true, false, List, [], ◌∷◌, ◌++◌, ℤ, pos, negsuc, nat_lt, nat_abs, decimal, ap, refl, arith}
use Rattle.std.specs.Fmt.{signed_decimal}
use Rattle.std.proofs.lemmas.Bool.Decides.{nat_tests}
use Rattle.std.proofs.lemmas.Fmt.{AppendsLastDigit, decimal_from_appends_wide, length-decimal-le}

-- the digits of n, which has at most k of them: those of n / 10 if n is not one digit, and then n % 10
unfoldable pub digits : ℕ → ℕ → List ℕ
digits zero n = []
digits (suc k) n = cond (nat_lt n 10) [] (digits k (n / 10)) ++ (48 + n % 10) ∷ []

-- a word has at most ten digits, with a minus before them if it is negative
unfoldable pub by_digits : ℤ → List ℕ
by_digits (pos n) = digits 10 n
by_digits (negsuc n) = 45 ∷ digits 10 (suc n)

appends : AppendsLastDigit digits
unfolding digits
appends =
    record {
      one = λ k n h. let small : nat_lt n 10 ≡ true = grind (arith, nat_tests) in let same : n % 10 ≡ n = omega arith in rw (small, same) refl;
      more = λ k n h. let large : nat_lt n 10 ≡ false = grind (arith, nat_tests) in rw large refl;
    }

natural : (n : ℕ) → n < 10 ^ 10 → digits 10 n ≡ decimal n
natural n h = decimal_from_appends_wide digits appends 10 n (omega arith) (length-decimal-le 10 n (omega arith) (omega arith) (omega arith))

-- of every word, and of every other whole number of ten digits
pub printed_by_digits : (z : ℤ) → nat_abs z < 10 ^ 10 → by_digits z ≡ signed_decimal z
unfolding by_digits
printed_by_digits (pos n) h = natural n h
printed_by_digits (negsuc n) h = ap (λ ds. 45 ∷ ds) (natural (suc n) h)
