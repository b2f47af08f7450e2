-- Quotients and remainders in a word of 32 bits. Assumes nothing.
use Rattle.std.specs.Prelude.{◌≡◌, ℕ, zero, suc, ◌+◌, ◌/◌, ◌%◌, ◌^◌, ◌<◌, ◌≤◌, Bool, true, false, cond, ℤ, pos, negsuc, neg_ℤ, Some, None, FitsSigned, ◌==◌, int_div, int_rem}
use Rattle.std.proofs.Common.{sym, ap, mod-eq_of_lt, div-le_self, arith, lt→ltb, of_z, to_z}
use Rattle.std.specs.Int.Signed.{mag, mag_rem}
use Rattle.std.specs.Int.{int_wrap, w32}
use Rattle.std.proofs.lemmas.Int.{int_wrap_fits}
use Rattle.std.proofs.lemmas.Bool.Decides.{nat_tests}
use Rattle.arith.specs.Words.{WordOrNone, is_zero}

-- an answer that is a word where there is one
pub word_or_none : (b : Bool) (z : ℤ) → FitsSigned w32 z → WordOrNone (cond b None (Some z))
word_or_none true z f = tt
word_or_none false z f = lt→ltb (mag z) (2 ^ 31) f.sfits

-- zero is the word whose bits are all zero
pub zero_bits : (b : ℤ) → FitsSigned w32 b → (of_z w32 b == 0) ≡ is_zero b
zero_bits (pos n) f = grind (arith, nat_tests)
zero_bits (negsuc n) f = grind (arith, nat_tests)

-- what has 32 bits is wrapped by taking those bits
small_wrapped : (z : ℤ) → mag z < 2 ^ 32 → to_z w32 (of_z w32 z) ≡ int_wrap w32 z
unfolding int_wrap
small_wrapped (pos n) h = ap (to_z w32) (sym (mod-eq_of_lt h))
small_wrapped (negsuc n) h = let e : n % 2 ^ 32 ≡ n = mod-eq_of_lt h in ap (to_z w32) (omega (arith, e))

neg_mag : (n m : ℕ) → n ≤ m → mag (neg_ℤ (pos n)) ≤ m
neg_mag zero m h = omega arith
neg_mag (suc n) m h = omega arith

quot_mag : (a b : ℤ) → mag (int_div a b) ≤ mag a + 1
quot_mag (pos a) (pos b) = omega (arith, div-le_self a b)
quot_mag (pos a) (negsuc b) = neg_mag (a / suc b) (a + 1) (omega (arith, div-le_self a (suc b)))
quot_mag (negsuc a) (pos b) = neg_mag (suc a / b) (a + 1) (omega (arith, div-le_self (suc a) b))
quot_mag (negsuc a) (negsuc b) = omega (arith, div-le_self (suc a) (suc b))

-- a quotient of words has at most 32 bits
pub quotient_wrapped : (a b : ℤ) → FitsSigned w32 a → to_z w32 (of_z w32 (int_div a b)) ≡ int_wrap w32 (int_div a b)
quotient_wrapped a b f = small_wrapped (int_div a b) (omega (arith, quot_mag a b, f.sfits))

-- a remainder of words is a word
pub remainder_wrapped : (a b : ℤ) → FitsSigned w32 a → int_rem a b ≡ int_wrap w32 (int_rem a b)
remainder_wrapped a b f = sym (int_wrap_fits w32 (int_rem a b) (record { sfits = omega (arith, mag_rem a b, f.sfits) }))
