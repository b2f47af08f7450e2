-- An int is read, from what each step took.
use Rattle.std.proofs.Common.{◌≡◌, ℕ, ◌<◌, ◌^◌, zero, suc, Bool, true, false, List, length, drop, ℤ, Some, None, Err, Option, MatchOption, refl, ap, arith}
use Rattle.std.specs.Option.{ok_or, SomeIff}
use Rattle.std.specs.List.{prefix_len}
use Rattle.lexer.specs.Classes.{digit}
use Rattle.lexer.specs.Runs.{decimal}
use Rattle.source.specs.Reading.{after_blanks, minus_next, after_minus, digits_of, after_digits, number, Fits, IntRead, no_digit, no_word, a_word}
use Rattle.source.specs.declared.read.ReadFault.TheVariants.{NoNumber}

-- an amount that a `u32` does not hold is no word's
too_large : (minus : Bool) (amount : ℕ) → (amount < 2 ^ 32 → ⊥) → Fits minus amount → ⊥
too_large true amount large fits = large (omega arith)
too_large false amount large fits = large (omega arith)

module _ (w : List ℕ) (some : 0 < length (after_blanks w)) where
  abbrev minus : Bool
  minus = minus_next (after_blanks w)

  abbrev unsigned : List ℕ
  unsigned = after_minus (after_blanks w)

  abbrev total : ℕ
  total = decimal (digits_of unsigned)

  -- there are no digits, or too many
  no_amount : (n : ℕ) → prefix_len digit unsigned ≡ n → (0 < n → total < 2 ^ 32 → ⊥) → IntRead w (Err NoNumber) (after_digits unsigned)
  no_amount zero e none = rw (ap (λ n. drop n unsigned) e) (no_digit some e)
  no_amount (suc n) e none = no_word (omega arith) (too_large minus total (none (omega arith)))

  -- the word of the digits, or that there is none
  pub word_read : (amount : Option ℕ) (found : Option ℤ) → SomeIff amount ((0 < prefix_len digit unsigned) × (total < 2 ^ 32)) total → MatchOption amount (found ≡ None) (λ n. SomeIff found (Fits minus n) (number minus n)) → IntRead w (ok_or found NoNumber) (after_digits unsigned)
  word_read None found none e = rw e (no_amount (prefix_len digit unsigned) refl (λ some small. none (some, small)))
  word_read (Some n) None told none = no_word told.0.0 (rw told.1 at none)
  word_read (Some n) (Some z) told fits = rw fits.1 (rw told.1 (a_word told.0.0 (rw told.1 at fits.0)))
