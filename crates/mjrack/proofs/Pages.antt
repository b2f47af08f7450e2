-- A word fits a page of eleven bytes.
use Rattle.std.proofs.Common.{◌≡◌, ℕ, ◌-◌, ◌≤◌, List, [], ◌++◌, length, replicate, ℤ, pos, negsuc, SFits, w32, Ok, Err, Result, ap, ◌∙◌, arith}
use Rattle.std.specs.Fmt.{signed_decimal}
use Rattle.std.proofs.lemmas.Fmt.{length_signed_le}
use Rattle.slicevec.specs.Held.{held, room}
use Rattle.slicevec.specs.declared.Full.{Full}
use Rattle.slicevec.specs.declared.SliceVec.{SliceVec}
use Rattle.arith.specs.Printed.{Printed, padded}

-- a minus and ten digits at most
pub word_short : (z : ℤ) → SFits w32 z → length (signed_decimal z) ≤ 11
word_short (pos n) f = length_signed_le 10 (pos n) (grind (arith, f.sfits)) (grind (arith, f.sfits))
word_short (negsuc n) f = length_signed_le 10 (negsuc n) (grind (arith, f.sfits)) (grind (arith, f.sfits))

-- no blanks stand in front at a width of 0
bare : (text : List ℕ) → padded 0 text ≡ text
bare text = let none : 0 - length text ≡ 0 = omega arith in ap (λ n. replicate n 32 ++ text) none

-- what fits an empty page is printed there
pub word_printed : (z : ℤ) (before after : SliceVec ℕ) (r : Result (Unit {0}) Full) → length (signed_decimal z) ≤ 11 → held before ≡ [] → room before ≡ 11 → Printed (padded 0 (signed_decimal z)) before after r → held after ≡ signed_decimal z
word_printed z before after (Ok _) short none big p = p.page ∙ ap (λ l. l ++ padded 0 (signed_decimal z)) none ∙ bare (signed_decimal z)
word_printed z before after (Err _) short none big p = absurd (omega (arith, p.refused, short, ap length (bare (signed_decimal z)), ap length none, big))
