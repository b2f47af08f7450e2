-- What waits in a rack: its first byte, and what is behind a line.
use Rattle.std.proofs.Common.{◌≡◌, ℕ, zero, suc, ◌/◌, ◌≤◌, Bool, true, false, cond, List, [], ◌∷◌, ◌++◌, length, drop, codes, decimal, nat_le, Some, None, Option, unwrap_or, slice_get, slice_index, refl, sym, arith, leb-true, lit≤}
use Rattle.std.proofs.lemmas.Fmt.{length-decimal-le}
use Rattle.std.proofs.lemmas.Option.{same_Some}
use Rattle.source.specs.Racks.{told, rack_text}
use Rattle.source.specs.Waiting.{first}

short : (live : Bool) (r : ℕ) → nat_le r 9999 ≡ live → length (cond live (decimal (r / 10)) (codes "-1")) ≤ 3
short true r e = let bound = leb-true r 9999 e in length-decimal-le 3 (r / 10) (omega arith) (omega arith) (omega arith)
short false r e = lit≤ tt

-- what a reading is told as is short
pub told_short : (r : ℕ) → length (told r) ≤ 3
told_short r = short (nat_le r 9999) r refl

-- in a line stands at a place a byte of its text, or behind that the line feed
line_first : (text after : List ℕ) (t : ℕ) → t ≤ length text → first (drop t ((text ++ codes "\n") ++ after)) ≡ Some (unwrap_or (slice_get text t) 10)
line_first [] after zero h = refl
line_first [] after (suc t) h = absurd (omega arith)
line_first (b ∷ text) after zero h = refl
line_first (b ∷ text) after (suc t) h = line_first text after t (omega arith)

-- behind the line feed stands what is behind the line
pub line_over : (text after : List ℕ) (t : ℕ) → t ≤ length text → slice_get text t ≡ None → drop 1 (drop t ((text ++ codes "\n") ++ after)) ≡ after
line_over [] after zero h e = refl
line_over [] after (suc t) h e = absurd (omega arith)
line_over (b ∷ text) after zero h e = absurd (grind arith)
line_over (b ∷ text) after (suc t) h e = line_over text after t (omega arith) e

-- the first byte that waits, where a reading is the first: a byte of what it is told as, or the line feed
pub rack_first : (readings : List ℕ) (r t : ℕ) (byte : Option ℕ) → slice_get readings 0 ≡ Some r → t ≤ length (told (slice_index readings 0)) → byte ≡ slice_get (told r) t → Some (unwrap_or byte 10) ≡ first (drop t (rack_text readings))
rack_first [] r t byte e h b = absurd (grind arith)
rack_first (r' ∷ rest) r t byte e h b = rw (b, ← same_Some r' r e) (sym (line_first (told r') (rack_text rest) t h))
