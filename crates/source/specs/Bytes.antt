-- What waits in a rack are bytes: numbers below 256.
use Rattle.std.specs.Prelude.{◌≡◌, ℕ, ◌/◌, ◌<◌, Bool, true, false, cond, List, [], ◌∷◌, drop, codes, IsAscii, decimal, nat_le, slice_index, refl}
use Rattle.std.proofs.Common.{arith, leb-true, lit<}
use Rattle.std.proofs.lemmas.Fmt.{IsAscii-decimal}
use Rattle.std.proofs.lemmas.Str.{IsAscii-append, IsAscii-drop}
use Rattle.std.proofs.lemmas.Str.Ascii.{IsAscii-nil, IsAscii-cons}
use Rattle.source.specs.Racks.{told, line, rack_text}

dead : IsAscii (codes "-1")
dead = IsAscii-cons 45 (codes "1") (lit< tt) (IsAscii-cons 49 [] (lit< tt) IsAscii-nil)

feed : IsAscii (codes "\n")
feed = IsAscii-cons 10 [] (lit< tt) IsAscii-nil

told_ascii : (live : Bool) (reading : ℕ) → nat_le reading 9999 ≡ live → IsAscii (cond live (decimal (reading / 10)) (codes "-1"))
told_ascii true reading e = IsAscii-decimal (reading / 10) (omega (arith, leb-true reading 9999 e))
told_ascii false reading e = dead

line_ascii : (reading : ℕ) → IsAscii (line reading)
line_ascii reading = IsAscii-append (told reading) (codes "\n") (told_ascii (nat_le reading 9999) reading refl) feed

text_ascii : (readings : List ℕ) → IsAscii (rack_text readings)
text_ascii [] = IsAscii-nil
text_ascii (r ∷ rest) = IsAscii-append (line r) (rack_text rest) (line_ascii r) (text_ascii rest)

-- in a rack, whatever its readings are
pub rack_bytes : (readings : List ℕ) (taken i : ℕ) → slice_index (drop taken (rack_text readings)) i < 256
rack_bytes readings taken i = omega (arith, IsAscii-drop (rack_text readings) taken (text_ascii readings) i)
