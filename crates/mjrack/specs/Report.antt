-- What is printed of readings: what a rack tells of them, and what is read back from it.
use Rattle.std.specs.Prelude.{ℕ, Bool, List, [], ◌∷◌, ◌++◌, length, ℤ, pos, negsuc, ◌+ℤ◌, Ok, Err, codes, decimal, fold, count_by}
use Rattle.std.specs.Fmt.{signed_decimal}
use Rattle.std.specs.Int.{int_wrap, w32}
use Rattle.arith.specs.Words.{same}
use Rattle.source.specs.Racks.{rack_text}
use Rattle.source.specs.Reading.{IntRead}
use Rattle.source.specs.declared.read.ReadFault.{ReadFault}

-- ints read one after the other from the waiting bytes w, and what is left
pub data ReadSofar (w : List ℕ) : List ℤ → List ℕ → Type 0 where
  -- none is read yet
  untouched : ReadSofar w [] w
  -- one int more
  one_more : {rest left : List ℕ} {zs : List ℤ} {z : ℤ} → ReadSofar w zs rest → IntRead rest (Ok z) left → ReadSofar w (zs ++ z ∷ []) left

-- all ints read from the waiting bytes w until a read fails
pub data ReadBack (w : List ℕ) (zs : List ℤ) : Type 0 where
  -- the next read fails
  until_failure : {rest left : List ℕ} {fault : ReadFault} → ReadSofar w zs rest → IntRead rest (Err fault) left → ReadBack w zs

-- the sum of two words in Java: the exact sum wrapped around
abbrev pub java_sum : ℤ → ℤ → ℤ
java_sum a b = int_wrap w32 (a +ℤ b)

-- the sum of words, from 0 on
abbrev pub sum_of : List ℤ → ℤ
sum_of zs = fold java_sum (pos 0) zs

-- z is -1, which is told of a dead probe
abbrev pub is_dead : ℤ → Bool
is_dead z = same z (negsuc 0)

-- how many are -1
abbrev pub dead_of : List ℤ → ℕ
dead_of zs = count_by is_dead zs

-- the last line: how many readings, and the sum of the ints read back and how many of them are -1
abbrev pub last_line : ℕ → ℤ → ℕ → List ℕ
last_line many sum dead = codes "readings " ++ (decimal many ++ (codes ", sum " ++ (signed_decimal sum ++ (codes ", dead " ++ (decimal dead ++ codes "\n")))))

-- what is printed of readings
pub data Reported (readings : List ℕ) : List ℕ → Type 0 where
  -- the text of their rack, and the last line
  reported : {zs : List ℤ} → ReadBack (rack_text readings) zs → Reported readings (rack_text readings ++ last_line (length readings) (sum_of zs) (dead_of zs))
