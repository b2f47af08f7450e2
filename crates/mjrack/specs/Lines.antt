-- Lines of readings: unsigned decimal numbers up to 65,535.
use Rattle.std.specs.Prelude.{◌≡◌, ℕ, ◌+◌, ◌<◌, ◌≤◌, min, Bool, true, ◌||◌, List, [], ◌∷◌, ◌++◌, length, take, drop, ◌==◌, slice_index}
use Rattle.std.specs.List.{prefix_len}
use Rattle.lexer.specs.Classes.{digit}
use Rattle.lexer.specs.Runs.{decimal}

-- how many digits stand from place p on
abbrev pub digits : List ℕ → ℕ → ℕ
digits text p = prefix_len digit (drop p text)

-- their value
abbrev pub value : List ℕ → ℕ → ℕ
value text p = decimal (take (digits text p) (drop p text))

-- a line ends at p: at a line feed or at the end of the text; `bundle` says so too, and neither crate needs the other
abbrev pub line_ends : List ℕ → ℕ → Bool
line_ends text p = p == length text || slice_index text p == 10

-- the line from place p on is a reading: where the next line begins, and the reading's value
pub data Reading (text : List ℕ) (p : ℕ) : ℕ → ℕ → Type 0 where
  -- digits, at least one, of a value up to 65,535, and nothing else; the line feed, if any, is passed over
  reading : 0 < digits text p → value text p ≤ 65535 → line_ends text (p + digits text p) ≡ true → Reading text p (min (length text) (p + digits text p + 1)) (value text p)

-- the bytes are digits, at least one, of a value up to 65,535
abbrev pub IsReading : List ℕ → Type 0
IsReading line = (0 < length line) × (prefix_len digit line ≡ length line) × (decimal line ≤ 65535)

-- the text up to a place is lines of these readings
pub data Sofar (text : List ℕ) : ℕ → List ℕ → Type 0 where
  -- there is no line before the beginning
  begin : Sofar text 0 []
  -- one line more
  more : {p q v : ℕ} {rs : List ℕ} → Sofar text p rs → Reading text p q v → Sofar text q (rs ++ v ∷ [])

-- the number, counted from 1, of the first line of a text that is no reading
pub data Refused (text : List ℕ) : ℕ → Type 0 where
  -- the lines before are readings and this one is none
  no_reading : {p : ℕ} {rs : List ℕ} → Sofar text p rs → p < length text → ((q v : ℕ) → Reading text p q v → ⊥) → Refused text (length rs + 1)
