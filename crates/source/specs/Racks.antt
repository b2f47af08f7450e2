-- The text of a rack: what its readings are told as.
use Rattle.std.specs.Prelude.{ℕ, ◌/◌, cond, List, ◌++◌, codes, decimal, nat_le}
use Rattle.std.specs.List.{flat_map}

-- a reading up to 9,999, in hundredths, is told in tenths, the last digit dropped; a higher one is a dead probe's
abbrev pub told : ℕ → List ℕ
told reading = cond (nat_le reading 9999) (decimal (reading / 10)) (codes "-1")

-- a line: what a reading is told as, and a line feed
abbrev pub line : ℕ → List ℕ
line reading = told reading ++ codes "\n"

-- the text of a rack: the lines of its readings
abbrev pub rack_text : List ℕ → List ℕ
rack_text readings = flat_map line readings
