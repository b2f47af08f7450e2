-- What is printed of a text of readings.
use Rattle.std.specs.Prelude.{ℕ, List, ◌++◌, length, codes, decimal}
use Rattle.mjrack.specs.Lines.{Sofar, Refused}
use Rattle.mjrack.specs.Report.{Reported}

-- the line of a refusal: the number of the first line that is no reading
abbrev pub refused_line : ℕ → List ℕ
refused_line line = codes "not a reading: line " ++ (decimal line ++ codes "\n")

-- what is printed of a text
pub data Printed (text : List ℕ) : List ℕ → Type 0 where
  -- the report of its readings, where all its lines are readings
  the_report : {readings bytes : List ℕ} → Sofar text (length text) readings → Reported readings bytes → Printed text bytes
  -- only the refusal, where a line is none
  the_refusal : {line : ℕ} → Refused text line → Printed text (refused_line line)
