-- What printing a text at the end of a page does. Assumes nothing.
use Rattle.std.specs.Prelude.{◌≡◌, ℕ, ◌-◌, ◌<◌, ◌≤◌, List, ◌++◌, length, replicate, Result, MatchResult}
use Rattle.slicevec.specs.declared.Full.{Full}
use Rattle.slicevec.specs.declared.SliceVec.{SliceVec}
use Rattle.slicevec.specs.Held.{held, room, KeepsMemory}

-- blanks in front of a text, up to the width
abbrev pub padded : ℕ → List ℕ → List ℕ
padded width text = replicate (width - length text) 32 ++ text

-- the text stands at the end of the page, or the page is as it was where there is no room for all of it
pub record Printed (text : List ℕ) (before after : SliceVec ℕ) (r : Result (Unit {0}) Full) : Type 0 where
  pub page : MatchResult r (λ _. held after ≡ held before ++ text) (λ _. held after ≡ held before)
  pub refused : MatchResult r (λ _. length text ≤ room before - length (held before)) (λ _. room before - length (held before) < length text)
  pub kept : KeepsMemory before after
