-- What waits in a source.
use Rattle.std.specs.Prelude.{ℕ, List, [], ◌∷◌, Some, None, Option}

-- the first waiting byte, or none exactly when nothing waits
abbrev pub first : List ℕ → Option ℕ
first [] = None
first (b ∷ w) = Some b
