-- A recipe and the input that stands behind it, divided by a line `%%`.
use Rattle.std.specs.Prelude.{◌≡◌, ℕ, ◌+◌, ◌-◌, ◌<◌, Bool, true, false, ◌&&◌, ◌||◌, List, [], length, take, drop, ◌==◌, slice_index}

-- a line begins at p
abbrev pub line_begins : List ℕ → ℕ → Bool
line_begins bytes p = p == 0 || slice_index bytes (p - 1) == 10

-- a line ends at p, or all bytes do
abbrev pub line_ends : List ℕ → ℕ → Bool
line_ends bytes p = p == length bytes || slice_index bytes p == 10

-- the line that begins at p is `%%`
abbrev pub mark_at : List ℕ → ℕ → Bool
mark_at bytes p = line_begins bytes p && (slice_index bytes p == 37 && (slice_index bytes (p + 1) == 37 && line_ends bytes (p + 2)))

-- which parts are the recipe and its input
pub data Divided (bytes : List ℕ) : List ℕ → List ℕ → Type 0 where
  -- the first line `%%` stands between the two; the line feed before it belongs to the recipe
  at_mark : {p : ℕ} → mark_at bytes p ≡ true → ((q : ℕ) → q < p → mark_at bytes q ≡ false) → Divided bytes (take p bytes) (drop (p + 3) bytes)
  -- without such a line all is the recipe, and there is no input
  no_mark : ((p : ℕ) → mark_at bytes p ≡ false) → Divided bytes bytes []
