-- What a search promises.
use Rattle.std.specs.Prelude.{Option, MatchOption}

-- what is found is one of these, and where nothing is found there is none
abbrev pub Finds : {A : Type 0} → Option A → (A → Type 0) → Type 0
Finds {A} found P = MatchOption found ((x : A) → P x → ⊥) P
