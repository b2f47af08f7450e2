-- What `==` of terminals tells.
use Rattle.std.proofs.Common.{◌≡◌, ◌≢◌, Bool, true, false, not, Option, rules}
use Rattle.syntax.specs.Terminals.{same}
use Rattle.syntax.specs.declared.grammar.Terminal.{Terminal}

-- each is the same as itself
pub same_refl : (a : Option Terminal) → same a a ≡ true
same_refl a = search rules

-- those that are the same are one
same_eq : (a b : Option Terminal) → same a b ≡ true → a ≡ b
same_eq a b e = search rules

-- others are not the same
pub differ : (a b : Option Terminal) → b ≢ a → same a b ≡ false
differ a b h = search (rules, same_eq)

-- what an arm of `if a != b` knows
pub found : {r : Bool} {a b : Option Terminal} → r ≡ not (same a b) → r ≡ false → a ≡ b
found e h = search (rules, same_eq)

pub missed : {r : Bool} {a b : Option Terminal} → r ≡ not (same a b) → r ≡ true → a ≢ b
missed {a = a} e h x = search (rules, same_refl)

-- what an arm of `if a == b` knows
pub equal : {r : Bool} {a b : Option Terminal} → r ≡ same a b → r ≡ true → a ≡ b
equal e h = search (rules, same_eq)

pub unequal : {r : Bool} {a b : Option Terminal} → r ≡ same a b → r ≡ false → a ≢ b
unequal {a = a} e h x = search (rules, same_refl)
