-- That the next token tells the rule, computed once for every rule and every terminal.
use Rattle.std.proofs.Common.{◌≡◌, Bool, true, false, not, ◌&&◌, ◌||◌, List, [], ◌∷◌, Some, None, Option, refl}
use Rattle.std.specs.List.{list_any}
use mathlib.Core.Bool.{false≢true}
use denote.Enum.Bare.{sameb, same_true}
use Rattle.syntax.specs.contracts.grammar.Rule.{the_type}
use Rattle.syntax.specs.Choices.{predicted}
use Rattle.syntax.specs.Grammar.{left, right, tail}
use Rattle.syntax.specs.Terminals.{same}
use Rattle.syntax.specs.declared.grammar.Item.{Item}
use Rattle.syntax.specs.declared.grammar.Item.TheVariants.{Make, Token as one, Unless, Part as part}
use Rattle.syntax.specs.declared.grammar.Part.{Part}
use Rattle.syntax.specs.declared.grammar.Rule.{Rule}
use Rattle.syntax.specs.declared.grammar.Terminal.{Terminal}
use Rattle.syntax.proofs.Listed.{all_terminals, at_terminal, at_rule, both}
use Rattle.syntax.proofs.Tables.{nullable, begins, follows}

-- the second test passes where the first does
abbrev pub implies : Bool → Bool → Bool
implies true b = b
implies false b = true

-- so it passes if the first does
pub use_implies : (a b : Bool) → implies a b ≡ true → a ≡ true → b ≡ true
use_implies true b h e = h
use_implies false b h e = absurd (false≢true e)

-- the terminal a can begin the part
abbrev pub starts : Part → Option Terminal → Bool
starts p a = list_any (same a) (begins p)

-- the terminal a can come behind the part
abbrev pub comes : Part → Option Terminal → Bool
comes p a = list_any (same a) (follows p)

-- the terminal a can come next before these items and this tail; b: what stands behind can begin with it
abbrev pub may : List Item → Option Part → Bool → Option Terminal → Bool
may [] None b a = b
may [] (Some p) b a = starts p a || nullable p && b
may (Make ∷ is) q b a = may is q b a
may (one l k role ∷ is) q b a = same (Some k) a
may (Unless k ∷ is) q b a = not (same (Some k) a) && may is q b a
may (part l p ∷ is) q b a = starts p a || nullable p && may is q b a

-- behind each of these parts the terminal a comes only where it can
abbrev pub fits : List Item → Option Part → Bool → Option Terminal → Bool
fits [] None b a = true
fits [] (Some p) b a = implies b (comes p a)
fits (part l p ∷ is) q b a = implies (may is q b a) (comes p a) && fits is q b a
fits (i ∷ is) q b a = fits is q b a

-- the rules are the same
abbrev same_rule : Rule → Rule → Bool
same_rule = sameb the_type

-- where the terminal a can come next before a rule's items, it can before the part; and where it comes behind the part only
-- where it can, it asks for the rule, and the rule's parts fit
abbrev agrees : Option Terminal → Bool → Rule → Bool
agrees a b r = implies (may (right r) (tail r) b a) (starts (left r) a || nullable (left r) && b) && implies (implies b (comes (left r) a)) (implies (may (right r) (tail r) b a) (same_rule r (predicted (left r) a)) && fits (right r) (tail r) b a)

-- a rule agrees with the terminal, whatever stands behind
abbrev always : Rule → Option Terminal → Bool
always r a = agrees a true r && agrees a false r

-- computed: every rule does so with each terminal
agreed : (r : Rule) (b : Bool) (a : Option Terminal) → agrees a b r ≡ true
agreed r true a = (both _ _ (at_terminal (always r) (at_rule (λ r. all_terminals (always r)) refl r) a)).0
agreed r false a = (both _ _ (at_terminal (always r) (at_rule (λ r. all_terminals (always r)) refl r) a)).1

-- what can come next before the items of a rule can before its part
pub before_rule : (r : Rule) (b : Bool) (a : Option Terminal) → may (right r) (tail r) b a ≡ true → (starts (left r) a || nullable (left r) && b) ≡ true
before_rule r b a m = use_implies _ _ (both _ _ (agreed r b a)).0 m

-- a rule fits where its part does
pub rule_fits : (r : Rule) (b : Bool) (a : Option Terminal) → implies b (comes (left r) a) ≡ true → fits (right r) (tail r) b a ≡ true
rule_fits r b a h = (both _ _ (use_implies _ _ (both _ _ (agreed r b a)).1 h)).1

-- where a part fits, what can come next before the items of one of its rules asks for that rule
pub rule_asked : (r : Rule) (b : Bool) (a : Option Terminal) → implies b (comes (left r) a) ≡ true → may (right r) (tail r) b a ≡ true → r ≡ predicted (left r) a
rule_asked r b a h m = same_true the_type tt _ _ (use_implies _ _ (both _ _ (use_implies _ _ (both _ _ (agreed r b a)).1 h)).0 m)
