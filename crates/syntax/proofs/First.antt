-- What can come next before frames, and that every derivation begins so.
use Rattle.std.proofs.Common.{◌≡◌, ℕ, Bool, true, not, ◌&&◌, ◌||◌, List, [], ◌∷◌, Some, None, Option, sym, refl, ap, ◌∙◌, subst}
use Rattle.std.specs.Cmp.Derive.{both_true}
use mathlib.Core.Bool.{and_assoc}
use Rattle.lexer.specs.declared.Token.{Token}
use Rattle.syntax.specs.Terminals.{ahead, same}
use Rattle.syntax.specs.Grammar.{left, right, tail}
use Rattle.syntax.specs.Choices.{predicted}
use Rattle.syntax.specs.Derivations.{Frame, frame, Derives, finish, token, unless, begin, make, choose, leave}
use Rattle.syntax.specs.Trees.{Forest, bare}
use Rattle.syntax.specs.declared.node.Own.{Own}
use Rattle.syntax.specs.declared.parser.Nest.{Nest}
use Rattle.syntax.specs.declared.grammar.Terminal.{Terminal}
use Rattle.syntax.specs.declared.grammar.Level.{Level}
use Rattle.syntax.specs.declared.grammar.Item.{Item}
use Rattle.syntax.specs.declared.grammar.Item.TheVariants.{Part as part}
use Rattle.syntax.specs.declared.grammar.Part.{Part}
use Rattle.syntax.specs.declared.grammar.Part.TheVariants as P
use Rattle.syntax.specs.declared.grammar.Rule.{Rule}
use Rattle.syntax.proofs.Listed.{at_terminal, both}
use Rattle.syntax.proofs.Terminals.{same_refl, differ}
use Rattle.syntax.proofs.Tables.{nullable}
use Rattle.syntax.proofs.Checked.{implies, starts, comes, may, fits, before_rule, rule_fits, rule_asked}

-- the terminal a can come next before these frames, and only the end before none
abbrev pub may_all : List Frame → Option Terminal → Bool
may_all [] a = same None a
may_all (frame is q n o f ∷ s) a = may is q (may_all s a) a

-- a derivation begins with what can come next
pub first : {ts : List Token} {s : List Frame} {f : Forest} {ds : List ℕ} → Derives ts s f ds → may_all s (ahead ts) ≡ true
first finish = refl
first (token {k = k} e a) = rw e (same_refl (Some k))
first (unless e a) = both_true (ap not (differ _ _ e)) (first a)
first (begin a) = first a
first (make a) = first a
first (choose {ts = ts} {s = s} r e a) = subst (λ p. (starts p (ahead ts) || nullable p && may_all s (ahead ts)) ≡ true) e (before_rule r (may_all s (ahead ts)) (ahead ts) (first a))
first (leave a) = first a

-- behind each part of these frames the terminal a comes only where it can
abbrev pub fits_all : List Frame → Option Terminal → Bool
fits_all [] a = true
fits_all (frame is q n o f ∷ s) a = fits is q (may_all s a) a && fits_all s a

-- behind each part of these frames come only terminals that can
pub record Fit (s : List Frame) : Type 0 where
  pub at : (a : Option Terminal) → fits_all s a ≡ true

-- the outermost frame fits
pub fit_start : {n : Nest} {o : Option Own} {f : Forest} → Fit (frame [] (Some P.Program) n o f ∷ [])
fit_start {n} {o} {f} = record { at = at_terminal (fits_all (frame [] (Some P.Program) n o f ∷ [])) refl }

-- frames fit when a part of them begins
pub fit_begin : {l : Level} {p : Part} {is : List Item} {q : Option Part} {m n : Nest} {o : Option Own} {f : Forest} {s : List Frame} → Fit (frame (part l p ∷ is) q n o f ∷ s) → Fit (frame [] (Some p) m None bare ∷ frame is q n o f ∷ s)
fit_begin {p = p} {is = is} {q = q} {s = s} h = record { at = λ a. sym (and_assoc (implies (may is q (may_all s a) a) (comes p a)) (fits is q (may_all s a) a) (fits_all s a)) ∙ h.at a }

-- and when a part goes on by one of its rules
pub fit_choose : {p : Part} {n : Nest} {o : Option Own} {f : Forest} {s : List Frame} (r : Rule) → left r ≡ p → Fit (frame [] (Some p) n o f ∷ s) → Fit (frame (right r) (tail r) n o f ∷ s)
fit_choose {s = s} r e h = record { at = λ a. let t = both _ _ (h.at a) in both_true (rule_fits r (may_all s a) a (subst (λ p. implies (may_all s a) (comes p a) ≡ true) (sym e) t.0)) t.1 }

-- a part that fits goes on by the rule that the next token asks for
pub asked : {ts : List Token} {p : Part} {n : Nest} {o : Option Own} {f g : Forest} {s : List Frame} {ds : List ℕ} (r : Rule) → left r ≡ p → Fit (frame [] (Some p) n o f ∷ s) → Derives ts (frame (right r) (tail r) n o f ∷ s) g ds → r ≡ predicted p (ahead ts)
asked {ts} {s = s} r e h d =
    let a = ahead ts in
    let b = may_all s a in
    rule_asked r b a (subst (λ p. implies b (comes p a) ≡ true) (sym e) (both _ _ (h.at a)).0) (first d) ∙ ap (λ p. predicted p a) e
