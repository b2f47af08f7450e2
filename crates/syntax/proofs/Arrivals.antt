-- The way to some tokens: which frames it comes by, and its last token.
use Rattle.std.proofs.Common.{◌≡◌, ◌≤◌, Bool, true, List, [], ◌∷◌, Some, Option, refl, sym, true≢false}
use Rattle.lexer.specs.declared.Token.{Token}
use Rattle.syntax.specs.declared.node.Own.{Own}
use Rattle.syntax.specs.declared.parser.Nest.{Nest}
use Rattle.syntax.specs.declared.grammar.Terminal.{Terminal}
use Rattle.syntax.specs.declared.grammar.Part.{Part}
use Rattle.syntax.specs.declared.grammar.Level.{Level}
use Rattle.syntax.specs.declared.grammar.Role.{Role}
use Rattle.syntax.specs.declared.grammar.Item.{Item}
use Rattle.syntax.specs.declared.grammar.Item.TheVariants.{Token as one, Unless}
use Rattle.syntax.specs.declared.grammar.Rule.{Rule}
use Rattle.syntax.specs.Terminals.{terminal_of}
use Rattle.syntax.specs.Grammar.{right}
use Rattle.syntax.specs.Trees.{Forest}
use Rattle.syntax.specs.Derivations.{nested, marked, Frame, frame}
use Rattle.syntax.specs.Reaching as G
use Rattle.syntax.specs.Reaching.{Reach}
use Rattle.syntax.proofs.Listed.{at_rule}
use Rattle.syntax.proofs.Filling.{plain, Plain}

-- no item but the first asks what comes next
abbrev plainish : List Item → Bool
plainish [] = true
plainish (i ∷ is) = plain is

-- no item but the first of the innermost frame asks what comes next
abbrev pub Plainish : List Frame → Type 0
Plainish [] = Unit {0}
Plainish (frame is q n o f ∷ s) = (plainish is ≡ true) × Plain s

-- plain items are such items
loosely : (is : List Item) → plain is ≡ true → plainish is ≡ true
loosely [] t = t
loosely (Unless k ∷ is) t = absurd (true≢false (sym t))
loosely (i ∷ is) t = t

-- plain frames are such frames
pub plain_plainish : (s : List Frame) → Plain s → Plainish s
plain_plainish [] t = t
plain_plainish (frame is q n o f ∷ s) t = (loosely is t.0, t.1)

-- no item but the first of a rule asks what comes next
right_plainish : (r : Rule) → plainish (right r) ≡ true
right_plainish r = at_rule (λ r. plainish (right r)) refl r

-- a way from such frames comes to such frames
pub reach_plainish : {ts us : List Token} {s u : List Frame} → Plainish s → Reach ts s us u → Plainish u
reach_plainish t G.here = t
reach_plainish t (G.token {is = is} e w r) = reach_plainish (loosely is t.0, t.1) r
reach_plainish t (G.unless {is = is} e r) = reach_plainish (loosely is t.0, t.1) r
reach_plainish t (G.begin r) = reach_plainish (refl, t) r
reach_plainish t (G.make {is = is} r) = reach_plainish (loosely is t.0, t.1) r
reach_plainish t (G.choose {r = r} e d) = reach_plainish (right_plainish r, t.1) d
reach_plainish t (G.leave {is = is} r) = reach_plainish (loosely is t.1.0, t.1.1) r

-- the last token of a way, if it takes any
pub data Last : List Token → List Frame → List Token → Type 0 where
  still : {ts : List Token} {s : List Frame} → Last ts s ts
  took : {t : Token} {ts us : List Token} {l : Level} {k : Terminal} {role : Role} {is : List Item} {q : Option Part} {n : Nest} {o : Option Own} {f : Forest} {s u : List Frame} → terminal_of t.kind ≡ Some k → (nested l n).depth ≤ 64 → Reach ts s (t ∷ us) (frame (one l k role ∷ is) q n o f ∷ u) → Last ts s us

-- a step that takes no token leaves the last one
after : {ts us : List Token} {s s' : List Frame} → ((vs : List Token) (u : List Frame) → Reach ts s' vs u → Reach ts s vs u) → Last ts s' us → Last ts s us
after step still = still
after step (took {t = t} {us = us} {l = l} {k = k} {role = role} {is = is} {q = q} {n = n} {o = o} {f = f} {u = u} e w r) = took e w (step (t ∷ us) (frame (one l k role ∷ is) q n o f ∷ u) r)

-- a step that takes a token: it is the last one where no other is taken
after_token : {t : Token} {ts us : List Token} {l : Level} {k : Terminal} {role : Role} {is : List Item} {q : Option Part} {n : Nest} {o : Option Own} {f : Forest} {s : List Frame} → terminal_of t.kind ≡ Some k → (nested l n).depth ≤ 64 → Last ts (frame is q n (marked role t (nested l n) o) f ∷ s) us → Last (t ∷ ts) (frame (one l k role ∷ is) q n o f ∷ s) us
after_token e w still = took e w G.here
after_token e w (took d v r) = took d v (G.token e w r)

-- each way has a last token, or it takes none
pub last : {ts us : List Token} {s u : List Frame} → Reach ts s us u → Last ts s us
last G.here = still
last (G.token e w r) = after_token e w (last r)
last (G.unless e r) = after (λ vs u d. G.unless e d) (last r)
last (G.begin r) = after (λ vs u d. G.begin d) (last r)
last (G.make r) = after (λ vs u d. G.make d) (last r)
last (G.choose e r) = after (λ vs u d. G.choose e d) (last r)
last (G.leave r) = after (λ vs u d. G.leave d) (last r)
