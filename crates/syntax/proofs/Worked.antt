-- The worked examples: the parser's way over some tokens, computed.
use Rattle.std.proofs.Common.{◌≡◌, ℕ, zero, suc, Bool, true, false, leb, List, [], ◌∷◌, ◌++◌, drop, Some, None, Option, sym, refl, lit<}
use Rattle.std.proofs.lemmas.Bool.{leb-true}
use Rattle.lexer.specs.declared.Kind.TheVariants.{Number}
use Rattle.lexer.specs.declared.Operator.TheVariants as S
use Rattle.lexer.specs.declared.Token.{Token}
use Rattle.syntax.specs.declared.node.Own.{Own}
use Rattle.syntax.specs.declared.parser.Nest.{Nest}
use Rattle.syntax.specs.declared.grammar.Terminal.{Terminal}
use Rattle.syntax.specs.declared.grammar.Part.{Part}
use Rattle.syntax.specs.declared.grammar.Level.{Level}
use Rattle.syntax.specs.declared.grammar.Role.{Role}
use Rattle.syntax.specs.declared.grammar.Item.{Item}
use Rattle.syntax.specs.declared.grammar.Item.TheVariants.{Make, Token as item, Unless, Part as part}
use Rattle.syntax.specs.Terminals.{terminal_of, ahead, same}
use Rattle.syntax.specs.Choices.{predicted}
use Rattle.syntax.specs.Grammar.{right, tail}
use Rattle.syntax.specs.Derivations.{nested, marked, made, Frame, frame}
use Rattle.lexer.specs.Examples.{token}
use Rattle.syntax.specs.Parsing.{too_deep}
use Rattle.syntax.specs.Reaching.{Reach, here, token as taken, unless, begin, make, choose, leave, deep}
use Rattle.syntax.specs.Trees.{Forest, bare, join}
use Rattle.syntax.specs.Examples.{Examples}
use Rattle.syntax.proofs.Laws.{start}
use Rattle.syntax.proofs.Promises.{reads, too_deep_there}
use Rattle.syntax.proofs.Texts.{minus_tokens, minus_text, nearest_tokens, nearest_text, signs, before_brackets, behind_number, bracket_tokens, text_62, text_63}
use Rattle.syntax.proofs.Terminals.{equal, unequal}

-- where the parser comes to
abbrev Arrives : List Token → List Frame → Type 0
Arrives ts s = (us : List Token) × (u : List Frame) × Reach ts s us u

abbrev stay : (ts : List Token) (s : List Frame) → Arrives ts s
stay ts s = (ts, s, here)

-- over a token, if it fits and does not stand too deep
abbrev over : {t : Token} {ts : List Token} {l : Level} {k : Terminal} {role : Role} {is : List Item} {q : Option Part} {m : Nest} {o : Option Own} {f : Forest} {s : List Frame} (b d : Bool) → same (terminal_of t.kind) (Some k) ≡ b → leb (nested l m).depth 64 ≡ d → Arrives ts (frame is q m (marked role t (nested l m) o) f ∷ s) → Arrives (t ∷ ts) (frame (item l k role ∷ is) q m o f ∷ s)
over true true e d r = (r.0, r.1, taken (equal (sym e) refl) (leb-true _ _ d) r.2)
over b d e h r = stay _ _

-- past a terminal that may not come next, if it does not
abbrev past : {ts : List Token} {k : Terminal} {is : List Item} {q : Option Part} {m : Nest} {o : Option Own} {f : Forest} {s : List Frame} (b : Bool) → same (ahead ts) (Some k) ≡ b → Arrives ts (frame is q m o f ∷ s) → Arrives ts (frame (Unless k ∷ is) q m o f ∷ s)
past false e r = (r.0, r.1, unless (unequal (sym e) refl) r.2)
past true e r = stay _ _

-- at most so many steps from some tokens and frames
abbrev walk : ℕ → (ts : List Token) (s : List Frame) → Arrives ts s
walk zero ts s = stay ts s
walk (suc n) ts [] = stay ts []
walk (suc n) ts (frame (Make ∷ is) q m o f ∷ s) = let r = walk n ts (frame is q m None (made o f) ∷ s) in (r.0, r.1, make r.2)
walk (suc n) ts (frame (part l p ∷ is) q m o f ∷ s) = let r = walk n ts (frame [] (Some p) (nested l m) None bare ∷ frame is q m o f ∷ s) in (r.0, r.1, begin r.2)
walk (suc n) ts (frame [] (Some p) m o f ∷ s) = let r = walk n ts (frame (right (predicted p (ahead ts))) (tail (predicted p (ahead ts))) m o f ∷ s) in (r.0, r.1, choose refl r.2)
walk (suc n) ts (frame [] None m o f ∷ []) = stay ts (frame [] None m o f ∷ [])
walk (suc n) ts (frame [] None m o e ∷ frame is q k p f ∷ s) = let r = walk n ts (frame is q k p (join f e) ∷ s) in (r.0, r.1, leave r.2)
walk (suc n) ts (frame (Unless k ∷ is) q m o f ∷ s) = past (same (ahead ts) (Some k)) refl (walk n ts (frame is q m o f ∷ s))
walk (suc n) [] (frame (item l k role ∷ is) q m o f ∷ s) = stay [] (frame (item l k role ∷ is) q m o f ∷ s)
walk (suc n) (t ∷ ts) (frame (item l k role ∷ is) q m o f ∷ s) = over (same (terminal_of t.kind) (Some k)) (leb (nested l m).depth 64) refl refl (walk n ts (frame is q m (marked role t (nested l m) o) f ∷ s))

pub worked : Examples
worked = record {
  minus = (minus_tokens, minus_text, reads (walk 200 minus_tokens start).2);
  nearest = (nearest_tokens, nearest_text, reads (walk 400 nearest_tokens start).2);
  deepest = (bracket_tokens 62, text_62, reads (walk 2000 (bracket_tokens 62) start).2);
  deeper = λ room.
      let before = before_brackets ++ signs S.OpenParen 30 63 in
      let r = walk 2000 (bracket_tokens 63) start in
      too_deep before (behind_number 63) (token (Number 1) 93 1) text_63 (too_deep_there before (behind_number 63) (token (Number 1) 93 1) _ r.2 (deep {s = drop 1 r.1} refl (lit< tt)));
}
