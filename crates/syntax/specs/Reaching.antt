-- How far a parser has come that always goes on by the rule that the next token asks for. Only inner contracts speak of this.
use Rattle.std.specs.Prelude.{◌≡◌, ◌≢◌, ◌<◌, ◌≤◌, List, [], ◌∷◌, Some, None, Option}
use Rattle.lexer.specs.declared.Token.{Token}
use Rattle.syntax.specs.declared.node.Own.{Own}
use Rattle.syntax.specs.declared.parser.Nest.{Nest}
use Rattle.syntax.specs.declared.grammar.Terminal.{Terminal}
use Rattle.syntax.specs.declared.grammar.Part.{Part}
use Rattle.syntax.specs.declared.grammar.Level.{Level}
use Rattle.syntax.specs.declared.grammar.Role.{Role}
use Rattle.syntax.specs.declared.grammar.Item.{Item}
use Rattle.syntax.specs.declared.grammar.Item.TheVariants.{Make, Token as one, Unless, Part as part}
use Rattle.syntax.specs.declared.grammar.Rule.{Rule}
use Rattle.syntax.specs.declared.refusal.Reason.{Reason}
use Rattle.syntax.specs.declared.refusal.Reason.TheVariants.{Grammar, Depth}
use Rattle.syntax.specs.Terminals.{terminal_of, ahead}
use Rattle.syntax.specs.Grammar.{right, tail}
use Rattle.syntax.specs.Choices.{predicted}
use Rattle.syntax.specs.Derivations.{nested, marked, made, Frame, frame}
use Rattle.syntax.specs.Trees.{Forest, bare, join}

-- Reach ts s us u: from the tokens ts and the frames s on the parser comes to the tokens us and the frames u. Its steps are
-- those of a derivation, but no token stands too deep, and the rule is the one that the next token asks for.
pub data Reach : List Token → List Frame → List Token → List Frame → Type 0 where
  here : {ts : List Token} {s : List Frame} → Reach ts s ts s
  token : {t : Token} {ts us : List Token} {l : Level} {k : Terminal} {role : Role} {is : List Item} {q : Option Part} {n : Nest} {o : Option Own} {f : Forest} {s u : List Frame} → terminal_of t.kind ≡ Some k → (nested l n).depth ≤ 64 → Reach ts (frame is q n (marked role t (nested l n) o) f ∷ s) us u → Reach (t ∷ ts) (frame (one l k role ∷ is) q n o f ∷ s) us u
  unless : {ts us : List Token} {k : Terminal} {is : List Item} {q : Option Part} {n : Nest} {o : Option Own} {f : Forest} {s u : List Frame} → ahead ts ≢ Some k → Reach ts (frame is q n o f ∷ s) us u → Reach ts (frame (Unless k ∷ is) q n o f ∷ s) us u
  begin : {ts us : List Token} {l : Level} {p : Part} {is : List Item} {q : Option Part} {n : Nest} {o : Option Own} {f : Forest} {s u : List Frame} → Reach ts (frame [] (Some p) (nested l n) None bare ∷ frame is q n o f ∷ s) us u → Reach ts (frame (part l p ∷ is) q n o f ∷ s) us u
  make : {ts us : List Token} {is : List Item} {q : Option Part} {n : Nest} {o : Option Own} {f : Forest} {s u : List Frame} → Reach ts (frame is q n None (made o f) ∷ s) us u → Reach ts (frame (Make ∷ is) q n o f ∷ s) us u
  choose : {ts us : List Token} {p : Part} {n : Nest} {o : Option Own} {f : Forest} {s u : List Frame} {r : Rule} → r ≡ predicted p (ahead ts) → Reach ts (frame (right r) (tail r) n o f ∷ s) us u → Reach ts (frame [] (Some p) n o f ∷ s) us u
  leave : {ts us : List Token} {m n : Nest} {o p : Option Own} {e f : Forest} {is : List Item} {q : Option Part} {s u : List Frame} → Reach ts (frame is q n o (join f e) ∷ s) us u → Reach ts (frame [] None m p e ∷ frame is q n o f ∷ s) us u

-- why the parser cannot go on from some tokens and frames
pub data Blocked : Reason → List Token → List Frame → Type 0 where
  -- the next token is another terminal, or there is none
  other_token : {ts : List Token} {l : Level} {k : Terminal} {role : Role} {is : List Item} {q : Option Part} {n : Nest} {o : Option Own} {f : Forest} {s : List Frame} → ahead ts ≢ Some k → Blocked Grammar ts (frame (one l k role ∷ is) q n o f ∷ s)
  -- the next token is the terminal that may not come next
  barred : {ts : List Token} {k : Terminal} {is : List Item} {q : Option Part} {n : Nest} {o : Option Own} {f : Forest} {s : List Frame} → ahead ts ≡ Some k → Blocked Grammar ts (frame (Unless k ∷ is) q n o f ∷ s)
  -- all is complete, but a token is left
  left_over : {t : Token} {ts : List Token} {n : Nest} {o : Option Own} {f : Forest} → Blocked Grammar (t ∷ ts) (frame [] None n o f ∷ [])
  -- the next token fits, but stands too deep
  deep : {t : Token} {ts : List Token} {l : Level} {k : Terminal} {role : Role} {is : List Item} {q : Option Part} {n : Nest} {o : Option Own} {f : Forest} {s : List Frame} → terminal_of t.kind ≡ Some k → 64 < (nested l n).depth → Blocked Depth (t ∷ ts) (frame (one l k role ∷ is) q n o f ∷ s)
