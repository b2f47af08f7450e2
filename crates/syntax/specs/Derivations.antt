-- What a list of tokens is by the grammar: which trees it makes, and how deep each token stands.
use Rattle.std.specs.Prelude.{◌≡◌, ◌≢◌, ℕ, ◌+◌, true, false, List, [], ◌∷◌, Some, None, Option}
use Rattle.std.specs.Option.{option_map}
use Rattle.lexer.specs.declared.Kind.{Kind}
use Rattle.lexer.specs.declared.Kind.TheVariants as K
use Rattle.lexer.specs.declared.Token.{Token}
use Rattle.syntax.specs.declared.node.NodeKind.{NodeKind}
use Rattle.syntax.specs.declared.node.NodeKind.TheVariants as N
use Rattle.syntax.specs.declared.node.Own.{Own}
use Rattle.syntax.specs.declared.parser.Nest.{Nest}
use Rattle.syntax.specs.declared.grammar.Terminal.{Terminal}
use Rattle.syntax.specs.declared.grammar.Part.{Part}
use Rattle.syntax.specs.declared.grammar.Part.TheVariants as P
use Rattle.syntax.specs.declared.grammar.Level.{Level}
use Rattle.syntax.specs.declared.grammar.Level.TheVariants.{Same, Inner, Loop}
use Rattle.syntax.specs.declared.grammar.Role.{Role}
use Rattle.syntax.specs.declared.grammar.Role.TheVariants as A
use Rattle.syntax.specs.declared.grammar.Item.{Item}
use Rattle.syntax.specs.declared.grammar.Item.TheVariants.{Make, Token as one, Unless, Part as part}
use Rattle.syntax.specs.declared.grammar.Rule.{Rule}
use Rattle.syntax.specs.Terminals.{terminal_of, ahead}
use Rattle.syntax.specs.Grammar.{left, right, tail}
use Rattle.syntax.specs.Trees.{node, Forest, bare, grown, join}

-- the nest of an item: its depth, and whether it stands in a while
abbrev pub nested : Level → Nest → Nest
nested Same n = n
nested Inner n = record { depth = n.depth + 1; in_loop = n.in_loop }
nested Loop n = record { depth = n.depth + 1; in_loop = true }

-- the node of a number or a character token, with its value
abbrev pub literal : Kind → Option NodeKind
literal (K.Number v) = Some (N.Number v)
literal (K.Character c) = Some (N.Character c)
literal kind = None

-- the width that a token gives to a print: a number gives its value, any other token none
abbrev pub width_in : Kind → Option ℕ
width_in (K.Number v) = Some v
width_in kind = None

-- what a node keeps of a noted token: the place of a field's or a type's identifier, or the width of a print
abbrev pub noting : NodeKind → Token → NodeKind
noting (N.Field p) t = N.Field t.place
noting (N.New p) t = N.New t.place
noting (N.Print w) t = N.Print (width_in t.kind)
noting kind t = kind

-- the node that is begun, after a token in its role: a break keeps whether it stands in a while
abbrev pub marked : Role → Token → Nest → Option Own → Option Own
marked A.Plain t n o = o
marked (A.Own k) t n o = Some (record { kind = k; place = t.place })
marked A.Literal t n o = option_map (λ k. record { kind = k; place = t.place }) (literal t.kind)
marked A.Break t n o = Some (record { kind = N.Break n.in_loop; place = t.place })
marked A.Noted t n o = option_map (λ own. record { kind = noting own.kind t; place = own.place }) o

-- the trees of a part when its node is made: one, of which they are the parts
abbrev pub made : Option Own → Forest → Forest
made None f = f
made (Some own) f = grown bare (node own.kind own.place f)

-- A part of the recipe that is begun: the items that are still to come, its tail, its nest, the node that is begun, if any,
-- and the trees made so far.
pub data Frame : Type 0 where
  frame : List Item → Option Part → Nest → Option Own → Forest → Frame

-- Derives ts s f ds: the tokens ts complete the frames s, of which the first is the innermost; f are the trees then, and ds
-- the depths of the tokens.
pub data Derives : List Token → List Frame → Forest → List ℕ → Type 0 where
  -- no token is left, and the outermost part is complete
  finish : {n : Nest} {o : Option Own} {f : Forest} → Derives [] (frame [] None n o f ∷ []) f []
  -- the terminal that comes next
  token : {t : Token} {ts : List Token} {l : Level} {k : Terminal} {role : Role} {is : List Item} {q : Option Part} {n : Nest} {o : Option Own} {f g : Forest} {s : List Frame} {ds : List ℕ} → terminal_of t.kind ≡ Some k → Derives ts (frame is q n (marked role t (nested l n) o) f ∷ s) g ds → Derives (t ∷ ts) (frame (one l k role ∷ is) q n o f ∷ s) g ((nested l n).depth ∷ ds)
  -- another terminal comes next, or none
  unless : {ts : List Token} {k : Terminal} {is : List Item} {q : Option Part} {n : Nest} {o : Option Own} {f g : Forest} {s : List Frame} {ds : List ℕ} → ahead ts ≢ Some k → Derives ts (frame is q n o f ∷ s) g ds → Derives ts (frame (Unless k ∷ is) q n o f ∷ s) g ds
  -- a part begins, with no trees of its own so far
  begin : {ts : List Token} {l : Level} {p : Part} {is : List Item} {q : Option Part} {n : Nest} {o : Option Own} {f g : Forest} {s : List Frame} {ds : List ℕ} → Derives ts (frame [] (Some p) (nested l n) None bare ∷ frame is q n o f ∷ s) g ds → Derives ts (frame (part l p ∷ is) q n o f ∷ s) g ds
  -- the node is made
  make : {ts : List Token} {is : List Item} {q : Option Part} {n : Nest} {o : Option Own} {f g : Forest} {s : List Frame} {ds : List ℕ} → Derives ts (frame is q n None (made o f) ∷ s) g ds → Derives ts (frame (Make ∷ is) q n o f ∷ s) g ds
  -- a part goes on by one of its rules
  choose : {ts : List Token} {p : Part} {n : Nest} {o : Option Own} {f g : Forest} {s : List Frame} {ds : List ℕ} (r : Rule) → left r ≡ p → Derives ts (frame (right r) (tail r) n o f ∷ s) g ds → Derives ts (frame [] (Some p) n o f ∷ s) g ds
  -- a part is complete: its trees come behind those of the part around it
  leave : {ts : List Token} {m n : Nest} {o p : Option Own} {e f g : Forest} {is : List Item} {q : Option Part} {s : List Frame} {ds : List ℕ} → Derives ts (frame is q n o (join f e) ∷ s) g ds → Derives ts (frame [] None m p e ∷ frame is q n o f ∷ s) g ds

-- the outermost nest: depth 0, in no while
abbrev pub outermost : Nest
outermost = record { depth = 0; in_loop = false }

-- the tokens are this part of a recipe, with these trees and, seen from depth 0, these depths
abbrev pub Is : Part → List Token → Forest → List ℕ → Type 0
Is p ts f ds = Derives ts (frame [] (Some p) outermost None bare ∷ []) f ds

-- the tokens are a program with these trees, one for each method, and these depths
abbrev pub Program : List Token → Forest → List ℕ → Type 0
Program = Is P.Program
