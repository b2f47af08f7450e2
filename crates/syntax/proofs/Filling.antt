-- Every part, and so every stack of frames, can be completed.
use Rattle.std.proofs.Common.{◌≡◌, ℕ, zero, suc, ◌<◌, Bool, true, false, ◌&&◌, ltb, List, [], ◌∷◌, ◌++◌, Some, None, Option, refl, append_assoc, arith, true≢false, sym}
use Rattle.std.proofs.lemmas.Bool.{ltb-true}
use denote.Enum.Bare.{sameb, same_true}
use Rattle.lexer.specs.declared.Kind.{Kind}
use Rattle.lexer.specs.declared.Kind.TheVariants as K
use Rattle.lexer.specs.declared.Token.{Token}
use Rattle.syntax.specs.declared.node.Own.{Own}
use Rattle.syntax.specs.declared.parser.Nest.{Nest}
use Rattle.syntax.specs.declared.grammar.Terminal.{Terminal}
use Rattle.syntax.specs.declared.grammar.Terminal.TheVariants as T
use Rattle.syntax.specs.declared.grammar.Part.{Part}
use Rattle.syntax.specs.declared.grammar.Level.{Level}
use Rattle.syntax.specs.declared.grammar.Role.{Role}
use Rattle.syntax.specs.declared.grammar.Item.{Item}
use Rattle.syntax.specs.declared.grammar.Item.TheVariants.{Make, Token as one, Unless, Part as part}
use Rattle.syntax.specs.declared.grammar.Rule.{Rule}
use Rattle.syntax.specs.Terminals.{terminal_of}
use Rattle.syntax.specs.Grammar.{left, right, tail}
use Rattle.syntax.specs.Trees.{Forest, bare, join}
use Rattle.syntax.specs.Derivations.{nested, marked, made, Frame, frame, Derives, finish, token, begin, make, choose, leave}
use Rattle.syntax.specs.contracts.grammar.Part.{the_type}
use Rattle.syntax.proofs.Listed.{at_part, both}
use Rattle.syntax.proofs.Tables.{shortest, tall}

-- no item asks what comes next, and all parts pass a test
abbrev pub fits : (Part → Bool) → List Item → Bool
fits ok [] = true
fits ok (Unless k ∷ is) = false
fits ok (part l p ∷ is) = ok p && fits ok is
fits ok (i ∷ is) = fits ok is

-- the tail passes the test
abbrev tail_fits : (Part → Bool) → Option Part → Bool
tail_fits ok None = true
tail_fits ok (Some p) = ok p

-- no item asks what comes next
abbrev pub plain : List Item → Bool
plain is = fits (λ p. true) is

-- no item of any frame asks what comes next
abbrev pub Plain : List Frame → Type 0
Plain [] = Unit {0}
Plain (frame is q n o f ∷ s) = (plain is ≡ true) × Plain s

-- some tokens complete a frame, whatever comes behind
record Completed (is : List Item) (q : Option Part) (n : Nest) (o : Option Own) (f : Forest) : Type 0 where
  tokens : List Token
  depths : List ℕ
  owner : Option Own
  trees : Forest
  completes : (s : List Frame) (more : List Token) (g : Forest) (es : List ℕ) → Derives more (frame [] None n owner trees ∷ s) g es → Derives (tokens ++ more) (frame is q n o f ∷ s) g (depths ++ es)

-- these items with this tail can be completed in any frame
abbrev Fillable : List Item → Option Part → Type 0
Fillable is q = (n : Nest) (o : Option Own) (f : Forest) → Completed is q n o f

-- a kind of token that is a terminal
abbrev some_kind : Terminal → Kind
some_kind T.Name = K.Name
some_kind T.Number = K.Number 0
some_kind T.Character = K.Character 0
some_kind (T.Word w) = K.Word w
some_kind (T.Sign g) = K.Sign g

kind_fits : (k : Terminal) → terminal_of (some_kind k) ≡ Some k
kind_fits T.Name = refl
kind_fits T.Number = refl
kind_fits T.Character = refl
kind_fits (T.Word w) = refl
kind_fits (T.Sign g) = refl

-- nothing is left to complete
fill_none : Fillable [] None
fill_none n o f = record { tokens = []; depths = []; owner = o; trees = f; completes = λ s more g es d. d }

-- a token and then the rest
fill_token : {is : List Item} {q : Option Part} (l : Level) (k : Terminal) (role : Role) → Fillable is q → Fillable (one l k role ∷ is) q
fill_token l k role rest n o f =
    let t : Token = record { kind = some_kind k; place = 0; len = 0 } in
    let r = rest n (marked role t (nested l n) o) f in
    record {
      tokens = t ∷ r.tokens;
      depths = (nested l n).depth ∷ r.depths;
      owner = r.owner;
      trees = r.trees;
      completes = λ s more g es d. token (kind_fits k) (r.completes s more g es d);
    }

-- a node is made, and then the rest
fill_make : {is : List Item} {q : Option Part} → Fillable is q → Fillable (Make ∷ is) q
fill_make rest n o f =
    let r = rest n None (made o f) in
    record { tokens = r.tokens; depths = r.depths; owner = r.owner; trees = r.trees; completes = λ s more g es d. make (r.completes s more g es d) }

-- a part and then the rest
fill_part : {is : List Item} {q : Option Part} (l : Level) (p : Part) → Fillable [] (Some p) → Fillable is q → Fillable (part l p ∷ is) q
fill_part {is} {q} l p inside rest n o f =
    let a = inside (nested l n) None bare in
    let b = rest n o (join f a.trees) in
    record {
      tokens = a.tokens ++ b.tokens;
      depths = a.depths ++ b.depths;
      owner = b.owner;
      trees = b.trees;
      completes = λ s more g es d.
          rw (append_assoc a.tokens b.tokens more, append_assoc a.depths b.depths es)
          (begin (a.completes (frame is q n o f ∷ s) (b.tokens ++ more) g (b.depths ++ es) (leave (b.completes s more g es d))));
    }

-- a part goes on by one of its rules
fill_choose : {p : Part} (r : Rule) → left r ≡ p → Fillable (right r) (tail r) → Fillable [] (Some p)
fill_choose r e rest n o f =
    let c = rest n o f in
    record { tokens = c.tokens; depths = c.depths; owner = c.owner; trees = c.trees; completes = λ s more g es d. choose r e (c.completes s more g es d) }

-- items can be completed where all their parts can
fill_items : (ok : Part → Bool) → ((p : Part) → ok p ≡ true → Fillable [] (Some p)) → (is : List Item) (q : Option Part) → fits ok is ≡ true → tail_fits ok q ≡ true → Fillable is q
fill_items ok fill [] None t e = fill_none
fill_items ok fill [] (Some p) t e = fill p e
fill_items ok fill (one l k role ∷ is) q t e = fill_token l k role (fill_items ok fill is q t e)
fill_items ok fill (Make ∷ is) q t e = fill_make (fill_items ok fill is q t e)
fill_items ok fill (Unless k ∷ is) q t e = absurd (true≢false (sym t))
fill_items ok fill (part l p ∷ is) q t e =
    let each = both (ok p) (fits ok is) t in
    fill_part l p (fill p each.0) (fill_items ok fill is q each.1 e)

-- a part can go on by its shortest rule
shortest_left : (p : Part) → left (shortest p) ≡ p
shortest_left p = same_true the_type tt _ _ (at_part (λ p. sameb the_type (left (shortest p)) p) refl p)

-- the second part is less tall than the first
abbrev below : Part → Part → Bool
below p q = ltb (tall q) (tall p)

-- the shortest rule of a part has only shorter parts
shortest_fits : (p : Part) → (fits (below p) (right (shortest p)) ≡ true) × (tail_fits (below p) (tail (shortest p)) ≡ true)
shortest_fits p = both _ _ (at_part (λ p. fits (below p) (right (shortest p)) && tail_fits (below p) (tail (shortest p))) refl p)

-- a part less tall than the bound can be completed
fill_below : (n : ℕ) (p : Part) → tall p < n → Fillable [] (Some p)
fill_below zero p h = absurd (omega arith)
fill_below (suc n) p h =
    let low = shortest_fits p in
    fill_choose (shortest p) (shortest_left p) (fill_items (below p) (λ q t. fill_below n q (omega (arith, ltb-true (tall q) (tall p) t))) (right (shortest p)) (tail (shortest p)) low.0 low.1)

-- every part can be completed
fill : (p : Part) → Fillable [] (Some p)
fill p = fill_below (suc (tall p)) p (omega arith)

-- plain items with any tail can be completed
fill_plain : (is : List Item) (q : Option Part) → plain is ≡ true → Fillable is q
fill_plain is None t = fill_items (λ p. true) (λ p e. fill p) is None t refl
fill_plain is (Some q) t = fill_items (λ p. true) (λ p e. fill p) is (Some q) t refl

-- plain frames can be completed
pub complete : (is : List Item) (q : Option Part) (n : Nest) (o : Option Own) (f : Forest) (s : List Frame) → Plain (frame is q n o f ∷ s) → (us : List Token) × (g : Forest) × (ds : List ℕ) × Derives us (frame is q n o f ∷ s) g ds
complete is q n o f [] t =
    let r = fill_plain is q t.0 n o f in
    (r.tokens ++ [], r.trees, r.depths ++ [], r.completes [] [] r.trees [] finish)
complete is q n o f (frame js w m p e ∷ s) t =
    let r = fill_plain is q t.0 n o f in
    let c = complete js w m p (join e r.trees) s t.1 in
    (r.tokens ++ c.0, c.1, r.depths ++ c.2, r.completes (frame js w m p e ∷ s) c.0 c.1 c.2 (leave c.3))
