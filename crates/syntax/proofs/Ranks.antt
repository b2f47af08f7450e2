-- Why the parser ends: its functions call one another with less depth left or at a part of less rank, and a rule that goes on by a
-- tail takes a token before.
use Rattle.std.proofs.Common.{◌≡◌, ℕ, zero, suc, ◌+◌, ◌*◌, ◌-◌, ◌<◌, ◌≤◌, Bool, true, false, not, ◌&&◌, ltb, leb, List, [], ◌∷◌, length, Some, None, Option, refl, sym, arith, true≢false, ◌∙◌, ap, subst}
use Rattle.std.proofs.lemmas.Bool.{ltb-true, leb-true}
use Rattle.std.specs.Cmp.Derive.{both_true}
use Rattle.lexer.specs.declared.Token.{Token}
use Rattle.syntax.specs.declared.node.Own.{Own}
use Rattle.syntax.specs.declared.parser.Nest.{Nest}
use Rattle.syntax.specs.declared.grammar.Item.{Item}
use Rattle.syntax.specs.declared.grammar.Item.TheVariants.{Make, Token as one, Unless, Part as part}
use Rattle.syntax.specs.declared.grammar.Level.{Level}
use Rattle.syntax.specs.declared.grammar.Level.TheVariants.{Same, Inner, Loop}
use Rattle.syntax.specs.declared.grammar.Part.{Part}
use Rattle.syntax.specs.declared.grammar.Rule.{Rule}
use Rattle.syntax.specs.Terminals.{ahead}
use Rattle.syntax.specs.Trees.{Forest, bare}
use Rattle.syntax.specs.Grammar.{left, right, tail}
use Rattle.syntax.specs.Derivations.{nested, made, Frame, frame}
use Rattle.syntax.specs.Reaching as G
use Rattle.syntax.specs.Reaching.{Reach}
use Rattle.syntax.specs.States.{Room, Shown}
use Rattle.syntax.proofs.Checked.{implies, use_implies}
use Rattle.syntax.proofs.Laws.{depths, counted}
use Rattle.syntax.proofs.Listed.{at_rule, both}
use Rattle.syntax.proofs.Sides.{left_asked}
use Rattle.syntax.proofs.Tables.{nullable, rank}

-- what is left where a part of this rank stands in this nest
abbrev pub at_rank : Nest → ℕ → ℕ
at_rank n k = (66 - n.depth) * 30 + k * 3

-- what is left for an item: only parts go on
abbrev pub at_item : Item → Nest → ℕ
at_item (part l p) n = at_rank (nested l n) (rank p) + 3
at_item item n = 0

-- a part is less than its item
pub part_falls : (l : Level) (p : Part) (n : Nest) → at_rank (nested l n) (rank p) + 2 < at_item (part l p) n
part_falls l p n = omega arith

-- and stands no deeper than a part may
pub part_room : (l : Level) (p : Part) (n : Nest) → Room (part l p) n.depth → (nested l n).depth ≤ 65
part_room Same p n h = h
part_room Inner p n h = omega (arith, h)
part_room Loop p n h = omega (arith, h)

-- each of these items may stand in this nest where those before it are done, and less is left for it
abbrev pub Fine : Nest → ℕ → List Item → Type 0
Fine n m [] = Unit {0}
Fine n m (i ∷ is) = Room i n.depth × (at_item i n < m) × (Shown i n.depth → Fine n m is)

-- the same as a test, for items of a rule of rank k: what is deeper stands behind a token of the rule
abbrev ranked : Bool → ℕ → List Item → Bool
ranked b k [] = true
ranked b k (part Same p ∷ is) = ltb (rank p) k && ranked b k is
ranked b k (part Inner p ∷ is) = (b && ltb (rank p) 8) && ranked b k is
ranked b k (part Loop p ∷ is) = (b && ltb (rank p) 8) && ranked b k is
ranked b k (one Same t r ∷ is) = ranked true k is
ranked b k (i ∷ is) = ranked b k is

fine_items : (b : Bool) (k : ℕ) (is : List Item) (n : Nest) → ranked b k is ≡ true → (b ≡ true → n.depth ≤ 64) → n.depth ≤ 65 → Fine n (at_rank n k + 1) is
fine_items b k [] n e s d = tt
fine_items b k (part Same p ∷ is) n e s d =
    let h = both (ltb (rank p) k) (ranked b k is) e in
    (d, omega (arith, ltb-true (rank p) k h.0), λ _. fine_items b k is n h.1 s d)
fine_items b k (part Inner p ∷ is) n e s d =
    let h = both (b && ltb (rank p) 8) (ranked b k is) e in
    let g = both b (ltb (rank p) 8) h.0 in
    let low = s g.0 in
    (low, omega (arith, low, ltb-true (rank p) 8 g.1), λ _. fine_items b k is n h.1 s d)
fine_items b k (part Loop p ∷ is) n e s d =
    let h = both (b && ltb (rank p) 8) (ranked b k is) e in
    let g = both b (ltb (rank p) 8) h.0 in
    let low = s g.0 in
    (low, omega (arith, low, ltb-true (rank p) 8 g.1), λ _. fine_items b k is n h.1 s d)
fine_items b k (one Same t r ∷ is) n e s d = (d, omega arith, λ low. fine_items true k is n e (λ _. low) d)
fine_items b k (one Inner t r ∷ is) n e s d = (d, omega arith, λ _. fine_items b k is n e s d)
fine_items b k (one Loop t r ∷ is) n e s d = (d, omega arith, λ _. fine_items b k is n e s d)
fine_items b k (Make ∷ is) n e s d = (d, omega arith, λ _. fine_items b k is n e s d)
fine_items b k (Unless t ∷ is) n e s d = (d, omega arith, λ _. fine_items b k is n e s d)

-- computed: so it is for the items of each rule
pub fine : (r : Rule) (n : Nest) → n.depth ≤ 65 → Fine n (at_rank n (rank (left r)) + 1) (right r)
fine r n d = fine_items false (rank (left r)) (right r) n (at_rule (λ r. ranked false (rank (left r)) (right r)) refl r) (λ e. absurd (true≢false (sym e))) d

-- a part that is still to come, if any, ranks no higher
abbrev pub Ranked : Option Part → ℕ → Type 0
Ranked None k = Unit {0}
Ranked (Some p) k = rank p ≤ k

abbrev low : Option Part → ℕ → Bool
low None k = true
low (Some p) k = leb (rank p) k

low_ranked : (t : Option Part) (j k : ℕ) → low t j ≡ true → j ≤ k → Ranked t k
low_ranked None j k e h = tt
low_ranked (Some p) j k e h = omega (arith, leb-true (rank p) j e)

-- computed: the tail of a rule does not
pub tail_ranked : (r : Rule) (k : ℕ) → rank (left r) ≤ k → Ranked (tail r) k
tail_ranked r k h = low_ranked (tail r) (rank (left r)) k (at_rule (λ r. low (tail r) (rank (left r))) refl r) h

-- items with this tail that can be no tokens at all
abbrev light : List Item → Option Part → Bool
light [] None = true
light [] (Some p) = nullable p
light (one l t r ∷ is) q = false
light (part l p ∷ is) q = nullable p && light is q
light (i ∷ is) q = light is q

-- frames that can, but for the tail of the outermost
abbrev light_all : List Frame → Bool
light_all [] = true
light_all (frame is q n o f ∷ []) = light is None
light_all (frame is q n o f ∷ g ∷ s) = light is q && light_all (g ∷ s)

-- computed: where a rule's items and tail can, its part can
light_left : (r : Rule) → light (right r) (tail r) ≡ true → nullable (left r) ≡ true
light_left r e = use_implies _ _ (at_rule (λ r. implies (light (right r) (tail r)) (nullable (left r))) refl r) e

-- where frames can whose first is the one, they can whose first is the other
light_step : (is js : List Item) (q r : Option Part) (n m : Nest) (o p : Option Own) (f e : Forest) (s : List Frame) → (light js r ≡ true → light is q ≡ true) → (light js None ≡ true → light is None ≡ true) → light_all (frame js r m p e ∷ s) ≡ true → light_all (frame is q n o f ∷ s) ≡ true
light_step is js q r n m o p f e [] more last h = last h
light_step is js q r n m o p f e (frame ks w m' o' f' ∷ s) more last h =
    let each = both (light js r) (light_all (frame ks w m' o' f' ∷ s)) h in
    both_true (more each.0) each.1

light_begin : (l : Level) (p : Part) (is : List Item) (q : Option Part) (m n : Nest) (a b : Option Own) (e f : Forest) (s : List Frame) → light_all (frame [] (Some p) m a e ∷ frame is q n b f ∷ s) ≡ true → light_all (frame (part l p ∷ is) q n b f ∷ s) ≡ true
light_begin l p is q m n a b e f [] h = h
light_begin l p is q m n a b e f (frame ks w m' o' f' ∷ s) h =
    let each = both (nullable p) (light is q && light_all (frame ks w m' o' f' ∷ s)) h in
    let rest = both (light is q) (light_all (frame ks w m' o' f' ∷ s)) each.1 in
    both_true (both_true each.0 rest.0) rest.1

-- where the frames can at the end of a way that takes no token, they can at its start
light_before : {ts us : List Token} {s u : List Frame} → Reach ts s us u → length ts ≤ length us → light_all u ≡ true → light_all s ≡ true
light_before G.here le h = h
light_before (G.token e d a) le h = absurd (omega (arith, le, counted a))
light_before (G.unless {k = k} {is = is} {q = q} {n = n} {o = o} {f = f} {s = s} e a) le h = light_step (Unless k ∷ is) is q q n n o o f f s (λ x. x) (λ x. x) (light_before a le h)
light_before (G.begin {l = l} {p = p} {is = is} {q = q} {n = n} {o = o} {f = f} {s = s} a) le h = light_begin l p is q (nested l n) n None o bare f s (light_before a le h)
light_before (G.make {is = is} {q = q} {n = n} {o = o} {f = f} {s = s} a) le h = light_step (Make ∷ is) is q q n n o None f (made o f) s (λ x. x) (λ x. x) (light_before a le h)
light_before (G.choose {ts = ts} {p = p} {n = n} {o = o} {f = f} {s = s} {r = r} e a) le h = light_step [] (right r) (Some p) (tail r) n n o o f f s (λ x. subst (λ p. nullable p ≡ true) (left_asked p (ahead ts) r e) (light_left r x)) (λ x. refl) (light_before a le h)
light_before (G.leave a) le h = light_before a le h

-- items before a tail cannot be no tokens
abbrev heavy : Option Part → Bool → Bool
heavy None b = true
heavy (Some p) b = not b

-- what is left to do for the part that is still to come, if any, with so many tokens
abbrev pub behind : Option Part → ℕ → ℕ
behind None k = 0
behind (Some p) k = suc k

-- a number that is no larger by absurdity is smaller
larger : (d a b : ℕ) → d + b ≡ a → (a ≤ b → ⊥) → b < a
larger zero a b e wrong = absurd (wrong (omega arith))
larger (suc d) a b e wrong = omega arith

less_before : {ts us : List Token} (t : Option Part) (is : List Item) {n m : Nest} {o a : Option Own} {f g : Forest} → heavy t (light is None) ≡ true → Reach ts (frame is t n o f ∷ []) us (frame [] t m a g ∷ []) → behind t (length us) < suc (length ts)
less_before None is h r = omega arith
less_before {ts} {us} (Some p) is h r =
    let wrong : length ts ≤ length us → ⊥ = λ le. true≢false (sym h ∙ ap not (light_before r le refl)) in
    let more = larger (length (depths r)) (length ts) (length us) (counted r) wrong in
    omega arith

-- computed: a rule that goes on by a tail takes a token before
pub less : {ts us : List Token} (r : Rule) {n m : Nest} {o a : Option Own} {f g : Forest} → Reach ts (frame (right r) (tail r) n o f ∷ []) us (frame [] (tail r) m a g ∷ []) → behind (tail r) (length us) < suc (length ts)
less r path = less_before (tail r) (right r) (at_rule (λ r. heavy (tail r) (light (right r) None)) refl r) path
