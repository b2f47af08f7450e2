-- What the parser's functions promise one another, step by step.
use Rattle.std.proofs.Common.{◌≡◌, ◌≢◌, ℕ, suc, ◌+◌, ◌<◌, ◌≤◌, List, [], ◌∷◌, ◌++◌, length, get_or, drop, drop-cons, Some, None, Ok, Err, Option, sym, refl, ap, ◌∙◌, subst, append-nil, append_assoc, arith}
use Rattle.std.proofs.lemmas.List.{length-append, drop_all}
use Rattle.slicevec.specs.declared.SliceVec.{SliceVec}
use Rattle.slicevec.specs.Held.{KeepsMemory}
use Rattle.lexer.specs.declared.Token.{Token}
use Rattle.lexer.specs.declared.Refusal.{Refusal}
use Rattle.syntax.specs.declared.grammar.Item.{Item}
use Rattle.syntax.specs.declared.grammar.Item.TheVariants.{Make, Token as one, Unless, Part as part}
use Rattle.syntax.specs.declared.grammar.Level.{Level}
use Rattle.syntax.specs.declared.grammar.Role.{Role}
use Rattle.syntax.specs.declared.grammar.Terminal.{Terminal}
use Rattle.syntax.specs.declared.grammar.Part.{Part}
use Rattle.syntax.specs.declared.grammar.Rule.{Rule}
use Rattle.syntax.specs.declared.node.Node.{Node}
use Rattle.syntax.specs.declared.node.Own.{Own}
use Rattle.syntax.specs.declared.node.Use.TheVariants.{Value}
use Rattle.syntax.specs.declared.parser.Nest.{Nest}
use Rattle.syntax.specs.declared.parser.Parser.{Parser}
use Rattle.syntax.specs.declared.refusal.Reason.{Reason}
use Rattle.syntax.specs.declared.refusal.Reason.TheVariants.{Grammar}
use Rattle.syntax.specs.Choices.{predicted}
use Rattle.syntax.specs.Derivations.{nested, marked, Frame, frame}
use Rattle.syntax.specs.Grammar.{left, right, tail}
use Rattle.syntax.specs.Laying.{Holds, Laid}
use Rattle.syntax.specs.Parsing.{place_of}
use Rattle.syntax.specs.Reaching as G
use Rattle.syntax.specs.Reaching.{Reach, other_token, barred, deep as stands_deep}
use Rattle.syntax.specs.States.{Coming, NotTaken, other, deep, Taken, Bars, owed, Running, Stops, Goes, Stepped, Ran, Went, Room, Shown}
use Rattle.syntax.specs.Table.{entries, loose}
use Rattle.syntax.specs.Terminals.{ahead}
use Rattle.syntax.specs.Trees.{Forest, bare, grown, node, join, sizes}
use Rattle.syntax.proofs.Paths.{onward, around}
use Rattle.syntax.proofs.Ranks.{at_rank, at_item, Fine, fine, Ranked, tail_ranked, behind, less}
use Rattle.syntax.proofs.Sides.{left_asked}
use Rattle.syntax.proofs.Sizes.{length_loose, loose_join}
use Rattle.syntax.proofs.Tables.{rank}
use Rattle.syntax.proofs.Thrift.{thrift_reach}

-- nothing is done
abbrev pub goes_nowhere : {p : Parser} {v : SliceVec Node} {start : ℕ} {o : Option Own} (from : Forest → Frame) (a : Running p v start o) → Goes p p v v start o o from from a
goes_nowhere from a = record { then = a; path = G.here; front = refl }

-- one thing is done and then the other
abbrev pub goes_on : {p q x : Parser} {v w y : SliceVec Node} {start : ℕ} {o1 o2 o3 : Option Own} {from mid to : Forest → Frame} {a : Running p v start o1} (g : Goes p q v w start o1 o2 from mid a) → Goes q x w y start o2 o3 mid to g.then → Goes p x v y start o1 o3 from to a
goes_on g h = record { then = h.then; path = onward g.path h.path; front = h.front ∙ g.front }

-- or the parser stops at the other
pub stops_then : {p q : Parser} {v w : SliceVec Node} {start : ℕ} {o1 o2 : Option Own} {from mid : Forest → Frame} {a : Running p v start o1} {e : Refusal Reason} (g : Goes p q v w start o1 o2 from mid a) → q.text.now ≡ p.text.now → Stops q.text.now e g.then.tokens (mid g.then.trees ∷ []) → Stops p.text.now e a.tokens (from a.trees ∷ [])
stops_then {e = e} g same s = record { tokens = s.tokens; frames = s.frames; path = onward g.path s.path; blocked = s.blocked; place = s.place ∙ ap (λ text. place_of text s.tokens) same }

-- what was few stays few along a path
few_on : {ts us : List Token} {is js : List Item} {q r : Option Part} {m n : Nest} {o p : Option Own} {e f : Forest} (start : ℕ) → Reach ts (frame is q m o e ∷ []) us (frame js r n p f ∷ []) → start + sizes e + owed o + length ts ≤ 65536 → start + sizes f + owed p + length us ≤ 65536
few_on start r few = omega (arith, thrift_reach r)

-- so many nodes were made
pub made_is : {p : Parser} {v : SliceVec Node} {start : ℕ} {o : Option Own} (a : Running p v start o) → p.made ≡ start + sizes a.trees
made_is {p} {start = start} a =
    let many = a.holds.many in
    let begins = a.begins in
    omega (arith, many, begins, length-append a.front (loose start a.trees), length_loose start a.trees)

-- a token is taken
pub token_done : {p q : Parser} {v : SliceVec Node} {start : ℕ} {own : Option Own} {l : Level} {k : Terminal} {role : Role} {n : Nest} {t : Token} → q.made ≡ p.made → Taken p q k (nested l n).depth (Ok t) → (a : Running p v start own) (is : List Item) (q' : Option Part) → Goes p q v v start own (marked role t (nested l n) own) (frame (one l k role ∷ is) q' n own) (frame is q' n (marked role t (nested l n) own)) a
token_done {p} {q} {v} {start} {own} {l} {k} {role} {n} {t} same taken a is r =
    let c = taken.1 a.tokens a.coming in
    let path : Reach a.tokens (frame (one l k role ∷ is) r n own a.trees ∷ []) c.0 (frame is r n (marked role t (nested l n) own) a.trees ∷ []) = subst (λ ts. Reach ts (frame (one l k role ∷ is) r n own a.trees ∷ []) c.0 (frame is r n (marked role t (nested l n) own) a.trees ∷ [])) (sym c.1) (G.token c.2 taken.0 G.here) in
    record {
      then = record {
        tokens = c.0;
        front = a.front;
        trees = a.trees;
        coming = c.3;
        holds = subst (λ k. Holds v k (a.front ++ loose start a.trees)) (sym same) a.holds;
        begins = a.begins;
        few = few_on start path a.few;
      };
      path = path;
      front = refl;
    }

-- or not
pub token_stops : {p : Parser} (q : Parser) {v : SliceVec Node} {start : ℕ} {own : Option Own} {l : Level} {k : Terminal} {role : Role} {n : Nest} {e : Refusal Reason} → Taken p q k (nested l n).depth (Err e) → (a : Running p v start own) (is : List Item) (r : Option Part) → Stops p.text.now e a.tokens (frame (one l k role ∷ is) r n own a.trees ∷ [])
token_stops {p} q {own = own} {l = l} {k = k} {role = role} {n = n} taken a is r = stopped (taken a.tokens a.coming)
  where
    stopped : {e : Refusal Reason} {ts : List Token} → NotTaken p.text.now k (nested l n).depth e ts → Stops p.text.now e ts (frame (one l k role ∷ is) r n own a.trees ∷ [])
    stopped {ts = ts} (other d) = record { tokens = ts; frames = _; path = G.here; blocked = λ w. other_token d; place = refl }
    stopped {ts = ts} (deep d far) = record { tokens = ts; frames = _; path = G.here; blocked = λ w. stands_deep d far; place = refl }

-- the barred terminal does not come next
pub unless_done : {p : Parser} {v : SliceVec Node} {start : ℕ} {own : Option Own} {k : Terminal} {n : Nest} (a : Running p v start own) → ahead a.tokens ≢ Some k → (is : List Item) (r : Option Part) → Goes p p v v start own own (frame (Unless k ∷ is) r n own) (frame is r n own) a
unless_done a d is r = record { then = a; path = G.unless d G.here; front = refl }

-- or it does
pub unless_stops : {p : Parser} {v : SliceVec Node} {start : ℕ} {own : Option Own} {k : Terminal} {n : Nest} {e : Refusal Reason} (a : Running p v start own) → Bars p.text.now k a.tokens (Err e) → (is : List Item) (r : Option Part) → Stops p.text.now e a.tokens (frame (Unless k ∷ is) r n own a.trees ∷ [])
unless_stops {p} {own = own} {k = k} {n = n} {e = e} a b is r =
    let at : e ≡ record { reason = Grammar; place = place_of p.text.now a.tokens } = b.1 in
    subst (λ e. Stops p.text.now e a.tokens (frame (Unless k ∷ is) r n own a.trees ∷ [])) (sym at) (record { tokens = a.tokens; frames = _; path = G.here; blocked = λ w. barred b.0; place = refl })

-- no node is made where none was begun
pub none_made : {p : Parser} {v : SliceVec Node} {start : ℕ} {n : Nest} (a : Running p v start None) (is : List Item) (r : Option Part) → Goes p p v v start None None (frame (Make ∷ is) r n None) (frame is r n None) a
none_made a is r = record { then = a; path = G.make G.here; front = refl }

-- the node that was begun is made
pub one_made : {p : Parser} {v w : SliceVec Node} {start : ℕ} {own : Own} {n : Nest} → Laid v w p.made own start → (a : Running p v start (Some own)) (is : List Item) (r : Option Part) → Goes p (record p { made = p.made + 1 }) v w start (Some own) None (frame (Make ∷ is) r n (Some own)) (frame is r n None) a
one_made {p} {w = w} {start = start} {own = own} {n = n} laid a is r =
    let tree = node own.kind own.place a.trees in
    let path : Reach a.tokens (frame (Make ∷ is) r n (Some own) a.trees ∷ []) a.tokens (frame is r n None (grown bare tree) ∷ []) = G.make G.here in
    let at : start + 0 ≡ start = omega arith in
    record {
      then = record {
        tokens = a.tokens;
        front = a.front;
        trees = grown bare tree;
        coming = record { many = a.coming.many; same = a.coming.same; next = a.coming.next };
        holds = subst (λ b. Holds w (p.made + 1) (a.front ++ entries b None Value tree)) (sym at) (laid.laid a.front a.trees a.begins a.holds);
        begins = a.begins;
        few = few_on start path a.few;
      };
      path = path;
      front = refl;
    }

-- a part begins behind all that was laid
abbrev pub inside : {p : Parser} {v : SliceVec Node} {start : ℕ} {own : Option Own} → Running p v start own → Running p v p.made None
inside {p} {v} {start} {own} a =
    let few = a.few in
    let made = made_is a in
    record {
      tokens = a.tokens;
      front = a.front ++ loose start a.trees;
      trees = bare;
      coming = a.coming;
      holds = subst (Holds v p.made) (sym (append-nil (a.front ++ loose start a.trees))) a.holds;
      begins = a.holds.many;
      few = omega arith;
    }

-- a part is complete
pub part_done : {p q : Parser} {v w : SliceVec Node} {start : ℕ} {own : Option Own} {l : Level} {k : Part} {n : Nest} (a : Running p v start own) (o : Option Own) → Goes p q v w p.made None o (frame [] (Some k) (nested l n) None) (frame [] None (nested l n) o) (inside a) → (is : List Item) (r : Option Part) → Goes p q v w start own own (frame (part l k ∷ is) r n own) (frame is r n own) a
part_done {p} {q} {v} {w} {start} {own} {l} {k} {n} a o g is r =
    let b = g.then in
    let trees = join a.trees b.trees in
    let path : Reach a.tokens (frame (part l k ∷ is) r n own a.trees ∷ []) b.tokens (frame is r n own trees ∷ []) = G.begin (onward (around g.path (frame is r n own a.trees ∷ [])) (G.leave G.here)) in
    let nodes : b.front ++ loose p.made b.trees ≡ a.front ++ loose start trees =
    ap (λ front. front ++ loose p.made b.trees) g.front
    ∙ ap (λ m. (a.front ++ loose start a.trees) ++ loose m b.trees) (made_is a)
    ∙ append_assoc a.front (loose start a.trees) (loose (start + sizes a.trees) b.trees)
    ∙ ap (λ l. a.front ++ l) (sym (loose_join start a.trees b.trees)) in
    record {
      then = record {
        tokens = b.tokens;
        front = a.front;
        trees = trees;
        coming = b.coming;
        holds = subst (Holds w q.made) nodes b.holds;
        begins = a.begins;
        few = few_on start path a.few;
      };
      path = path;
      front = refl;
    }

-- or the parser stops in it
pub part_stops : {p : Parser} {v : SliceVec Node} {start : ℕ} {own : Option Own} {l : Level} {k : Part} {n : Nest} {e : Refusal Reason} (a : Running p v start own) → Stops p.text.now e a.tokens (frame [] (Some k) (nested l n) None bare ∷ []) → (is : List Item) (r : Option Part) → Stops p.text.now e a.tokens (frame (part l k ∷ is) r n own a.trees ∷ [])
part_stops {own = own} {n = n} {e = e} a s is r =
    let w = frame is r n own a.trees ∷ [] in
    record {
      tokens = s.tokens;
      frames = s.frames ++ w;
      path = G.begin (around s.path w);
      blocked = λ x. subst (G.Blocked e.reason s.tokens) (sym (append_assoc s.frames w x)) (s.blocked (w ++ x));
      place = s.place;
    }

-- a part goes on by the rule that the next token asks for
abbrev pub chosen : {p : Parser} {v : SliceVec Node} {start : ℕ} {own : Option Own} {k : Part} {n : Nest} (r : Rule) (a : Running p v start own) → r ≡ predicted k (ahead a.tokens) → Goes p p v v start own own (frame [] (Some k) n own) (frame (right r) (tail r) n own) a
chosen r a e = record { then = a; path = G.choose e G.here; front = refl }

-- the items before some others of a rule are done
pub record Doing (p q : Parser) (v w : SliceVec Node) (r : Rule) (n : Nest) (start : ℕ) (own begun : Option Own) (is : List Item) : Type 0 where
  pub goes : (a : Running p v start own) → Goes p q v w start own begun (frame (right r) (tail r) n own) (frame is (tail r) n begun) a
  pub fine : Fine n (at_rank n (rank (left r)) + 1) is
  pub text : q.text.now ≡ p.text.now
  pub kept : KeepsMemory v w

-- a part has gone on up to another, if any
pub record Going (p q : Parser) (v w : SliceVec Node) (k : Part) (n : Nest) (next : Option Part) (own : Option Own) : Type 0 where
  pub goes : (a : Running p v p.made None) → Goes p q v w p.made None own (frame [] (Some k) n None) (frame [] next n own) a
  pub ranked : Ranked next (rank k)
  pub text : q.text.now ≡ p.text.now
  pub kept : KeepsMemory v w

pub kept_nothing : {v : SliceVec Node} → KeepsMemory v v
kept_nothing = record { size = refl; lender = refl }

pub kept_on : {v w y : SliceVec Node} → KeepsMemory v w → KeepsMemory w y → KeepsMemory v y
kept_on k l = record { size = l.size ∙ k.size; lender = l.lender ∙ k.lender }

-- no item is done
pub doing_nothing : {p : Parser} {v : SliceVec Node} {r : Rule} {n : Nest} {start : ℕ} {own : Option Own} (is : List Item) → n.depth ≤ 65 → is ≡ right r → Doing p p v v r n start own own is
doing_nothing {p} {v} {r} {n} {start} {own} is d e = subst (Doing p p v v r n start own own) (sym e) (record { goes = λ a. goes_nowhere (frame (right r) (tail r) n own) a; fine = fine r n d; text = refl; kept = kept_nothing })

-- the next of some items is the first of the others
next_item : (l : List Item) (i : ℕ) → i < length l → drop i l ≡ get_or l i Make ∷ drop (i + 1) l
next_item l i h = let more : suc i ≡ i + 1 = omega arith in drop-cons l i Make h ∙ ap (λ n. get_or l i Make ∷ drop n l) more

-- it may stand there
pub fine_next : (n : Nest) {m : ℕ} (l : List Item) (i : ℕ) → i < length l → Fine n m (drop i l) → Room (get_or l i Make) n.depth × (at_item (get_or l i Make) n < m) × (Shown (get_or l i Make) n.depth → Fine n m (drop (i + 1) l))
fine_next n {m} l i h f = subst (Fine n m) (next_item l i h) f

-- and when it is done the others are to come
pub doing_next : {p q x : Parser} {v w y : SliceVec Node} {r : Rule} {n : Nest} {start : ℕ} {own begun o : Option Own} (l : List Item) (i : ℕ) → i < length l → Doing p q v w r n start own begun (drop i l) → Stepped q x w y (get_or l i Make) n start begun (Ok o) → Shown (get_or l i Make) n.depth → x.text.now ≡ q.text.now → KeepsMemory w y → Doing p x v y r n start own o (drop (i + 1) l)
doing_next {p} {q} {x} {v} {w} {y} {r} {n} {start} {own} {begun} {o} l i h d step shown text kept = record {
  goes = λ a.
      let e : Doing p q v w r n start own begun (get_or l i Make ∷ drop (i + 1) l) = subst (Doing p q v w r n start own begun) (next_item l i h) d in
      let g = e.goes a in
      goes_on g (step g.then (drop (i + 1) l) (tail r));
  fine = (fine_next n l i h d.fine).2 shown;
  text = text ∙ d.text;
  kept = kept_on d.kept kept;
}

-- or the parser stops at it
pub doing_stops : {p q : Parser} (x : Parser) {v w : SliceVec Node} (y : SliceVec Node) {r : Rule} {n : Nest} {start : ℕ} {own begun : Option Own} {e : Refusal Reason} (l : List Item) (i : ℕ) → i < length l → Doing p q v w r n start own begun (drop i l) → Stepped q x w y (get_or l i Make) n start begun (Err e) → Ran p x v y r n start own (Err e)
doing_stops {p} {q} x {v} {w} y {r} {n} {start} {own} {begun} l i h d step = λ a.
    let e : Doing p q v w r n start own begun (get_or l i Make ∷ drop (i + 1) l) = subst (Doing p q v w r n start own begun) (next_item l i h) d in
    let g = e.goes a in
    stops_then g e.text (step g.then (drop (i + 1) l) (tail r))

-- where none is left all are done
pub doing_all : {p q : Parser} {v w : SliceVec Node} {r : Rule} {n : Nest} {start : ℕ} {own begun : Option Own} (l : List Item) (i : ℕ) → length l ≤ i → Doing p q v w r n start own begun (drop i l) → Ran p q v w r n start own (Ok begun)
doing_all {p} {q} {v} {w} {r} {n} {start} {own} {begun} l i h d = (subst (Doing p q v w r n start own begun) (drop_all i l h) d).goes

-- a part goes on from itself
pub going_first : {p : Parser} {v : SliceVec Node} {n : Nest} (k : Part) → Going p p v v k n (Some k) None
going_first {n = n} k = record { goes = λ a. goes_nowhere (frame [] (Some k) n None) a; ranked = omega arith; text = refl; kept = kept_nothing }

-- the terminal that is asked for a rule
abbrev pub Asked : Parser → Option Terminal → Type 0
Asked q m = (ts : List Token) → Coming q ts → m ≡ ahead ts

-- the rule ranks below what the part may do
pub going_falls : {p q : Parser} {v w : SliceVec Node} {k j : Part} {n : Nest} {own : Option Own} (m : Option Terminal) (r : Rule) → Going p q v w k n (Some j) own → r ≡ predicted j m → at_rank n (rank (left r)) + 1 < at_rank n (rank k) + 2
going_falls {j = j} m r d e = omega (arith, ap rank (left_asked j m r e), d.ranked)

-- the part goes on by the rule that the next token asks for, up to the rule's tail
pub going_next : {p q x : Parser} {v w y : SliceVec Node} {k j : Part} {n : Nest} {own o : Option Own} {m : Option Terminal} (r : Rule) → Going p q v w k n (Some j) own → Asked q m → r ≡ predicted j m → Ran q x w y r n p.made own (Ok o) → x.text.now ≡ q.text.now → KeepsMemory w y → Going p x v y k n (tail r) o
going_next {k = k} {j = j} {m = m} r d asked e ran text kept = record {
  goes = λ a.
      let g = d.goes a in
      let c = chosen r g.then (e ∙ ap (predicted j) (asked g.then.tokens g.then.coming)) in
      goes_on (goes_on g c) (ran g.then);
  ranked = tail_ranked r (rank k) (omega (arith, ap rank (left_asked j m r e), d.ranked));
  text = text ∙ d.text;
  kept = kept_on d.kept kept;
}

-- and takes a token if there is one
pub going_less : {p q x : Parser} {v w y : SliceVec Node} {k j : Part} {n : Nest} {own o : Option Own} (r : Rule) → Going p q v w k n (Some j) own → Running p v p.made None → Ran q x w y r n p.made own (Ok o) → behind (tail r) x.left < behind (Some j) q.left
going_less {q = q} {x = x} {j = j} r d a ran =
    let g = d.goes a in
    let h = ran g.then in
    subst (λ m. behind (tail r) x.left < suc m) (sym g.then.coming.many) (subst (λ m. behind (tail r) m < suc (length g.then.tokens)) (sym h.then.coming.many) (less r h.path))

-- or the parser stops at a rule
pub going_stops : {p q : Parser} (x : Parser) {v w : SliceVec Node} (y : SliceVec Node) {k j : Part} {n : Nest} {own : Option Own} {m : Option Terminal} {e : Refusal Reason} (r : Rule) → Going p q v w k n (Some j) own → Asked q m → r ≡ predicted j m → Ran q x w y r n p.made own (Err e) → Went p x v y k n (Err e)
going_stops x y {j = j} r d asked e ran = λ a.
    let g = d.goes a in
    let c = chosen r g.then (e ∙ ap (predicted j) (asked g.then.tokens g.then.coming)) in
    stops_then (goes_on g c) d.text (ran g.then)

-- where no part is to come it is complete
pub going_all : {p q : Parser} {v w : SliceVec Node} {k : Part} {n : Nest} {own : Option Own} (next : Option Part) → next ≡ None → Going p q v w k n next own → (a : Running p v p.made None) → (o : Option Own) × Goes p q v w p.made None o (frame [] (Some k) n None) (frame [] None n o) a
going_all {p} {q} {v} {w} {k} {n} {own} next e d = λ a. (own, (subst (λ next. Going p q v w k n next own) e d).goes a)
