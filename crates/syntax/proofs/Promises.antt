-- What the parser promises of a whole text, from where it came.
use Rattle.std.proofs.Common.{◌≡◌, ℕ, ◌+◌, ◌<◌, ◌≤◌, List, [], ◌∷◌, ◌++◌, length, Some, None, Ok, Err, Option, Result, MatchResult, sym, ap, ◌∙◌, subst, append-nil, arith, length-take}
use Rattle.lexer.specs.Tokens.{Cut, nothing, a_gap, a_token}
use Rattle.lexer.specs.Scan.{Accepted, Scanned}
use Rattle.lexer.specs.declared.Token.{Token}
use Rattle.lexer.specs.declared.Refusal.{Refusal}
use Rattle.lexer.specs.declared.Reason.{Reason as Lexical}
use Rattle.lexer.proofs.Cuts.{lexeme_inside}
use Rattle.slicevec.specs.declared.SliceVec.{SliceVec}
use Rattle.slicevec.specs.Held.{held, room, memory}
use Rattle.syntax.specs.declared.node.Node.{Node}
use Rattle.syntax.specs.declared.node.Own.{Own}
use Rattle.syntax.specs.declared.parser.Nest.{Nest}
use Rattle.syntax.specs.declared.parser.Parser.{Parser}
use Rattle.syntax.specs.declared.refusal.Reason.{Reason}
use Rattle.syntax.specs.declared.refusal.Reason.TheVariants.{Grammar, Depth}
use Rattle.syntax.specs.declared.refusal.Reason.TheVariants as Words
use Rattle.syntax.specs.Derivations.{Frame, frame}
use Rattle.syntax.specs.Parsing.{Reads, Stuck, TooDeep, NoTree, no_tokens, cannot_go_on, too_deep, too_many, place_of, Parsed}
use Rattle.syntax.specs.Reaching.{Reach, Blocked, other_token, barred, left_over, deep}
use Rattle.syntax.specs.Refusals.{number_of}
use Rattle.syntax.specs.States.{Coming, Running, Stops}
use Rattle.syntax.specs.Laying.{Holds}
use Rattle.syntax.specs.Table.{loose}
use Rattle.syntax.specs.Trees.{Forest, bare, sizes}
use Rattle.syntax.proofs.Completions.{some_stuck, some_deep}
use Rattle.syntax.proofs.Laws.{start, sound, only, none, each}
use Rattle.syntax.proofs.Paths.{passed}
use Rattle.syntax.proofs.Sizes.{length_loose}
use Rattle.syntax.proofs.Taking.{first_is, none_is}
use Rattle.syntax.proofs.Thrift.{thrift}

-- there are at most as many tokens as bytes
few_tokens : {text : List ℕ} {p q : ℕ} {ts : List Token} → Cut text p q ts → p + length ts ≤ q
few_tokens nothing = omega arith
few_tokens {p = p} (a_gap {n = n} g c) = omega (arith, few_tokens c)
few_tokens {text} {p = p} (a_token {n = n} {k = k} x c) = omega (arith, few_tokens c, lexeme_inside text p k n x)

-- so there are at most 65,536
pub tokens_few : {text : List ℕ} {ts : List Token} → Accepted text ts → length ts ≤ 65536
tokens_few a = omega (arith, few_tokens a.cut, a.short)

-- how many tokens there are, as an answer of the parser
abbrev count : ℕ → Result ℕ (Refusal Reason)
count n = Ok n

-- an accepted text, by what the lexer counted
pub scanned : {text : List ℕ} {n : ℕ} (Q : Refusal Lexical → Type 0) (r : Result ℕ (Refusal Lexical)) → Scanned text r → MatchResult r (λ x. count n ≡ Ok x) Q → ((x : Refusal Lexical) → Q x → ⊥) → (ts : List Token) × Accepted text ts × (n ≡ length ts)
scanned Q (Ok m) s e none = (s.0, s.1, cc)
scanned Q (Err x) s e none = absurd (none x e)

-- a refused text, by the lexer's refusal in the parser's words
pub unscanned : {text : List ℕ} {e : Refusal Reason} (n : ℕ) (Q : Refusal Lexical → Type 0) (r : Result ℕ (Refusal Lexical)) → Scanned text r → MatchResult r (λ x. Err e ≡ Ok x) Q → ((x : Refusal Lexical) → Q x → (e.reason ≡ Words.Lexical x.reason) × (e.place ≡ x.place)) → NoTree text n (number_of e.reason) e.place
unscanned n Q (Ok m) s e told = absurd (cc)
unscanned n Q (Err x) s e told = let t = told x e in rw (t.0, t.1) (no_tokens s)

-- where the grammar cannot go on, it cannot by any way
stuck : (before rest : List Token) (u : List Frame) → Reach (before ++ rest) start rest u → Blocked Grammar rest u → Stuck before rest
stuck before rest u r b = record { some = some_stuck before rest u r; none = none before rest r b }

-- where a token stands too deep, it does in every program
pub too_deep_there : (before rest : List Token) (t : Token) (u : List Frame) → Reach (before ++ t ∷ rest) start (t ∷ rest) u → Blocked Depth (t ∷ rest) u → TooDeep before t
too_deep_there before rest t u r b = record { some = some_deep before rest t u r b; each = each before rest t r b }

-- so a text has no tree where the parser is blocked
at_stop : (text : List ℕ) (n : ℕ) (before rest : List Token) (u : List Frame) (r : Reason) → Accepted text (before ++ rest) → Reach (before ++ rest) start rest u → Blocked r rest u → NoTree text n (number_of r) (place_of text rest)
at_stop text n before rest u _ a w (other_token e) = cannot_go_on before rest a (stuck before rest u w (other_token e))
at_stop text n before rest u _ a w (barred e) = cannot_go_on before rest a (stuck before rest u w (barred e))
at_stop text n before rest u _ a w left_over = cannot_go_on before rest a (stuck before rest u w left_over)
at_stop text n before (t ∷ rest) u _ a w (deep e d) = too_deep before rest t a (too_deep_there before rest t u w (deep e d))

-- and so where it is on its way through a recipe
halted : {text : List ℕ} {ts us : List Token} {u : List Frame} {r : Reason} (n : ℕ) → Accepted text ts → Reach ts start us u → Blocked r us u → NoTree text n (number_of r) (place_of text us)
halted {text} {us = us} {u = u} {r = r} n a w b =
    let p = passed w in
    at_stop text n p.0 us u r (subst (Accepted text) p.1 a) (subst (λ ts. Reach ts start us u) p.1 w) b

-- where the parser stops
pub stopped : {text : List ℕ} {ts : List Token} {e : Refusal Reason} (n : ℕ) → Accepted text ts → Stops text e ts start → NoTree text n (number_of e.reason) e.place
stopped {text} {e = e} n a s = subst (NoTree text n (number_of e.reason)) (sym s.place) (halted n a s.path (subst (Blocked e.reason s.tokens) (append-nil s.frames) (s.blocked [])))

-- where the recipe is complete, but a token is left
pub left : {text : List ℕ} {ts us : List Token} {q : Parser} {t : Token} {m : Nest} {o : Option Own} {f : Forest} (n : ℕ) → Accepted text ts → Reach ts start us (frame [] None m o f ∷ []) → Coming q us → q.ahead ≡ Some t → NoTree text n 5 t.place
left {ts = ts} {m = m} {o = o} {f = f} n a r c e = halted n a (subst (λ us. Reach ts start us (frame [] None m o f ∷ [])) (first_is c.next e).1 r) left_over

-- the recipe is complete, and no token is left
pub reads : {ts : List Token} {m : Nest} {o : Option Own} {f : Forest} → Reach ts start [] (frame [] None m o f ∷ []) → Reads ts f
reads r = let p = sound r in record { depths = p.0; derived = p.1; shallow = p.2; only = λ g es d. only r d p.1; few = omega (arith, thrift p.1) }

-- so it is where the parser has no next token
pub complete : {ts us : List Token} {q : Parser} {m : Nest} {o : Option Own} {f : Forest} → Reach ts start us (frame [] None m o f ∷ []) → Coming q us → q.ahead ≡ None → Reads ts f
complete {ts} {m = m} {o = o} {f = f} r c e = reads (subst (λ us. Reach ts start us (frame [] None m o f ∷ [])) (none_is c.next e) r)

-- a parser at the start of a recipe, whose table is empty
abbrev pub begun : {p : Parser} {v : SliceVec Node} {ts : List Token} → p.made ≡ 0 → held v ≡ [] → length ts ≤ 65536 → Coming p ts → Running p v p.made None
begun {p} {ts = ts} zero empty few coming = record {
  tokens = ts;
  front = [];
  trees = bare;
  coming = coming;
  holds = record { many = sym zero; stored = λ _. empty };
  begins = sym zero;
  few = omega (arith, zero, few);
}

-- what the table holds in the end: all trees, if there is room
pub all_held : {w : SliceVec Node} {made start : ℕ} {front : List Node} (f : Forest) → start ≡ 0 → front ≡ [] → Holds w made (front ++ loose start f) → Holds w made (loose 0 f)
all_held {w} {made} {start} {front} f first empty h = subst (λ n. Holds w made (loose n f)) first (subst (λ front. Holds w made (front ++ loose start f)) empty h)

-- no more entries are taken than there are
held_few : (w : SliceVec Node) → length (held w) ≤ length (memory w)
held_few w = omega (arith, length-take w.taken (memory w))

module _ {text : List ℕ} {ts : List Token} {w : SliceVec Node} {made n : ℕ} (f : Forest) (a : Accepted text ts) (r : Reads ts f) (h : Holds w made (loose 0 f)) (size : room w ≡ n) where
  -- so many nodes were made
  made_is : made ≡ sizes f
  made_is = sym h.many ∙ length_loose 0 f

  -- as many entries are taken as nodes were made: the table holds the trees
  pub there : made ≤ length (held w) → Parsed text n (Ok made) (held w)
  there all =
      let fits : made ≤ room w = omega (arith, tokens_few a, r.few, held_few w, made_is, all) in
      (ts, f, a, r, made_is, omega (arith, size, fits), h.stored (omega (arith, h.many, fits)))

  -- fewer are taken: there was no room
  pub full : length (held w) < made → NoTree text n 7 0
  full fewer =
      let no_room : made ≤ room w → ⊥ = λ le. absurd (omega (arith, ap length (h.stored (omega (arith, h.many))), h.many)) in
      too_many a r (omega (arith, made_is, size, no_room))
