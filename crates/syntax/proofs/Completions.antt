-- What the parser has read begins a program.
use Rattle.std.proofs.Common.{◌≡◌, ℕ, ◌≤◌, List, [], ◌∷◌, ◌++◌, length, Some, None, Option, sym, refl, ◌∙◌, subst, append_assoc, arith}
use mathlib.Core.List.{append_cancel_right}
use Rattle.std.proofs.lemmas.List.{length-append, length_push}
use Rattle.lexer.specs.declared.Token.{Token}
use Rattle.syntax.specs.declared.node.Own.{Own}
use Rattle.syntax.specs.declared.parser.Nest.{Nest}
use Rattle.syntax.specs.declared.grammar.Terminal.{Terminal}
use Rattle.syntax.specs.declared.grammar.Part.{Part}
use Rattle.syntax.specs.declared.grammar.Part.TheVariants as P
use Rattle.syntax.specs.declared.grammar.Level.{Level}
use Rattle.syntax.specs.declared.grammar.Role.{Role}
use Rattle.syntax.specs.declared.grammar.Item.{Item}
use Rattle.syntax.specs.declared.grammar.Item.TheVariants.{Token as one}
use Rattle.syntax.specs.declared.refusal.Reason.TheVariants.{Depth}
use Rattle.syntax.specs.Terminals.{terminal_of}
use Rattle.syntax.specs.Trees.{Forest, bare}
use Rattle.syntax.specs.Derivations.{nested, marked, Frame, frame, Derives, token, outermost, Program}
use Rattle.syntax.specs.Parsing.{Shallow}
use Rattle.syntax.specs.Reaching.{Reach, Blocked, deep}
use Rattle.syntax.proofs.Filling.{Plain, complete}
use Rattle.syntax.proofs.Arrivals.{plain_plainish, reach_plainish, Last, still, took, last}
use Rattle.syntax.proofs.Laws.{start, depths, shallow, counted, derived}
use Rattle.syntax.proofs.Paths.{passed}

-- a program begins with these tokens, and none of them stands too deep
abbrev Begun : List Token → Type 0
Begun before = (more : List Token) × (f : Forest) × (es : List ℕ) × (fs : List ℕ) × Program (before ++ more) f (es ++ fs) × (length es ≡ length before) × Shallow es

-- one depth more
shallow_push : (ds : List ℕ) (d : ℕ) → Shallow ds → d ≤ 64 → Shallow (ds ++ d ∷ [])
shallow_push [] d t w = (w, tt)
shallow_push (e ∷ ds) d t w = (t.0, shallow_push ds d t.1 w)

-- a way from plain frames to a token that fits, then that token, and then others that complete all
record Passed (before : List Token) (t : Token) (d : ℕ) (s : List Frame) : Type 0 where
  more : List Token
  trees : Forest
  passed_by : List ℕ
  behind : List ℕ
  program : Derives (before ++ t ∷ more) s trees (passed_by ++ d ∷ behind)
  shallow : Shallow passed_by
  long : length passed_by ≡ length before

pass : {t : Token} {ts us : List Token} {l : Level} {k : Terminal} {role : Role} {is : List Item} {q : Option Part} {n : Nest} {o : Option Own} {f : Forest} {s u : List Frame} → Plain s → (r : Reach ts s (t ∷ us) (frame (one l k role ∷ is) q n o f ∷ u)) → terminal_of t.kind ≡ Some k → Passed (passed r).0 t (nested l n).depth s
pass {t} {l = l} {role = role} {is = is} {q = q} {n = n} {o = o} {f = f} {s = s} {u = u} plainly r e =
    let c = complete is q n (marked role t (nested l n) o) f u (reach_plainish (plain_plainish s plainly) r) in
    let a = (passed r).2 (t ∷ c.0) refl in
    record {
      more = c.0;
      trees = c.1;
      passed_by = depths a;
      behind = c.2;
      program = derived a (token e c.3);
      shallow = shallow a;
      long = omega (arith, counted a, length-append (passed r).0 (t ∷ c.0));
    }

-- all the tokens of a way, up to the last one, begin a program
begun : {ts us : List Token} (before : List Token) → ts ≡ before ++ us → Last ts start us → Begun before
begun {ts} before e still =
    let none : [] ≡ before = append_cancel_right [] before ts e in
    let c = complete [] (Some P.Program) outermost None bare [] (refl, tt) in
    subst Begun none (c.0, c.1, [], c.2, c.3, refl, tt)
begun {us = us} before e (took {t = t} {l = l} {n = n} fits w r) =
    let p = passed r in
    let d = (nested l n).depth in
    let c = pass (refl, tt) r fits in
    let all : p.0 ++ t ∷ [] ≡ before = append_cancel_right (p.0 ++ t ∷ []) before us (append_assoc p.0 (t ∷ []) us ∙ sym p.1 ∙ e) in
    subst Begun all (
      c.more,
      c.trees,
      c.passed_by ++ d ∷ [],
      c.behind,
      rw (append_assoc p.0 (t ∷ []) c.more, append_assoc c.passed_by (d ∷ []) c.behind) c.program,
      omega (arith, length_push c.passed_by d, length_push p.0 t, c.long),
      shallow_push c.passed_by d c.shallow w,
    )

-- the tokens that are taken begin a program
pub some_stuck : (before rest : List Token) (u : List Frame) → Reach (before ++ rest) start rest u → Begun before
some_stuck before rest u r = begun before refl (last r)

-- and so do they with a token that fits but stands too deep
pub some_deep : (before rest : List Token) (t : Token) (u : List Frame) → Reach (before ++ t ∷ rest) start (t ∷ rest) u → Blocked Depth (t ∷ rest) u → (more : List Token) × (f : Forest) × (ds : List ℕ) × Program (before ++ t ∷ more) f ds
some_deep before rest t _ r (deep {l = l} {n = n} fits w) =
    let d = (nested l n).depth in
    let c = pass (refl, tt) r fits in
    let same : (passed r).0 ≡ before = append_cancel_right (passed r).0 before (t ∷ rest) (sym (passed r).1) in
    (c.more, c.trees, c.passed_by ++ d ∷ c.behind, subst (λ ts. Program (ts ++ t ∷ c.more) c.trees (c.passed_by ++ d ∷ c.behind)) same c.program)
