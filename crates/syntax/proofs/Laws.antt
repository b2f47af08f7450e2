-- The laws of the parser's paths: what they derive, that nothing else can be derived, and what it means that one is blocked.
use Rattle.std.proofs.Common.{◌≡◌, ℕ, ◌+◌, ◌<◌, List, [], ◌∷◌, ◌++◌, length, Some, None, Option, sym, refl, ap, ◌∙◌, subst, append-nil, arith, length-append}
use Rattle.lexer.specs.declared.Token.{Token}
use Rattle.syntax.specs.Terminals.{ahead}
use Rattle.syntax.specs.Grammar.{right, tail}
use Rattle.syntax.specs.Derivations.{nested, Frame, frame, Derives, finish, token, unless, begin, make, choose, leave, outermost, Program}
use Rattle.syntax.specs.Parsing.{Shallow, through}
use Rattle.syntax.specs.Reaching.{Reach, here, token as t_step, unless as u_step, begin as b_step, make as m_step, choose as c_step, leave as l_step, Blocked, other_token, barred, left_over, deep}
use Rattle.syntax.specs.Trees.{Forest, bare}
use Rattle.syntax.specs.declared.node.Own.{Own}
use Rattle.syntax.specs.declared.parser.Nest.{Nest}
use Rattle.syntax.specs.declared.grammar.Part.TheVariants as P
use Rattle.syntax.specs.declared.refusal.Reason.TheVariants.{Grammar, Depth}
use Rattle.syntax.proofs.Sides.{left_asked}
use Rattle.syntax.proofs.First.{Fit, fit_start, fit_begin, fit_choose, asked}
use Rattle.syntax.proofs.Paths.{elsewhere}

-- the frames at the start of a recipe
abbrev pub start : List Frame
start = frame [] (Some P.Program) outermost None bare ∷ []

-- the depths of the tokens that a path passes
abbrev pub depths : {ts us : List Token} {s u : List Frame} → Reach ts s us u → List ℕ
depths here = []
depths (t_step {l = l} {n = n} e d a) = (nested l n).depth ∷ depths a
depths (u_step e a) = depths a
depths (b_step a) = depths a
depths (m_step a) = depths a
depths (c_step e a) = depths a
depths (l_step a) = depths a

-- none of them stands too deep
pub shallow : {ts us : List Token} {s u : List Frame} (a : Reach ts s us u) → Shallow (depths a)
shallow here = tt
shallow (t_step e d a) = (d, shallow a)
shallow (u_step e a) = shallow a
shallow (b_step a) = shallow a
shallow (m_step a) = shallow a
shallow (c_step e a) = shallow a
shallow (l_step a) = shallow a

-- there are as many as tokens passed
pub counted : {ts us : List Token} {s u : List Frame} (a : Reach ts s us u) → length (depths a) + length us ≡ length ts
counted here = omega arith
counted (t_step e d a) = omega (arith, counted a)
counted (u_step e a) = counted a
counted (b_step a) = counted a
counted (m_step a) = counted a
counted (c_step e a) = counted a
counted (l_step a) = counted a

-- a path and a derivation behind it make a derivation
pub derived : {ts us : List Token} {s u : List Frame} {f : Forest} {ds : List ℕ} (a : Reach ts s us u) → Derives us u f ds → Derives ts s f (depths a ++ ds)
derived here b = b
derived (t_step e d a) b = token e (derived a b)
derived (u_step e a) b = unless e (derived a b)
derived (b_step a) b = begin (derived a b)
derived (m_step a) b = make (derived a b)
derived (c_step {ts = ts} {p = p} {r = r} e a) b = choose r (left_asked p (ahead ts) r e) (derived a b)
derived (l_step a) b = leave (derived a b)

-- a derivation goes along every path
pub along : {ts us : List Token} {s u : List Frame} {f : Forest} {ds : List ℕ} → Fit s → (a : Reach ts s us u) → Derives ts s f ds → (es : List ℕ) × (ds ≡ depths a ++ es) × Derives us u f es
along {ds = ds} h here b = (ds, refl, b)
along h (t_step {l = l} {n = n} e d a) (token e' b) = let p = along (record { at = h.at }) a b in (p.0, ap {B = List ℕ} (λ ds. (nested l n).depth ∷ ds) p.1, p.2)
along h (u_step e a) (unless e' b) = along (record { at = h.at }) a b
along h (b_step a) (begin b) = along (fit_begin h) a b
along h (m_step a) (make b) = along (record { at = h.at }) a b
along {f = g} {ds = ds} h (c_step {ts = ts} {p = p} {n = n} {o = o} {f = f} {s = s} {r = r} e a) (choose r' e' b) = along (fit_choose r (left_asked p (ahead ts) r e) h) a (subst (λ x. Derives ts (frame (right x) (tail x) n o f ∷ s) g ds) (asked r' e' h b ∙ sym e) b)
along h (l_step a) (leave b) = along (record { at = h.at }) a b

-- where no token is left and the outermost part is complete, nothing is left to derive
ended : {n : Nest} {o : Option Own} {f g : Forest} {ds : List ℕ} → Derives [] (frame [] None n o f ∷ []) g ds → (g ≡ f) × (ds ≡ [])
ended finish = (refl, refl)

-- a path of a whole recipe derives its trees
pub sound : {ts : List Token} {n : Nest} {o : Option Own} {f : Forest} → Reach ts start [] (frame [] None n o f ∷ []) → (ds : List ℕ) × Program ts f ds × Shallow ds
sound {ts} {f = f} a = (depths a, subst (Program ts f) (append-nil (depths a)) (derived a finish), shallow a)

-- every derivation of that recipe has the depths of the path
same_depths : {ts : List Token} {n : Nest} {o : Option Own} {f g : Forest} {es : List ℕ} (a : Reach ts start [] (frame [] None n o f ∷ [])) → Program ts g es → es ≡ depths a
same_depths a b = let p = along fit_start a b in p.1 ∙ ap (λ ds. depths a ++ ds) (ended p.2).1 ∙ append-nil (depths a)

-- so there is one derivation
pub only : {ts : List Token} {n : Nest} {o : Option Own} {f g : Forest} {ds es : List ℕ} → Reach ts start [] (frame [] None n o f ∷ []) → Program ts g es → Program ts f ds → (g ≡ f) × (es ≡ ds)
only a b c = ((ended (along fit_start a b).2).0, same_depths a b ∙ sym (same_depths a c))

-- the next token is the same with others behind it
through_ahead : (rest more : List Token) → ahead (through rest more) ≡ ahead rest
through_ahead [] more = refl
through_ahead (t ∷ rest) more = refl

-- nothing is derived from where the grammar does not go on
blocked : (rest more : List Token) {u : List Frame} {f : Forest} {ds : List ℕ} → Blocked Grammar rest u → Derives (through rest more) u f ds → ⊥
blocked [] more (other_token e) b = elim b [ ]
blocked (t ∷ rest) more (other_token e) (token e' b) = e e'
blocked [] more (barred e) (unless e' b) = e' e
blocked (t ∷ rest) more (barred e) (unless e' b) = e' e
blocked (t ∷ rest) more left_over b = elim b [ ]

-- so no program begins with the tokens passed and the next one
pub none : (before rest : List Token) {u : List Frame} → Reach (before ++ rest) start rest u → Blocked Grammar rest u → (more : List Token) (f : Forest) (ds : List ℕ) → Program (before ++ through rest more) f ds → ⊥
none before rest a x more f ds b = blocked rest more x (along fit_start (elsewhere before rest (through rest more) a (through_ahead rest more)) b).2

-- from where the next token stands too deep, it does in each derivation
too_deep : {t : Token} {ts us : List Token} {u : List Frame} {f : Forest} {ds : List ℕ} → Blocked Depth (t ∷ ts) u → Derives (t ∷ us) u f ds → (d : ℕ) × (fs : List ℕ) × (ds ≡ d ∷ fs) × (64 < d)
too_deep (deep {l = l} {n = n} e far) (token {ds = ds} e' b) = ((nested l n).depth, ds, refl, far)

-- so it does in each program that begins with the tokens passed and it
pub each : (before rest : List Token) (t : Token) {u : List Frame} → Reach (before ++ t ∷ rest) start (t ∷ rest) u → Blocked Depth (t ∷ rest) u → (more : List Token) (f : Forest) (ds : List ℕ) → Program (before ++ t ∷ more) f ds → (es : List ℕ) × (d : ℕ) × (fs : List ℕ) × (ds ≡ es ++ d ∷ fs) × (length es ≡ length before) × Shallow es × (64 < d)
each before rest t a x more f ds b =
    let c = elsewhere before (t ∷ rest) (t ∷ more) a refl in
    let p = along fit_start c b in
    let q = too_deep x p.2 in
    (depths c, q.0, q.1, p.1 ∙ ap (λ es. depths c ++ es) q.2, omega (arith, counted c, length-append before (t ∷ more)), shallow c, q.3)
