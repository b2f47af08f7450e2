-- Paths of the parser: one after the other, under more frames, and over other tokens behind.
use Rattle.std.proofs.Common.{◌≡◌, List, [], ◌∷◌, ◌++◌, sym, refl, ap, ◌∙◌, subst}
use mathlib.Core.List.{append_cancel_right}
use Rattle.lexer.specs.declared.Token.{Token}
use Rattle.syntax.specs.Terminals.{ahead}
use Rattle.syntax.specs.Choices.{predicted}
use Rattle.syntax.specs.Derivations.{Frame}
use Rattle.syntax.specs.Reaching.{Reach, here, token, unless, begin, make, choose, leave}

-- one path and then the other
pub onward : {ts us vs : List Token} {s u w : List Frame} → Reach ts s us u → Reach us u vs w → Reach ts s vs w
onward here b = b
onward (token e d a) b = token e d (onward a b)
onward (unless e a) b = unless e (onward a b)
onward (begin a) b = begin (onward a b)
onward (make a) b = make (onward a b)
onward (choose e a) b = choose e (onward a b)
onward (leave a) b = leave (onward a b)

-- a path goes the same way with more frames around
pub around : {ts us : List Token} {s u : List Frame} → Reach ts s us u → (w : List Frame) → Reach ts (s ++ w) us (u ++ w)
around here w = here
around (token e d a) w = token e d (around a w)
around (unless e a) w = unless e (around a w)
around (begin a) w = begin (around a w)
around (make a) w = make (around a w)
around (choose e a) w = choose e (around a w)
around (leave a) w = leave (around a w)

-- the next token is the same behind the same tokens
pub ahead_same : (before us vs : List Token) → ahead vs ≡ ahead us → ahead (before ++ vs) ≡ ahead (before ++ us)
ahead_same [] us vs h = h
ahead_same (t ∷ before) us vs h = refl

-- a path passes some tokens, and goes the same way over them before any other tokens that begin alike
pub passed : {ts us : List Token} {s u : List Frame} → Reach ts s us u → (before : List Token) × (ts ≡ before ++ us) × ((vs : List Token) → ahead vs ≡ ahead us → Reach (before ++ vs) s vs u)
passed here = ([], refl, λ vs h. here)
passed (token {t = t} e d a) = let p = passed a in (t ∷ p.0, ap {B = List Token} (λ ts. t ∷ ts) p.1, λ vs h. token e d (p.2 vs h))
passed (unless {us = us} e a) = let p = passed a in (p.0, p.1, λ vs h. unless (λ x. e (ap ahead p.1 ∙ sym (ahead_same p.0 us vs h) ∙ x)) (p.2 vs h))
passed (begin a) = let p = passed a in (p.0, p.1, λ vs h. begin (p.2 vs h))
passed (make a) = let p = passed a in (p.0, p.1, λ vs h. make (p.2 vs h))
passed (choose {us = us} {p = q} e a) = let p = passed a in (p.0, p.1, λ vs h. choose (e ∙ ap (predicted q) (ap ahead p.1 ∙ sym (ahead_same p.0 us vs h))) (p.2 vs h))
passed (leave a) = let p = passed a in (p.0, p.1, λ vs h. leave (p.2 vs h))

-- the same from tokens given as those passed and the rest
pub elsewhere : (before us vs : List Token) {s u : List Frame} → Reach (before ++ us) s us u → ahead vs ≡ ahead us → Reach (before ++ vs) s vs u
elsewhere before us vs {s} {u} a h = let p = passed a in subst (λ ts. Reach (ts ++ vs) s vs u) (append_cancel_right p.0 before us (sym p.1)) (p.2 vs h)
