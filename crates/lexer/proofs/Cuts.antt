-- A text as tokens: pieces put together, and that there is one way to cut it.
use Rattle.std.proofs.Common.{◌≡◌, ℕ, ◌+◌, ◌<◌, ◌≤◌, List, [], ◌∷◌, ◌++◌, length, drop, refl, subst, append-nil, arith, length-drop}
use Rattle.lexer.specs.Tokens.{Gap, Lexeme, Bad, Cut, nothing, a_gap, a_token}
use Rattle.lexer.specs.declared.token.Kind.{Kind}
use Rattle.lexer.specs.declared.token.Token.{Token}
use Rattle.lexer.proofs.Fronts.{gap_within, gap_one, lexeme_within, lexeme_one, gap_or_lexeme, bad_some, bad_no_gap, bad_no_lexeme}

-- what follows a part joins it
pub cut_append : {text : List ℕ} {p q r : ℕ} {ts us : List Token} → Cut text p q ts → Cut text q r us → Cut text p r (ts ++ us)
cut_append nothing d = d
cut_append (a_gap g c) d = a_gap g (cut_append c d)
cut_append (a_token x c) d = a_token x (cut_append c d)

-- blanks and comments behind a part change no token
pub gaps_after : {text : List ℕ} {p q r : ℕ} {ts : List Token} → Cut text p q ts → Cut text q r [] → Cut text p r ts
gaps_after {text} {p} {q} {r} {ts} c d = subst (Cut text p r) (append-nil ts) (cut_append c d)

pub gap_after : {text : List ℕ} {p q n : ℕ} {ts : List Token} → Cut text p q ts → Gap (drop q text) n → Cut text p (q + n) ts
gap_after c g = gaps_after c (a_gap g nothing)

-- a gap or a token at p leaves p behind and does not pass the end
pub gap_inside : (text : List ℕ) (p n : ℕ) → Gap (drop p text) n → (p < p + n) × (p + n ≤ length text)
gap_inside text p n g = let w = gap_within g in (omega arith, omega (arith, length-drop p text))

pub lexeme_inside : (text : List ℕ) (p : ℕ) (k : Kind) (n : ℕ) → Lexeme (drop p text) k n → (p < p + n) × (p + n ≤ length text)
lexeme_inside text p k n x = let w = lexeme_within x in (omega arith, omega (arith, length-drop p text))

-- a part goes onward
pub cut_onward : {text : List ℕ} {p q : ℕ} {ts : List Token} → Cut text p q ts → p ≤ q
cut_onward nothing = omega arith
cut_onward {text} {p} (a_gap {n = n} g c) = let on = cut_onward c in omega arith
cut_onward {text} {p} (a_token {n = n} x c) = let on = cut_onward c in omega arith

-- and stays within the text
pub cut_within : {text : List ℕ} {p q : ℕ} {ts : List Token} → Cut text p q ts → p ≤ length text → q ≤ length text
cut_within nothing h = h
cut_within {text} {p} (a_gap {n = n} g c) h = cut_within c (gap_inside text p n g).1
cut_within {text} {p} (a_token {n = n} {k = k} x c) h = cut_within c (lexeme_inside text p k n x).1

-- a part has one list of tokens
pub cut_one : {text : List ℕ} {p q r : ℕ} {ts us : List Token} → Cut text p q ts → Cut text p r us → q ≡ r → us ≡ ts
cut_one nothing nothing e = refl
cut_one {text} {p} nothing (a_gap {n = n} g d) e = absurd (omega (arith, gap_inside text p n g, cut_onward d))
cut_one {text} {p} nothing (a_token {n = n} {k = k} y d) e = absurd (omega (arith, lexeme_inside text p k n y, cut_onward d))
cut_one {text} {p} (a_gap {n = n} g c) nothing e = absurd (omega (arith, gap_inside text p n g, cut_onward c))
cut_one {text} {p} {q} {r} {ts} {us} (a_gap g c) (a_gap h d) e = cut_one c (subst (λ n. Cut text (p + n) r us) (gap_one h g) d) e
cut_one (a_gap g c) (a_token y d) e = absurd (gap_or_lexeme g y)
cut_one {text} {p} (a_token {n = n} {k = k} x c) nothing e = absurd (omega (arith, lexeme_inside text p k n x, cut_onward c))
cut_one (a_token x c) (a_gap h d) e = absurd (gap_or_lexeme h x)
cut_one {text} {p} {q} {r} (a_token x c) (a_token {ts = vs} y d) e =
    let same = lexeme_one y x in
    let rest = cut_one c (subst (λ n. Cut text (p + n) r vs) same.1 d) e in
    λ i. record { kind = same.0 i; place = p; len = same.1 i } ∷ rest i

-- a text that cannot go on at some place has no list of tokens
pub cut_stops : {text : List ℕ} {p q end number : ℕ} {ts us : List Token} → Cut text p q ts → Bad (drop q text) number → end ≡ length text → Cut text p end us → ⊥
cut_stops {text} {p} nothing b e nothing = omega (arith, bad_some (drop p text) b, length-drop p text)
cut_stops nothing b e (a_gap h d) = bad_no_gap b h
cut_stops nothing b e (a_token y d) = bad_no_lexeme b y
cut_stops {text} {p} {q} (a_gap {n = n} g c) b e nothing = omega (arith, gap_inside text p n g, cut_onward c, bad_some (drop q text) b, length-drop q text)
cut_stops {text} {p} {q} {end} {number} {ts} {us} (a_gap g c) b e (a_gap h d) = cut_stops c b e (subst (λ n. Cut text (p + n) end us) (gap_one h g) d)
cut_stops (a_gap g c) b e (a_token y d) = gap_or_lexeme g y
cut_stops {text} {p} {q} (a_token {n = n} {k = k} x c) b e nothing = omega (arith, lexeme_inside text p k n x, cut_onward c, bad_some (drop q text) b, length-drop q text)
cut_stops (a_token x c) b e (a_gap h d) = gap_or_lexeme h x
cut_stops {text} {p} {q} {end} (a_token x c) b e (a_token {ts = vs} y d) = cut_stops c b e (subst (λ n. Cut text (p + n) end vs) (lexeme_one y x).1 d)
