-- The next token is taken from those still to come.
use Rattle.std.proofs.Common.{◌≡◌, ◌≢◌, ℕ, ◌+◌, ◌-◌, ◌<◌, List, [], ◌∷◌, length, drop, Some, Ok, Err, Result, IsErr, MatchOption, MatchResult, sym, refl, ap, ◌∙◌, subst, arith, None, Option}
use Rattle.lexer.specs.Tokens.{Lexeme, Cut, nothing, a_gap, a_token}
use Rattle.lexer.specs.Scan.{Next as LexerNext, then_token, then_end, NoNext, then_bad}
use Rattle.lexer.specs.Stream.{Step, Yields}
use Rattle.std.specs.Option.{option_transpose}
use Rattle.std.specs.Result.{result_ok}
use Rattle.lexer.specs.declared.token.Kind.{Kind}
use Rattle.lexer.specs.declared.token.Kind.TheVariants.{End}
use Rattle.lexer.specs.declared.token.Token.{Token}
use Rattle.lexer.specs.declared.Refusal.{Refusal}
use Rattle.lexer.specs.declared.Tokens.{Tokens}
use Rattle.lexer.specs.declared.Reason.{Reason as Lexical}
use Rattle.lexer.proofs.Fronts.{gap_one, lexeme_one, gap_or_lexeme, lexeme_no_end}
use Rattle.lexer.proofs.Cuts.{gap_inside, lexeme_inside, cut_onward, cut_within, cut_one, cut_stops}
use Rattle.syntax.specs.declared.grammar.Terminal.{Terminal}
use Rattle.syntax.specs.declared.parser.Parser.{Parser}
use Rattle.syntax.specs.declared.refusal.Reason.{Reason}
use Rattle.syntax.specs.declared.refusal.Reason.TheVariants.{Grammar, Depth}
use Rattle.syntax.specs.Parsing.{place_of}
use Rattle.syntax.specs.Terminals.{terminal_of, ahead}
use Rattle.syntax.specs.States.{Next, last, more, Coming, NotTaken, other, deep, Taken}

-- a token that stands after gaps is the first of those that the text has from there on
first_cut : {text : List ℕ} {p q r n : ℕ} {k : Kind} {us : List Token} → Cut text p q [] → Lexeme (drop q text) k n → r ≡ length text → Cut text p r us → (vs : List Token) × (us ≡ record { kind = k; place = q; len = n } ∷ vs) × Cut text (q + n) r vs
first_cut {text} {p} {q} {r} {n} {k} nothing x h nothing = absurd (omega (arith, lexeme_inside text p k n x, h))
first_cut nothing x h (a_gap g d) = absurd (gap_or_lexeme g x)
first_cut {text} {p} {q} {r} nothing x h (a_token {ts = vs} y d) =
    let same = lexeme_one y x in
    (vs, λ i. record { kind = same.0 i; place = p; len = same.1 i } ∷ vs, subst (λ n. Cut text (p + n) r vs) same.1 d)
first_cut {text} {p} {q} {r} {n} {k} (a_gap {n = m} g c) x h nothing = absurd (omega (arith, gap_inside text p m g, cut_onward c, lexeme_inside text q k n x, h))
first_cut {text} {p} {q} {r} {n} {k} {us} (a_gap g c) x h (a_gap i d) = first_cut c x h (subst (λ m. Cut text (p + m) r us) (gap_one i g) d)
first_cut (a_gap g c) x h (a_token y d) = absurd (gap_or_lexeme g y)

-- a token that the lexer finds is the first of those that the text has from there on
next_token : {text : List ℕ} {at : ℕ} {t : Token} {us : List Token} → LexerNext text at t → t.kind ≢ End → Cut text at (length text) us → Next text (t.place + t.len) (Some t) us
next_token {text} (then_token {p = p} {n = n} {k = k} c x) not_end d =
    let f = first_cut c x refl d in
    subst (Next text (p + n) (Some (record { kind = k; place = p; len = n }))) (sym f.1) (more f.2)
next_token (then_end c over) not_end d = absurd (not_end refl)

-- where it finds the end, the text has none
next_end : {text : List ℕ} {at : ℕ} {t : Token} {us : List Token} → LexerNext text at t → t.kind ≡ End → Cut text at (length text) us → us ≡ []
next_end (then_token c x) e d = absurd (lexeme_no_end x e)
next_end (then_end c over) e d = sym (cut_one d c (omega (arith, cut_within c (cut_onward d))))

-- one step of the lexer's iterator, with the refusal first
next_of : {text : List ℕ} {at after : ℕ} {us : List Token} {o : Option Token} (item : Option (Result Token (Refusal Lexical))) → Step text at item after → Cut text at (length text) us → option_transpose item ≡ Ok o → Next text after o us
next_of {o = o} None s d e = let same : o ≡ None = cc in rw (same, next_end s.0.1 s.0.2 d) last
next_of {o = o} (Some (Ok t)) s d e = let same : o ≡ Some t = cc in rw (same, s.2) (next_token s.0 s.1 d)
next_of (Some (Err x)) s d e = absurd (cc)

-- it gives no refusal where the text has tokens
refused_not : {text : List ℕ} {at number place : ℕ} {us : List Token} → NoNext text at number place → Cut text at (length text) us → ⊥
refused_not (then_bad c b) d = cut_stops c b refl d

never_refused : {text : List ℕ} {at : ℕ} {us : List Token} {x : Refusal Lexical} (after : ℕ) (item : Option (Result Token (Refusal Lexical))) → Step text at item after → Cut text at (length text) us → option_transpose item ≡ Err x → ⊥
never_refused after None s d e = cc
never_refused after (Some (Ok t)) s d e = cc
never_refused after (Some (Err y)) s d e = refused_not s.0 d

-- the same where a refusal would be no token
pub first_of : {text : List ℕ} {at after : ℕ} {us : List Token} {o : Option Token} (Q : Result Token (Refusal Lexical) → Type 0) (item : Option (Result Token (Refusal Lexical))) → Step text at item after → Cut text at (length text) us → MatchOption item (o ≡ None) Q → ((r : Result Token (Refusal Lexical)) → Q r → o ≡ result_ok r) → Next text after o us
first_of Q None s d e told = rw (e, next_end s.0.1 s.0.2 d) last
first_of Q (Some (Ok t)) s d e told = rw (told (Ok t) e, s.2) (next_token s.0 s.1 d)
first_of Q (Some (Err x)) s d e told = absurd (refused_not s.0 d)

-- the next token is the first of those still to come, and the others follow it
pub first_is : {text : List ℕ} {at : ℕ} {o : Option Token} {t : Token} {ts : List Token} → Next text at o ts → o ≡ Some t → (us : List Token) × (ts ≡ t ∷ us) × Cut text at (length text) us
first_is last e = absurd (cc)
first_is (more {ts = us} c) e = (us, cc, c)

-- where there is none, none is still to come
pub none_is : {text : List ℕ} {at : ℕ} {o : Option Token} {ts : List Token} → Next text at o ts → o ≡ None → ts ≡ []
none_is last e = refl
none_is (more c) e = absurd (cc)

-- the terminal that the next token is comes next
pub ahead_is : {p : Parser} {t : Token} (ts : List Token) → p.ahead ≡ Some t → Coming p ts → terminal_of t.kind ≡ ahead ts
ahead_is ts e c = sym (ap ahead (first_is c.next e).1)

-- and its place is that of the tokens still to come
pub place_is : {p : Parser} {t : Token} (ts : List Token) → p.ahead ≡ Some t → Coming p ts → t.place ≡ place_of p.text.now ts
place_is {p} ts e c = sym (ap (place_of p.text.now) (first_is c.next e).1)

-- where no token is left, none is taken
pub nothing_left : {p : Parser} {terminal : Terminal} {depth : ℕ} (ts : List Token) → p.ahead ≡ None → Coming p ts → NotTaken p.text.now terminal depth (record { reason = Grammar; place = length p.text.now }) ts
nothing_left {p} {terminal} {depth} ts e c = subst (NotTaken p.text.now terminal depth (record { reason = Grammar; place = length p.text.now })) (sym (none_is c.next e)) (other (λ x. cc))

-- another terminal is not taken
pub other_terminal : {p : Parser} {t : Token} {terminal : Terminal} {depth : ℕ} (ts : List Token) → p.ahead ≡ Some t → terminal_of t.kind ≢ Some terminal → Coming p ts → NotTaken p.text.now terminal depth (record { reason = Grammar; place = t.place }) ts
other_terminal {p} {t} {terminal} {depth} ts e n c = subst (NotTaken p.text.now terminal depth (record { reason = Grammar; place = t.place })) (sym (first_is c.next e).1) (other n)

-- nor is one that stands too deep
pub stands_deep : {p : Parser} {t : Token} {terminal : Terminal} {depth : ℕ} (ts : List Token) → p.ahead ≡ Some t → terminal_of t.kind ≡ Some terminal → 64 < depth → Coming p ts → NotTaken p.text.now terminal depth (record { reason = Depth; place = t.place }) ts
stands_deep {p} {t} {terminal} {depth} ts e f d c = subst (NotTaken p.text.now terminal depth (record { reason = Depth; place = t.place })) (sym (first_is c.next e).1) (deep f d)

-- what the lexer answered, where its refusal is told by a reason of the parser
pub was_refused : (e : Refusal Reason) (Q : Refusal Lexical → Type 0) (r : Result (Option Token) (Refusal Lexical)) → MatchResult r (λ x. Err e ≡ Ok x) Q → (x : Refusal Lexical) × (r ≡ Err x)
was_refused e Q (Ok t) m = absurd (cc)
was_refused e Q (Err x) m = (x, refl)

-- the next token as an answer of the parser
abbrev answer : Option Token → Result (Option Token) (Refusal Reason)
answer o = Ok o

pub was_token : (o : Option Token) (Q : Refusal Lexical → Type 0) (r : Result (Option Token) (Refusal Lexical)) → ((x : Refusal Lexical) → Q x → ⊥) → MatchResult r (λ x. answer o ≡ Ok x) Q → r ≡ Ok o
was_token o Q (Ok x) none m = cc
was_token o Q (Err x) none m = absurd (none x m)

-- behind a token that is next the others are still to come
pub comes : {p : Parser} {t : Token} {new : Tokens} {o : Option Token} {left : ℕ} (item : Option (Result Token (Refusal Lexical))) (ts : List Token) → p.ahead ≡ Some t → Yields p.tokens item new → option_transpose item ≡ Ok o → left ≡ p.left - 1 → Coming p ts → (us : List Token) × (ts ≡ t ∷ us) × Coming (record p { tokens = new; ahead = o; left = left }) us
comes {p} {new = new} item ts e y told l c =
    let f = first_is c.next e in
    let step = subst (λ text. Step text p.tokens.at item new.at) c.same y.0 in
    (f.0, f.1, record { many = omega (arith, c.many, ap length f.1); same = y.1 ∙ c.same; next = next_of item step f.2 told })

-- and the lexer refuses none of them
pub not_refused : {p : Parser} {t : Token} {x : Refusal Lexical} (new : Tokens) (item : Option (Result Token (Refusal Lexical))) (ts : List Token) → p.ahead ≡ Some t → Yields p.tokens item new → option_transpose item ≡ Err x → Coming p ts → ⊥
not_refused {p} new item ts e y told c = never_refused new.at item (subst (λ text. Step text p.tokens.at item new.at) c.same y.0) (first_is c.next e).2 told

-- a refusal is no answer where no token can come next
pub nothing_taken : {p : Parser} (q : Parser) (terminal : Terminal) (depth : ℕ) (r : Result Token (Refusal Reason)) → IsErr r → ((ts : List Token) → Coming p ts → ⊥) → Taken p q terminal depth r
nothing_taken q terminal depth (Ok t) e h = absurd (cc)
nothing_taken q terminal depth (Err x) e h = λ ts c. absurd (h ts c)
