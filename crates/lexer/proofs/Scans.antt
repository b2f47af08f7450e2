-- The tokens of a text, one step on.
use Rattle.std.proofs.Common.{◌≡◌, ℕ, ◌+◌, ◌<◌, ◌≤◌, List, [], ◌∷◌, ◌++◌, length, drop, Ok, Err, Result, MatchResult, refl, subst, arith, length-drop}
use Rattle.std.proofs.lemmas.List.{length_push}
use Rattle.lexer.specs.Tokens.{Lexeme, Bad, Cut, nothing, a_token}
use Rattle.lexer.specs.Scan.{Stepped, Next, then_token, then_end, NoNext, then_bad, Accepted, Refused, cannot_go_on}
use Rattle.lexer.specs.declared.token.Kind.TheVariants.{End}
use Rattle.lexer.specs.Refusals.{number_of}
use Rattle.lexer.specs.declared.front.Front.{Front}
use Rattle.lexer.specs.declared.refusal.Reason.{Reason}
use Rattle.lexer.specs.declared.refusal.Refusal.{Refusal}
use Rattle.lexer.specs.declared.token.Token.{Token}
use Rattle.lexer.proofs.Fronts.{lexeme_no_end, bad_some}
use Rattle.lexer.proofs.Cuts.{cut_append, gaps_after, cut_onward, cut_within, cut_one, cut_stops, lexeme_inside}

-- what stands in front of a place behind blanks and comments is the next token, or why there is none
pub stepped : (text : List ℕ) (at place : ℕ) (front : Result Front Reason) (token : Result Token Reason) (r : Result Token (Refusal Reason)) → Cut text at place [] → MatchResult front (λ f. Lexeme (drop place text) f.kind f.len) (λ e. Bad (drop place text) (number_of e)) → MatchResult front (λ f. token ≡ Ok (record { kind = f.kind; place = place; len = f.len })) (λ e. token ≡ Err e) → MatchResult token (λ t. r ≡ Ok t) (λ e. r ≡ Err (record { reason = e; place = place })) → Stepped text at r
stepped text at place (Ok f) token r gaps here told e = rw (rw told at e) (then_token gaps here)
stepped text at place (Err reason) token r gaps here told e = rw (rw told at e) (then_bad gaps here)

-- the text up to at is these tokens
pub record Sofar (text : List ℕ) (at : ℕ) (ts : List Token) : Type 0 where
  pub cut : Cut text 0 at ts
  pub within : at ≤ length text
  pub few : length ts ≤ at

pub none_yet : (text : List ℕ) → Sofar text 0 []
none_yet text = record { cut = nothing; within = omega arith; few = omega arith }

-- a token that is not the end lies ahead and within the text
pub token_ahead : (text : List ℕ) (at : ℕ) (token : Token) → Next text at token → (token.kind ≡ End → ⊥) → (at < token.place + token.len) × (token.place + token.len ≤ length text)
token_ahead text at _ (then_token {p} {n} {k} c x) more = let w = lexeme_inside text p k n x in let on = cut_onward c in (omega arith, omega arith)
token_ahead text at _ (then_end c h) more = absurd (more refl)

-- a place that cannot go on stands within the text
pub refusal_ahead : (text : List ℕ) (at number p : ℕ) → NoNext text at number p → at < length text
refusal_ahead text at number p (then_bad c b) = omega (arith, cut_onward c, bad_some (drop p text) b, length-drop p text)

-- one token more
pub one_more : (text : List ℕ) (at : ℕ) (ts : List Token) (token : Token) → Sofar text at ts → Next text at token → (token.kind ≡ End → ⊥) → Sofar text (token.place + token.len) (ts ++ token ∷ [])
one_more text at ts _ sofar (then_token {p} {n} {k} c x) more =
    let w = lexeme_inside text p k n x in
    let on = cut_onward c in
    let few = sofar.few in
    record {
      cut = cut_append (gaps_after sofar.cut c) (a_token x nothing);
      within = omega arith;
      few = omega (arith, length_push ts (record { kind = k; place = p; len = n }));
    }
one_more text at ts _ sofar (then_end c h) more = absurd (more refl)

-- the end is reached: the tokens are all
pub reached : (text : List ℕ) (at : ℕ) (ts : List Token) (token : Token) → length text ≤ 65536 → Sofar text at ts → Next text at token → token.kind ≡ End → Accepted text ts
reached text at ts _ short sofar (then_token c x) end = absurd (lexeme_no_end x end)
reached text at ts _ short sofar (then_end {p} c h) end =
    let w = cut_within c sofar.within in
    let all : p ≡ length text = omega arith in
    let cut = subst (λ q. Cut text 0 q ts) all (gaps_after sofar.cut c) in
    record { short = short; cut = cut; only = λ us d. cut_one cut d refl }

-- the text cannot go on
pub stopped : (text : List ℕ) (at : ℕ) (ts : List Token) (number p : ℕ) → length text ≤ 65536 → Sofar text at ts → NoNext text at number p → Refused text number p
stopped text at ts number p short sofar (then_bad c b) =
    let cut = gaps_after sofar.cut c in
    cannot_go_on short cut b (λ us d. cut_stops cut b refl d)
