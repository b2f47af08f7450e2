-- What the lexer promises: the next token of a text, and a whole text as tokens or its refusal.
use Rattle.std.specs.Prelude.{◌≡◌, ℕ, ◌<◌, ◌≤◌, List, [], length, drop, Ok, Err, Result}
use Rattle.lexer.specs.Refusals.{number_of}
use Rattle.lexer.specs.Tokens.{Lexeme, Bad, Cut}
use Rattle.lexer.specs.declared.refusal.Reason.{Reason}
use Rattle.lexer.specs.declared.refusal.Refusal.{Refusal}
use Rattle.lexer.specs.declared.token.Kind.{Kind}
use Rattle.lexer.specs.declared.token.Kind.TheVariants.{End}
use Rattle.lexer.specs.declared.token.Token.{Token}

-- the next token of the text from a place on
pub data Next (text : List ℕ) (at : ℕ) : Token → Type 0 where
  -- after blanks and comments, the token that stands there
  then_token : {p n : ℕ} {k : Kind} → Cut text at p [] → Lexeme (drop p text) k n → Next text at (record { kind = k; place = p; len = n })
  -- after blanks and comments, the end
  then_end : {p : ℕ} → Cut text at p [] → length text ≤ p → Next text at (record { kind = End; place = p; len = 0 })

-- why there is no next token: after blanks and comments, at place p, the refusal's number
pub data NoNext (text : List ℕ) (at : ℕ) : ℕ → ℕ → Type 0 where
  then_bad : {p number : ℕ} → Cut text at p [] → Bad (drop p text) number → NoNext text at number p

-- the answer of one step
abbrev pub Stepped : List ℕ → ℕ → Result Token (Refusal Reason) → Type 0
Stepped text at (Ok token) = Next text at token
Stepped text at (Err e) = NoNext text at (number_of e.reason) e.place

-- an accepted text: it has at most 65,536 bytes, and is these tokens and no others
pub record Accepted (text : List ℕ) (tokens : List Token) : Type 0 where
  pub short : length text ≤ 65536
  pub cut : Cut text 0 (length text) tokens
  pub only : (ts : List Token) → Cut text 0 (length text) ts → ts ≡ tokens

-- a refused text: the refusal's number and place
pub data Refused (text : List ℕ) : ℕ → ℕ → Type 0 where
  -- 2 at 0: over 65,536 bytes
  too_long : 65536 < length text → Refused text 2 0
  -- 3 or 4: up to its place the text is tokens, there it cannot go on, and so the whole text is no list of tokens
  cannot_go_on : {number p : ℕ} {ts : List Token} → length text ≤ 65536 → Cut text 0 p ts → Bad (drop p text) number → ((us : List Token) → Cut text 0 (length text) us → ⊥) → Refused text number p

-- the answer to a whole text: how many tokens it is, or the refusal
abbrev pub Scanned : List ℕ → Result ℕ (Refusal Reason) → Type 0
Scanned text (Ok n) = (tokens : List Token) × Accepted text tokens × (length tokens ≡ n)
Scanned text (Err e) = Refused text (number_of e.reason) e.place
