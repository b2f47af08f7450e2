-- The tokens of a text as an iterator.
use Rattle.std.specs.Prelude.{◌≡◌, ◌≢◌, ℕ, ◌+◌, List, length, Option, Some, None, Result, Ok, Err}
use Rattle.lexer.specs.Refusals.{number_of}
use Rattle.lexer.specs.Scan.{Next, NoNext}
use Rattle.lexer.specs.declared.refusal.Reason.{Reason}
use Rattle.lexer.specs.declared.refusal.Refusal.{Refusal}
use Rattle.lexer.specs.declared.token.Kind.TheVariants.{End}
use Rattle.lexer.specs.declared.token.Token.{Token}
use Rattle.lexer.specs.declared.tokens.Tokens.{Tokens}

-- what is still to come is what the text has from this place on
abbrev pub StandsAt : Tokens → List ℕ → ℕ → Type 0
StandsAt tokens text at = (tokens.text.now ≡ text) × (tokens.at ≡ at)

-- one step from a place: nothing at the end, a token and the place behind it, or a refusal, which ends all
abbrev pub Step : List ℕ → ℕ → Option (Result Token (Refusal Reason)) → ℕ → Type 0
Step text at None after = ((token : Token) × Next text at token × (token.kind ≡ End)) × (after ≡ at)
Step text at (Some (Ok token)) after = Next text at token × (token.kind ≢ End) × (after ≡ token.place + token.len)
Step text at (Some (Err e)) after = NoNext text at (number_of e.reason) e.place × (after ≡ length text)

-- what a call of `next` gives, and what is still to come after it
abbrev pub Yields : Tokens → Option (Result Token (Refusal Reason)) → Tokens → Type 0
Yields before item after = Step before.text.now before.at item after.at × (after.text.now ≡ before.text.now)
