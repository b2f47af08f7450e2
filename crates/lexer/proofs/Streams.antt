-- The tokens of a text, one step of the iterator on.
use Rattle.std.proofs.Common.{◌≡◌, ℕ, ◌≤◌, List, [], ◌∷◌, ◌++◌, length, Some, None, Ok, Err, Result, sym, subst, ◌∙◌}
use Rattle.lexer.specs.Refusals.{number_of}
use Rattle.lexer.specs.Scan.{Next, NoNext, Accepted, Refused}
use Rattle.lexer.specs.Stream.{StandsAt, Yields}
use Rattle.lexer.specs.declared.refusal.Reason.{Reason}
use Rattle.lexer.specs.declared.refusal.Refusal.{Refusal}
use Rattle.lexer.specs.declared.token.Token.{Token}
use Rattle.lexer.specs.declared.tokens.Tokens.{Tokens}
use Rattle.lexer.proofs.Scans.{Sofar, none_yet, one_more, reached, stopped}

-- the text up to where the iterator stands is these tokens
abbrev pub Came : List ℕ → Tokens → List Token → Type 0
Came text it ts = (it.text.now ≡ text) × Sofar text it.at ts

-- none came yet
pub none_came : (text : List ℕ) (it : Tokens) → StandsAt it text 0 → Came text it []
none_came text it start = (start.0, subst (λ at. Sofar text at []) (sym start.1) (none_yet text))

module _ (text : List ℕ) (it after : Tokens) (ts : List Token) (came : Came text it ts) where
  -- one more came
  pub one_came : (item : Result Token (Refusal Reason)) (token : Token) → item ≡ Ok token → Yields it (Some item) after → Came text after (ts ++ token ∷ [])
  one_came item token e yields =
      let step = subst (λ r. Yields it (Some r) after) e yields in
      let next = subst (λ t. Next t it.at token) came.0 step.0.0 in
      (step.1 ∙ came.0, subst (λ at. Sofar text at (ts ++ token ∷ [])) (sym step.0.2) (one_more text it.at ts token came.1 next step.0.1))

  -- all came: the tokens are those of the text
  pub all_came : length text ≤ 65536 → Yields it None after → Accepted text ts
  all_came short step =
      let end = step.0.0 in
      reached text it.at ts end.0 short came.1 (subst (λ t. Next t it.at end.0) came.0 end.1) end.2

  -- no more come: the text is refused
  pub no_more_came : (item : Result Token (Refusal Reason)) (refusal : Refusal Reason) → item ≡ Err refusal → length text ≤ 65536 → Yields it (Some item) after → Refused text (number_of refusal.reason) refusal.place
  no_more_came item refusal e short yields =
      let step = subst (λ r. Yields it (Some r) after) e yields in
      stopped text it.at ts (number_of refusal.reason) refusal.place short came.1 (subst (λ t. NoNext t it.at (number_of refusal.reason) refusal.place) came.0 step.0.0)
