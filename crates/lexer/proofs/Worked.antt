-- The worked examples.
use Rattle.std.proofs.Common.{◌≡◌, ℕ, ◌≤◌, List, [], ◌∷◌, length, codes, sym, refl, true≢false, arith, lit<, lit≤, rules}
use Rattle.lexer.specs.Examples.{Examples}
use Rattle.lexer.specs.Scan.{Refused, cannot_go_on}
use Rattle.lexer.specs.Spelling.{keyword_text, sign_text, Begins}
use Rattle.lexer.specs.Tokens.{Gap, a_blank, a_comment, a_name, a_number, a_character, a_sign, Bad, no_token, too_large, nothing, a_token}
use Rattle.lexer.specs.declared.token.Keyword.{Keyword}
use Rattle.lexer.specs.declared.token.Operator.{Operator}
use Rattle.lexer.specs.declared.token.Operator.TheVariants.{Plus, PlusPlus, LessEqual}
use Rattle.lexer.proofs.Fronts.{begins_at, begins_sign, sign_short}
use Rattle.lexer.proofs.Lexemes.{no_marked}
use Rattle.lexer.proofs.Cuts.{cut_stops}

-- a text whose first token is bad
bad_at_once : (text : List ℕ) (number : ℕ) → length text ≤ 65536 → Bad text number → Refused text number 0
bad_at_once text number short b = cannot_go_on short nothing b (λ us d. cut_stops nothing b refl d)

no_gap : (n : ℕ) → Gap (39 ∷ 39 ∷ []) n → ⊥
no_gap _ (a_blank h e) = true≢false (sym e)
no_gap _ (a_comment b) = omega (arith, begins_at (codes "//") (39 ∷ 39 ∷ []) 0 (omega arith) b)

-- two quotes begin neither a gap nor a token
two_quotes : Bad (39 ∷ 39 ∷ []) 3
two_quotes =
    no_token (lit< tt) no_gap
    (λ k n x. no_marked (39 ∷ 39 ∷ []) (λ g b. omega (arith, begins_sign (39 ∷ 39 ∷ []) g b)) (λ c p. omega (arith, p.closes)) (λ c p. omega (arith, p.backslash)) k n x refl)
    refl

-- no keyword has one byte, and no sign begins with + and b
short_name : (b : ℕ) (k : Keyword) → b ∷ [] ≡ keyword_text k → ⊥
short_name b k e = search rules

one_plus : (h : Operator) → Begins (sign_text h) (codes "+b") → length (sign_text h) ≤ 1
one_plus h b = search rules

pub worked : Examples
worked = record {
  largest = a_token (a_number refl (lit≤ tt)) nothing;
  larger = bad_at_once (codes "2147483648") 4 (lit≤ tt) (too_large refl (lit< tt));
  empty = bad_at_once (39 ∷ 39 ∷ []) 3 (lit≤ tt) two_quotes;
  backslash = a_token (a_character (record { opens = refl; byte = refl; shown = refl; closes = refl })) nothing;
  less_equal = a_token (a_sign LessEqual refl (λ h _. sign_short h) (search rules)) nothing;
  plusses =
      a_token (a_name refl (short_name 97)) (a_token (a_sign PlusPlus refl (λ h _. sign_short h) (search rules)) (a_token (a_sign Plus refl one_plus (search rules)) (a_token (a_name refl (short_name 98)) nothing)));
}
