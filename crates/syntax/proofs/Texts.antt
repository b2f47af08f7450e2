-- The texts of the worked examples are these tokens.
use Rattle.std.proofs.Common.{◌≡◌, ◌≢◌, ℕ, zero, suc, ◌+◌, ◌≤◌, Bool, not, ◌||◌, true, false, eqb, List, [], ◌∷◌, ◌++◌, length, codes, get_or, drop, replicate, refl, sym, ap, ◌∙◌, subst, arith, lit<, lit≤, rules}
use Rattle.std.proofs.lemmas.Bool.Decides.{nat_tests}
use Rattle.std.proofs.lemmas.List.{drop-drop}
use Rattle.lexer.specs.Examples.{token}
use Rattle.syntax.specs.Examples.{bracketed}
use Rattle.lexer.specs.Scan.{Accepted}
use Rattle.lexer.specs.Spelling.{keyword_text, sign_text, Begins}
use Rattle.lexer.specs.Tokens.{Cut, Gap, Lexeme, a_blank, a_word, a_name, a_number, a_sign, nothing, a_gap, a_token}
use Rattle.lexer.specs.declared.Keyword.{Keyword}
use Rattle.lexer.specs.declared.Keyword.TheVariants as W
use Rattle.lexer.specs.declared.Operator.{Operator}
use Rattle.lexer.specs.declared.Operator.TheVariants as S
use Rattle.lexer.specs.declared.Kind.TheVariants.{Name, Number, Word, Sign}
use Rattle.lexer.specs.declared.Token.{Token}
use Rattle.lexer.proofs.Cuts.{cut_one}
use Rattle.lexer.proofs.Fronts.{begins_at, sign_short}

-- a byte is the second of no sign
abbrev no_second : ℕ → Bool
no_second b = not (eqb b 61 || (eqb b 43 || (eqb b 45 || (eqb b 38 || eqb b 124))))

-- so only signs of one byte stand before it
alone : (s : List ℕ) → no_second (get_or s 1 0) ≡ true → (h : Operator) → Begins (sign_text h) s → length (sign_text h) ≤ 1
alone s e h b = search (rules, begins_at)

-- no keyword is one byte, or main
no_name : (b : ℕ) (k : Keyword) → b ∷ [] ≡ keyword_text k → ⊥
no_name b k e = search rules

no_main : (k : Keyword) → codes "main" ≡ keyword_text k → ⊥
no_main k e = search rules

-- a text that is cut into tokens is accepted
accepted : (text : List ℕ) {ts : List Token} → length text ≤ 65536 → Cut text 0 (length text) ts → Accepted text ts
accepted text short cut = record { short = short; cut = cut; only = λ us d. cut_one cut d refl }

-- the tokens of the first text
abbrev pub minus_tokens : List Token
minus_tokens = token (Word W.Program) 0 7 ∷ token Name 8 1 ∷ token (Sign S.OpenBrace) 10 1 ∷ token (Word W.Void) 12 4 ∷ token Name 17 4 ∷ token (Sign S.OpenParen) 21 1 ∷ token (Sign S.CloseParen) 22 1 ∷ token (Sign S.OpenBrace) 24 1 ∷ token Name 26 1 ∷ token (Sign S.Assign) 28 1 ∷ token (Sign S.Minus) 30 1 ∷ token Name 31 1 ∷ token (Sign S.Plus) 33 1 ∷ token Name 35 1 ∷ token (Sign S.Semicolon) 36 1 ∷ token (Sign S.CloseBrace) 38 1 ∷ token (Sign S.CloseBrace) 40 1 ∷ []

pub minus_text : Accepted (codes "program P { void main() { x = -a + b; } }") minus_tokens
minus_text = accepted (codes "program P { void main() { x = -a + b; } }") (lit≤ tt) (
    a_token (a_word W.Program refl refl) (
    a_gap (a_blank (lit< tt) refl) (a_token (a_name refl (no_name 80)) (
    a_gap (a_blank (lit< tt) refl) (a_token (a_sign S.OpenBrace refl (alone _ refl) (search rules)) (
    a_gap (a_blank (lit< tt) refl) (a_token (a_word W.Void refl refl) (
    a_gap (a_blank (lit< tt) refl) (a_token (a_name refl no_main) (
    a_token (a_sign S.OpenParen refl (alone _ refl) (search rules)) (
    a_token (a_sign S.CloseParen refl (alone _ refl) (search rules)) (
    a_gap (a_blank (lit< tt) refl) (a_token (a_sign S.OpenBrace refl (alone _ refl) (search rules)) (
    a_gap (a_blank (lit< tt) refl) (a_token (a_name refl (no_name 120)) (
    a_gap (a_blank (lit< tt) refl) (a_token (a_sign S.Assign refl (alone _ refl) (search rules)) (
    a_gap (a_blank (lit< tt) refl) (a_token (a_sign S.Minus refl (alone _ refl) (search rules)) (
    a_token (a_name refl (no_name 97)) (
    a_gap (a_blank (lit< tt) refl) (a_token (a_sign S.Plus refl (alone _ refl) (search rules)) (
    a_gap (a_blank (lit< tt) refl) (a_token (a_name refl (no_name 98)) (
    a_token (a_sign S.Semicolon refl (alone _ refl) (search rules)) (
    a_gap (a_blank (lit< tt) refl) (a_token (a_sign S.CloseBrace refl (alone _ refl) (search rules)) (
    a_gap (a_blank (lit< tt) refl) (a_token (a_sign S.CloseBrace refl (alone _ refl) (search rules)) nothing)))))))))))))))))))))))))))))

-- the tokens of the second text
abbrev pub nearest_tokens : List Token
nearest_tokens = token (Word W.Program) 0 7 ∷ token Name 8 1 ∷ token (Sign S.OpenBrace) 10 1 ∷ token (Word W.Void) 12 4 ∷ token Name 17 4 ∷ token (Sign S.OpenParen) 21 1 ∷ token (Sign S.CloseParen) 22 1 ∷ token (Sign S.OpenBrace) 24 1 ∷ token (Word W.If) 26 2 ∷ token (Sign S.OpenParen) 29 1 ∷ token Name 30 1 ∷ token (Sign S.EqualEqual) 32 2 ∷ token Name 35 1 ∷ token (Sign S.CloseParen) 36 1 ∷ token (Word W.If) 38 2 ∷ token (Sign S.OpenParen) 41 1 ∷ token Name 42 1 ∷ token (Sign S.EqualEqual) 44 2 ∷ token Name 47 1 ∷ token (Sign S.CloseParen) 48 1 ∷ token (Sign S.Semicolon) 50 1 ∷ token (Word W.Else) 52 4 ∷ token (Sign S.Semicolon) 57 1 ∷ token (Sign S.CloseBrace) 59 1 ∷ token (Sign S.CloseBrace) 61 1 ∷ []

pub nearest_text : Accepted (codes "program P { void main() { if (a == b) if (c == d) ; else ; } }") nearest_tokens
nearest_text = accepted (codes "program P { void main() { if (a == b) if (c == d) ; else ; } }") (lit≤ tt) (
    a_token (a_word W.Program refl refl) (
    a_gap (a_blank (lit< tt) refl) (a_token (a_name refl (no_name 80)) (
    a_gap (a_blank (lit< tt) refl) (a_token (a_sign S.OpenBrace refl (alone _ refl) (search rules)) (
    a_gap (a_blank (lit< tt) refl) (a_token (a_word W.Void refl refl) (
    a_gap (a_blank (lit< tt) refl) (a_token (a_name refl no_main) (
    a_token (a_sign S.OpenParen refl (alone _ refl) (search rules)) (
    a_token (a_sign S.CloseParen refl (alone _ refl) (search rules)) (
    a_gap (a_blank (lit< tt) refl) (a_token (a_sign S.OpenBrace refl (alone _ refl) (search rules)) (
    a_gap (a_blank (lit< tt) refl) (a_token (a_word W.If refl refl) (
    a_gap (a_blank (lit< tt) refl) (a_token (a_sign S.OpenParen refl (alone _ refl) (search rules)) (
    a_token (a_name refl (no_name 97)) (
    a_gap (a_blank (lit< tt) refl) (a_token (a_sign S.EqualEqual refl (λ h _. sign_short h) (search rules)) (
    a_gap (a_blank (lit< tt) refl) (a_token (a_name refl (no_name 98)) (
    a_token (a_sign S.CloseParen refl (alone _ refl) (search rules)) (
    a_gap (a_blank (lit< tt) refl) (a_token (a_word W.If refl refl) (
    a_gap (a_blank (lit< tt) refl) (a_token (a_sign S.OpenParen refl (alone _ refl) (search rules)) (
    a_token (a_name refl (no_name 99)) (
    a_gap (a_blank (lit< tt) refl) (a_token (a_sign S.EqualEqual refl (λ h _. sign_short h) (search rules)) (
    a_gap (a_blank (lit< tt) refl) (a_token (a_name refl (no_name 100)) (
    a_token (a_sign S.CloseParen refl (alone _ refl) (search rules)) (
    a_gap (a_blank (lit< tt) refl) (a_token (a_sign S.Semicolon refl (alone _ refl) (search rules)) (
    a_gap (a_blank (lit< tt) refl) (a_token (a_word W.Else refl refl) (
    a_gap (a_blank (lit< tt) refl) (a_token (a_sign S.Semicolon refl (alone _ refl) (search rules)) (
    a_gap (a_blank (lit< tt) refl) (a_token (a_sign S.CloseBrace refl (alone _ refl) (search rules)) (
    a_gap (a_blank (lit< tt) refl) (a_token (a_sign S.CloseBrace refl (alone _ refl) (search rules)) nothing)))))))))))))))))))))))))))))))))))))))))))

-- so many signs of one byte from a place on
abbrev pub signs : Operator → ℕ → ℕ → List Token
signs g p zero = []
signs g p (suc n) = token (Sign g) p 1 ∷ signs g (p + 1) n

-- a blank in front
blank_here : (s : List ℕ) → Gap (32 ∷ s) 1
blank_here s = a_blank (omega arith) refl

-- a byte that is not 47 begins no comment
apart : (b : ℕ) → eqb b 47 ≡ false → b ≢ 47
apart b e x = grind (arith, nat_tests)

module _ (g : Operator) (b : ℕ) (spelled : sign_text g ≡ b ∷ []) (single : no_second b ≡ true) (plain : eqb b 47 ≡ false) where
  second : (n : ℕ) (rest : List ℕ) → no_second (get_or rest 0 0) ≡ true → no_second (get_or (b ∷ (replicate n b ++ rest)) 1 0) ≡ true
  second zero rest h = h
  second (suc n) rest h = single

  sign_here : (s : List ℕ) → no_second (get_or (b ∷ s) 1 0) ≡ true → Lexeme (b ∷ s) (Sign g) 1
  sign_here s h = subst (Lexeme (b ∷ s) (Sign g)) (ap length spelled) (a_sign g (rw spelled refl) (λ k begins. rw spelled (alone (b ∷ s) h k begins)) (λ c. apart b plain (ap (λ l. get_or l 0 0) c)))

  -- a row of them is that many tokens
  row : (text : List ℕ) {q : ℕ} {ts : List Token} (n p : ℕ) (rest : List ℕ) → drop p text ≡ replicate n b ++ rest → no_second (get_or rest 0 0) ≡ true → Cut text (p + n) q ts → Cut text p q (signs g p n ++ ts)
  row text {q} {ts} zero p rest e h c = let same : p + 0 ≡ p = omega arith in subst (λ i. Cut text i q ts) same c
  row text {q} {ts} (suc n) p rest e h c =
      let next : drop (p + 1) text ≡ replicate n b ++ rest = sym (drop-drop 1 p text) ∙ ap (drop 1) e in
      let same : p + suc n ≡ p + 1 + n = omega arith in
      a_token (subst (λ s. Lexeme s (Sign g) 1) (sym e) (sign_here (replicate n b ++ rest) (second n rest h))) (row text n (p + 1) rest next h (subst (λ i. Cut text i q ts) same c))

-- the tokens before the brackets, and those from the number on
abbrev pub before_brackets : List Token
before_brackets = token (Word W.Program) 0 7 ∷ token Name 8 1 ∷ token (Sign S.OpenBrace) 10 1 ∷ token (Word W.Void) 12 4 ∷ token Name 17 4 ∷ token (Sign S.OpenParen) 21 1 ∷ token (Sign S.CloseParen) 22 1 ∷ token (Sign S.OpenBrace) 24 1 ∷ token Name 26 1 ∷ token (Sign S.Assign) 28 1 ∷ []

abbrev pub behind_number : ℕ → List Token
behind_number n = signs S.CloseParen (31 + n) n ++ token (Sign S.Semicolon) (31 + n + n) 1 ∷ token (Sign S.CloseBrace) (33 + n + n) 1 ∷ token (Sign S.CloseBrace) (35 + n + n) 1 ∷ []

abbrev pub bracket_tokens : ℕ → List Token
bracket_tokens n = before_brackets ++ (signs S.OpenParen 30 n ++ token (Number 1) (30 + n) 1 ∷ behind_number n)

-- a text of brackets is these tokens, if it is what it is at the number and behind it
bracket_cut : (n : ℕ) → drop (30 + n) (bracketed n) ≡ 49 ∷ (replicate n 41 ++ codes "; } }") → Lexeme (49 ∷ (replicate n 41 ++ codes "; } }")) (Number 1) 1 → drop (31 + n) (bracketed n) ≡ replicate n 41 ++ codes "; } }" → Cut (bracketed n) (31 + n + n) (36 + n + n) (token (Sign S.Semicolon) (31 + n + n) 1 ∷ token (Sign S.CloseBrace) (33 + n + n) 1 ∷ token (Sign S.CloseBrace) (35 + n + n) 1 ∷ []) → Cut (bracketed n) 0 (36 + n + n) (bracket_tokens n)
bracket_cut n at one behind last =
    let same : 30 + n + 1 ≡ 31 + n = omega arith in
    let rest = row S.CloseParen 41 refl refl refl (bracketed n) n (31 + n) (codes "; } }") behind refl last in
    let number = a_token (subst (λ s. Lexeme s (Number 1) 1) (sym at) one) (subst (λ i. Cut (bracketed n) i (36 + n + n) (behind_number n)) (sym same) rest) in
    a_token (a_word W.Program refl refl) (
    a_gap (blank_here _) (a_token (a_name refl (no_name 80)) (
    a_gap (blank_here _) (a_token (sign_here S.OpenBrace 123 refl refl refl _ refl) (
    a_gap (blank_here _) (a_token (a_word W.Void refl refl) (
    a_gap (blank_here _) (a_token (a_name refl no_main) (
    a_token (sign_here S.OpenParen 40 refl refl refl _ refl) (
    a_token (sign_here S.CloseParen 41 refl refl refl _ refl) (
    a_gap (blank_here _) (a_token (sign_here S.OpenBrace 123 refl refl refl _ refl) (
    a_gap (blank_here _) (a_token (a_name refl (no_name 120)) (
    a_gap (blank_here _) (a_token (a_sign S.Assign refl (alone _ refl) (λ c. apart 61 refl (ap (λ l. get_or l 0 0) c))) (
    a_gap (blank_here _) (row S.OpenParen 40 refl refl refl (bracketed n) n 30 (49 ∷ (replicate n 41 ++ codes "; } }")) refl refl number))))))))))))))))))

pub text_62 : Accepted (bracketed 62) (bracket_tokens 62)
text_62 = accepted (bracketed 62) (lit≤ tt) (bracket_cut 62 refl (a_number refl (lit≤ tt)) refl (
    a_token (sign_here S.Semicolon 59 refl refl refl _ refl) (
    a_gap (blank_here _) (a_token (sign_here S.CloseBrace 125 refl refl refl _ refl) (
    a_gap (blank_here _) (a_token (sign_here S.CloseBrace 125 refl refl refl _ refl) nothing))))))

pub text_63 : Accepted (bracketed 63) (bracket_tokens 63)
text_63 = accepted (bracketed 63) (lit≤ tt) (bracket_cut 63 refl (a_number refl (lit≤ tt)) refl (
    a_token (sign_here S.Semicolon 59 refl refl refl _ refl) (
    a_gap (blank_here _) (a_token (sign_here S.CloseBrace 125 refl refl refl _ refl) (
    a_gap (blank_here _) (a_token (sign_here S.CloseBrace 125 refl refl refl _ refl) nothing))))))
