-- What a text means as tokens: a token is the longest that can stand at its place.
use Rattle.std.specs.Prelude.{◌≡◌, ℕ, ◌+◌, ◌<◌, ◌≤◌, min, true, false, List, [], ◌∷◌, length, take, drop, codes, ◌≢◌, slice_index}
use Rattle.std.specs.List.{prefix_len}
use Rattle.lexer.specs.Classes.{within, letter, digit, blank}
use Rattle.lexer.specs.Runs.{word_byte, line_byte, decimal}
use Rattle.lexer.specs.Spelling.{keyword_text, sign_text, Begins}
use Rattle.lexer.specs.declared.token.Keyword.{Keyword}
use Rattle.lexer.specs.declared.token.Operator.{Operator}
use Rattle.lexer.specs.declared.token.Kind.{Kind}
use Rattle.lexer.specs.declared.token.Kind.TheVariants.{Name, Number, Character, Word, Sign}
use Rattle.lexer.specs.declared.token.Token.{Token}

-- s begins with a blank or a comment, which takes n bytes and makes no token
pub data Gap (s : List ℕ) : ℕ → Type 0 where
  -- a blank
  a_blank : 0 < length s → blank (slice_index s 0) ≡ true → Gap s 1
  -- a comment runs from // through the next line feed, or to the end
  a_comment : Begins (codes "//") s → Gap s (min (length s) (3 + prefix_len line_byte (drop 2 s)))

-- the letter after a backslash and the byte that it stands for
pub data Escape : ℕ → ℕ → Type 0 where
  -- \r is the carriage return
  carriage_return : Escape 114 13
  -- \n is the line feed
  line_feed : Escape 110 10

-- the first form of a character constant: a quote, the byte, one from 32 to 126, and a quote
pub record Plain (s : List ℕ) (c : ℕ) : Type 0 where
  pub opens : slice_index s 0 ≡ 39
  pub byte : slice_index s 1 ≡ c
  pub shown : within 32 126 c ≡ true
  pub closes : slice_index s 2 ≡ 39

-- the second form: a quote, a backslash, a letter that may stand after it, and a quote
pub record Escaped (s : List ℕ) (c : ℕ) : Type 0 where
  pub opens : slice_index s 0 ≡ 39
  pub backslash : slice_index s 1 ≡ 92
  pub escape : Escape (slice_index s 2) c
  pub closes : slice_index s 3 ≡ 39

-- s begins with a token of this kind that takes n bytes
pub data Lexeme (s : List ℕ) : Kind → ℕ → Type 0 where
  -- a keyword is a longest run of letters, digits and underscores, a letter first, that is spelled so
  a_word : (k : Keyword) → letter (slice_index s 0) ≡ true → take (prefix_len word_byte s) s ≡ keyword_text k → Lexeme s (Word k) (prefix_len word_byte s)
  -- a name is any other such run
  a_name : letter (slice_index s 0) ≡ true → ((k : Keyword) → take (prefix_len word_byte s) s ≢ keyword_text k) → Lexeme s Name (prefix_len word_byte s)
  -- a number is a longest run of digits, of value at most 2,147,483,647
  a_number : digit (slice_index s 0) ≡ true → decimal (take (prefix_len digit s) s) ≤ 2147483647 → Lexeme s (Number (decimal (take (prefix_len digit s) s))) (prefix_len digit s)
  -- a character constant in its first form
  a_character : {c : ℕ} → Plain s c → Lexeme s (Character c) 3
  -- a character constant in its second form
  an_escape : {c : ℕ} → Escaped s c → Lexeme s (Character c) 4
  -- a sign is the longest that the bytes begin with, where no comment begins
  a_sign : (g : Operator) → Begins (sign_text g) s → ((h : Operator) → Begins (sign_text h) s → length (sign_text h) ≤ length (sign_text g)) → (Begins (codes "//") s → ⊥) → Lexeme s (Sign g) (length (sign_text g))

-- why no token can be taken from s, though it is not empty: the number of the refusal
pub data Bad (s : List ℕ) : ℕ → Type 0 where
  -- 3: neither a blank, a comment, a token nor a digit stands in front
  no_token : 0 < length s → ((n : ℕ) → Gap s n → ⊥) → ((k : Kind) (n : ℕ) → Lexeme s k n → ⊥) → digit (slice_index s 0) ≡ false → Bad s 3
  -- 4: a number over 2,147,483,647
  too_large : digit (slice_index s 0) ≡ true → 2147483647 < decimal (take (prefix_len digit s) s) → Bad s 4

-- the bytes of the text from p up to q are these tokens, with blanks and comments around them
pub data Cut (text : List ℕ) : ℕ → ℕ → List Token → Type 0 where
  -- no bytes are no tokens
  nothing : {p : ℕ} → Cut text p p []
  -- a blank or a comment makes no token
  a_gap : {p q n : ℕ} {ts : List Token} → Gap (drop p text) n → Cut text (p + n) q ts → Cut text p q ts
  -- a token has its kind, its place and its length
  a_token : {p q n : ℕ} {k : Kind} {ts : List Token} → Lexeme (drop p text) k n → Cut text (p + n) q ts → Cut text p q (record { kind = k; place = p; len = n } ∷ ts)
