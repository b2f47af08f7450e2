-- What stands at the front of some bytes: at most one gap or token, within the bytes.
use Rattle.std.proofs.Common.{◌≡◌, ℕ, ◌<◌, ◌≤◌, Bool, true, false, cond, ◌||◌, eqb, List, [], ◌∷◌, length, get_or, take, codes, sym, refl, ap, ◌∙◌, ⊎_elim, true≢false, arith, rules, length-take, get_or-take}
use borrow.Author.Tests.{eqb-false}
use Rattle.std.proofs.lemmas.List.{get_or_past}
use Rattle.std.proofs.str.Laws.{order}
use Rattle.std.specs.List.{prefix_len}
use Rattle.std.proofs.lemmas.List.Sums.{prefix_len-le-length}
use Rattle.std.proofs.lemmas.Bool.Decides.{nat_tests}
use Rattle.lexer.specs.Classes.{letter, digit, blank, sign_byte}
use Rattle.lexer.specs.Runs.{word_byte, decimal}
use Rattle.lexer.specs.Spelling.{sign_text, Begins}
use Rattle.lexer.specs.Tokens.{Gap, a_blank, a_comment, Escape, carriage_return, line_feed, Lexeme, a_word, a_name, a_number, a_character, an_escape, a_sign, Bad, no_token, too_large}
use Rattle.lexer.specs.declared.token.Kind.{Kind}
use Rattle.lexer.specs.declared.token.Kind.TheVariants.{End, Character, Word, Sign}
use Rattle.lexer.specs.declared.token.Operator.{Operator}
use Rattle.lexer.proofs.Distinct.{same_keyword, same_sign}

-- a text is at least as long as what it begins with, and has its bytes
pub begins_within : (t s : List ℕ) → Begins t s → length t ≤ length s
begins_within t s b = omega (arith, ap length b, length-take (length t) s)

pub begins_at : (t s : List ℕ) (i : ℕ) → i < length t → Begins t s → get_or s i 0 ≡ get_or t i 0
begins_at t s i h b = sym (get_or-take (length t) s i 0 h) ∙ ap (λ l. get_or l i 0) b

-- what the first byte tells: a word, a number, a character constant, a blank or a sign
abbrev pub sort : ℕ → ℕ
sort b = cond (letter b) 1 (cond (digit b) 2 (cond (eqb b 39) 3 (cond (blank b) 5 4)))

pub is_letter : (b : ℕ) → letter b ≡ true → sort b ≡ 1
is_letter b e = grind (arith, nat_tests)

pub is_digit : (b : ℕ) → digit b ≡ true → sort b ≡ 2
is_digit b e = grind (arith, nat_tests)

pub is_blank : (b : ℕ) → blank b ≡ true → sort b ≡ 5
is_blank b e = grind (arith, nat_tests)

-- every sign has one or two bytes, and its first byte is no other token's
sign_first : (g : Operator) → sign_byte (get_or (sign_text g) 0 0) ≡ true
sign_first g = search rules

pub sign_sort : (g : Operator) → sort (get_or (sign_text g) 0 0) ≡ 4
sign_sort g = search rules

pub sign_some : (g : Operator) → 0 < length (sign_text g)
sign_some g = search rules

pub sign_short : (g : Operator) → length (sign_text g) ≤ 2
sign_short g = search rules

-- each rule of a token by its first byte
abbrev rule : {s : List ℕ} {k : Kind} {n : ℕ} → Lexeme s k n → ℕ
rule (a_word _ _ _) = 1
rule (a_name _ _) = 1
rule (a_number _ _) = 2
rule (a_character _) = 3
rule (an_escape _) = 3
rule (a_sign _ _ _ _) = 4

pub begins_sign : (s : List ℕ) (g : Operator) → Begins (sign_text g) s → sort (get_or s 0 0) ≡ 4
begins_sign s g b = ap sort (begins_at (sign_text g) s 0 (sign_some g) b) ∙ sign_sort g

lexeme_sort : {s : List ℕ} {k : Kind} {n : ℕ} → (x : Lexeme s k n) → sort (get_or s 0 0) ≡ rule x
lexeme_sort {s} (a_word k h e) = is_letter (get_or s 0 0) h
lexeme_sort {s} (a_name h e) = is_letter (get_or s 0 0) h
lexeme_sort {s} (a_number h e) = is_digit (get_or s 0 0) h
lexeme_sort (a_character p) = ap sort p.opens
lexeme_sort (an_escape p) = ap sort p.opens
lexeme_sort {s} (a_sign g b l n) = begins_sign s g b

-- a token begins with a letter, a digit or a byte of a sign or the quote
pub lexeme_first : {s : List ℕ} {k : Kind} {n : ℕ} → Lexeme s k n → letter (get_or s 0 0) || digit (get_or s 0 0) || sign_byte (get_or s 0 0) ≡ true
lexeme_first {s} (a_word k h e) = grind (arith, nat_tests)
lexeme_first {s} (a_name h e) = grind (arith, nat_tests)
lexeme_first {s} (a_number h e) = grind (arith, nat_tests)
lexeme_first {s} (a_character p) = ap (λ b. letter b || digit b || sign_byte b) p.opens
lexeme_first {s} (an_escape p) = ap (λ b. letter b || digit b || sign_byte b) p.opens
lexeme_first {s} (a_sign g b l n) = let e = ap sign_byte (begins_at (sign_text g) s 0 (sign_some g) b) ∙ sign_first g in grind (arith, nat_tests)

differ : (s : List ℕ) {k l : Kind} {m n : ℕ} (x : Lexeme s k m) (y : Lexeme s l n) → eqb (rule x) (rule y) ≡ false → ⊥
differ s x y e = eqb-false (rule x) (rule y) e (sym (lexeme_sort x) ∙ lexeme_sort y)

-- a byte that passes is in a longest run of at least one
pub some_leading : (p : ℕ → Bool) (s : List ℕ) → p (get_or s 0 0) ≡ true → p 0 ≡ false → 0 < prefix_len p s
some_leading p [] h z = absurd (true≢false (sym h ∙ z))
some_leading p (b ∷ s) h z = rw h (omega arith)

letter_word : (b : ℕ) → letter b ≡ true → word_byte b ≡ true
letter_word b h = grind (arith, nat_tests)

-- a byte other than 0 is there
pub there : (s : List ℕ) (i b : ℕ) → get_or s i 0 ≡ b → 0 < b → i < length s
there s i b e h = ⊎_elim (λ l. l) (λ l. absurd (omega (arith, get_or_past s i 0 l))) (order i (length s))

-- a gap takes some bytes, and no more than there are
pub gap_within : {s : List ℕ} {n : ℕ} → Gap s n → (0 < n) × (n ≤ length s)
gap_within (a_blank h e) = (omega arith, omega arith)
gap_within {s} (a_comment b) = let long = begins_within (codes "//") s b in (omega arith, omega arith)

-- a token too
pub lexeme_within : {s : List ℕ} {k : Kind} {n : ℕ} → Lexeme s k n → (0 < n) × (n ≤ length s)
lexeme_within {s} (a_word k h e) = (some_leading word_byte s (letter_word (get_or s 0 0) h) refl, prefix_len-le-length word_byte s)
lexeme_within {s} (a_name h e) = (some_leading word_byte s (letter_word (get_or s 0 0) h) refl, prefix_len-le-length word_byte s)
lexeme_within {s} (a_number h e) = (some_leading digit s h refl, prefix_len-le-length digit s)
lexeme_within {s} (a_character p) = (omega arith, there s 2 39 p.closes (omega arith))
lexeme_within {s} (an_escape p) = (omega arith, there s 3 39 p.closes (omega arith))
lexeme_within {s} (a_sign g b l n) = (sign_some g, begins_within (sign_text g) s b)

-- at most one gap stands in front
pub gap_one : {s : List ℕ} {m n : ℕ} → Gap s m → Gap s n → m ≡ n
gap_one (a_blank h e) (a_blank i f) = refl
gap_one {s} (a_blank h e) (a_comment b) = absurd (omega (arith, is_blank (get_or s 0 0) e, ap sort (begins_at (codes "//") s 0 (omega arith) b)))
gap_one {s} (a_comment b) (a_blank h e) = absurd (omega (arith, is_blank (get_or s 0 0) e, ap sort (begins_at (codes "//") s 0 (omega arith) b)))
gap_one (a_comment b) (a_comment c) = refl

never_blank : {s : List ℕ} {k : Kind} {n : ℕ} (x : Lexeme s k n) → rule x ≡ 5 → ⊥
never_blank (a_word k h e) r = omega arith
never_blank (a_name h e) r = omega arith
never_blank (a_number h e) r = omega arith
never_blank (a_character p) r = omega arith
never_blank (an_escape p) r = omega arith
never_blank (a_sign g b l n) r = omega arith

-- where a comment begins no token does
no_comment : {s : List ℕ} {k : Kind} {n : ℕ} (x : Lexeme s k n) → rule x ≡ 4 → Begins (codes "//") s → ⊥
no_comment (a_word k h e) r b = omega arith
no_comment (a_name h e) r b = omega arith
no_comment (a_number h e) r b = omega arith
no_comment (a_character p) r b = omega arith
no_comment (an_escape p) r b = omega arith
no_comment (a_sign g c l n) r b = n b

-- a gap and a token do not stand at one place
pub gap_or_lexeme : {s : List ℕ} {k : Kind} {m n : ℕ} → Gap s m → Lexeme s k n → ⊥
gap_or_lexeme {s} (a_blank h e) x = never_blank x (sym (lexeme_sort x) ∙ is_blank (get_or s 0 0) e)
gap_or_lexeme {s} (a_comment b) x = no_comment x (sym (lexeme_sort x) ∙ ap sort (begins_at (codes "//") s 0 (omega arith) b)) b

-- a letter after a backslash stands for one byte, and is no quote
escape_one : {b c d : ℕ} → Escape b c → Escape b d → c ≡ d
escape_one carriage_return carriage_return = refl
escape_one line_feed line_feed = refl

escape_letter : {b c : ℕ} → Escape b c → b ≡ 39 → ⊥
escape_letter carriage_return e = omega arith
escape_letter line_feed e = omega arith

same_longest : (s : List ℕ) (g h : Operator) → Begins (sign_text g) s → Begins (sign_text h) s → length (sign_text h) ≤ length (sign_text g) → length (sign_text g) ≤ length (sign_text h) → (Sign g ≡ Sign h) × (length (sign_text g) ≡ length (sign_text h))
same_longest s g h b c l m =
    let long : length (sign_text g) ≡ length (sign_text h) = omega arith in
    (ap Sign (same_sign g h (sym b ∙ ap (λ n. take n s) long ∙ c)), long)

-- at most one token stands in front: each rule takes the longest
pub lexeme_one : {s : List ℕ} {k l : Kind} {m n : ℕ} → Lexeme s k m → Lexeme s l n → (k ≡ l) × (m ≡ n)
lexeme_one (a_word k a b) (a_word l i j) = (ap Word (same_keyword k l (sym b ∙ j)), refl)
lexeme_one (a_word k a b) (a_name i j) = absurd (j k b)
lexeme_one {s} (a_word k a b) (a_number i j) = absurd (differ s (a_word k a b) (a_number i j) refl)
lexeme_one {s} (a_word k a b) (a_character i) = absurd (differ s (a_word k a b) (a_character i) refl)
lexeme_one {s} (a_word k a b) (an_escape i) = absurd (differ s (a_word k a b) (an_escape i) refl)
lexeme_one {s} (a_word w a b) (a_sign i j k l) = absurd (differ s (a_word w a b) (a_sign i j k l) refl)
lexeme_one (a_name a b) (a_word l i j) = absurd (b l j)
lexeme_one (a_name a b) (a_name i j) = (refl, refl)
lexeme_one {s} (a_name a b) (a_number i j) = absurd (differ s (a_name a b) (a_number i j) refl)
lexeme_one {s} (a_name a b) (a_character i) = absurd (differ s (a_name a b) (a_character i) refl)
lexeme_one {s} (a_name a b) (an_escape i) = absurd (differ s (a_name a b) (an_escape i) refl)
lexeme_one {s} (a_name a b) (a_sign i j k l) = absurd (differ s (a_name a b) (a_sign i j k l) refl)
lexeme_one {s} (a_number a b) (a_word l i j) = absurd (differ s (a_number a b) (a_word l i j) refl)
lexeme_one {s} (a_number a b) (a_name i j) = absurd (differ s (a_number a b) (a_name i j) refl)
lexeme_one (a_number a b) (a_number i j) = (refl, refl)
lexeme_one {s} (a_number a b) (a_character i) = absurd (differ s (a_number a b) (a_character i) refl)
lexeme_one {s} (a_number a b) (an_escape i) = absurd (differ s (a_number a b) (an_escape i) refl)
lexeme_one {s} (a_number a b) (a_sign i j k l) = absurd (differ s (a_number a b) (a_sign i j k l) refl)
lexeme_one {s} (a_character a) (a_word l i j) = absurd (differ s (a_character a) (a_word l i j) refl)
lexeme_one {s} (a_character a) (a_name i j) = absurd (differ s (a_character a) (a_name i j) refl)
lexeme_one {s} (a_character a) (a_number i j) = absurd (differ s (a_character a) (a_number i j) refl)
lexeme_one (a_character a) (a_character i) = (ap Character (sym a.byte ∙ i.byte), refl)
lexeme_one (a_character a) (an_escape i) = absurd (escape_letter i.escape a.closes)
lexeme_one {s} (a_character a) (a_sign i j k l) = absurd (differ s (a_character a) (a_sign i j k l) refl)
lexeme_one {s} (an_escape a) (a_word l i j) = absurd (differ s (an_escape a) (a_word l i j) refl)
lexeme_one {s} (an_escape a) (a_name i j) = absurd (differ s (an_escape a) (a_name i j) refl)
lexeme_one {s} (an_escape a) (a_number i j) = absurd (differ s (an_escape a) (a_number i j) refl)
lexeme_one (an_escape a) (a_character i) = absurd (escape_letter a.escape i.closes)
lexeme_one (an_escape a) (an_escape i) = (ap Character (escape_one a.escape i.escape), refl)
lexeme_one {s} (an_escape a) (a_sign i j k l) = absurd (differ s (an_escape a) (a_sign i j k l) refl)
lexeme_one {s} (a_sign a b c d) (a_word l i j) = absurd (differ s (a_sign a b c d) (a_word l i j) refl)
lexeme_one {s} (a_sign a b c d) (a_name i j) = absurd (differ s (a_sign a b c d) (a_name i j) refl)
lexeme_one {s} (a_sign a b c d) (a_number i j) = absurd (differ s (a_sign a b c d) (a_number i j) refl)
lexeme_one {s} (a_sign a b c d) (a_character i) = absurd (differ s (a_sign a b c d) (a_character i) refl)
lexeme_one {s} (a_sign a b c d) (an_escape i) = absurd (differ s (a_sign a b c d) (an_escape i) refl)
lexeme_one {s} (a_sign a b c d) (a_sign i j k l) = same_longest s a i b j (c i j) (k a b)

-- a token that begins with a digit is a number that is not too large
lexeme_number : (s : List ℕ) {k : Kind} {n : ℕ} → Lexeme s k n → digit (get_or s 0 0) ≡ true → decimal (take (prefix_len digit s) s) ≤ 2147483647
lexeme_number s (a_word k h e) d = absurd (omega (arith, is_letter (get_or s 0 0) h, is_digit (get_or s 0 0) d))
lexeme_number s (a_name h e) d = absurd (omega (arith, is_letter (get_or s 0 0) h, is_digit (get_or s 0 0) d))
lexeme_number s (a_number h e) d = e
lexeme_number s (a_character p) d = absurd (omega (arith, ap sort p.opens, is_digit (get_or s 0 0) d))
lexeme_number s (an_escape p) d = absurd (omega (arith, ap sort p.opens, is_digit (get_or s 0 0) d))
lexeme_number s (a_sign g b l n) d = absurd (omega (arith, begins_sign s g b, is_digit (get_or s 0 0) d))

gap_no_digit : (s : List ℕ) {n : ℕ} → Gap s n → digit (get_or s 0 0) ≡ true → ⊥
gap_no_digit s (a_blank h e) d = omega (arith, is_blank (get_or s 0 0) e, is_digit (get_or s 0 0) d)
gap_no_digit s (a_comment b) d = omega (arith, ap sort (begins_at (codes "//") s 0 (omega arith) b), is_digit (get_or s 0 0) d)

-- where no token can be taken there is a byte, but neither a gap nor a token
pub bad_some : (s : List ℕ) {r : ℕ} → Bad s r → 0 < length s
bad_some s (no_token h g x d) = h
bad_some [] (too_large d l) = absurd (true≢false (sym d))
bad_some (b ∷ s) (too_large d l) = omega arith

pub bad_no_gap : {s : List ℕ} {r n : ℕ} → Bad s r → Gap s n → ⊥
bad_no_gap {s} {r} {n} (no_token h none x d) g = none n g
bad_no_gap {s} (too_large d l) g = gap_no_digit s g d

pub bad_no_lexeme : {s : List ℕ} {r n : ℕ} {k : Kind} → Bad s r → Lexeme s k n → ⊥
bad_no_lexeme {s} {r} {n} {k} (no_token h g none d) x = none k n x
bad_no_lexeme {s} (too_large d l) x = omega (arith, lexeme_number s x d)

-- no token is of the kind of the end
pub lexeme_no_end : {s : List ℕ} {k : Kind} {n : ℕ} → Lexeme s k n → k ≡ End → ⊥
lexeme_no_end (a_word k h e) end = search rules
lexeme_no_end (a_name h e) end = search rules
lexeme_no_end (a_number h e) end = search rules
lexeme_no_end (a_character p) end = search rules
lexeme_no_end (an_escape p) end = search rules
lexeme_no_end (a_sign g b l n) end = search rules
