-- Where each kind of token stands, and where none does.
use Rattle.std.proofs.Common.{◌≡◌, ℕ, ◌<◌, ◌≤◌, true, false, ◌||◌, List, length, get_or, take, Some, None, codes, Option, MatchOption, Result, MatchResult, sym, refl, ap, ◌∙◌, ◌⊎◌, subst, true≢false, arith, length-take, get_or-take}
use Rattle.std.specs.Option.{ok_or}
use Rattle.std.specs.List.{prefix_len}
use Rattle.std.proofs.lemmas.Bool.Decides.{nat_tests}
use Rattle.std.proofs.lemmas.List.Sums.{prefix_len_passes}
use Rattle.lexer.specs.Finds.{Finds}
use Rattle.lexer.specs.Classes.{letter, digit, sign_byte, class_of}
use Rattle.lexer.specs.Runs.{word_byte, decimal}
use Rattle.lexer.specs.Spelling.{keyword_text, sign_text, Begins, Longest}
use Rattle.lexer.specs.Tokens.{Gap, Escape, Plain, Escaped, Lexeme, a_word, a_name, a_number, a_character, an_escape, a_sign, Bad, no_token, too_large}
use Rattle.lexer.specs.declared.token.Keyword.{Keyword}
use Rattle.lexer.specs.Refusals.{number_of}
use Rattle.lexer.specs.declared.class.Class.{Class}
use Rattle.lexer.specs.declared.class.Class.TheVariants as Classes
use Rattle.lexer.specs.declared.class.Class.TheVariants.{Underscore, Blank, Other}
use Rattle.lexer.specs.declared.front.Front.{Front}
use Rattle.lexer.specs.declared.refusal.Reason.{Reason}
use Rattle.lexer.specs.declared.refusal.Reason.TheVariants.{NoToken, NumberTooLarge}
use Rattle.lexer.specs.declared.token.Kind.{Kind}
use Rattle.lexer.specs.declared.token.Kind.TheVariants.{Name, Number, Character, Word, Sign}
use Rattle.lexer.specs.declared.token.Operator.{Operator}
use Rattle.lexer.proofs.Fronts.{lexeme_first}

module _ (s : List ℕ) (n : ℕ) where
  -- each byte of a longest run of digits is one
  pub run_digits : n ≡ prefix_len digit s → (i : ℕ) → i < length (take n s) → digit (get_or (take n s) i 0) ≡ true
  run_digits run i h =
      let short : i < prefix_len digit s = omega (arith, length-take n s) in
      ap digit (get_or-take n s i 0 (omega arith)) ∙ prefix_len_passes digit s i 0 short

  -- a run of digits is a number, or too large
  pub number_here : (found : Option ℕ) (front : Option Front) (r : Result Front Reason) → digit (get_or s 0 0) ≡ true → n ≡ prefix_len digit s → MatchOption found (2147483647 < decimal (take n s)) (λ v. (v ≡ decimal (take n s)) × (v ≤ 2147483647)) → MatchOption found (front ≡ None) (λ v. front ≡ Some (record { kind = Number v; len = n })) → r ≡ ok_or front NumberTooLarge → MatchResult r (λ f. Lexeme s f.kind f.len) (λ e. Bad s (number_of e))
  number_here None front r first run large none e = rw (e, none) (too_large first (rw (sym run) large))
  number_here (Some v) front r first run told some e = rw (e, some, told.0, run) (a_number first (rw (sym run, sym told.0) told.1))

  -- a word is the keyword that is spelled so, or a name
  pub word_here : (found : Option Keyword) (kind : Kind) → letter (get_or s 0 0) ≡ true → n ≡ prefix_len word_byte s → Finds found (λ k. take n s ≡ keyword_text k) → MatchOption found (kind ≡ Name) (λ k. kind ≡ Word k) → Lexeme s kind n
  word_here None kind first run none e = rw (e, run) (a_name first (rw (sym run) none))
  word_here (Some k) kind first run spelled e = rw (e, run) (a_word k first (rw (sym run) spelled))

-- a letter after a backslash, or none that may stand there
pub escaped_here : (s : List ℕ) (letter : Option ℕ) (front : Option Front) → get_or s 0 0 ≡ 39 → get_or s 1 0 ≡ 92 → get_or s 3 0 ≡ 39 → Finds letter (Escape (get_or s 2 0)) → MatchOption letter (front ≡ None) (λ c. front ≡ Some (record { kind = Character c; len = 4 })) → MatchOption front ((c : ℕ) → Escaped s c → ⊥) (λ f. Lexeme s f.kind f.len)
escaped_here s None front opens backslash closes none e = rw e (λ c escaped. none c escaped.escape)
escaped_here s (Some c) front opens backslash closes escape e = rw e (an_escape (record { opens = opens; backslash = backslash; escape = escape; closes = closes }))

-- the bytes that are neither letters nor digits nor bytes of a sign
unmarked : (b : ℕ) (class : Class) → class ≡ class_of b → (class ≡ Underscore) ⊎ ((class ≡ Blank) ⊎ (class ≡ Other)) → letter b || digit b || sign_byte b ≡ false
unmarked b class is other = grind (arith, nat_tests)

-- a byte of a sign begins no word and no number
pub no_marked : (s : List ℕ) → ((g : Operator) → Begins (sign_text g) s → ⊥) → ((c : ℕ) → Plain s c → ⊥) → ((c : ℕ) → Escaped s c → ⊥) → (k : Kind) (n : ℕ) → Lexeme s k n → sign_byte (get_or s 0 0) ≡ true → ⊥
no_marked s signs plain escaped _ _ (a_word k h e) first = true≢false (grind (arith, nat_tests))
no_marked s signs plain escaped _ _ (a_name h e) first = true≢false (grind (arith, nat_tests))
no_marked s signs plain escaped _ _ (a_number h e) first = true≢false (grind (arith, nat_tests))
no_marked s signs plain escaped _ _ (a_character {c} p) first = plain c p
no_marked s signs plain escaped _ _ (an_escape {c} p) first = escaped c p
no_marked s signs plain escaped _ _ (a_sign g b l n) first = signs g b

-- a sign, or else a character constant in its first form
pub signed_here : (s : List ℕ) (sign : Option Operator) (front r : Option Front) → (Begins (codes "//") s → ⊥) → MatchOption sign ((g : Operator) → Begins (sign_text g) s → ⊥) (Longest s) → MatchOption sign (front ≡ None) (λ g. front ≡ Some (record { kind = Sign g; len = length (sign_text g) })) → (front ≡ None → MatchOption r ((c : ℕ) → Plain s c → ⊥) (λ f. Lexeme s f.kind f.len)) → ((f : Front) → front ≡ Some f → r ≡ Some f) → MatchOption r (((g : Operator) → Begins (sign_text g) s → ⊥) × ((c : ℕ) → Plain s c → ⊥)) (λ f. Lexeme s f.kind f.len)
signed_here s None front None apart signs none other same = (signs, other none)
signed_here s None front (Some f) apart signs none other same = other none
signed_here s (Some g) front r apart told some other same = rw (same _ some) (a_sign g told.0 told.1 apart)

-- or else one in its second form, or else nothing that a byte of a sign begins
pub marked_here : (s : List ℕ) (front r : Option Front) → MatchOption front (((g : Operator) → Begins (sign_text g) s → ⊥) × ((c : ℕ) → Plain s c → ⊥)) (λ f. Lexeme s f.kind f.len) → (front ≡ None → MatchOption r ((c : ℕ) → Escaped s c → ⊥) (λ f. Lexeme s f.kind f.len)) → ((f : Front) → front ≡ Some f → r ≡ Some f) → MatchOption r ((k : Kind) (n : ℕ) → Lexeme s k n → sign_byte (get_or s 0 0) ≡ true → ⊥) (λ f. Lexeme s f.kind f.len)
marked_here s None None none other same = no_marked s none.0 none.1 (other refl)
marked_here s None (Some f) none other same = other refl
marked_here s (Some f) r told other same = rw (same f refl) told

module _ (s : List ℕ) (some : 0 < length s) (here : (n : ℕ) → Gap s n → ⊥) where
  sign_bad : class_of (get_or s 0 0) ≡ Classes.Sign → ((k : Kind) (n : ℕ) → Lexeme s k n → sign_byte (get_or s 0 0) ≡ true → ⊥) → Bad s 3
  sign_bad class none = no_token some here (λ k n x. none k n x (grind (arith, nat_tests))) (grind (arith, nat_tests))

  -- a byte of a sign begins what is found, or nothing
  pub or_bad : class_of (get_or s 0 0) ≡ Classes.Sign → (found : Option Front) (r : Result Front Reason) → r ≡ ok_or found NoToken → MatchOption found ((k : Kind) (n : ℕ) → Lexeme s k n → sign_byte (get_or s 0 0) ≡ true → ⊥) (λ f. Lexeme s f.kind f.len) → MatchResult r (λ f. Lexeme s f.kind f.len) (λ e. Bad s (number_of e))
  or_bad class None r e h = subst (λ x. MatchResult x (λ f. Lexeme s f.kind f.len) (λ y. Bad s (number_of y))) (sym e) (sign_bad class h)
  or_bad class (Some f) r e h = subst (λ x. MatchResult x (λ g. Lexeme s g.kind g.len) (λ y. Bad s (number_of y))) (sym e) h

  -- no token begins with any other byte
  pub other_bad : (class : Class) → class ≡ class_of (get_or s 0 0) → (class ≡ Underscore) ⊎ ((class ≡ Blank) ⊎ (class ≡ Other)) → Bad s 3
  other_bad class is other =
      let none = unmarked (get_or s 0 0) class is other in
      no_token some here (λ k n x. true≢false (sym (lexeme_first x) ∙ none)) (grind (arith, nat_tests))
