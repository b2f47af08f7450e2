-- Where blanks and comments stand.
use Rattle.std.proofs.Common.{◌≡◌, ℕ, ◌+◌, ◌-◌, ◌<◌, ◌≤◌, min, true, List, length, get_or, take, drop, Some, None, codes, Option, sym, ap, ◌∙◌, subst, arith, rules, MatchOption}
use Rattle.std.specs.List.{prefix_len}
use Rattle.std.proofs.lemmas.List.{take_rest}
use Rattle.std.proofs.lemmas.Bool.Decides.{nat_tests}
use Rattle.lexer.specs.Classes.{blank, class_of}
use Rattle.lexer.specs.Runs.{line_byte}
use Rattle.lexer.specs.Spelling.{Begins}
use Rattle.lexer.specs.Tokens.{Gap, a_blank, a_comment}
use Rattle.lexer.specs.declared.class.Class.TheVariants.{Blank}

blank_class : (b : ℕ) → blank b ≡ true → class_of b ≡ Blank
blank_class b e = grind (arith, nat_tests)

class_blank : (b : ℕ) → Blank ≡ class_of b → blank b ≡ true
class_blank b e = grind (arith, nat_tests)

pub blank_gap : (s : List ℕ) → 0 < length s → Blank ≡ class_of (get_or s 0 0) → Gap s 1
blank_gap s h e = a_blank h (class_blank (get_or s 0 0) e)

-- a comment through the next line feed of the rest, or to the end
pub comment_gap : (s : List ℕ) (line n : ℕ) → 2 ≤ length s → get_or s 0 0 ≡ 47 → get_or s 1 0 ≡ 47 → line ≡ prefix_len line_byte (take (length s - 2) (drop 2 s)) → n ≡ min (length s) (line + 3) → Gap s n
comment_gap s line n h a b run e =
    let long : n ≡ min (length s) (3 + line) = omega arith in
    subst (Gap s) (sym (long ∙ ap (λ l. min (length s) (3 + l)) (run ∙ ap (prefix_len line_byte) (take_rest s 2)))) (a_comment (search rules))

no_gap : (s : List ℕ) → (Begins (codes "//") s → ⊥) → (class_of (get_or s 0 0) ≡ Blank → ⊥) → (n : ℕ) → Gap s n → ⊥
no_gap s apart other n (a_blank h e) = other (blank_class (get_or s 0 0) e)
no_gap s apart other n (a_comment b) = apart b

-- where no blank stands, the gap is a comment or there is none
pub only_comment : (s : List ℕ) (r : Option ℕ) → (class_of (get_or s 0 0) ≡ Blank → ⊥) → MatchOption r (Begins (codes "//") s → ⊥) (λ n. Gap s n) → MatchOption r ((n : ℕ) → Gap s n → ⊥) (λ n. Gap s n)
only_comment s None other h = no_gap s h other
only_comment s (Some n) other h = h
