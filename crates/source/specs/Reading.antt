-- What is read from waiting bytes, and what is left of them.
use Rattle.std.specs.Prelude.{◌≡◌, ℕ, ◌<◌, ◌≤◌, Bool, cond, List, [], ◌∷◌, length, take, drop, ℤ, pos, neg_ℤ, Ok, Err, Result, ◌==◌, slice_index}
use Rattle.std.specs.List.{prefix_len}
use Rattle.lexer.specs.Classes.{blank, digit}
use Rattle.lexer.specs.Runs.{decimal}
use Rattle.source.specs.declared.read.ReadFault.{ReadFault}
use Rattle.source.specs.declared.read.ReadFault.TheVariants.{NothingWaits, NoNumber}

-- what waits after the blanks in front
abbrev pub after_blanks : List ℕ → List ℕ
after_blanks w = drop (prefix_len blank w) w

-- a minus is next
abbrev pub minus_next : List ℕ → Bool
minus_next w = slice_index w 0 == 45

-- what waits after the minus, if one is next
abbrev pub after_minus : List ℕ → List ℕ
after_minus w = drop (cond (minus_next w) 1 0) w

-- the digits in front, and what waits after them
abbrev pub digits_of : List ℕ → List ℕ
digits_of w = take (prefix_len digit w) w

abbrev pub after_digits : List ℕ → List ℕ
after_digits w = drop (prefix_len digit w) w

-- the number of a minus or none and an amount
abbrev pub number : Bool → ℕ → ℤ
number minus amount = cond minus (neg_ℤ (pos amount)) (pos amount)

-- it is a word: from -2,147,483,648 to 2,147,483,647
abbrev pub Fits : Bool → ℕ → Type 0
Fits minus amount = amount ≤ cond minus 2147483648 2147483647

-- reading an int from the waiting bytes w: the answer and what is left
pub data IntRead (w : List ℕ) : Result ℤ ReadFault → List ℕ → Type 0 where
  -- nothing waits after the blanks, which are taken
  nothing_waits : length (after_blanks w) ≡ 0 → IntRead w (Err NothingWaits) (after_blanks w)
  -- no digit follows; blanks and minus are taken
  no_digit : 0 < length (after_blanks w) → prefix_len digit (after_minus (after_blanks w)) ≡ 0 → IntRead w (Err NoNumber) (after_minus (after_blanks w))
  -- the number is no word; blanks, minus and digits are taken
  no_word : 0 < prefix_len digit (after_minus (after_blanks w)) → (Fits (minus_next (after_blanks w)) (decimal (digits_of (after_minus (after_blanks w)))) → ⊥) → IntRead w (Err NoNumber) (after_digits (after_minus (after_blanks w)))
  -- the number is read; blanks, minus and digits are taken
  a_word : 0 < prefix_len digit (after_minus (after_blanks w)) → Fits (minus_next (after_blanks w)) (decimal (digits_of (after_minus (after_blanks w)))) → IntRead w (Ok (number (minus_next (after_blanks w)) (decimal (digits_of (after_minus (after_blanks w)))))) (after_digits (after_minus (after_blanks w)))

-- reading a char: one byte is taken, if any
pub data CharRead : List ℕ → Result ℕ ReadFault → List ℕ → Type 0 where
  -- nothing waits
  nothing_there : CharRead [] (Err NothingWaits) []
  -- the first byte is read
  a_byte : {b : ℕ} {w : List ℕ} → CharRead (b ∷ w) (Ok b) w
