-- Reading one byte on: a digit, and a char.
use Rattle.std.proofs.Common.{◌≡◌, ℕ, ◌+◌, ◌-◌, ◌*◌, ◌<◌, ◌^◌, min, Bool, true, false, List, [], ◌∷◌, drop, Some, option_and_then, fold, refl, one-add, arith}
use Rattle.std.specs.Bool.{then_some}
use Rattle.std.specs.Option.{ok_or}
use Rattle.std.proofs.lemmas.Bool.Decides.{nat_tests}
use Rattle.std.specs.List.{prefix_len}
use Rattle.lexer.specs.Classes.{digit}
use Rattle.lexer.specs.Runs.{decimal}
use Rattle.source.specs.Reading.{digits_of, after_digits, CharRead, nothing_there, a_byte}
use Rattle.source.specs.Waiting.{first}
use Rattle.source.specs.declared.read.ReadFault.TheVariants.{NothingWaits}

-- digits are taken of what waited: what they amount to, and what waits now
pub record Taken (waited waits : List ℕ) (amount : ℕ) : Type 0 where
  pub sum : ℕ
  pub held : amount ≡ min sum (2 ^ 32)
  pub total : fold (λ value b. value * 10 + (b - 48)) sum (digits_of waits) ≡ decimal (digits_of waited)
  pub rest : after_digits waits ≡ after_digits waited

chosen : (t : Bool) (n v : ℕ) → Some v ≡ then_some t n → (t ≡ true) × (v ≡ n)
chosen true n v e = (refl, grind arith)
chosen false n v e = absurd (grind arith)

-- nothing is taken yet
pub untaken : (w : List ℕ) → Taken w w 0
untaken w = record { sum = 0; held = refl; total = refl; rest = refl }

-- a digit that is next begins a run
pub some_digits : (w : List ℕ) (v : ℕ) → Some v ≡ option_and_then (λ b. then_some (digit b) (b - 48)) (first w) → (0 < prefix_len digit w) × (v < 256)
some_digits [] v e = absurd (grind arith)
some_digits (b ∷ w) v e = let here = chosen (digit b) (b - 48) v e in let ten = here.0 in (rw here.0 (omega arith), grind (arith, nat_tests))

-- one digit more
pub digit_taken : (waited w : List ℕ) (v amount next : ℕ) → Some v ≡ option_and_then (λ b. then_some (digit b) (b - 48)) (first w) → Taken waited w amount → next ≡ min (amount * 10 + v) (2 ^ 32) → Taken waited (drop 1 w) next
digit_taken waited [] v amount next e t more = absurd (grind arith)
digit_taken waited (b ∷ w) v amount next e t more =
    let here = chosen (digit b) (b - 48) v e in
    record { sum = t.sum * 10 + v; held = omega (arith, more, t.held); total = rw here.1 (rw (here.0, one-add) at t.total); rest = rw (here.0, one-add) at t.rest }

-- a char is read
pub char_read : (w : List ℕ) → CharRead w (ok_or (first w) NothingWaits) (drop 1 w)
char_read [] = nothing_there
char_read (b ∷ w) = a_byte
