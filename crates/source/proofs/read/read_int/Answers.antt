use Rattle.std.proofs.Common.{◌≡◌, ℕ, ◌<◌, List, [], ◌∷◌, length, Err, None, Some, MatchOption, refl, arith, rules}
use Rattle.std.specs.Option.{SomeIff}
use Rattle.source.specs.Reading.{Fits, number, nothing_waits}
use Rattle.source.specs.Waiting.{first}
use Rattle.source.specs.declared.read.ReadFault.TheVariants.{NothingWaits}
use Rattle.source.proofs.Words.{word_read}
use Rattle.source.proofs.Worked.{worked}
use Rattle.source.proofs.read.read_int.Goals as goal

nothing : (w : List ℕ) → first w ≡ None → length w ≡ 0
nothing [] e = refl
nothing (b ∷ w) e = absurd (grind arith)

something : (w : List ℕ) (b : ℕ) → Some b ≡ first w → 0 < length w
something [] b e = absurd (grind arith)
something (b' ∷ w) b e = omega arith

pub returns-in_err-ok_or-clause-read : goal.returns-in_err-ok_or-clause-read
returns-in_err-ok_or-clause-read g c =
    let e : c.from_residual.result ≡ Err NothingWaits = search rules in
    let none = nothing (g.S.Source.waiting c.skip_blanks.new.source) (search rules) in
    rw (e, c.skip_blanks.ensures) (nothing_waits (rw c.skip_blanks.ensures at none))

pub returns-in_err-ok_or-clause-examples : goal.returns-in_err-ok_or-clause-examples
returns-in_err-ok_or-clause-examples g c = worked

pub returns-clause-read : goal.returns-clause-read
returns-clause-read g c =
    let told : MatchOption c.take_digits.result (c.and_then.result ≡ None) (λ n. SomeIff c.and_then.result (Fits c.take_minus-minus.result n) (number c.take_minus-minus.result n)) = search rules in
    let some = something (g.S.Source.waiting c.skip_blanks.new.source) c.in_ok-ok_or.field-0 (search rules) in
    let minus = c.take_minus-minus.ensures in
    let digits = c.take_digits.ensures in
    rw (c.ok_or-2.ensures.value, digits.rest, minus.rest, c.skip_blanks.ensures)
    (word_read _ (rw c.skip_blanks.ensures at some) _ _ (rw (minus.rest, c.skip_blanks.ensures) at digits.amount) (rw (minus.answer, c.skip_blanks.ensures) at told))

pub returns-clause-examples : goal.returns-clause-examples
returns-clause-examples g c = worked
