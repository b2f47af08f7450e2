-- The worked examples.
use Rattle.std.proofs.Common.{refl, arith, lit<, lit≤}
use Rattle.std.proofs.lemmas.Fmt.{decimal-digits_of, decimal_digit}
use Rattle.source.specs.Examples.{Examples}
use Rattle.source.specs.Reading.{no_word, a_word}

pub worked : Examples
worked = record {
  least = a_word (lit< tt) (lit≤ tt);
  larger = no_word (lit< tt) (λ h. omega arith);
  tenths = decimal-digits_of 143 (lit< tt) (lit< tt);
  nothing = decimal_digit 0 (lit< tt);
  highest = decimal-digits_of 999 (lit< tt) (lit< tt);
  dead = refl;
}
