-- The worked examples, computed. Assumes nothing.
use Rattle.std.proofs.Common.{refl}
use Rattle.std.specs.Int.{int_wrap}
use Rattle.arith.specs.Examples.{Examples}

pub worked : Examples
unfolding int_wrap
worked =
    record {
      java_quotient = refl;
      stopping_quotient = refl;
      java_remainder = refl;
      stopping_remainder = refl;
      java_most = refl;
      stopping_most = refl;
      java_least = refl;
      stopping_least = refl;
      java_nothing_left = refl;
      stopping_nothing_left = refl;
    }
