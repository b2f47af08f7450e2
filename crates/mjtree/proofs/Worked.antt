-- The worked examples.
use Rattle.std.proofs.Common.{refl}
use Rattle.std.specs.Fmt.{digits}
use Rattle.mjtree.specs.Examples.{Examples}

pub worked : Examples
unfolding digits
worked = record {
  smallest = refl;
  sum = refl;
}
