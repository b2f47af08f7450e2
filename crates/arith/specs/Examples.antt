-- Worked examples of both arithmetics. Assumes nothing.
use Rattle.std.specs.Prelude.{◌≡◌, pos, negsuc, Some, None}
use Rattle.arith.specs.declared.Operation.TheVariants.{Add, Div, Rem}
use Rattle.arith.specs.Words.{java, stopping}

-- `negsuc n` is -(n + 1)
pub record Examples : Type 0 where
  -- -7 / 2 is -3
  pub java_quotient : java (Div (negsuc 6) (pos 2)) ≡ Some (negsuc 2)
  pub stopping_quotient : stopping (Div (negsuc 6) (pos 2)) ≡ Some (negsuc 2)
  -- -7 % 2 is -1
  pub java_remainder : java (Rem (negsuc 6) (pos 2)) ≡ Some (negsuc 0)
  pub stopping_remainder : stopping (Rem (negsuc 6) (pos 2)) ≡ Some (negsuc 0)
  -- one more than the greatest word is the least, or out of range
  pub java_most : java (Add (pos 2147483647) (pos 1)) ≡ Some (negsuc 2147483647)
  pub stopping_most : stopping (Add (pos 2147483647) (pos 1)) ≡ None
  -- the least word divided by -1 is itself, or out of range
  pub java_least : java (Div (negsuc 2147483647) (negsuc 0)) ≡ Some (negsuc 2147483647)
  pub stopping_least : stopping (Div (negsuc 2147483647) (negsuc 0)) ≡ None
  -- and its remainder is 0
  pub java_nothing_left : java (Rem (negsuc 2147483647) (negsuc 0)) ≡ Some (pos 0)
  pub stopping_nothing_left : stopping (Rem (negsuc 2147483647) (negsuc 0)) ≡ Some (pos 0)
