-- Worked examples of reading and of what a rack tells.
use Rattle.std.specs.Prelude.{◌≡◌, [], negsuc, Ok, Err, codes}
use Rattle.source.specs.Racks.{told}
use Rattle.source.specs.Reading.{IntRead}
use Rattle.source.specs.declared.read.ReadFault.TheVariants.{NoNumber}

-- `negsuc n` is -(n + 1)
pub record Examples : Type 0 where
  -- -2147483648 reads as a word
  pub least : IntRead (codes "-2147483648") (Ok (negsuc 2147483647)) []
  -- 2147483648 does not
  pub larger : IntRead (codes "2147483648") (Err NoNumber) []
  -- 1434 is told as 143, and 9 as 0
  pub tenths : told 1434 ≡ codes "143"
  pub nothing : told 9 ≡ codes "0"
  -- 9999 is the highest reading of a live probe
  pub highest : told 9999 ≡ codes "999"
  pub dead : told 10000 ≡ codes "-1"
