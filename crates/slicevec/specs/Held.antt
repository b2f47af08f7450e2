-- What a SliceVec holds and how much it can hold. Assumes nothing.
use Rattle.std.specs.Prelude.{◌≡◌, ℕ, min, List, length, take}
use Rattle.slicevec.specs.declared.SliceVec.{SliceVec}

module _ {T : Type 0} where
  -- all entries of the lent slice, taken or not
  abbrev pub memory : SliceVec T → List T
  memory v = v.entries.now

  -- the name of the borrow by which the lender finds that slice again
  abbrev pub lender : SliceVec T → ℕ
  lender v = v.entries.ghost_name

  -- the entries taken, the oldest first
  abbrev pub held : SliceVec T → List T
  held v = take v.taken (memory v)

  -- how many entries there can be: as many as the slice has, but no more than 1,048,576
  abbrev pub room : SliceVec T → ℕ
  room v = min (length (memory v)) 1048576

  -- what a call keeps: how many entries there can be, and that the slice is the one that was lent
  pub record KeepsMemory (old new : SliceVec T) : Type 0 where
    pub size : room new ≡ room old
    pub lender : lender new ≡ lender old
