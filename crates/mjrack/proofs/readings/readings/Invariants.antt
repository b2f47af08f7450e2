use Rattle.std.proofs.Common.{◌≡◌, ℕ, ◌≤◌, length, drop, vec_items}
use Rattle.std.specs.Slice.Iter.{split_inclusive_rest}
use Rattle.mjrack.specs.Lines.{Sofar}
use Rattle.mjrack.proofs.readings.readings.Given as goal

abbrev pub invariant-loop-line : goal.invariant-loop-line
invariant-loop-line l = (p : ℕ) × (p ≤ length l.text) × (split_inclusive_rest l.line-iterator ≡ drop p l.text) × Sofar l.text p (vec_items l.found)
