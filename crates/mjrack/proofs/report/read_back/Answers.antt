use Rattle.std.proofs.Common.{◌≡◌, ◌+◌, cond, eqb, [], ◌∷◌, ◌++◌, ℤ, pos, negsuc, sym, refl, ap, ◌∙◌, arith, w32, to_z, of_z, SFits, rules}
use mir.Val.{bool_byte}
use Rattle.std.proofs.lemmas.Int.{to_z-of_z}
use Rattle.std.proofs.lemmas.Bool.Decides.{nat_tests}
use Rattle.std.proofs.lemmas.List.Sums.{fold_push}
use Rattle.mjrack.specs.Report.{java_sum, is_dead, sum_of, dead_of, untouched, one_more, until_failure}
use Rattle.mjrack.proofs.Waits.{int_shorter, dead_few}
use Rattle.mjrack.proofs.report.read_back.Goals as goal
use Rattle.mjrack.proofs.report.read_back.Goals.{After-from-dead}

-- the int that was read is a word
word : (g : _) (c : After-from-dead g) → SFits w32 c.in-Ok.value
word g c = search rules

-- a word is -1 exactly where all its bits are set
dead_bits : (z : ℤ) → SFits w32 z → bool_byte (eqb (of_z w32 z) 4294967295) ≡ cond (is_dead z) 1 0
dead_bits (pos n) f = grind (arith, nat_tests, f.sfits)
dead_bits (negsuc n) f = grind (arith, nat_tests, f.sfits)

-- one int more is counted
counted : (g : _) (c : After-from-dead g) → c.loop-value.dead + c.from-dead.result ≡ dead_of (c.loop-value.invariant.0 ++ c.in-Ok.value ∷ [])
counted g c =
    let zs = c.loop-value.invariant.0 in
    let z = c.in-Ok.value in
    omega (arith, c.loop-value.invariant.3, c.from-dead.ensures ∙ dead_bits z (word g c), fold_push (λ a x. a + cond (is_dead x) 1 0) 0 zs z)

-- the new sum is a word
word_sum : (g : _) (c : After-from-dead g) → to_z w32 (of_z w32 c.java_sum-sum.result) ≡ c.java_sum-sum.result
word_sum g c = search rules

pub loop-value-init : goal.loop-value-init
loop-value-init g c = ([], untouched, refl, refl)

pub overflow_add-dead : goal.overflow_add-dead
overflow_add-dead g c = omega (arith, c.requires, counted g c, dead_few (one_more c.loop-value.invariant.1 c.in-Ok.ensures.read))

pub loop-value-smaller : goal.loop-value-smaller
loop-value-smaller g c = int_shorter c.in-Ok.ensures.read

pub loop-value-preserved : goal.loop-value-preserved
loop-value-preserved g c =
    let sofar = c.loop-value.invariant in
    let z = c.in-Ok.value in (
      sofar.0 ++ z ∷ [],
      one_more sofar.1 c.in-Ok.ensures.read,
      word_sum g c ∙ c.java_sum-sum.ensures ∙ ap (λ x. java_sum x (to_z w32 (of_z w32 z))) sofar.2 ∙ ap (java_sum (sum_of sofar.0)) (to_z-of_z w32 z (word g c)) ∙ sym (fold_push java_sum (pos 0) sofar.0 z),
      counted g c,
    )

pub returns : goal.returns
returns g c = let sofar = c.loop-value.invariant in (sofar.0, until_failure sofar.1 c.in_default.ensures.read, sofar.2, sofar.3)
