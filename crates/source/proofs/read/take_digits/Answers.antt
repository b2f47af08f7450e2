use Rattle.std.proofs.Common.{arith, rules}
use Rattle.source.proofs.Steps.{untaken, some_digits, digit_taken}
use Rattle.source.proofs.read.take_digits.Goals as goal

pub loop-value-init : goal.loop-value-init
loop-value-init g c = rw c.take.ensures.rest (digit_taken _ _ c.in_ok-digit.field-0 _ _ (search rules) (untaken _) (omega (arith, c.from-amount.ensures, (some_digits (g.S.Source.waiting c.args.source.now) c.in_ok-digit.field-0 (search rules)).1)))

pub loop-value-preserved : goal.loop-value-preserved
loop-value-preserved g c = rw c.take-in-Some.ensures.rest (digit_taken _ _ c.in-Some.value _ _ (search rules) c.loop-value.invariant (omega (arith, c.min-amount.ensures, c.from.ensures)))

pub returns-clause-amount : goal.returns-clause-amount
returns-clause-amount g c = let some = some_digits (g.S.Source.waiting c.args.source.now) c.in_ok-digit.field-0 (search rules) in search rules
