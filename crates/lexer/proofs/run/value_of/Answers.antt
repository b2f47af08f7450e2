use Rattle.std.proofs.Common.{◌≡◌, ◌+◌, ap, ◌∙◌, arith, take_all}
use Rattle.lexer.specs.Runs.{decimal}
use Rattle.lexer.proofs.Numbers.{decimal_more, decimal_grows}
use Rattle.lexer.proofs.run.value_of.Goals as goal

pub returns-in_err-checked_mul : goal.returns-in_err-checked_mul
returns-in_err-checked_mul c =
    let digits = c.args.digits.now in
    let i = c.loop-byte.byte-index in
    rw c.from_residual.ensures (λ small. c.in_err-checked_mul.ensures (omega (arith, c.loop-byte.invariant.0, decimal_more digits i (omega arith), decimal_grows digits (i + 1), small)))

pub returns-in_err-value : goal.returns-in_err-value
returns-in_err-value c =
    let digits = c.args.digits.now in
    let i = c.loop-byte.byte-index in
    rw c.from_residual-in_err-value.ensures (λ small. c.in_err-value.ensures (omega (arith, c.loop-byte.invariant.0, decimal_more digits i (omega arith), decimal_grows digits (i + 1), small, c.from.ensures, c.in_ok-checked_mul.ensures.1)))

pub loop-byte-preserved : goal.loop-byte-preserved
loop-byte-preserved c =
    let digits = c.args.digits.now in
    let i = c.loop-byte.byte-index in
    (omega (arith, c.loop-byte.invariant.0, decimal_more digits i (omega arith), c.from.ensures, c.in_ok-checked_mul.ensures.1, c.in_ok-value.ensures.1), omega (arith, c.in_ok-value.ensures.0, c.in_ok-value.ensures.1))

pub returns : goal.returns
returns c =
    let whole : c.loop-byte.value ≡ decimal c.args.digits.now = c.loop-byte.invariant.0 ∙ ap decimal (take_all c.loop-byte.byte-index c.args.digits.now (omega arith)) in
    (omega (arith, whole, c.loop-byte.invariant.1), whole)
