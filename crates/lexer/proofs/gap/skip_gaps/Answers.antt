use Rattle.std.proofs.Common.{arith}
use Rattle.lexer.specs.Tokens.{nothing}
use Rattle.lexer.proofs.Cuts.{gap_after, gap_inside}
use Rattle.lexer.proofs.gap.skip_gaps.Goals as goal

pub loop-n-init : goal.loop-n-init
loop-n-init c = nothing

pub overflow_add-place : goal.overflow_add-place
overflow_add-place c = omega (arith, gap_inside c.args.text.now c.loop-n.place c.in-Some.n c.in-Some.ensures, c.well_formed)

pub loop-n-smaller : goal.loop-n-smaller
loop-n-smaller c = omega (arith, gap_inside c.args.text.now c.loop-n.place c.in-Some.n c.in-Some.ensures)

pub loop-n-preserved : goal.loop-n-preserved
loop-n-preserved c = gap_after c.loop-n.invariant c.in-Some.ensures
