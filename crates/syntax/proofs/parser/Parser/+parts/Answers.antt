use Rattle.std.proofs.Common.{◌+◌, ◌<◌, arith}
use Rattle.std.proofs.lemmas.Result.{err_from_is_err_and}
use Rattle.syntax.specs.States.{Room}
use Rattle.syntax.specs.declared.grammar.Item.TheVariants.{Part as part}
use Rattle.syntax.proofs.Ranks.{at_rank, at_item, part_falls, part_room}
use Rattle.syntax.proofs.Steps.{made_is, token_done, token_stops, unless_done, unless_stops, none_made, one_made, inside, part_done, part_stops, doing_nothing, fine_next, doing_next, doing_stops, doing_all, going_first, going_falls, going_next, going_less, going_stops, going_all}
use Rattle.syntax.proofs.Tables.{rank}
use Rattle.syntax.proofs.parser.Parser.+parts.Goals as goal

pub step-overflow_add-self : goal.step-overflow_add-self
step-overflow_add-self t c =
    let a = c.requires.running in
    let few = a.few in
    omega (arith, made_is a)

pub step-returns-in-Some-clause-stepped : goal.step-returns-in-Some-clause-stepped
step-returns-in-Some-clause-stepped t c = rw (c.in-Make.is, c.in-Some.is) (λ a is r. one_made c.lay.ensures.laid a is r)

pub step-returns-in_default-clause-stepped : goal.step-returns-in_default-clause-stepped
step-returns-in_default-clause-stepped t c = rw (c.in-Make.is, c.in_default.is) (λ a is r. none_made a is r)

pub step-returns-in_err-token-in-Token-clause-stepped : goal.step-returns-in_err-token-in-Token-clause-stepped
step-returns-in_err-token-in-Token-clause-stepped t c =
    let p = err_from_is_err_and c.from_residual.result c.from_residual.ensures.1 in
    rw (p.1, p.2, c.in-Token.is) (λ a is r. token_stops c.take.new.self (rw c.on-nest.ensures at c.in_err-token-in-Token.ensures.taken) a is r)

pub step-returns-in_ok-token-in-Token-clause-stepped : goal.step-returns-in_ok-token-in-Token-clause-stepped
step-returns-in_ok-token-in-Token-clause-stepped t c = rw (c.in-Token.is, c.mark.ensures, c.on-nest.ensures) (λ a is r. token_done c.take.ensures.made (rw c.on-nest.ensures at c.in_ok-token-in-Token.ensures.taken) a is r)

pub step-returns-in_err-bar-in-Unless-clause-stepped : goal.step-returns-in_err-bar-in-Unless-clause-stepped
step-returns-in_err-bar-in-Unless-clause-stepped t c =
    let p = err_from_is_err_and c.from_residual-in_err-bar-in-Unless.result c.from_residual-in_err-bar-in-Unless.ensures.1 in
    rw (p.1, p.2, c.in-Unless.is) (λ a is r. unless_stops a (c.in_err-bar-in-Unless.ensures a.tokens a.coming) is r)

pub step-returns-in_ok-bar-in-Unless-clause-stepped : goal.step-returns-in_ok-bar-in-Unless-clause-stepped
step-returns-in_ok-bar-in-Unless-clause-stepped t c = rw c.in-Unless.is (λ a is r. unless_done a (c.in_ok-bar-in-Unless.ensures a.tokens a.coming) is r)

pub step-go-requires : goal.step-go-requires
step-go-requires t c =
    let less : at_rank c.on.result (rank c.in-Part.part) + 2 < at_item c.args.item c.args.nest = rw (c.in-Part.is, c.on.ensures) (part_falls c.in-Part.level c.in-Part.part c.args.nest) in
    let room : Room (part c.in-Part.level c.in-Part.part) c.args.nest.depth = rw c.in-Part.is at c.requires.room in
    (omega (arith, less, c.decreases), (rw c.on.ensures (part_room c.in-Part.level c.in-Part.part c.args.nest room), inside c.requires.running))

pub step-returns-in_err-go-in-Part-clause-stepped : goal.step-returns-in_err-go-in-Part-clause-stepped
step-returns-in_err-go-in-Part-clause-stepped t c =
    let p = err_from_is_err_and c.from_residual-in_err-go-in-Part.result c.from_residual-in_err-go-in-Part.ensures.1 in
    rw (p.1, p.2, c.in-Part.is) (λ a is r. part_stops a ((rw c.on.ensures at c.in_err-go-in-Part.ensures.went) (inside a)) is r)

pub step-returns-in_ok-go-in-Part-clause-stepped : goal.step-returns-in_ok-go-in-Part-clause-stepped
step-returns-in_ok-go-in-Part-clause-stepped t c = rw c.in-Part.is (λ a is r.
    let g = (rw c.on.ensures at c.in_ok-go-in-Part.ensures.went) (inside a) in
    part_done a g.0 g.1 is r)

pub run-loop-item-init : goal.run-loop-item-init
run-loop-item-init t c = doing_nothing _ c.requires.depth c.items-item-items.ensures

pub run-step-requires : goal.run-step-requires
run-step-requires t c =
    let l = c.loop-item in
    let fine = fine_next c.args.nest c.items-item-items.result.now l.item-index c.loop-item-test.true l.invariant.fine in
    (omega (arith, fine.1, c.decreases), (fine.0, (l.invariant.goes c.requires.running).then))

pub run-returns-in_err-begun-clause-ran : goal.run-returns-in_err-begun-clause-ran
run-returns-in_err-begun-clause-ran t c =
    let p = err_from_is_err_and c.from_residual.result c.from_residual.ensures.1 in
    rw (p.1, p.2) (doing_stops c.step.new.self c.step.new.table c.items-item-items.result.now c.loop-item.item-index c.loop-item-test.true c.loop-item.invariant c.in_err-begun.ensures.stepped)

pub run-loop-item-preserved : goal.run-loop-item-preserved
run-loop-item-preserved t c = doing_next c.items-item-items.result.now c.loop-item.item-index c.loop-item-test.true c.loop-item.invariant c.in_ok-begun.ensures.stepped c.in_ok-begun.ensures.shown c.step.ensures.text c.step.ensures.kept

pub run-returns-clause-ran : goal.run-returns-clause-ran
run-returns-clause-ran t c = doing_all c.items-item-items.result.now c.loop-item.item-index c.loop-item-test.false c.loop-item.invariant

pub go-loop-next-init : goal.go-loop-next-init
go-loop-next-init t c = going_first _

pub go-run-requires : goal.go-run-requires
go-run-requires t c =
    let d = rw c.in-Some.is at c.loop-next.invariant in
    (omega (arith, going_falls c.terminal.result c.predict-rule.result d c.predict-rule.ensures, c.decreases), (c.requires.depth, (c.loop-next.invariant.goes c.requires.running).then))

pub go-returns-in_err-own-clause-went : goal.go-returns-in_err-own-clause-went
go-returns-in_err-own-clause-went t c =
    let p = err_from_is_err_and c.from_residual.result c.from_residual.ensures.1 in
    let d = rw c.in-Some.is at c.loop-next.invariant in
    rw (p.1, p.2) (going_stops c.run.new.self c.run.new.table c.predict-rule.result d c.terminal.ensures c.predict-rule.ensures c.in_err-own.ensures.ran)

pub go-loop-next-smaller : goal.go-loop-next-smaller
go-loop-next-smaller t c =
    let d = rw c.in-Some.is at c.loop-next.invariant in
    rw (c.tail-next.ensures, c.in-Some.is) (going_less c.predict-rule.result d c.requires.running c.in_ok-own.ensures.ran)

pub go-loop-next-preserved : goal.go-loop-next-preserved
go-loop-next-preserved t c =
    let d = rw c.in-Some.is at c.loop-next.invariant in
    rw c.tail-next.ensures (going_next c.predict-rule.result d c.terminal.ensures c.predict-rule.ensures c.in_ok-own.ensures.ran c.run.ensures.text c.run.ensures.kept)

pub go-returns-clause-went : goal.go-returns-clause-went
go-returns-clause-went t c = going_all _ c.in_default.is c.loop-next.invariant
