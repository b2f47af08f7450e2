use Rattle.std.proofs.Common.{length, slice_get, slice_index, sym, ap, arith, drop-drop, rules}
use Rattle.std.proofs.lemmas.Option.{slice_get_within}
use Rattle.source.specs.Racks.{told}
use Rattle.source.proofs.Racks.{told_short, rack_first, line_over}
use Rattle.source.proofs.rack.RackSource.take.Goals as goal

pub overflow_add-self : goal.overflow_add-self
overflow_add-self c = omega (arith, told_short (slice_index c.args.self.now.readings.now 0))

pub invariant_of-self : goal.invariant_of-self
invariant_of-self c =
    let here = slice_get_within (told c.in_ok-reading.reading.now) _ _ (sym c.in-Some.ensures) in
    record { inside = omega (arith, here, ap (λ l. length (told (slice_index l 0))) c.in_ok-reading.ensures.cases.0) }

pub returns-in-Some-clause-answer : goal.returns-in-Some-clause-answer
returns-in-Some-clause-answer c = rack_first _ _ _ _ (ap (λ l. slice_get l 0) c.in_ok-reading.ensures.cases.0) c.args.self.now.inside c.in-Some.ensures

pub returns-in-Some-clause-rest : goal.returns-in-Some-clause-rest
returns-in-Some-clause-rest c = search (rules, drop-drop)

pub returns-in-None-clause-answer : goal.returns-in-None-clause-answer
returns-in-None-clause-answer c = rack_first _ _ _ _ (ap (λ l. slice_get l 0) c.in_ok-reading.ensures.cases.0) c.args.self.now.inside c.in-None.ensures

pub returns-in-None-clause-rest : goal.returns-in-None-clause-rest
returns-in-None-clause-rest c =
    let inside = rw c.in_ok-reading.ensures.cases.0 at c.args.self.now.inside in
    rw c.in_ok-reading.ensures.cases.0 (sym (line_over _ _ _ inside (sym c.in-None.ensures)))
