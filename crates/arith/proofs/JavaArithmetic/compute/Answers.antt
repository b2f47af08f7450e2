use Rattle.std.proofs.Common.{w32, SFits, rules}
use Rattle.std.proofs.lemmas.Int.{to_z-of_z, wraps}
use Rattle.arith.specs.Wrapping.{quotient_wrapped}
use Rattle.arith.proofs.JavaArithmetic.compute.Goals as goal

pub returns-in-Add : goal.returns-in-Add
returns-in-Add c = search (rules, wraps)

pub returns-in-Sub : goal.returns-in-Sub
returns-in-Sub c = search (rules, wraps)

pub returns-in-Div : goal.returns-in-Div
returns-in-Div c =
    let f : SFits w32 c.in-Div.a = search rules in
    search (rules, to_z-of_z, quotient_wrapped)
