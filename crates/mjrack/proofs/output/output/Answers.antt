use Rattle.std.proofs.Common.{length, sym, ap, ◌∙◌, subst, rules}
use Rattle.std.proofs.lemmas.Result.{IfOk-weaker}
use Rattle.mjrack.specs.Lines.{Sofar, Refused}
use Rattle.mjrack.specs.Output.{Printed, the_report, the_refusal}
use Rattle.mjrack.proofs.output.output.Goals as goal

pub returns-in-Ok : goal.returns-in-Ok
returns-in-Ok c =
    let text = c.args.text.now in
    let all : Sofar text (length text) c.deref.result.now = search rules in
    IfOk-weaker c.report.result _ _ (λ v e. the_report all e) c.report.ensures

pub returns-in_ok-format-in-Err : goal.returns-in_ok-format-in-Err
returns-in_ok-format-in-Err c =
    let text = c.args.text.now in
    let none : Refused text c.in-Err.field-0.0 = search rules in
    let printed = ap (λ v. v.items) c.into_bytes.ensures.value ∙ c.in_ok-format-in-Err.ensures.ok in
    subst (Printed text) (sym printed) (the_refusal none)
