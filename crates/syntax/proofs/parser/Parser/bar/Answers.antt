use Rattle.std.proofs.Common.{◌∙◌, sym}
use Rattle.syntax.specs.declared.refusal.Reason.TheVariants.{Grammar}
use Rattle.syntax.proofs.Taking.{ahead_is, place_is}
use Rattle.syntax.proofs.Terminals.{equal, unequal}
use Rattle.syntax.proofs.parser.Parser.bar.Goals as goal

pub returns-in-Some : goal.returns-in-Some
returns-in-Some c = λ ts coming. (sym (ahead_is ts c.in-Some.is coming) ∙ sym c.of.ensures ∙ equal c.eq.ensures c.if-eq.true, λ i. record { reason = Grammar; place = place_is ts c.in-Some.is coming i })

pub returns-in_default : goal.returns-in_default
returns-in_default c = λ ts coming x. unequal c.eq.ensures c.if-eq.false (c.of.ensures ∙ ahead_is ts c.in-Some.is coming ∙ x)
