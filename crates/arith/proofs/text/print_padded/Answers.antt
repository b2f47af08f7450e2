use Rattle.std.proofs.Common.{rules, arith, append_assoc}
use Rattle.std.proofs.lemmas.Grind.{common_steps}
use Rattle.std.proofs.lemmas.List.{replicate_more}
use Rattle.arith.proofs.text.print_padded.Goals as goal

pub loop-preserved : goal.loop-preserved
loop-preserved c = record { page = grind (arith, common_steps, replicate_more, append_assoc); kept = search rules }
