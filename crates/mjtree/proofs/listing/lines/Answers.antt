use Rattle.std.proofs.Common.{◌++◌, ap, ◌∙◌}
use Rattle.std.specs.String.{string_bytes}
use Rattle.mjtree.proofs.Printing.{none_lined, one_lined}
use Rattle.mjtree.proofs.listing.lines.Goals as goal

pub loop-index-init : goal.loop-index-init
loop-index-init c = λ f is. none_lined _ f _ c.new-lines.ensures.bytes is

pub loop-index-preserved : goal.loop-index-preserved
loop-index-preserved c =
    let more = c.in_ok-push_str.ensures.bytes ∙ ap (λ bs. string_bytes c.loop-index.lines ++ bs) c.deref.ensures in
    λ f is. one_lined _ f _ _ _ _ c.loop-index-test.true more c.in_ok-line.ensures (c.loop-index.invariant f is)
