use Rattle.std.proofs.Common.{◌++◌, ap, ◌∙◌, arith, rules}
use Rattle.std.specs.String.{string_bytes}
use Rattle.mjtree.proofs.Printing.{part_there, one_printed, fewer, all_printed}
use Rattle.mjtree.proofs.listing.line.Goals as goal

pub offset_bounds-nodes-part : goal.offset_bounds-nodes-part
offset_bounds-nodes-part c =
    let within = (part_there _ _ _ _ _ c.in-Some.is (c.loop-next.invariant c.requires.told.0 c.requires.told.1)).1.within in
    search rules

pub bounds-nodes-part : goal.bounds-nodes-part
bounds-nodes-part c = (part_there _ _ _ _ _ c.in-Some.is (c.loop-next.invariant c.requires.told.0 c.requires.told.1)).1.within

pub loop-next-smaller : goal.loop-next-smaller
loop-next-smaller c = fewer c.args.nodes.now c.requires.told.0 _ _ _ _ c.in-Some.is (c.loop-next.invariant c.requires.told.0 c.requires.told.1)

pub loop-next-preserved : goal.loop-next-preserved
loop-next-preserved c = λ r told. one_printed _ _ _ _ _ _ _ c.in_ok-write.ensures.bytes c.in-Some.is (c.loop-next.invariant r told)

pub returns : goal.returns
returns c =
    let last = c.in_ok-push.ensures.bytes ∙ ap (λ bs. string_bytes c.loop-next.line ++ bs) (c.in_ok-push.ensures.ascii (omega arith)) in
    λ r told. all_printed _ _ _ _ _ last c.in_default.is (c.loop-next.invariant r told)
