use Rattle.std.proofs.Common.{◌≡◌, sym, ap, ◌∙◌, rules}
use Rattle.std.proofs.lemmas.Bool.{le-leb, lt-leb}
use Rattle.syntax.proofs.Links.{all_loose, one_linked, all_linked, tied, relinked}
use Rattle.syntax.proofs.table.link.Goals as goal
use Rattle.syntax.proofs.table.link.Goals.{then-node-start, else-node-start}

pub trees-init : goal.trees-init
trees-init c = (rw c.len-end.ensures (all_loose _ _ _), search rules)

pub trees-preserved : goal.trees-preserved
trees-preserved c =
    let node = c.in-Some.node in
    let m : c.if-node-start.node ≡ relinked c.args.start c.args.used c.trees.next node =
    elim c.if-node-start.branch [
      | then-node-start w ↦ w.node-is ∙ ap (λ b. tied b c.args.used c.trees.next node) (sym (le-leb _ _ w.if-node-start.true))
      | else-node-start w ↦ w.node-is ∙ ap (λ b. tied b c.args.used c.trees.next node) (sym (lt-leb _ _ w.if-node-start.false))
    ] in (
      one_linked _ _ _ _ _ _ _ _ node c.if-node-start.node c.trees-test.true (m ∙ ap (relinked c.args.start c.args.used c.trees.next) c.in-Some.ensures.1) c.set.ensures.changed c.min-end.ensures c.trees.invariant.0,
      search rules,
    )

pub returns-after-trees-clause-linked : goal.returns-after-trees-clause-linked
returns-after-trees-clause-linked c = all_linked _ _ _ _ _ _ c.trees-test.false c.trees.invariant.0
