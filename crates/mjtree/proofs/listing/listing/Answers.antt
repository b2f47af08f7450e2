use Rattle.std.proofs.Common.{◌≡◌, ℕ, List, ◌++◌, length, sym, ap, ◌∙◌, subst, arith}
use Rattle.slicevec.specs.declared.SliceVec.{SliceVec}
use Rattle.slicevec.specs.Held.{room, memory}
use Rattle.syntax.specs.declared.node.Node.{Node}
use Rattle.syntax.specs.Parsing.{NoTree}
use Rattle.syntax.specs.Refusals.{number_of}
use Rattle.mjtree.specs.Listing.{lines, refused_line, Listed, the_tree, the_refusal, total}
use Rattle.mjtree.proofs.listing.listing.Goals as goal

-- there is room for as many entries as were lent
all_room : (table : SliceVec Node) (lent : List Node) → memory table ≡ lent → length lent ≡ 65542 → room table ≡ 65542
all_room table lent e len = omega (arith, ap length e)

refused : (recipe out : List ℕ) (room number place : ℕ) → NoTree recipe room number place → room ≡ 65542 → out ≡ refused_line number place → Listed recipe out
refused recipe out room number place none e printed = subst (Listed recipe) (sym printed) (the_refusal (subst (λ n. NoTree recipe n number place) e none))

pub returns-in-Err-clause-listed : goal.returns-in-Err-clause-listed
returns-in-Err-clause-listed c =
    let lent = all_room c.new-table.result c.in_ok-entries.entries.items (c.new-table.ensures.memory ∙ c.deref_mut.ensures.value) (sym c.in_ok-entries.entries.ok.0 ∙ c.in_ok-entries.ensures.len) in
    let printed = ap (λ v. v.items) c.into_bytes.ensures.value ∙ c.in_ok-format-in-Err.ensures.ok in
    refused c.args.recipe.now _ _ (number_of c.in-Err.refusal.reason) c.in-Err.refusal.place c.in-Err.ensures.parsed.0 lent printed

pub returns-clause-listed : goal.returns-clause-listed
returns-clause-listed c =
    let p = c.in-Ok.ensures.parsed in
    let text = c.in_ok-out.ensures p.1 (c.as_slice.ensures ∙ p.6) in
    let last = c.in_ok-writeln.ensures.bytes in
    let printed = ap (λ v. v.items) c.into_bytes-2.ensures.value ∙ last ∙ ap (λ bs. bs ++ total c.in-Ok.count) text ∙ ap (λ n. lines p.1 ++ total n) p.4 in
    subst (Listed c.args.recipe.now) (sym printed) (the_tree p.2 p.3)
