use Rattle.std.proofs.Common.{◌≡◌, min, length, ap, ◌∙◌, w32, to_z, of_z, rules}
use Rattle.std.specs.Fmt.{signed_decimal}
use Rattle.std.proofs.lemmas.Int.{to_z-of_z}
use Rattle.mjrack.proofs.Pages.{word_short, word_printed}
use Rattle.mjrack.proofs.report.write_int.Goals as goal

pub returns : goal.returns
returns c =
    let size = ap (λ l. min (length l) 1048576) c.new-page.ensures.memory in
    let same : to_z w32 (of_z w32 c.args.int) ≡ c.args.int = to_z-of_z w32 c.args.int c.ranges.int in
    let printed : c.as_slice.result.now ≡ signed_decimal c.args.int = c.as_slice.ensures ∙ word_printed (to_z w32 (of_z w32 c.args.int)) c.new-page.result c.print_word.new.page c.print_word.result (rw same (word_short c.args.int c.ranges.int)) c.new-page.ensures.empty size c.print_word.ensures ∙ ap signed_decimal same in
    search rules
