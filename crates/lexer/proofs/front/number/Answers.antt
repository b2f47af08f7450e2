use Rattle.std.proofs.Common.{◌≡◌, ℕ, ◌+◌, ◌<◌, ◌≤◌, true, cond, List, [], ◌∷◌, length, take, slice_index, MatchOption, ap, ◌∙◌, arith, length-take, rules}
use Rattle.std.specs.List.{prefix_len}
use Rattle.std.proofs.lemmas.Bool.Decides.{nat_tests}
use Rattle.lexer.specs.Classes.{digit}
use Rattle.lexer.specs.Runs.{decimal}
use Rattle.lexer.proofs.Lexemes.{run_digits, number_here}
use Rattle.lexer.proofs.front.number.Goals as goal

-- where a digit stands first, there is a run of digits
some : (s : List ℕ) (n : ℕ) → digit (slice_index s 0) ≡ true → n ≡ prefix_len digit s → 0 < length (take n s)
some [] n first run = absurd (grind (arith, nat_tests, first))
some (b ∷ s) n first run = let e : n ≡ 1 + prefix_len digit s = run ∙ ap (λ t. cond t (1 + prefix_len digit s) 0) first in omega (arith, e, length-take n (b ∷ s))

pub value_of-requires : goal.value_of-requires
value_of-requires c = run_digits c.args.s.now c.run_len-len.result (c.run_len-len.ensures.len digit (λ byte r told. search rules))

pub returns : goal.returns
returns c =
    let s = c.args.s.now in
    let n = c.run_len-len.result in
    let digits = take n s in
    let run : n ≡ prefix_len digit s = c.run_len-len.ensures.len digit (λ byte r told. search rules) in
    let more = some s n c.requires run in
    let value : MatchOption c.filter.result (2147483647 < decimal digits) (λ v. (v ≡ decimal digits) × (v ≤ 2147483647)) = grind (arith, c.value_of.ensures) in
    number_here s n c.filter.result c.map.result c.ok_or.result c.requires run value (search rules) c.ok_or.ensures.value
