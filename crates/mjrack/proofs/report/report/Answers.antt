use Rattle.std.proofs.Common.{◌≡◌, ℕ, List, ◌++◌, length, codes, decimal, append_assoc, sym, ap, ◌∙◌, subst, w32, to_z, of_z, rules}
use Rattle.std.specs.Fmt.{signed_decimal}
use Rattle.std.specs.String.{string_bytes}
use Rattle.source.specs.Racks.{rack_text}
use Rattle.mjrack.specs.Report.{last_line, sum_of, dead_of, ReadBack, Reported, reported}
use Rattle.mjrack.proofs.report.report.Goals as goal

-- what is written in three parts is one line
joined : (out a many b sum d dead e : List ℕ) → ((out ++ (a ++ (many ++ b))) ++ sum) ++ (d ++ (dead ++ e)) ≡ out ++ (a ++ (many ++ (b ++ (sum ++ (d ++ (dead ++ e))))))
joined out a many b sum d dead e =
    let behind = d ++ (dead ++ e) in
    append_assoc (out ++ (a ++ (many ++ b))) sum behind ∙ append_assoc out (a ++ (many ++ b)) (sum ++ behind) ∙ ap (λ l. out ++ l) (append_assoc a (many ++ b) (sum ++ behind) ∙ ap (λ l. a ++ l) (append_assoc many b (sum ++ behind)))

pub returns : goal.returns
returns c =
    let readings = c.args.readings.now in
    let back = c.read_back-sum.ensures in
    let word : to_z w32 (of_z w32 c.read_back-sum.result.sum) ≡ c.read_back-sum.result.sum = search rules in
    let front : string_bytes c.in_ok-format.field-0 ≡ codes "readings " ++ (decimal (length readings) ++ codes ", sum ") = c.in_ok-format.ensures.ok in
    let behind : string_bytes c.in_ok-format-2.field-0 ≡ codes ", dead " ++ (decimal c.read_back-sum.result.dead ++ codes "\n") = c.in_ok-format-2.ensures.ok in
    let sum : c.write_int.new.out.items ≡ c.extend_from_slice.new.self.items ++ signed_decimal c.read_back-sum.result.sum = c.in_ok-write_int.ensures ∙ ap (λ sum. c.extend_from_slice.new.self.items ++ signed_decimal sum) word in
    let all : c.extend_from_slice-2.new.self.items ≡ rack_text readings ++ last_line (length readings) (sum_of back.0) (dead_of back.0) =
    c.in_ok-extend_from_slice-2.ensures.items
    ∙ cc (sum, c.in_ok-extend_from_slice.ensures.items, c.in_ok-out.ensures, c.new.ensures, c.as_bytes.ensures.value, c.as_bytes-2.ensures.value, front, behind, back.2, back.3)
    ∙ joined (rack_text readings) (codes "readings ") (decimal (length readings)) (codes ", sum ") (signed_decimal (sum_of back.0)) (codes ", dead ") (decimal (dead_of back.0)) (codes "\n") in
    subst (Reported readings) (sym all) (reported (subst (λ w. ReadBack w back.0) c.new-2.ensures back.1))
