use Rattle.std.proofs.Common.{◌≡◌, ℕ, List, [], ◌∷◌, ◌++◌, length, Some, Ok, Err, Result, vec_items, sym, refl, ap, ◌∙◌, subst, arith}
use Rattle.std.specs.List.{flat_map}
use Rattle.std.specs.Result.{IsOk}
use Rattle.std.specs.String.{string_bytes}
use Rattle.std.proofs.lemmas.List.{flat_map_more}
use Rattle.lexer.specs.Scan.{Accepted, Refused, too_long, cannot_go_on}
use Rattle.lexer.specs.Stream.{StandsAt, Yields}
use Rattle.lexer.specs.declared.refusal.Reason.{Reason}
use Rattle.lexer.specs.declared.refusal.Refusal.{Refusal}
use Rattle.lexer.specs.declared.token.Token.{Token}
use Rattle.lexer.specs.declared.tokens.Tokens.{Tokens}
use Rattle.lexer.proofs.Streams.{Came, none_came, one_came, all_came, no_more_came}
use Rattle.mjtokens.specs.Listing.{line, total, Listed, the_tokens, the_refusal}
use Rattle.mjtokens.proofs.listing.listing.Goals as goal

-- no text is both accepted and refused
never_both : {text : List ℕ} {ts : List Token} {number p : ℕ} → Accepted text ts → Refused text number p → ⊥
never_both a (too_long long) = omega (arith, a.short)
never_both {ts = ts} a (cannot_go_on short cut bad none) = none ts a.cut

-- of an accepted text only tokens come
comes : (text : List ℕ) (it after : Tokens) (ts all : List Token) (item : Result Token (Refusal Reason)) → Came text it ts → Accepted text all → Yields it (Some item) after → IsOk item
comes text it after ts all (Ok token) came a yields = refl
comes text it after ts all (Err refusal) came a yields = absurd (never_both a (no_more_came text it after ts came (Err refusal) refusal refl a.short yields))

pub returns-in-Err : goal.returns-in-Err
returns-in-Err c =
    let printed = ap (λ v. v.items) c.into_bytes.ensures.value ∙ c.in_ok-format-in-Err.ensures.ok in
    subst (Listed c.args.recipe.now) (sym printed) (the_refusal c.in-Err.ensures.scanned)

pub loop-token-init : goal.loop-token-init
loop-token-init c =
    let start : StandsAt c.into_iter-token-iterator.result c.args.recipe.now 0 = rw c.into_iter-token-iterator.ensures.into_iter_gives c.new-token-items.ensures in
    ([], none_came c.args.recipe.now c.into_iter-token-iterator.result start, c.new-out.ensures.items)

pub unwrap-requires : goal.unwrap-requires
unwrap-requires c = comes c.args.recipe.now c.loop-token.token-iterator c.next.new.self c.loop-token.invariant.0 c.in-Ok.ensures.scanned.0 c.in-Some.token c.loop-token.invariant.1 c.in-Ok.ensures.scanned.1 c.in-Some.ensures.steps

pub loop-token-preserved : goal.loop-token-preserved
loop-token-preserved c =
    let recipe = c.args.recipe.now in
    let before = c.loop-token.invariant in
    let printed : vec_items c.write_line.new.out ≡ flat_map (line recipe) before.0 ++ line recipe c.unwrap.result = c.in_ok-write_line.ensures ∙ ap (λ bs. bs ++ line recipe c.unwrap.result) before.2 in (
      before.0 ++ c.unwrap.result ∷ [],
      one_came recipe c.loop-token.token-iterator c.next.new.self before.0 before.1 c.in-Some.token c.unwrap.result c.unwrap.ensures c.in-Some.ensures.steps,
      printed ∙ flat_map_more (line recipe) [] before.0 c.unwrap.result,
    )

pub returns : goal.returns
returns c =
    let recipe = c.args.recipe.now in
    let before = c.loop-token.invariant in
    let scanned = c.in-Ok.ensures.scanned in
    let all = all_came recipe c.loop-token.token-iterator c.next.new.self before.0 before.1 scanned.1.short c.in-None.ensures.steps in
    let count : c.in-Ok.count ≡ length before.0 = sym scanned.2 ∙ ap length (sym (scanned.1.only before.0 all.cut)) in
    let last : string_bytes c.in_ok-format.field-0 ≡ total c.in-Ok.count = c.in_ok-format.ensures.ok in
    let printed = c.in_ok-extend_from_slice.ensures.items ∙ ap (λ bs. vec_items c.loop-token.out ++ bs) (c.as_bytes.ensures.value ∙ last ∙ ap total count) ∙ ap (λ bs. bs ++ total (length before.0)) before.2 in
    subst (Listed recipe) (sym printed) (the_tokens all)
