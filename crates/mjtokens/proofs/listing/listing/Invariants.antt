use Rattle.std.proofs.Common.{◌≡◌, List, vec_items}
use Rattle.std.specs.List.{flat_map}
use Rattle.lexer.specs.declared.token.Token.{Token}
use Rattle.lexer.proofs.Streams.{Came}
use Rattle.mjtokens.specs.Listing.{line}
use Rattle.mjtokens.proofs.listing.listing.Given as goal

abbrev pub invariant-loop-token : goal.invariant-loop-token
invariant-loop-token l = (ts : List Token) × Came l.recipe l.token-iterator ts × (vec_items l.out ≡ flat_map (line l.recipe) ts)
