use Rattle.std.proofs.Common.{rules}
use Rattle.std.proofs.lemmas.List.{take_min, drop_min, take_rest}
use Rattle.lexer.proofs.token.Token.text.Goals as goal

pub returns : goal.returns
returns c = search (rules, take_min, drop_min, take_rest)
