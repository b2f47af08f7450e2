use Rattle.std.proofs.Common.{rules}
use Rattle.lexer.proofs.Lexemes.{signed_here, marked_here}
use Rattle.lexer.proofs.front.marked.Goals as goal

pub returns : goal.returns
returns c =
    let first = signed_here c.args.s.now c.sign.result c.map.result c.or_else.result c.requires c.sign.ensures (search rules) (λ e. search rules) (λ f e. search rules) in
    marked_here c.args.s.now c.or_else.result c.or_else-2.result first (λ e. search rules) (λ f e. search rules)
