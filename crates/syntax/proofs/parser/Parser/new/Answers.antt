use Rattle.std.proofs.Common.{subst, ◌∙◌}
use Rattle.lexer.specs.Stream.{Step}
use Rattle.syntax.proofs.Taking.{first_of}
use Rattle.syntax.proofs.parser.Parser.new.Goals as goal

pub returns-clause-coming : goal.returns-clause-coming
returns-clause-coming c = λ ts a many.
    let start = c.new-tokens.ensures in
    let after = c.next.new.self.at in
    let step = subst (λ at. Step c.args.text.now at c.next.result after) start.1 (subst (λ text. Step text c.new-tokens.result.at c.next.result after) start.0 c.next.ensures.steps.0) in
    record {
      many = many;
      same = c.next.ensures.steps.1 ∙ start.0;
      next = first_of _ c.next.result step a.cut c.and_then-ahead.ensures (λ r q. q.0);
    }
