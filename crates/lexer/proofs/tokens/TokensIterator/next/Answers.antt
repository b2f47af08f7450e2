use Rattle.std.proofs.Common.{◌+◌, ◌<◌, ◌≤◌, length, arith, rules}
use Rattle.lexer.proofs.Scans.{token_ahead, refusal_ahead}
use Rattle.lexer.proofs.tokens.TokensIterator.next.Goals as goal
use Rattle.lexer.proofs.tokens.TokensIterator.next.Goals.{In-Ok-2}

ahead : (c : In-Ok-2) → (c.args.self.now.at < c.in-Ok.token.place + c.in-Ok.token.len) × (c.in-Ok.token.place + c.in-Ok.token.len ≤ length c.args.self.now.text.now)
ahead c = token_ahead c.args.self.now.text.now c.args.self.now.at c.in-Ok.token c.in-Ok.ensures (search rules)

pub overflow_add-self : goal.overflow_add-self
overflow_add-self c = omega (arith, ahead (goal.at.overflow_add-self c).In-Ok-2)

pub returns-in-Ok-2-clause-goes : goal.returns-in-Ok-2-clause-goes
returns-in-Ok-2-clause-goes c = record { on = λ _. (tt, tt, omega (arith, ahead (goal.at.returns-in-Ok-2-clause-goes c).In-Ok-2)); keeps = tt; rests = λ _. tt }

pub returns-in-Err-clause-goes : goal.returns-in-Err-clause-goes
returns-in-Err-clause-goes c =
    let before = refusal_ahead c.args.self.now.text.now c.args.self.now.at _ _ c.in-Err.ensures in
    record { on = λ _. (tt, tt, omega arith); keeps = tt; rests = λ _. tt }
