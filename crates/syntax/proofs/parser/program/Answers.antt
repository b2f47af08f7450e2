use Rattle.std.proofs.Common.{List, None, subst, arith}
use Rattle.std.proofs.lemmas.Result.{err_from_is_err_and}
use Rattle.slicevec.specs.Held.{room}
use Rattle.lexer.specs.Scan.{Accepted}
use Rattle.lexer.specs.declared.Token.{Token}
use Rattle.syntax.specs.States.{Coming, Running, Stops}
use Rattle.syntax.proofs.Laws.{start}
use Rattle.syntax.proofs.Promises.{scanned, unscanned, stopped, left, complete, begun, tokens_few, all_held, there, full}
use Rattle.syntax.proofs.parser.program.Goals as goal
use Rattle.syntax.proofs.parser.program.Goals.{After-new-parser}

-- the tokens of the text, which are all still to come
abbrev came : (c : After-new-parser) → (ts : List Token) × Accepted c.args.text.now ts × Coming c.new-parser.result ts
came c =
    let s = scanned _ c.scan.result c.scan.ensures.scanned c.in_ok-left.ensures.cases (λ x q. q) in
    (s.0, s.1, c.new-parser.ensures.coming s.0 s.1 s.2)

-- what the parser begins with
abbrev first : (c : After-new-parser) → Running c.new-parser.result c.args.table.now c.new-parser.result.made None
first c = let s = came c in begun c.new-parser.ensures.made c.requires.empty (tokens_few s.1) s.2

pub returns-in_err-left-clause-found : goal.returns-in_err-left-clause-found
returns-in_err-left-clause-found c =
    let p = err_from_is_err_and c.from_residual.result c.from_residual.ensures.1 in
    rw (p.1, p.2) (unscanned (room c.args.table.now) _ c.scan.result c.scan.ensures.scanned c.in_err-left.ensures.cases (λ x q. q))

pub go-requires-clause-running : goal.go-requires-clause-running
go-requires-clause-running c = first (goal.at.go-requires-clause-running c).After-new-parser

pub returns-in_err-go-clause-found : goal.returns-in_err-go-clause-found
returns-in_err-go-clause-found c =
    let before = (goal.at.returns-in_err-go-clause-found c).After-new-parser in
    let s = came before in
    let p = err_from_is_err_and c.from_residual-in_err-go.result c.from_residual-in_err-go.ensures.1 in
    rw (p.1, p.2) (stopped (room c.args.table.now) s.1 (subst (λ text. Stops text c.in_err-go.field-0.0 s.0 start) c.new-parser.ensures.text (c.in_err-go.ensures.went (first before))))

pub returns-in-Some-clause-found : goal.returns-in-Some-clause-found
returns-in-Some-clause-found c =
    let before = (goal.at.returns-in-Some-clause-found c).After-new-parser in
    let g = (c.in_ok-go.ensures.went (first before)).1 in
    left (room c.args.table.now) (came before).1 g.path g.then.coming c.in-Some.is

pub returns-then-len-parser-clause-found : goal.returns-then-len-parser-clause-found
returns-then-len-parser-clause-found c =
    let before = (goal.at.returns-then-len-parser-clause-found c).After-new-parser in
    let g = (c.in_ok-go.ensures.went (first before)).1 in
    let f = g.then.trees in
    full f (came before).1 (complete g.path g.then.coming c.in_default.is) (all_held f c.new-parser.ensures.made g.front g.then.holds) c.go.ensures.kept.size (omega (arith, c.len.ensures, c.if-len-parser.true))

pub returns-clause-found : goal.returns-clause-found
returns-clause-found c =
    let before = (goal.at.returns-clause-found c).After-new-parser in
    let g = (c.in_ok-go.ensures.went (first before)).1 in
    let f = g.then.trees in
    there f (came before).1 (complete g.path g.then.coming c.in_default.is) (all_held f c.new-parser.ensures.made g.front g.then.holds) c.go.ensures.kept.size (omega (arith, c.len.ensures, c.if-len-parser.false))
