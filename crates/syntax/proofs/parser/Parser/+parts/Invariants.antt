use Rattle.std.proofs.Common.{◌+◌, drop}
use Rattle.syntax.specs.Grammar.{left}
use Rattle.syntax.proofs.Ranks.{at_rank, at_item, behind}
use Rattle.syntax.proofs.Steps.{Doing, Going}
use Rattle.syntax.proofs.Tables.{rank}
use Rattle.syntax.proofs.parser.Parser.+parts.Given as goal

-- less depth is left inside, and a part of a rule ranks below the rule
abbrev pub decreases-go : goal.decreases-go
decreases-go l = at_rank l.nest (rank l.part) + 2

abbrev pub decreases-run : goal.decreases-run
decreases-run l = at_rank l.nest (rank (left l.rule)) + 1

abbrev pub decreases-step : goal.decreases-step
decreases-step l = at_item l.item l.nest

abbrev pub invariant-go-loop-next : goal.invariant-go-loop-next
invariant-go-loop-next l = Going l.initial.self l.self l.initial.table l.table l.fn.part l.nest l.next l.own

-- a rule with a tail takes a token before
abbrev pub decreases-go-loop-next : goal.decreases-go-loop-next
decreases-go-loop-next l = behind l.next l.self.left

abbrev pub invariant-run-loop-item : goal.invariant-run-loop-item
invariant-run-loop-item l = Doing l.initial.self l.self l.initial.table l.table l.fn.rule l.nest l.start l.fn.own l.begun (drop l.item-index l.item-items)
