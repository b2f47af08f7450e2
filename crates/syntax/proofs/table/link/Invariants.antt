use Rattle.std.proofs.Common.{◌-◌}
use Rattle.slicevec.specs.Held.{held, KeepsMemory}
use Rattle.syntax.proofs.Links.{Linking}
use Rattle.syntax.proofs.table.link.Given as goal

-- the trees before the end are still loose, the others have their links
abbrev pub invariant-trees : goal.invariant-trees
invariant-trees l = Linking (held l.initial.table) (held l.table) l.start l.used l.next l.end × KeepsMemory l.initial.table l.table

abbrev pub decreases-trees : goal.decreases-trees
decreases-trees l = l.end - l.start
