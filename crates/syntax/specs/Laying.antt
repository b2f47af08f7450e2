-- What the functions that lay nodes into the table promise one another. Only inner contracts speak of this.
use Rattle.std.specs.Prelude.{◌≡◌, ℕ, ◌+◌, ◌≤◌, List, ◌++◌, length, None, Option}
use Rattle.slicevec.specs.declared.SliceVec.{SliceVec}
use Rattle.slicevec.specs.Held.{held, room}
use Rattle.syntax.specs.declared.node.Node.{Node}
use Rattle.syntax.specs.declared.node.Own.{Own}
use Rattle.syntax.specs.declared.node.Use.{Use}
use Rattle.syntax.specs.declared.node.Use.TheVariants.{Value}
use Rattle.syntax.specs.Table.{first_root, parts, loose, entries}
use Rattle.syntax.specs.Trees.{Forest, node}

-- loose trees behind a front become the parts of one node
pub record Linked (old new : List Node) (start : ℕ) (used : Use) (first : Option ℕ) : Type 0 where
  pub linked : (front : List Node) (f : Forest) → old ≡ front ++ loose start f → length front ≡ start → new ≡ front ++ parts start None used f
  pub begun : (front : List Node) (f : Forest) → old ≡ front ++ loose start f → length front ≡ start → first ≡ first_root start f None
  pub long : length new ≡ length old

-- The table holds these nodes, of which so many were made. Where there is no room for all, it may hold anything.
pub record Holds (table : SliceVec Node) (made : ℕ) (nodes : List Node) : Type 0 where
  pub many : length nodes ≡ made
  pub stored : length nodes ≤ room table → held table ≡ nodes

-- one node was made of the loose trees behind a front
pub record Laid (old new : SliceVec Node) (made : ℕ) (own : Own) (start : ℕ) : Type 0 where
  pub laid : (front : List Node) (f : Forest) → length front ≡ start → Holds old made (front ++ loose start f) → Holds new (made + 1) (front ++ entries start None Value (node own.kind own.place f))
