-- Trees and the nodes that they are made of.
use Rattle.std.specs.Prelude.{ℕ, ◌+◌}
use Rattle.syntax.specs.declared.node.NodeKind.{NodeKind}

mutual
  -- a node with its kind and place, and the trees that are its parts
  pub data Tree : Type 0 where
    node : NodeKind → ℕ → Forest → Tree

  -- trees one behind the other
  pub data Forest : Type 0 where
    bare : Forest
    grown : Forest → Tree → Forest

-- the trees of the one and then those of the other
abbrev pub join : Forest → Forest → Forest
join f bare = f
join f (grown g t) = grown (join f g) t

-- how many nodes there are
abbrev mutual
  pub size : Tree → ℕ
  size (node k p f) = sizes f + 1

  pub sizes : Forest → ℕ
  sizes bare = 0
  sizes (grown f t) = sizes f + size t
