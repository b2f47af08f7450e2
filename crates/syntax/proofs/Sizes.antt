-- How many entries trees take, and trees one behind the other.
use Rattle.std.proofs.Common.{◌≡◌, ℕ, ◌+◌, ◌<◌, ◌++◌, length, Some, None, Option, sym, refl, ap, ◌∙◌, append_assoc, append-nil, arith}
use Rattle.std.proofs.lemmas.List.{length-append}
use Rattle.syntax.specs.declared.node.Use.{Use}
use Rattle.syntax.specs.declared.node.Use.TheVariants.{Value}
use Rattle.syntax.specs.Table.{first_use, root, use_behind, entries, parts, loose}
use Rattle.syntax.specs.Trees.{Tree, node, Forest, bare, grown, join, size, sizes}

-- a tree takes as many entries as it has nodes
mutual
  pub length_entries : (b : ℕ) (next : Option ℕ) (u : Use) (t : Tree) → length (entries b next u t) ≡ size t
  length_entries b next u (node k p f) = simp length-append (omega (arith, length_parts b None (first_use k) f))

  pub length_parts : (b : ℕ) (next : Option ℕ) (u : Use) (f : Forest) → length (parts b next u f) ≡ sizes f
  length_parts b next u bare = refl
  length_parts b next u (grown f t) = simp length-append (omega (arith, length_parts b (Some (root (b + sizes f) t)) u f, length_entries (b + sizes f) next (use_behind f u) t))

pub length_loose : (b : ℕ) (f : Forest) → length (loose b f) ≡ sizes f
length_loose b bare = refl
length_loose b (grown f t) = simp length-append (omega (arith, length_loose b f, length_entries (b + sizes f) None Value t))

-- a tree has a node
pub some_node : (t : Tree) → 0 < size t
some_node (node k p f) = omega arith

pub sizes_join : (f g : Forest) → sizes (join f g) ≡ sizes f + sizes g
sizes_join f bare = omega arith
sizes_join f (grown g t) = omega (arith, sizes_join f g)

-- loose trees behind others
pub loose_join : (b : ℕ) (f g : Forest) → loose b (join f g) ≡ loose b f ++ loose (b + sizes f) g
loose_join b f bare = sym (append-nil (loose b f))
loose_join b f (grown g t) =
    let at : b + sizes (join f g) ≡ b + sizes f + sizes g = omega (arith, sizes_join f g) in
    ap (λ l. l ++ entries (b + sizes (join f g)) None Value t) (loose_join b f g)
    ∙ ap (λ n. (loose b f ++ loose (b + sizes f) g) ++ entries n None Value t) at
    ∙ append_assoc (loose b f) (loose (b + sizes f) g) (entries (b + sizes f + sizes g) None Value t)
