-- One more node in the table.
use Rattle.std.proofs.Common.{◌≡◌, ℕ, ◌+◌, ◌<◌, ◌≤◌, List, [], ◌∷◌, ◌++◌, length, None, Ok, Err, Option, Result, ap, ◌∙◌, append_assoc, arith, MatchResult}
use Rattle.std.proofs.lemmas.List.{length-append, length_push}
use Rattle.slicevec.specs.declared.SliceVec.{SliceVec}
use Rattle.slicevec.specs.declared.Full.{Full}
use Rattle.slicevec.specs.Held.{held, room}
use Rattle.syntax.specs.declared.node.Node.{Node}
use Rattle.syntax.specs.declared.node.Note.TheVariants.{Unjudged}
use Rattle.syntax.specs.declared.node.Own.{Own}
use Rattle.syntax.specs.declared.node.Use.{Use}
use Rattle.syntax.specs.declared.node.Use.TheVariants.{Value}
use Rattle.syntax.specs.Laying.{Linked, Laid}
use Rattle.syntax.specs.Table.{first_use, entries, parts, loose}
use Rattle.syntax.specs.Trees.{Forest, node}
use Rattle.syntax.proofs.Sizes.{length_entries, length_loose}

-- a node over trees is one entry more
one_more : (front : List Node) (start : ℕ) (own : Own) (f : Forest) → length (front ++ entries start None Value (node own.kind own.place f)) ≡ length (front ++ loose start f) + 1
one_more front start own f =
    let tree = node own.kind own.place f in
    omega (arith, length-append front (entries start None Value tree), length-append front (loose start f), length_entries start None Value tree, length_loose start f)

-- where the table does not hold all nodes, there was no room for them
pub laid_nowhere : (old : SliceVec Node) (made : ℕ) (own : Own) (start : ℕ) → (length (held old) ≡ made → ⊥) → Laid old old made own start
laid_nowhere old made own start other = record {
  laid = λ front f len h.
      let more = one_more front start own f in
      let many = h.many in
      record {
        many = omega arith;
        stored = λ le. absurd (other (ap length (h.stored (omega arith)) ∙ many));
      };
}

pushed : (mid new : SliceVec Node) (x : Node) (wanted : List Node) (r : Result ℕ Full) → held mid ++ x ∷ [] ≡ wanted → length wanted ≤ room mid → MatchResult r (λ i. (i ≡ length (held mid)) × (i < room mid)) (λ _. room mid ≤ length (held mid)) → MatchResult r (λ _. held new ≡ held mid ++ x ∷ []) (λ _. held new ≡ held mid) → held new ≡ wanted
pushed mid new x wanted (Ok i) e le refused done = done ∙ e
pushed mid new x wanted (Err f) e le refused done = absurd (omega (arith, ap length e, length_push (held mid) x))

-- the links are made, and then the node is pushed
pub laid_there : (old mid new : SliceVec Node) (made : ℕ) (own : Own) (start : ℕ) (used : Use) (first : Option ℕ) (r : Result ℕ Full) → used ≡ first_use own.kind → room mid ≡ room old → room new ≡ room mid → Linked (held old) (held mid) start used first → MatchResult r (λ i. (i ≡ length (held mid)) × (i < room mid)) (λ _. room mid ≤ length (held mid)) → MatchResult r (λ _. held new ≡ held mid ++ record { kind = own.kind; place = own.place; start = start; first = first; next = None; used = Value; note = Unjudged } ∷ []) (λ _. held new ≡ held mid) → Laid old new made own start
laid_there old mid new made own start used first r same size-mid size-new l refused done = record {
  laid = λ front f len h.
      let more = one_more front start own f in
      let many = h.many in
      record {
        many = omega arith;
        stored = λ le.
            let was = h.stored (omega arith) in
            let x : Option ℕ → Node = λ o. record { kind = own.kind; place = own.place; start = start; first = o; next = None; used = Value; note = Unjudged } in
            let wanted = ap (λ l. l ++ x first ∷ []) (l.linked front f was len ∙ ap (λ u. front ++ parts start None u f) same)
            ∙ append_assoc front (parts start None (first_use own.kind) f) (x first ∷ [])
            ∙ ap (λ o. front ++ (parts start None (first_use own.kind) f ++ x o ∷ [])) (l.begun front f was len) in
            pushed mid new (x first) _ r wanted (omega arith) refused done;
      };
}
