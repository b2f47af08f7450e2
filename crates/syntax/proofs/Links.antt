-- Loose trees become the parts of one node, from the last to the first.
use Rattle.std.proofs.Common.{◌≡◌, ℕ, ◌+◌, ◌-◌, ◌<◌, ◌≤◌, min, Bool, cond, leb, List, [], ◌∷◌, ◌++◌, length, get_or, set, Some, None, Option, sym, refl, ap, ◌∙◌, subst, append_assoc, arith}
use Rattle.std.proofs.lemmas.List.{append-nil, length-append, length-set, get_or_at, set_at}
use Rattle.std.proofs.lemmas.Bool.{le-leb, lt-leb}
use Rattle.syntax.specs.declared.node.Node.{Node}
use Rattle.syntax.specs.declared.node.Note.TheVariants.{Unjudged}
use Rattle.syntax.specs.declared.node.Use.{Use}
use Rattle.syntax.specs.declared.node.Use.TheVariants.{Value}
use Rattle.syntax.specs.Laying.{Linked}
use Rattle.syntax.specs.Table.{first_use, first_root, use_behind, parts, loose}
use Rattle.syntax.specs.Trees.{node, Forest, bare, grown, size, sizes}
use Rattle.syntax.proofs.Sizes.{length_loose, length_parts, some_node}

-- some trees are still loose, the entries up to end; the others have their links
pub record Half (start : ℕ) (used : Use) (front now : List Node) (f : Forest) (next : Option ℕ) (end : ℕ) : Type 0 where
  pub waiting : Forest
  pub done : List Node
  pub now_is : now ≡ front ++ (loose start waiting ++ done)
  pub end_is : end ≡ start + sizes waiting
  pub links : parts start None used f ≡ parts start next used waiting ++ done
  pub begun : first_root start f None ≡ first_root start waiting next

pub record Linking (old now : List Node) (start : ℕ) (used : Use) (next : Option ℕ) (end : ℕ) : Type 0 where
  pub half : (front : List Node) (f : Forest) → old ≡ front ++ loose start f → length front ≡ start → Half start used front now f next end
  pub within : end ≤ length now
  pub long : length now ≡ length old

pub all_loose : (old : List Node) (start : ℕ) (used : Use) → Linking old old start used None (length old)
all_loose old start used = record {
  half = λ front f e len. record {
    waiting = f;
    done = [];
    now_is = e ∙ ap (λ l. front ++ l) (sym (append-nil (loose start f)));
    end_is = ap length e ∙ omega (arith, length-append front (loose start f), length_loose start f);
    links = sym (append-nil (parts start None used f));
    begun = refl;
  };
  within = omega arith;
  long = refl;
}

-- a node with its right neighbour and, if it is the first, its use
abbrev pub tied : Bool → Use → Option ℕ → Node → Node
tied b used next e = record { kind = e.kind; place = e.place; start = e.start; first = e.first; next = next; used = cond b used e.used; note = e.note }

abbrev pub relinked : ℕ → Use → Option ℕ → Node → Node
relinked start used next e = tied (leb e.start start) used next e

-- only the first of the trees begins at the start
behind : (start : ℕ) (used : Use) (g : Forest) → cond (leb (start + sizes g) start) used Value ≡ use_behind g used
behind start used bare = ap (λ b. cond b used Value) (le-leb (start + 0) start (omega arith))
behind start used (grown g t) = ap (λ b. cond b used Value) (lt-leb (start + (sizes g + size t)) start (omega (arith, some_node t)))

-- the entry x behind front, a and b, however they are bracketed
inside_out : (front a b done : List Node) (x : Node) → front ++ (a ++ ((b ++ x ∷ []) ++ done)) ≡ (front ++ (a ++ b)) ++ x ∷ done
inside_out front a b done x = ap (λ l. front ++ l) (ap (λ l. a ++ l) (append_assoc b (x ∷ []) done) ∙ sym (append_assoc a b (x ∷ done))) ∙ sym (append_assoc front (a ++ b) (x ∷ done))

from_tree : (front a b done : List Node) (x : Node) → front ++ ((a ++ (b ++ x ∷ [])) ++ done) ≡ (front ++ (a ++ b)) ++ x ∷ done
from_tree front a b done x = ap (λ l. front ++ l) (append_assoc a (b ++ x ∷ []) done) ∙ inside_out front a b done x

-- the last of the loose trees gets its links
one_less : (start : ℕ) (used : Use) (front now : List Node) (f : Forest) (next : Option ℕ) (end : ℕ) (d m : Node) → start < end → length front ≡ start → m ≡ relinked start used next (get_or now (end - 1) d) → (g : Forest) (done : List Node) → now ≡ front ++ (loose start g ++ done) → end ≡ start + sizes g → parts start None used f ≡ parts start next used g ++ done → first_root start f None ≡ first_root start g next → Half start used front (set now (end - 1) m) f (Some (end - 1)) (min m.start (end - 1))
one_less start used front now f next end d m lt len e bare done now_is end_is links begun = absurd (omega arith)
one_less start used front now f next end d m lt len e (grown g (node k p h)) done now_is end_is links begun =
    let b : ℕ = start + sizes g in
    let xs : List Node = parts b None (first_use k) h in
    let old : Node = record { kind = k; place = p; start = b; first = first_root b h None; next = None; used = Value; note = Unjudged } in
    let new : Node = record { kind = k; place = p; start = b; first = first_root b h None; next = next; used = use_behind g used; note = Unjudged } in
    let last : end - 1 ≡ b + sizes h = omega arith in
    let before : length (front ++ (loose start g ++ xs)) ≡ end - 1 = simp length-append (omega (arith, length_loose start g, length_parts b None (first_use k) h)) in
    let spread : now ≡ (front ++ (loose start g ++ xs)) ++ old ∷ done = now_is ∙ from_tree front (loose start g) xs done old in
    let read : get_or now (end - 1) d ≡ old = ap (λ l. get_or l (end - 1) d) spread ∙ get_or_at (front ++ (loose start g ++ xs)) old done d (end - 1) before in
    let written : m ≡ new = e ∙ ap (relinked start used next) read ∙ ap (λ u. record { kind = k; place = p; start = b; first = first_root b h None; next = next; used = u; note = Unjudged }) (behind start used g) in
    let at : m.start ≡ b = ap (λ x. x.start) written in
    record {
      waiting = g;
      done = (xs ++ new ∷ []) ++ done;
      now_is = ap (λ l. set l (end - 1) m) spread ∙ set_at (front ++ (loose start g ++ xs)) old done m (end - 1) before ∙ ap (λ x. (front ++ (loose start g ++ xs)) ++ x ∷ done) written ∙ sym (inside_out front (loose start g) xs done new);
      end_is = omega arith;
      links = links ∙ append_assoc (parts start (Some (b + sizes h)) used g) (xs ++ new ∷ []) done ∙ ap (λ r. parts start (Some r) used g ++ ((xs ++ new ∷ []) ++ done)) (sym last);
      begun = begun ∙ ap (λ r. first_root start g (Some r)) (sym last);
    }

pub one_linked : (old now new : List Node) (start : ℕ) (used : Use) (next : Option ℕ) (end left : ℕ) (d m : Node) → start < end → m ≡ relinked start used next (get_or now (end - 1) d) → new ≡ set now (end - 1) m → left ≡ min m.start (end - 1) → Linking old now start used next end → Linking old new start used (Some (end - 1)) left
one_linked old now new start used next end left d m lt e New-is left_is l =
    let within = l.within in
    let same = ap length New-is ∙ length-set now (end - 1) m in
    record {
      half = λ front f was len.
          let h = l.half front f was len in
          subst (λ n. Half start used front new f (Some (end - 1)) n) (sym left_is) (subst (λ xs. Half start used front xs f (Some (end - 1)) (min m.start (end - 1))) (sym New-is) (one_less start used front now f next end d m lt len e h.waiting h.done h.now_is h.end_is h.links h.begun));
      within = omega arith;
      long = same ∙ l.long;
    }

-- where no tree is loose, all have their links
none_loose : (start : ℕ) (g : Forest) → start + sizes g ≤ start → g ≡ bare
none_loose start bare le = refl
none_loose start (grown g t) le = absurd (omega (arith, some_node t))

pub all_linked : (old now : List Node) (start : ℕ) (used : Use) (next : Option ℕ) (end : ℕ) → end ≤ start → Linking old now start used next end → Linked old now start used next
all_linked old now start used next end le l = record {
  linked = λ front f was len.
      let h = l.half front f was len in
      let none = none_loose start h.waiting (omega (arith, h.end_is)) in
      h.now_is ∙ ap (λ g. front ++ (loose start g ++ h.done)) none ∙ ap (λ l. front ++ l) (sym (h.links ∙ ap (λ g. parts start next used g ++ h.done) none));
  begun = λ front f was len.
      let h = l.half front f was len in
      let none = none_loose start h.waiting (omega (arith, h.end_is)) in
      sym (h.begun ∙ ap (λ g. first_root start g next) none);
  long = l.long;
}
