-- What the links of trees in the table tell.
use Rattle.std.proofs.Common.{◌≡◌, ℕ, ◌+◌, ◌≤◌, List, [], ◌∷◌, ◌++◌, length, get_or, Some, None, Option, sym, refl, ap, ◌∙◌, subst, append_assoc, arith}
use Rattle.std.proofs.lemmas.List.{append-nil, length-append, get_or_at}
use Rattle.syntax.specs.declared.node.Node.{Node}
use Rattle.syntax.specs.declared.node.Note.TheVariants.{Unjudged}
use Rattle.syntax.specs.declared.node.Use.{Use}
use Rattle.syntax.specs.declared.node.Use.TheVariants.{Value}
use Rattle.syntax.specs.Table.{first_use, first_root, root, use_behind, entries, parts, loose}
use Rattle.syntax.specs.Trees.{Tree, node, Forest, bare, grown, size, sizes}
use Rattle.syntax.proofs.Sizes.{length_parts, length_loose}
use Rattle.mjtree.specs.Links.{At, Follows, end, on, Behind, Told}
use Rattle.mjtree.specs.Listing.{Row, roots, rows, tree_rows}

-- rows that tell of the nodes from an index on, one after the other
pub data AllTold (nodes : List Node) : ℕ → List Row → Type 0 where
  none : {i : ℕ} → AllTold nodes i []
  more : {i : ℕ} {r : Row} {rs : List Row} → Told nodes i r → AllTold nodes (i + 1) rs → AllTold nodes i (r ∷ rs)

-- rows and then others
both_told : (nodes : List Node) (i j : ℕ) (rs ss : List Row) → j ≡ i + length rs → AllTold nodes i rs → AllTold nodes j ss → AllTold nodes i (rs ++ ss)
both_told nodes i j [] ss e none told = let same : j ≡ i = omega arith in subst (λ n. AllTold nodes n ss) same told
both_told nodes i j (r ∷ rs) ss e (more one rest) told = more one (both_told nodes (i + 1) j rs ss (omega arith) rest told)

-- there are as many rows as nodes
mutual
  length_tree_rows : (b : ℕ) (t : Tree) → length (tree_rows b t) ≡ size t
  length_tree_rows b (node k p f) = simp length-append (omega (arith, length_rows b f))

  pub length_rows : (b : ℕ) (f : Forest) → length (rows b f) ≡ sizes f
  length_rows b bare = refl
  length_rows b (grown f t) = simp length-append (omega (arith, length_rows b f, length_tree_rows (b + sizes f) t))

-- the node between some and others
stands : (nodes front back : List Node) (n : Node) (i : ℕ) → nodes ≡ front ++ n ∷ back → length front ≡ i → At nodes i n
stands nodes front back n i e len = record {
  within = omega (arith, ap length e, length-append front (n ∷ back));
  here = λ d. ap (λ ns. get_or ns i d) e ∙ get_or_at front n back d i len;
}

-- a link that leads to no node before these
abbrev Past : ℕ → Option ℕ → Type 0
Past n None = Unit {0}
Past n (Some j) = n ≤ j

behind : (i n : ℕ) (next : Option ℕ) → i + 1 ≤ n → Past n next → Behind i next
behind i n None lt past = tt
behind i n (Some j) lt past = omega arith

-- the node x behind front, a and b, however they are bracketed
from_tree : (front a b back : List Node) (x : Node) → front ++ ((a ++ (b ++ x ∷ [])) ++ back) ≡ (front ++ (a ++ b)) ++ x ∷ back
from_tree front a b back x = ap (λ l. front ++ (l ++ back)) (sym (append_assoc a b (x ∷ []))) ∙ ap (λ l. front ++ l) (append_assoc (a ++ b) (x ∷ []) back) ∙ sym (append_assoc front (a ++ b) (x ∷ back))

-- from the first of some parts on, the links give all of them, and then what follows
follow_parts : (nodes front back : List Node) (b : ℕ) (next : Option ℕ) (u : Use) (f : Forest) (is : List ℕ) → nodes ≡ front ++ (parts b next u f ++ back) → length front ≡ b → Past (b + sizes f) next → Follows nodes next is → Follows nodes (first_root b f next) (roots b f ++ is)
follow_parts nodes front back b next u bare is e len past fs = fs
follow_parts nodes front back b next u (grown f (node k p h)) is e len past fs =
    let at : ℕ = b + sizes f in
    let ps : List Node = parts b (Some (at + sizes h)) u f in
    let hs : List Node = parts at None (first_use k) h in
    let n : Node = record { kind = k; place = p; start = at; first = first_root at h None; next = next; used = use_behind f u; note = Unjudged } in
    let there : nodes ≡ (front ++ (ps ++ hs)) ++ n ∷ back = e ∙ from_tree front ps hs back n in
    let before : length (front ++ (ps ++ hs)) ≡ at + sizes h = simp length-append (omega (arith, length_parts b (Some (at + sizes h)) u f, length_parts at None (first_use k) h)) in
    let one : Follows nodes (Some (at + sizes h)) ((at + sizes h) ∷ is) = on (stands nodes (front ++ (ps ++ hs)) back n (at + sizes h) there before) (behind (at + sizes h) (b + sizes (grown f (node k p h))) next (omega arith) past) fs in
    let all = follow_parts nodes front ((hs ++ n ∷ []) ++ back) b (Some (at + sizes h)) u f ((at + sizes h) ∷ is) (e ∙ ap (λ l. front ++ l) (append_assoc ps (hs ++ n ∷ []) back)) len (omega arith) one in
    subst (Follows nodes (first_root b f (Some (at + sizes h)))) (sym (append_assoc (roots b f) ((at + sizes h) ∷ []) is)) all

-- the rows of trees tell of their nodes
mutual
  tree_told : (nodes front back : List Node) (b : ℕ) (next : Option ℕ) (u : Use) (t : Tree) → nodes ≡ front ++ (entries b next u t ++ back) → length front ≡ b → AllTold nodes b (tree_rows b t)
  tree_told nodes front back b next u (node k p f) e len =
      let ps : List Node = parts b None (first_use k) f in
      let n : Node = record { kind = k; place = p; start = b; first = first_root b f None; next = next; used = u; note = Unjudged } in
      let inner : nodes ≡ front ++ (ps ++ n ∷ back) = e ∙ ap (λ l. front ++ l) (append_assoc ps (n ∷ []) back) in
      let there : nodes ≡ (front ++ ps) ++ n ∷ back = inner ∙ sym (append_assoc front ps (n ∷ back)) in
      let before : length (front ++ ps) ≡ b + sizes f = simp length-append (omega (arith, length_parts b None (first_use k) f)) in
      let links = follow_parts nodes front (n ∷ back) b None (first_use k) f [] inner len tt end in
      let own : Told nodes (b + sizes f) (record { index = b + sizes f; place = p; kind = k; parts = roots b f }) = record {
        node = n;
        at = stands nodes (front ++ ps) back n (b + sizes f) there before;
        index = refl;
        place = refl;
        kind = refl;
        parts = subst (Follows nodes (first_root b f None)) (append-nil (roots b f)) links;
      } in
      let many = length_rows b f in
      both_told nodes b (b + sizes f) (rows b f) _ (omega arith) (parts_told nodes front (n ∷ back) b None (first_use k) f inner len) (more own none)

  parts_told : (nodes front back : List Node) (b : ℕ) (next : Option ℕ) (u : Use) (f : Forest) → nodes ≡ front ++ (parts b next u f ++ back) → length front ≡ b → AllTold nodes b (rows b f)
  parts_told nodes front back b next u bare e len = none
  parts_told nodes front back b next u (grown f t) e len =
      let at : ℕ = b + sizes f in
      let r : Option ℕ = Some (root at t) in
      let ps : List Node = parts b r u f in
      let ts : List Node = entries at next (use_behind f u) t in
      let spread : nodes ≡ front ++ (ps ++ (ts ++ back)) = e ∙ ap (λ l. front ++ l) (append_assoc ps ts back) in
      let there : nodes ≡ (front ++ ps) ++ (ts ++ back) = spread ∙ sym (append_assoc front ps (ts ++ back)) in
      let before : length (front ++ ps) ≡ at = simp length-append (omega (arith, length_parts b r u f)) in
      let many = length_rows b f in
      both_told nodes b at (rows b f) (tree_rows at t) (omega arith) (parts_told nodes front (ts ++ back) b r u f spread len) (tree_told nodes (front ++ ps) back at next (use_behind f u) t there before)

-- and so do those of trees that are no parts
pub loose_told : (nodes back : List Node) (f : Forest) → nodes ≡ loose 0 f ++ back → AllTold nodes 0 (rows 0 f)
loose_told nodes back bare e = none
loose_told nodes back (grown f t) e =
    let at : ℕ = 0 + sizes f in
    let ts : List Node = entries at None Value t in
    let there : nodes ≡ loose 0 f ++ (ts ++ back) = e ∙ append_assoc (loose 0 f) ts back in
    let before : length (loose 0 f) ≡ at = omega (arith, length_loose 0 f) in
    let many = length_rows 0 f in
    both_told nodes 0 at (rows 0 f) (tree_rows at t) (omega arith) (loose_told nodes (ts ++ back) f there) (tree_told nodes (loose 0 f) back at None Value t there before)
