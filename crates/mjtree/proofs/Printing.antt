-- How far the lines are printed.
use Rattle.std.proofs.Common.{◌≡◌, ℕ, ◌+◌, ◌-◌, ◌<◌, List, [], ◌∷◌, ◌++◌, length, slice_index_or, codes, decimal, Some, None, Option, sym, refl, ap, ◌∙◌, subst, append_assoc, append-nil, arith}
use Rattle.std.specs.List.{flat_map}
use Rattle.std.proofs.lemmas.List.{flat_map_more}
use Rattle.syntax.specs.declared.node.Node.{Node}
use Rattle.syntax.specs.Table.{loose}
use Rattle.syntax.specs.Trees.{Forest}
use Rattle.syntax.proofs.Sizes.{length_loose}
use Rattle.mjtree.specs.Links.{At, Follows, end, on, Behind, Told}
use Rattle.mjtree.specs.Listing.{Row, label, line, spaced, rows}
use Rattle.mjtree.proofs.Links.{AllTold, none, more, length_rows, loose_told}

-- a line up to its parts
abbrev pub head : ℕ → ℕ → List ℕ → List ℕ
head index place word = decimal index ++ (codes " " ++ (decimal place ++ (codes " " ++ word)))

-- of a row's parts some are printed, and the link leads to the others
pub record Partly (nodes : List Node) (r : Row) (text : List ℕ) (next : Option ℕ) : Type 0 where
  pub done : List ℕ
  pub rest : List ℕ
  pub all : r.parts ≡ done ++ rest
  pub links : Follows nodes next rest
  pub printed : text ≡ head r.index r.place (label r.kind) ++ flat_map spaced done

-- how far behind a link there can still be nodes
abbrev pub left : ℕ → Option ℕ → ℕ
left n None = 0
left n (Some i) = n - i

-- where a link leads to a node, it is there, and its own link leads on
linked : {nodes : List Node} {i : ℕ} {is : List ℕ} → Follows nodes (Some i) is → (n : Node) × At nodes i n × Behind i n.next × (rest : List ℕ) × (is ≡ i ∷ rest) × Follows nodes n.next rest
linked (on {n = n} at rises fs) = (n, at, rises, _, refl, fs)

unlinked : {nodes : List Node} {is : List ℕ} → Follows nodes None is → is ≡ []
unlinked end = refl

nearer : (n i : ℕ) (next : Option ℕ) → i < n → Behind i next → left n next < n - i
nearer n i None lt rises = omega arith
nearer n i (Some j) lt rises = omega arith

-- the next part is there
pub part_there : (nodes : List Node) (r : Row) (text : List ℕ) (next : Option ℕ) (i : ℕ) → next ≡ Some i → (p : Partly nodes r text next) → (n : Node) × At nodes i n × Behind i n.next × (rest : List ℕ) × (p.rest ≡ i ∷ rest) × Follows nodes n.next rest
part_there nodes r text next i is p = linked (subst (λ o. Follows nodes o p.rest) is p.links)

-- one more part is printed
pub one_printed : (nodes : List Node) (r : Row) (old new : List ℕ) (next : Option ℕ) (i : ℕ) (d : Node) → new ≡ old ++ spaced i → next ≡ Some i → Partly nodes r old next → Partly nodes r new (slice_index_or nodes i d).next
one_printed nodes r old new next i d e is p =
    let l = part_there nodes r old next i is p in
    record {
      done = p.done ++ i ∷ [];
      rest = l.3;
      all = p.all ∙ ap (λ is. p.done ++ is) l.4 ∙ sym (append_assoc p.done (i ∷ []) l.3);
      links = subst (λ n. Follows nodes n.next l.3) (sym (l.1.here d)) l.5;
      printed = e ∙ ap (λ t. t ++ spaced i) p.printed ∙ append_assoc (head r.index r.place (label r.kind)) (flat_map spaced p.done) (spaced i) ∙ ap (λ t. head r.index r.place (label r.kind) ++ t) (flat_map_more spaced [] p.done i);
    }

-- fewer nodes are left behind the next link
pub fewer : (nodes : List Node) (r : Row) (text : List ℕ) (next : Option ℕ) (i : ℕ) (d : Node) → next ≡ Some i → Partly nodes r text next → left (length nodes) (slice_index_or nodes i d).next < left (length nodes) next
fewer nodes r text next i d is p =
    let l = part_there nodes r text next i is p in
    let near = nearer (length nodes) i l.0.next l.1.within l.2 in
    subst (λ n. left (length nodes) n.next < left (length nodes) next) (sym (l.1.here d)) (subst (λ o. left (length nodes) l.0.next < left (length nodes) o) (sym is) near)

-- the line is complete
pub all_printed : (nodes : List Node) (r : Row) (old new : List ℕ) (next : Option ℕ) → new ≡ old ++ codes "\n" → next ≡ None → Partly nodes r old next → new ≡ line r
all_printed nodes r old new next e is p =
    let all : r.parts ≡ p.done = p.all ∙ ap (λ is. p.done ++ is) (unlinked (subst (λ o. Follows nodes o p.rest) is p.links)) ∙ append-nil p.done in
    let word = label r.kind in
    let ps = flat_map spaced r.parts in
    e ∙ ap (λ t. t ++ codes "\n") (p.printed ∙ ap (λ is. head r.index r.place word ++ flat_map spaced is) (sym all))
    ∙ append_assoc (head r.index r.place word) ps (codes "\n")
    ∙ append_assoc (decimal r.index) _ (ps ++ codes "\n")
    ∙ ap (λ t. decimal r.index ++ (codes " " ++ t)) (append_assoc (decimal r.place) (codes " " ++ word) (ps ++ codes "\n"))

-- the lines up to an index are printed
pub record Lined (nodes : List Node) (f : Forest) (i : ℕ) (text : List ℕ) : Type 0 where
  pub done : List Row
  pub rest : List Row
  pub all : rows 0 f ≡ done ++ rest
  pub told : AllTold nodes i rest
  pub many : i + length rest ≡ length nodes
  pub printed : text ≡ flat_map line done

pub none_lined : (nodes : List Node) (f : Forest) (text : List ℕ) → text ≡ [] → nodes ≡ loose 0 f → Lined nodes f 0 text
none_lined nodes f text e is = record {
  done = [];
  rest = rows 0 f;
  all = refl;
  told = loose_told nodes [] f (is ∙ sym (append-nil (loose 0 f)));
  many = omega (arith, length_rows 0 f, length_loose 0 f, ap length is);
  printed = e;
}

-- of the rows from an index on, where a node stands, the first tells of it
first_told : (nodes : List Node) (i : ℕ) (rs : List Row) → AllTold nodes i rs → i + length rs ≡ length nodes → i < length nodes → (r : Row) × (ss : List Row) × (rs ≡ r ∷ ss) × Told nodes i r × AllTold nodes (i + 1) ss
first_told nodes i [] none e lt = absurd (omega arith)
first_told nodes i (r ∷ ss) (more one rest) e lt = (r, ss, refl, one, rest)

pub one_lined : (nodes : List Node) (f : Forest) (i : ℕ) (old new text : List ℕ) → i < length nodes → new ≡ old ++ text → ((r : Row) → Told nodes i r → text ≡ line r) → Lined nodes f i old → Lined nodes f (i + 1) new
one_lined nodes f i old new text lt e prints l =
    let first = first_told nodes i l.rest l.told l.many lt in
    let r = first.0 in
    let ss = first.1 in
    let many = l.many in
    let left = ap length first.2 in
    record {
      done = l.done ++ r ∷ [];
      rest = ss;
      all = l.all ∙ ap (λ rs. l.done ++ rs) first.2 ∙ sym (append_assoc l.done (r ∷ []) ss);
      told = first.4;
      many = omega arith;
      printed = e ∙ ap (λ t. t ++ text) l.printed ∙ ap (λ t. flat_map line l.done ++ t) (prints r first.3) ∙ flat_map_more line [] l.done r;
    }
