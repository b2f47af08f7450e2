-- What the parser promises: the one tree of a text, or why it has none and where.
use Rattle.std.specs.Prelude.{◌≡◌, ℕ, ◌<◌, ◌≤◌, List, [], ◌∷◌, ◌++◌, length, Ok, Err, Result}
use Rattle.lexer.specs.Scan.{Accepted, Refused}
use Rattle.lexer.specs.declared.Token.{Token}
use Rattle.lexer.specs.declared.Refusal.{Refusal}
use Rattle.syntax.specs.declared.node.Node.{Node}
use Rattle.syntax.specs.declared.refusal.Reason.{Reason}
use Rattle.syntax.specs.Derivations.{Program}
use Rattle.syntax.specs.Refusals.{number_of}
use Rattle.syntax.specs.Table.{loose}
use Rattle.syntax.specs.Trees.{Forest, sizes}

-- no token stands deeper than 64
abbrev pub Shallow : List ℕ → Type 0
Shallow [] = Unit {0}
Shallow (d ∷ ds) = (d ≤ 64) × Shallow ds

-- the tokens are a program with these trees, no token stands too deep, and every derivation has these trees and depths
pub record Reads (ts : List Token) (f : Forest) : Type 0 where
  pub depths : List ℕ
  pub derived : Program ts f depths
  pub shallow : Shallow depths
  pub only : (g : Forest) (es : List ℕ) → Program ts g es → (g ≡ f) × (es ≡ depths)
  pub few : sizes f ≤ length ts

-- the first of some tokens and then any others; where there is no first, nothing
abbrev pub through : List Token → List Token → List Token
through [] more = []
through (t ∷ rest) more = t ∷ more

-- the grammar cannot go on behind these tokens with the rest: a program begins with the ones before, none of them too deep, and
-- none begins with them and the first of the rest, or is just them where nothing is left
pub record Stuck (before rest : List Token) : Type 0 where
  pub some : (more : List Token) × (f : Forest) × (es : List ℕ) × (fs : List ℕ) × Program (before ++ more) f (es ++ fs) × (length es ≡ length before) × Shallow es
  pub none : (more : List Token) (f : Forest) (ds : List ℕ) → Program (before ++ through rest more) f ds → ⊥

-- the token is the first that stands too deep: a program begins with the ones before and it, and in each that does, none before
-- stands too deep, and it does
pub record TooDeep (before : List Token) (t : Token) : Type 0 where
  pub some : (more : List Token) × (f : Forest) × (ds : List ℕ) × Program (before ++ t ∷ more) f ds
  pub each : (more : List Token) (f : Forest) (ds : List ℕ) → Program (before ++ t ∷ more) f ds → (es : List ℕ) × (d : ℕ) × (fs : List ℕ) × (ds ≡ es ++ d ∷ fs) × (length es ≡ length before) × Shallow es × (64 < d)

-- the place of the first of some tokens; the text's length where there is none
abbrev pub place_of : List ℕ → List Token → ℕ
place_of text [] = length text
place_of text (t ∷ rest) = t.place

-- why a text has no tree in a table of this many entries: the refusal's number and place
pub data NoTree (text : List ℕ) (room : ℕ) : ℕ → ℕ → Type 0 where
  -- 2, 3 or 4: it is no list of tokens
  no_tokens : {number place : ℕ} → Refused text number place → NoTree text room number place
  -- 5: the grammar cannot go on
  cannot_go_on : (before rest : List Token) → Accepted text (before ++ rest) → Stuck before rest → NoTree text room 5 (place_of text rest)
  -- 6: a token stands too deep
  too_deep : (before rest : List Token) (t : Token) → Accepted text (before ++ t ∷ rest) → TooDeep before t → NoTree text room 6 t.place
  -- 7 at 0: the tree has more nodes than the table has entries
  too_many : {ts : List Token} {f : Forest} → Accepted text ts → Reads ts f → room < sizes f → NoTree text room 7 0

-- the answer of the parser, and what the table holds then: the tree, or nothing
abbrev pub Parsed : List ℕ → ℕ → Result ℕ (Refusal Reason) → List Node → Type 0
Parsed text room (Ok n) table = (ts : List Token) × (f : Forest) × Accepted text ts × Reads ts f × (n ≡ sizes f) × (n ≤ room) × (table ≡ loose 0 f)
Parsed text room (Err e) table = NoTree text room (number_of e.reason) e.place × (table ≡ [])
