-- What the parser's functions promise one another. Only inner contracts speak of this.
use Rattle.std.specs.Prelude.{◌≡◌, ◌≢◌, ℕ, ◌+◌, ◌<◌, ◌≤◌, List, [], ◌∷◌, ◌++◌, length, Some, None, Ok, Err, Option, Result}
use Rattle.slicevec.specs.declared.SliceVec.{SliceVec}
use Rattle.lexer.specs.Tokens.{Cut}
use Rattle.lexer.specs.declared.Token.{Token}
use Rattle.lexer.specs.declared.Refusal.{Refusal}
use Rattle.syntax.specs.declared.grammar.Item.{Item}
use Rattle.syntax.specs.declared.grammar.Item.TheVariants as I
use Rattle.syntax.specs.declared.grammar.Level.TheVariants.{Same, Inner, Loop}
use Rattle.syntax.specs.declared.grammar.Terminal.{Terminal}
use Rattle.syntax.specs.declared.grammar.Part.{Part}
use Rattle.syntax.specs.declared.grammar.Rule.{Rule}
use Rattle.syntax.specs.declared.node.Node.{Node}
use Rattle.syntax.specs.declared.node.Own.{Own}
use Rattle.syntax.specs.declared.parser.Nest.{Nest}
use Rattle.syntax.specs.declared.parser.Parser.{Parser}
use Rattle.syntax.specs.declared.refusal.Reason.{Reason}
use Rattle.syntax.specs.declared.refusal.Reason.TheVariants.{Grammar, Depth}
use Rattle.syntax.specs.Derivations.{Frame, frame}
use Rattle.syntax.specs.Grammar.{right, tail}
use Rattle.syntax.specs.Laying.{Holds}
use Rattle.syntax.specs.Parsing.{place_of, NoTree, Parsed}
use Rattle.syntax.specs.Refusals.{number_of}
use Rattle.syntax.specs.Reaching.{Reach, Blocked}
use Rattle.syntax.specs.Terminals.{terminal_of, ahead}
use Rattle.syntax.specs.Table.{loose}
use Rattle.syntax.specs.Trees.{Forest, sizes}

-- the next of some tokens, if there is one; the text has the others from a place on
pub data Next (text : List ℕ) (at : ℕ) : Option Token → List Token → Type 0 where
  last : Next text at None []
  more : {t : Token} {ts : List Token} → Cut text at (length text) ts → Next text at (Some t) (t ∷ ts)

-- these tokens are still to come
pub record Coming (p : Parser) (ts : List Token) : Type 0 where
  pub many : p.left ≡ length ts
  pub same : p.tokens.text.now ≡ p.text.now
  pub next : Next p.text.now p.tokens.at p.ahead ts

-- why the next token is not taken
pub data NotTaken (text : List ℕ) (terminal : Terminal) (depth : ℕ) : Refusal Reason → List Token → Type 0 where
  other : {ts : List Token} → ahead ts ≢ Some terminal → NotTaken text terminal depth (record { reason = Grammar; place = place_of text ts }) ts
  deep : {t : Token} {ts : List Token} → terminal_of t.kind ≡ Some terminal → 64 < depth → NotTaken text terminal depth (record { reason = Depth; place = t.place }) (t ∷ ts)

-- the next token was taken from those still to come, or not
abbrev pub Taken : Parser → Parser → Terminal → ℕ → Result Token (Refusal Reason) → Type 0
Taken p q terminal depth (Ok t) = (depth ≤ 64) × ((ts : List Token) → Coming p ts → (us : List Token) × (ts ≡ t ∷ us) × (terminal_of t.kind ≡ Some terminal) × Coming q us)
Taken p q terminal depth (Err e) = (ts : List Token) → Coming p ts → NotTaken p.text.now terminal depth e ts

-- the next token is not the barred terminal, or why not
abbrev pub Bars : List ℕ → Terminal → List Token → Result (Unit {0}) (Refusal Reason) → Type 0
Bars text terminal ts (Ok _) = ahead ts ≢ Some terminal
Bars text terminal ts (Err e) = (ahead ts ≡ Some terminal) × (e ≡ record { reason = Grammar; place = place_of text ts })

-- a node that is begun still has to be made
abbrev pub owed : Option Own → ℕ
owed None = 0
owed (Some own) = 1

-- What a parser has when it goes on with a part that is begun: tokens that are still to come, nodes that were laid before the
-- part began, and the part's trees so far. A tree has no more nodes than tokens, so there are never more than 65,536.
pub record Running (p : Parser) (table : SliceVec Node) (start : ℕ) (own : Option Own) : Type 0 where
  pub tokens : List Token
  pub front : List Node
  pub trees : Forest
  pub coming : Coming p tokens
  pub holds : Holds table p.made (front ++ loose start trees)
  pub begins : length front ≡ start
  pub few : start + sizes trees + owed own + length tokens ≤ 65536

-- the parser came from some tokens and frames to where it cannot go on, for this reason and at this place, nor could it with
-- more frames around
pub record Stops (text : List ℕ) (e : Refusal Reason) (ts : List Token) (s : List Frame) : Type 0 where
  pub tokens : List Token
  pub frames : List Frame
  pub path : Reach ts s tokens frames
  pub blocked : (around : List Frame) → Blocked e.reason tokens (frames ++ around)
  pub place : e.place ≡ place_of text tokens

-- the parser goes from these frames to others and keeps what was laid before
pub record Goes (p q : Parser) (v w : SliceVec Node) (start : ℕ) (before after : Option Own) (from to : Forest → Frame) (a : Running p v start before) : Type 0 where
  pub then : Running q w start after
  pub path : Reach a.tokens (from a.trees ∷ []) then.tokens (to then.trees ∷ [])
  pub front : then.front ≡ a.front

-- one item is done, or the parser stops
abbrev pub Stepped : Parser → Parser → SliceVec Node → SliceVec Node → Item → Nest → ℕ → Option Own → Result (Option Own) (Refusal Reason) → Type 0
Stepped p q v w item n start own (Ok o) = (a : Running p v start own) (is : List Item) (t : Option Part) → Goes p q v w start own o (frame (item ∷ is) t n own) (frame is t n o) a
Stepped p q v w item n start own (Err e) = (a : Running p v start own) (is : List Item) (t : Option Part) → Stops p.text.now e a.tokens (frame (item ∷ is) t n own a.trees ∷ [])

-- all items of a rule are done, or the parser stops
abbrev pub Ran : Parser → Parser → SliceVec Node → SliceVec Node → Rule → Nest → ℕ → Option Own → Result (Option Own) (Refusal Reason) → Type 0
Ran p q v w r n start own (Ok o) = (a : Running p v start own) → Goes p q v w start own o (frame (right r) (tail r) n own) (frame [] (tail r) n o) a
Ran p q v w r n start own (Err e) = (a : Running p v start own) → Stops p.text.now e a.tokens (frame (right r) (tail r) n own a.trees ∷ [])

-- a part is complete, from its first token on, or the parser stops
abbrev pub Went : Parser → Parser → SliceVec Node → SliceVec Node → Part → Nest → Result (Unit {0}) (Refusal Reason) → Type 0
Went p q v w part n (Ok _) = (a : Running p v p.made None) → (o : Option Own) × Goes p q v w p.made None o (frame [] (Some part) n None) (frame [] None n o) a
Went p q v w part n (Err e) = (a : Running p v p.made None) → Stops p.text.now e a.tokens (frame [] (Some part) n None a.trees ∷ [])

-- how deep a rule may stand that has this item: what is one deeper is at most at 65
abbrev pub Room : Item → ℕ → Type 0
Room (I.Part Inner q) d = d ≤ 64
Room (I.Part Loop q) d = d ≤ 64
Room item d = d ≤ 65

-- how deep a rule stands of which this item is done: a token that was taken stands at most at 64
abbrev pub Shown : Item → ℕ → Type 0
Shown (I.Token Same k r) d = d ≤ 64
Shown item d = Unit {0}

-- the same where the item was done
abbrev pub ShownBy : Item → ℕ → Result (Option Own) (Refusal Reason) → Type 0
ShownBy item d (Ok o) = Shown item d
ShownBy item d (Err e) = Unit {0}

-- the answer to a whole text that is laid into an empty table: after a refusal the table may hold anything
abbrev pub Found : List ℕ → ℕ → Result ℕ (Refusal Reason) → List Node → Type 0
Found text room (Ok n) table = Parsed text room (Ok n) table
Found text room (Err e) table = NoTree text room (number_of e.reason) e.place
