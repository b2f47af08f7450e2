-- What the grammar can ask for: a token, its value aside.
use Rattle.std.specs.Prelude.{Bool, List, [], ◌∷◌, Some, None, Option}
use Rattle.std.specs.Option.{option_eq}
use Rattle.lexer.specs.declared.Kind.{Kind}
use Rattle.lexer.specs.declared.Kind.TheVariants as K
use Rattle.lexer.specs.declared.Token.{Token}
use Rattle.syntax.specs.declared.grammar.Terminal.{Terminal}
use Rattle.syntax.specs.declared.grammar.Terminal.TheVariants.{Name, Number, Character, Word, Sign}
use Rattle.syntax.specs.contracts.grammar.TerminalPartialEq.TheImpl as derived

-- the terminal that a token of this kind is, the same for all numbers and for all characters; none at the end
abbrev pub terminal_of : Kind → Option Terminal
terminal_of K.End = None
terminal_of K.Name = Some Name
terminal_of (K.Number v) = Some Number
terminal_of (K.Character c) = Some Character
terminal_of (K.Word w) = Some (Word w)
terminal_of (K.Sign g) = Some (Sign g)

-- the terminal that comes next, none where no token is left
abbrev pub ahead : List Token → Option Terminal
ahead [] = None
ahead (t ∷ ts) = terminal_of t.kind

-- what `==` says of two terminals, or of none
abbrev pub same : Option Terminal → Option Terminal → Bool
same = option_eq (derived.ghosts).eq
