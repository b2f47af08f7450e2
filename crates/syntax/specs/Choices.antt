-- The rule that the next token asks for: the one by which a part can go on, if it can go on at all. Only inner contracts speak of this.
use Rattle.std.specs.Prelude.{List, [], ◌∷◌, Some, Option}
use Rattle.std.specs.List.{find}
use Rattle.std.specs.Option.{option_map, unwrap_or}
use Rattle.lexer.specs.declared.Keyword.TheVariants as W
use Rattle.lexer.specs.declared.Operator.TheVariants as S
use Rattle.syntax.specs.Terminals.{same}
use Rattle.syntax.specs.declared.grammar.Choice.{Choice}
use Rattle.syntax.specs.declared.grammar.Terminal.{Terminal}
use Rattle.syntax.specs.declared.grammar.Terminal.TheVariants.{Name as name, Number as number, Character as character, Word as word, Sign as sign}
use Rattle.syntax.specs.declared.grammar.Part.{Part}
use Rattle.syntax.specs.declared.grammar.Part.TheVariants as P
use Rattle.syntax.specs.declared.grammar.Rule.{Rule}
use Rattle.syntax.specs.declared.grammar.Rule.TheVariants as R

-- the terminal asks for the rule
abbrev pub asks : Terminal → Rule → Choice
asks k r = record { ahead = k; rule = r }

-- which terminals ask for a rule of their own
abbrev pub choices : Part → List Choice
choices P.Declarations = asks (word W.Class) R.Classes ∷ asks (word W.Final) R.Constants ∷ asks (sign S.OpenBrace) R.NoDeclaration ∷ []
choices P.Literal = asks character R.CharacterLiteral ∷ []
choices P.Names = asks (sign S.Comma) R.MoreNames ∷ []
choices P.VarDecls = asks name R.MoreVarDecls ∷ []
choices P.Brackets = asks (sign S.OpenBracket) R.ArrayBrackets ∷ []
choices P.Methods = asks (sign S.CloseBrace) R.NoMethod ∷ []
choices P.ReturnType = asks (word W.Void) R.Void ∷ []
choices P.Parameters = asks (sign S.CloseParen) R.NoParameter ∷ []
choices P.MoreParameters = asks (sign S.Comma) R.NextParameter ∷ []
choices P.Statements = asks (sign S.CloseBrace) R.NoStatement ∷ []
choices P.Statement = asks (word W.If) R.If ∷ asks (word W.While) R.While ∷ asks (word W.Read) R.Read ∷ asks (word W.Print) R.Print ∷ asks (word W.Return) R.Return ∷ asks (word W.Break) R.Break ∷ asks (sign S.OpenBrace) R.Nested ∷ asks (sign S.Semicolon) R.Empty ∷ []
choices P.Action = asks (sign S.PlusPlus) R.Increment ∷ asks (sign S.MinusMinus) R.Decrement ∷ asks (sign S.OpenParen) R.CallStatement ∷ []
choices P.Else = asks (word W.Else) R.Else ∷ []
choices P.ReturnValue = asks (sign S.Semicolon) R.NoValue ∷ []
choices P.PrintEnd = asks (sign S.Comma) R.Width ∷ []
choices P.Arguments = asks (sign S.CloseParen) R.NoArgument ∷ []
choices P.MoreArguments = asks (sign S.Comma) R.NextArgument ∷ []
choices P.OrTerms = asks (sign S.OrOr) R.Or ∷ []
choices P.AndFacts = asks (sign S.AndAnd) R.And ∷ []
choices P.Relation = asks (sign S.NotEqual) R.NotEqual ∷ asks (sign S.Greater) R.Greater ∷ asks (sign S.GreaterEqual) R.GreaterEqual ∷ asks (sign S.Less) R.Less ∷ asks (sign S.LessEqual) R.LessEqual ∷ []
choices P.Expr = asks (sign S.Minus) R.Negative ∷ []
choices P.Sums = asks (sign S.Plus) R.Add ∷ asks (sign S.Minus) R.Subtract ∷ []
choices P.Products = asks (sign S.Star) R.Multiply ∷ asks (sign S.Slash) R.Divide ∷ asks (sign S.Percent) R.Remainder ∷ []
choices P.Factor = asks number R.Number ∷ asks character R.Character ∷ asks (word W.New) R.New ∷ asks (sign S.OpenParen) R.Bracketed ∷ []
choices P.Call = asks (sign S.OpenParen) R.Call ∷ []
choices P.Length = asks (sign S.OpenBracket) R.Length ∷ []
choices P.Selectors = asks (sign S.OpenBracket) R.Element ∷ asks (sign S.Dot) R.Field ∷ []
choices p = []

-- the rule for every other terminal, and for the end
abbrev pub otherwise : Part → Rule
otherwise P.Program = R.Program
otherwise P.Declarations = R.Variables
otherwise P.ConstDecl = R.ConstDecl
otherwise P.Literal = R.NumberLiteral
otherwise P.VarDecl = R.VarDecl
otherwise P.Names = R.NoName
otherwise P.ClassDecl = R.ClassDecl
otherwise P.VarDecls = R.NoVarDecl
otherwise P.Type = R.Type
otherwise P.Brackets = R.NoBrackets
otherwise P.Methods = R.MoreMethods
otherwise P.MethodDecl = R.MethodDecl
otherwise P.ReturnType = R.Function
otherwise P.Parameters = R.FirstParameter
otherwise P.MoreParameters = R.LastParameter
otherwise P.Parameter = R.Parameter
otherwise P.Block = R.Block
otherwise P.Statements = R.MoreStatements
otherwise P.Statement = R.Action
otherwise P.Action = R.Assign
otherwise P.Else = R.NoElse
otherwise P.ReturnValue = R.Value
otherwise P.PrintEnd = R.NoWidth
otherwise P.Arguments = R.FirstArgument
otherwise P.MoreArguments = R.LastArgument
otherwise P.Condition = R.Condition
otherwise P.OrTerms = R.NoOr
otherwise P.CondTerm = R.CondTerm
otherwise P.AndFacts = R.NoAnd
otherwise P.CondFact = R.CondFact
otherwise P.Relation = R.Equal
otherwise P.Expr = R.Positive
otherwise P.Sums = R.NoSum
otherwise P.Term = R.Term
otherwise P.Products = R.NoProduct
otherwise P.Factor = R.Variable
otherwise P.Call = R.NoCall
otherwise P.Length = R.NoLength
otherwise P.Designator = R.Designator
otherwise P.Selectors = R.NoSelector

-- the rule of the first choice that asks for the terminal that comes next, or else the other one
abbrev pub predicted : Part → Option Terminal → Rule
predicted p a = unwrap_or (option_map (λ c. c.rule) (find (λ c. same (Some c.ahead) a) (choices p))) (otherwise p)
