-- What the next token can be: of each part the terminals that it can begin with and that can follow it, and whether it can be
-- empty.
use Rattle.std.proofs.Common.{ℕ, Bool, true, false, List, [], ◌∷◌, Some, None, Option}
use Rattle.lexer.specs.declared.Keyword.{Keyword}
use Rattle.lexer.specs.declared.Keyword.TheVariants as W
use Rattle.lexer.specs.declared.Operator.{Operator}
use Rattle.lexer.specs.declared.Operator.TheVariants as S
use Rattle.syntax.specs.declared.grammar.Terminal.{Terminal}
use Rattle.syntax.specs.declared.grammar.Terminal.TheVariants as T
use Rattle.syntax.specs.declared.grammar.Part.{Part}
use Rattle.syntax.specs.declared.grammar.Part.TheVariants as P
use Rattle.syntax.specs.declared.grammar.Rule.{Rule}
use Rattle.syntax.specs.declared.grammar.Rule.TheVariants as R

-- whether a part can be no tokens at all
abbrev pub nullable : Part → Bool
nullable P.Declarations = true
nullable P.Names = true
nullable P.VarDecls = true
nullable P.Brackets = true
nullable P.Methods = true
nullable P.Parameters = true
nullable P.MoreParameters = true
nullable P.Statements = true
nullable P.Else = true
nullable P.ReturnValue = true
nullable P.Arguments = true
nullable P.MoreArguments = true
nullable P.OrTerms = true
nullable P.AndFacts = true
nullable P.Sums = true
nullable P.Products = true
nullable P.Call = true
nullable P.Length = true
nullable P.Selectors = true
nullable p = false

-- the terminals, as what comes next; end where no token is left
abbrev end : Option Terminal
end = None

abbrev name : Option Terminal
name = Some T.Name

abbrev number : Option Terminal
number = Some T.Number

abbrev character : Option Terminal
character = Some T.Character

abbrev word : Keyword → Option Terminal
word w = Some (T.Word w)

abbrev sign : Operator → Option Terminal
sign g = Some (T.Sign g)

-- what a statement begins with
abbrev statement : List (Option Terminal)
statement = name ∷ word W.If ∷ word W.While ∷ word W.Read ∷ word W.Print ∷ word W.Return ∷ word W.Break ∷ sign S.OpenBrace ∷ sign S.Semicolon ∷ []

-- what a term begins with
abbrev term : List (Option Terminal)
term = name ∷ number ∷ character ∷ word W.New ∷ sign S.OpenParen ∷ []

-- what an expression begins with
abbrev expr : List (Option Terminal)
expr = sign S.Minus ∷ term

-- what can come behind a declaration
abbrev declaration : List (Option Terminal)
declaration = name ∷ word W.Class ∷ word W.Final ∷ sign S.OpenBrace ∷ []

-- what can come behind a statement
abbrev after_statement : List (Option Terminal)
after_statement = word W.Else ∷ sign S.CloseBrace ∷ statement

-- what can come behind an expression
abbrev after_expr : List (Option Terminal)
after_expr = sign S.EqualEqual ∷ sign S.NotEqual ∷ sign S.Greater ∷ sign S.GreaterEqual ∷ sign S.Less ∷ sign S.LessEqual ∷ sign S.AndAnd ∷ sign S.OrOr ∷ sign S.CloseParen ∷ sign S.CloseBracket ∷ sign S.Semicolon ∷ sign S.Comma ∷ []

-- what can come behind a term
abbrev after_term : List (Option Terminal)
after_term = sign S.Plus ∷ sign S.Minus ∷ after_expr

-- what can come behind a factor
abbrev after_factor : List (Option Terminal)
after_factor = sign S.Star ∷ sign S.Slash ∷ sign S.Percent ∷ after_term

-- what can come behind a designator
abbrev after_designator : List (Option Terminal)
after_designator = sign S.PlusPlus ∷ sign S.MinusMinus ∷ sign S.OpenParen ∷ sign S.Assign ∷ after_factor

-- the terminals that a part can begin with
abbrev pub begins : Part → List (Option Terminal)
begins P.Program = word W.Program ∷ []
begins P.Declarations = name ∷ word W.Class ∷ word W.Final ∷ []
begins P.ConstDecl = word W.Final ∷ []
begins P.Literal = number ∷ character ∷ []
begins P.VarDecl = name ∷ []
begins P.Names = sign S.Comma ∷ []
begins P.ClassDecl = word W.Class ∷ []
begins P.VarDecls = name ∷ []
begins P.Type = name ∷ []
begins P.Brackets = sign S.OpenBracket ∷ []
begins P.Methods = name ∷ word W.Void ∷ []
begins P.MethodDecl = name ∷ word W.Void ∷ []
begins P.ReturnType = name ∷ word W.Void ∷ []
begins P.Parameters = name ∷ []
begins P.MoreParameters = sign S.Comma ∷ []
begins P.Parameter = name ∷ []
begins P.Block = sign S.OpenBrace ∷ []
begins P.Statements = statement
begins P.Statement = statement
begins P.Action = sign S.PlusPlus ∷ sign S.MinusMinus ∷ sign S.OpenParen ∷ sign S.Assign ∷ []
begins P.Else = word W.Else ∷ []
begins P.ReturnValue = expr
begins P.PrintEnd = sign S.CloseParen ∷ sign S.Comma ∷ []
begins P.Arguments = expr
begins P.MoreArguments = sign S.Comma ∷ []
begins P.Condition = expr
begins P.OrTerms = sign S.OrOr ∷ []
begins P.CondTerm = expr
begins P.AndFacts = sign S.AndAnd ∷ []
begins P.CondFact = expr
begins P.Relation = sign S.EqualEqual ∷ sign S.NotEqual ∷ sign S.Greater ∷ sign S.GreaterEqual ∷ sign S.Less ∷ sign S.LessEqual ∷ []
begins P.Expr = expr
begins P.Sums = sign S.Plus ∷ sign S.Minus ∷ []
begins P.Term = term
begins P.Products = sign S.Star ∷ sign S.Slash ∷ sign S.Percent ∷ []
begins P.Factor = term
begins P.Call = sign S.OpenParen ∷ []
begins P.Length = sign S.OpenBracket ∷ []
begins P.Designator = name ∷ []
begins P.Selectors = sign S.OpenBracket ∷ sign S.Dot ∷ []

-- the terminals that can come behind a part
abbrev pub follows : Part → List (Option Terminal)
follows P.Program = end ∷ []
follows P.Declarations = sign S.OpenBrace ∷ []
follows P.ConstDecl = declaration
follows P.Literal = sign S.Semicolon ∷ []
follows P.VarDecl = sign S.CloseBrace ∷ declaration
follows P.Names = sign S.Semicolon ∷ []
follows P.ClassDecl = declaration
follows P.VarDecls = sign S.OpenBrace ∷ sign S.CloseBrace ∷ []
follows P.Type = name ∷ []
follows P.Brackets = name ∷ []
follows P.Methods = sign S.CloseBrace ∷ []
follows P.MethodDecl = name ∷ word W.Void ∷ sign S.CloseBrace ∷ []
follows P.ReturnType = name ∷ []
follows P.Parameters = sign S.CloseParen ∷ []
follows P.MoreParameters = sign S.CloseParen ∷ []
follows P.Parameter = sign S.CloseParen ∷ sign S.Comma ∷ []
follows P.Block = word W.Void ∷ after_statement
follows P.Statements = sign S.CloseBrace ∷ []
follows P.Statement = after_statement
follows P.Action = after_statement
follows P.Else = after_statement
follows P.ReturnValue = sign S.Semicolon ∷ []
follows P.PrintEnd = after_statement
follows P.Arguments = sign S.CloseParen ∷ []
follows P.MoreArguments = sign S.CloseParen ∷ []
follows P.Condition = sign S.CloseParen ∷ []
follows P.OrTerms = sign S.CloseParen ∷ []
follows P.CondTerm = sign S.OrOr ∷ sign S.CloseParen ∷ []
follows P.AndFacts = sign S.OrOr ∷ sign S.CloseParen ∷ []
follows P.CondFact = sign S.AndAnd ∷ sign S.OrOr ∷ sign S.CloseParen ∷ []
follows P.Relation = sign S.AndAnd ∷ sign S.OrOr ∷ sign S.CloseParen ∷ []
follows P.Expr = after_expr
follows P.Sums = after_expr
follows P.Term = after_term
follows P.Products = after_term
follows P.Factor = after_factor
follows P.Call = after_factor
follows P.Length = after_factor
follows P.Designator = after_designator
follows P.Selectors = after_designator

-- how far parts at one depth stand inside one another: a part of a rule ranks below the rule's left side, its tail not above it
abbrev pub rank : Part → ℕ
rank P.Program = 4
rank P.Declarations = 3
rank P.ConstDecl = 2
rank P.VarDecl = 2
rank P.VarDecls = 3
rank P.Type = 1
rank P.Methods = 5
rank P.MethodDecl = 4
rank P.ReturnType = 2
rank P.Parameters = 3
rank P.MoreParameters = 3
rank P.Parameter = 2
rank P.Statements = 6
rank P.Statement = 5
rank P.Action = 4
rank P.ReturnValue = 4
rank P.Arguments = 4
rank P.MoreArguments = 4
rank P.Condition = 6
rank P.OrTerms = 6
rank P.CondTerm = 5
rank P.AndFacts = 5
rank P.CondFact = 4
rank P.Relation = 4
rank P.Expr = 3
rank P.Sums = 3
rank P.Term = 2
rank P.Products = 2
rank P.Factor = 1
rank p = 0

-- a rule by which a part can always be completed
abbrev pub shortest : Part → Rule
shortest P.Program = R.Program
shortest P.Declarations = R.NoDeclaration
shortest P.ConstDecl = R.ConstDecl
shortest P.Literal = R.NumberLiteral
shortest P.VarDecl = R.VarDecl
shortest P.Names = R.NoName
shortest P.ClassDecl = R.ClassDecl
shortest P.VarDecls = R.NoVarDecl
shortest P.Type = R.Type
shortest P.Brackets = R.ArrayBrackets
shortest P.Methods = R.NoMethod
shortest P.MethodDecl = R.MethodDecl
shortest P.ReturnType = R.Void
shortest P.Parameters = R.NoParameter
shortest P.MoreParameters = R.LastParameter
shortest P.Parameter = R.Parameter
shortest P.Block = R.Block
shortest P.Statements = R.NoStatement
shortest P.Statement = R.Break
shortest P.Action = R.Increment
shortest P.Else = R.Else
shortest P.ReturnValue = R.NoValue
shortest P.PrintEnd = R.Width
shortest P.Arguments = R.NoArgument
shortest P.MoreArguments = R.LastArgument
shortest P.Condition = R.Condition
shortest P.OrTerms = R.NoOr
shortest P.CondTerm = R.CondTerm
shortest P.AndFacts = R.NoAnd
shortest P.CondFact = R.CondFact
shortest P.Relation = R.Equal
shortest P.Expr = R.Negative
shortest P.Sums = R.NoSum
shortest P.Term = R.Term
shortest P.Products = R.NoProduct
shortest P.Factor = R.Number
shortest P.Call = R.Call
shortest P.Length = R.NoLength
shortest P.Designator = R.Designator
shortest P.Selectors = R.NoSelector

-- how far parts stand inside one another when each goes on by that rule
abbrev pub tall : Part → ℕ
tall P.Program = 1
tall P.ConstDecl = 2
tall P.VarDecl = 2
tall P.ClassDecl = 1
tall P.Type = 1
tall P.MethodDecl = 2
tall P.Parameter = 2
tall P.Block = 1
tall P.Else = 1
tall P.Condition = 6
tall P.CondTerm = 5
tall P.CondFact = 4
tall P.Relation = 3
tall P.Expr = 2
tall P.Term = 1
tall P.Call = 1
tall P.Designator = 1
tall p = 0
