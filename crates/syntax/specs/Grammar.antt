-- The grammar of a recipe: its rules, one line to a rule.
--
-- A rule has a left side, the part of which it speaks; items, one behind the other; and in chains and lists a tail, a part
-- that goes on behind the items in one with them. The nodes of the tree are made on the way: an own token, a literal or a break
-- begins a node that stands at it, a noted token gives that node its width or place, and `make` gives it as parts all the trees
-- that were made since the part began, from left to right. So a chain groups from the left.
--
-- The comment of a rule in `right` tells the whole rule; its left side stands in `left`, and the last part of a chain or a list in
-- `tail`. What stands between brackets, in an if or a while as its body, or in an else part is one deeper than the rule.
use Rattle.std.specs.Prelude.{List, [], ◌∷◌, Some, None, Option}
use Rattle.lexer.specs.declared.Keyword.TheVariants as W
use Rattle.lexer.specs.declared.Operator.TheVariants as S
use Rattle.syntax.specs.declared.node.BinaryOp.TheVariants as B
use Rattle.arith.specs.declared.Relation.TheVariants as Q
use Rattle.syntax.specs.declared.node.NodeKind.{NodeKind}
use Rattle.syntax.specs.declared.node.NodeKind.TheVariants as N
use Rattle.syntax.specs.declared.grammar.Terminal.{Terminal}
use Rattle.syntax.specs.declared.grammar.Terminal.TheVariants.{Name as name, Number as number, Character as character, Word as word, Sign as sign}
use Rattle.syntax.specs.declared.grammar.Part.{Part}
use Rattle.syntax.specs.declared.grammar.Part.TheVariants as P
use Rattle.syntax.specs.declared.grammar.Level.TheVariants.{Same, Inner, Loop}
use Rattle.syntax.specs.declared.grammar.Role.TheVariants.{Plain, Own, Literal, Break, Noted}
use Rattle.syntax.specs.declared.grammar.Item.{Item}
use Rattle.syntax.specs.declared.grammar.Item.TheVariants as I
use Rattle.syntax.specs.declared.grammar.Rule.{Rule}
use Rattle.syntax.specs.declared.grammar.Rule.TheVariants as R

-- one token
abbrev pub one : Terminal → Item
one t = I.Token Same t Plain

-- one token, at which the part's node stands
abbrev pub own : Terminal → NodeKind → Item
own t n = I.Token Same t (Own n)

-- one token, at which a literal's node stands, with its value
abbrev pub literal : Terminal → Item
literal t = I.Token Same t Literal

-- one token, at which a break's node stands
abbrev pub breaks : Terminal → Item
breaks t = I.Token Same t Break

-- one token that gives the node that is begun its width or place
abbrev pub noted : Terminal → Item
noted t = I.Token Same t Noted

-- one token deeper
abbrev pub inner_one : Terminal → Item
inner_one t = I.Token Inner t Plain

-- one token deeper that gives the node that is begun its width
abbrev pub inner_noted : Terminal → Item
inner_noted t = I.Token Inner t Noted

-- a part at the same depth
abbrev pub part : Part → Item
part q = I.Part Same q

-- a part one deeper: between brackets, or the body or the else part of an if
abbrev pub inner : Part → Item
inner q = I.Part Inner q

-- a part one deeper: the body of a while
abbrev pub looped : Part → Item
looped q = I.Part Loop q

-- the left side of each rule
abbrev pub left : Rule → Part
left R.Program = P.Program
left R.Constants = P.Declarations
left R.Variables = P.Declarations
left R.Classes = P.Declarations
left R.NoDeclaration = P.Declarations
left R.ConstDecl = P.ConstDecl
left R.NumberLiteral = P.Literal
left R.CharacterLiteral = P.Literal
left R.VarDecl = P.VarDecl
left R.MoreNames = P.Names
left R.NoName = P.Names
left R.ClassDecl = P.ClassDecl
left R.MoreVarDecls = P.VarDecls
left R.NoVarDecl = P.VarDecls
left R.Type = P.Type
left R.ArrayBrackets = P.Brackets
left R.NoBrackets = P.Brackets
left R.MoreMethods = P.Methods
left R.NoMethod = P.Methods
left R.MethodDecl = P.MethodDecl
left R.Function = P.ReturnType
left R.Void = P.ReturnType
left R.FirstParameter = P.Parameters
left R.NoParameter = P.Parameters
left R.NextParameter = P.MoreParameters
left R.LastParameter = P.MoreParameters
left R.Parameter = P.Parameter
left R.Block = P.Block
left R.MoreStatements = P.Statements
left R.NoStatement = P.Statements
left R.Action = P.Statement
left R.If = P.Statement
left R.While = P.Statement
left R.Break = P.Statement
left R.Return = P.Statement
left R.Read = P.Statement
left R.Print = P.Statement
left R.Nested = P.Statement
left R.Empty = P.Statement
left R.Assign = P.Action
left R.CallStatement = P.Action
left R.Increment = P.Action
left R.Decrement = P.Action
left R.Else = P.Else
left R.NoElse = P.Else
left R.Value = P.ReturnValue
left R.NoValue = P.ReturnValue
left R.Width = P.PrintEnd
left R.NoWidth = P.PrintEnd
left R.FirstArgument = P.Arguments
left R.NoArgument = P.Arguments
left R.NextArgument = P.MoreArguments
left R.LastArgument = P.MoreArguments
left R.Condition = P.Condition
left R.Or = P.OrTerms
left R.NoOr = P.OrTerms
left R.CondTerm = P.CondTerm
left R.And = P.AndFacts
left R.NoAnd = P.AndFacts
left R.CondFact = P.CondFact
left R.Equal = P.Relation
left R.NotEqual = P.Relation
left R.Greater = P.Relation
left R.GreaterEqual = P.Relation
left R.Less = P.Relation
left R.LessEqual = P.Relation
left R.Negative = P.Expr
left R.Positive = P.Expr
left R.Add = P.Sums
left R.Subtract = P.Sums
left R.NoSum = P.Sums
left R.Term = P.Term
left R.Multiply = P.Products
left R.Divide = P.Products
left R.Remainder = P.Products
left R.NoProduct = P.Products
left R.Variable = P.Factor
left R.Number = P.Factor
left R.Character = P.Factor
left R.New = P.Factor
left R.Bracketed = P.Factor
left R.Call = P.Call
left R.NoCall = P.Call
left R.Length = P.Length
left R.NoLength = P.Length
left R.Designator = P.Designator
left R.Field = P.Selectors
left R.Element = P.Selectors
left R.NoSelector = P.Selectors

-- the items of each rule
abbrev pub right : Rule → List Item
-- Program = "program" ident Declarations "{" Methods "}"
right R.Program = one (word W.Program) ∷ one name ∷ part P.Declarations ∷ one (sign S.OpenBrace) ∷ inner P.Methods ∷ one (sign S.CloseBrace) ∷ []
-- Declarations = ConstDecl Declarations
right R.Constants = part P.ConstDecl ∷ []
-- Declarations = VarDecl Declarations
right R.Variables = part P.VarDecl ∷ []
-- Declarations = ClassDecl Declarations
right R.Classes = part P.ClassDecl ∷ []
-- Declarations = nothing
right R.NoDeclaration = []
-- ConstDecl = "final" Type ident "=" Literal ";"
right R.ConstDecl = one (word W.Final) ∷ part P.Type ∷ one name ∷ one (sign S.Assign) ∷ part P.Literal ∷ one (sign S.Semicolon) ∷ []
-- Literal = number
right R.NumberLiteral = one number ∷ []
-- Literal = charConst
right R.CharacterLiteral = one character ∷ []
-- VarDecl = Type ident Names ";"
right R.VarDecl = part P.Type ∷ one name ∷ part P.Names ∷ one (sign S.Semicolon) ∷ []
-- Names = "," ident Names
right R.MoreNames = one (sign S.Comma) ∷ one name ∷ []
-- Names = nothing
right R.NoName = []
-- ClassDecl = "class" ident "{" VarDecls "}"
right R.ClassDecl = one (word W.Class) ∷ one name ∷ one (sign S.OpenBrace) ∷ inner P.VarDecls ∷ one (sign S.CloseBrace) ∷ []
-- VarDecls = VarDecl VarDecls
right R.MoreVarDecls = part P.VarDecl ∷ []
-- VarDecls = nothing
right R.NoVarDecl = []
-- Type = ident Brackets
right R.Type = one name ∷ part P.Brackets ∷ []
-- Brackets = "[" "]"
right R.ArrayBrackets = one (sign S.OpenBracket) ∷ one (sign S.CloseBracket) ∷ []
-- Brackets = nothing
right R.NoBrackets = []
-- Methods = MethodDecl Methods
right R.MoreMethods = part P.MethodDecl ∷ []
-- Methods = nothing
right R.NoMethod = []
-- MethodDecl = ReturnType ident "(" Parameters ")" VarDecls Block, a method at the identifier
right R.MethodDecl = part P.ReturnType ∷ own name N.Method ∷ one (sign S.OpenParen) ∷ inner P.Parameters ∷ one (sign S.CloseParen) ∷ part P.VarDecls ∷ part P.Block ∷ I.Make ∷ []
-- ReturnType = Type
right R.Function = part P.Type ∷ []
-- ReturnType = "void"
right R.Void = one (word W.Void) ∷ []
-- Parameters = Parameter MoreParameters
right R.FirstParameter = part P.Parameter ∷ []
-- Parameters = nothing
right R.NoParameter = []
-- MoreParameters = "," Parameter MoreParameters
right R.NextParameter = one (sign S.Comma) ∷ part P.Parameter ∷ []
-- MoreParameters = nothing
right R.LastParameter = []
-- Parameter = Type ident, a parameter at the identifier
right R.Parameter = part P.Type ∷ own name N.Parameter ∷ I.Make ∷ []
-- Block = "{" Statements "}", a block at the bracket
right R.Block = own (sign S.OpenBrace) N.Block ∷ inner P.Statements ∷ one (sign S.CloseBrace) ∷ I.Make ∷ []
-- Statements = Statement Statements
right R.MoreStatements = part P.Statement ∷ []
-- Statements = nothing
right R.NoStatement = []
-- Statement = Designator Action
right R.Action = part P.Designator ∷ []
-- Statement = "if" "(" Condition ")" Statement Else, at the word; condition and body one deeper
right R.If = own (word W.If) N.If ∷ one (sign S.OpenParen) ∷ inner P.Condition ∷ one (sign S.CloseParen) ∷ inner P.Statement ∷ part P.Else ∷ I.Make ∷ []
-- Statement = "while" "(" Condition ")" Statement, at the word; condition and body one deeper
right R.While = own (word W.While) N.While ∷ one (sign S.OpenParen) ∷ inner P.Condition ∷ one (sign S.CloseParen) ∷ looped P.Statement ∷ I.Make ∷ []
-- Statement = "break" ";", at the word
right R.Break = breaks (word W.Break) ∷ one (sign S.Semicolon) ∷ I.Make ∷ []
-- Statement = "return" ReturnValue ";", at the word
right R.Return = own (word W.Return) N.Return ∷ part P.ReturnValue ∷ one (sign S.Semicolon) ∷ I.Make ∷ []
-- Statement = "read" "(" Designator ")" ";", at the word
right R.Read = own (word W.Read) N.Read ∷ one (sign S.OpenParen) ∷ inner P.Designator ∷ one (sign S.CloseParen) ∷ one (sign S.Semicolon) ∷ I.Make ∷ []
-- Statement = "print" "(" Expr PrintEnd, begun at the word and made in PrintEnd
right R.Print = own (word W.Print) (N.Print None) ∷ one (sign S.OpenParen) ∷ inner P.Expr ∷ []
-- Statement = Block
right R.Nested = part P.Block ∷ []
-- Statement = ";", an empty statement at the sign
right R.Empty = own (sign S.Semicolon) N.Empty ∷ I.Make ∷ []
-- Action = "=" Expr ";", an assignment at the sign
right R.Assign = own (sign S.Assign) N.Assign ∷ part P.Expr ∷ one (sign S.Semicolon) ∷ I.Make ∷ []
-- Action = "(" Arguments ")" ";", a call at the bracket
right R.CallStatement = own (sign S.OpenParen) N.CallStatement ∷ inner P.Arguments ∷ one (sign S.CloseParen) ∷ one (sign S.Semicolon) ∷ I.Make ∷ []
-- Action = "++" ";", at the sign
right R.Increment = own (sign S.PlusPlus) N.Increment ∷ one (sign S.Semicolon) ∷ I.Make ∷ []
-- Action = "--" ";", at the sign
right R.Decrement = own (sign S.MinusMinus) N.Decrement ∷ one (sign S.Semicolon) ∷ I.Make ∷ []
-- Else = "else" Statement, which is one deeper
right R.Else = one (word W.Else) ∷ inner P.Statement ∷ []
-- Else = nothing, where no "else" comes next: an else belongs to the nearest if that has none
right R.NoElse = I.Unless (word W.Else) ∷ []
-- ReturnValue = Expr
right R.Value = part P.Expr ∷ []
-- ReturnValue = nothing
right R.NoValue = []
-- PrintEnd = "," number ")" ";", the number is the width
right R.Width = inner_one (sign S.Comma) ∷ inner_noted number ∷ one (sign S.CloseParen) ∷ one (sign S.Semicolon) ∷ I.Make ∷ []
-- PrintEnd = ")" ";"
right R.NoWidth = one (sign S.CloseParen) ∷ one (sign S.Semicolon) ∷ I.Make ∷ []
-- Arguments = Expr MoreArguments
right R.FirstArgument = part P.Expr ∷ []
-- Arguments = nothing
right R.NoArgument = []
-- MoreArguments = "," Expr MoreArguments
right R.NextArgument = one (sign S.Comma) ∷ part P.Expr ∷ []
-- MoreArguments = nothing
right R.LastArgument = []
-- Condition = CondTerm OrTerms
right R.Condition = part P.CondTerm ∷ []
-- OrTerms = "||" CondTerm OrTerms, a node of what stands before the sign and the term after it
right R.Or = own (sign S.OrOr) N.Or ∷ part P.CondTerm ∷ I.Make ∷ []
-- OrTerms = nothing
right R.NoOr = []
-- CondTerm = CondFact AndFacts
right R.CondTerm = part P.CondFact ∷ []
-- AndFacts = "&&" CondFact AndFacts, grouped in the same way
right R.And = own (sign S.AndAnd) N.And ∷ part P.CondFact ∷ I.Make ∷ []
-- AndFacts = nothing
right R.NoAnd = []
-- CondFact = Expr Relation
right R.CondFact = part P.Expr ∷ []
-- Relation = "==" Expr, at the sign
right R.Equal = own (sign S.EqualEqual) (N.Relation Q.Equal) ∷ part P.Expr ∷ I.Make ∷ []
-- Relation = "!=" Expr, at the sign
right R.NotEqual = own (sign S.NotEqual) (N.Relation Q.NotEqual) ∷ part P.Expr ∷ I.Make ∷ []
-- Relation = ">" Expr, at the sign
right R.Greater = own (sign S.Greater) (N.Relation Q.Greater) ∷ part P.Expr ∷ I.Make ∷ []
-- Relation = ">=" Expr, at the sign
right R.GreaterEqual = own (sign S.GreaterEqual) (N.Relation Q.GreaterEqual) ∷ part P.Expr ∷ I.Make ∷ []
-- Relation = "<" Expr, at the sign
right R.Less = own (sign S.Less) (N.Relation Q.Less) ∷ part P.Expr ∷ I.Make ∷ []
-- Relation = "<=" Expr, at the sign
right R.LessEqual = own (sign S.LessEqual) (N.Relation Q.LessEqual) ∷ part P.Expr ∷ I.Make ∷ []
-- Expr = "-" Term Sums: the minus covers the first term only
right R.Negative = own (sign S.Minus) N.Negate ∷ part P.Term ∷ I.Make ∷ []
-- Expr = Term Sums
right R.Positive = part P.Term ∷ []
-- Sums = "+" Term Sums, a node of what stands before the sign and the term after it
right R.Add = own (sign S.Plus) (N.Binary B.Add) ∷ part P.Term ∷ I.Make ∷ []
-- Sums = "-" Term Sums, a node of what stands before the sign and the term after it
right R.Subtract = own (sign S.Minus) (N.Binary B.Subtract) ∷ part P.Term ∷ I.Make ∷ []
-- Sums = nothing
right R.NoSum = []
-- Term = Factor Products
right R.Term = part P.Factor ∷ []
-- Products = "*" Factor Products, grouped in the same way
right R.Multiply = own (sign S.Star) (N.Binary B.Multiply) ∷ part P.Factor ∷ I.Make ∷ []
-- Products = "/" Factor Products, grouped in the same way
right R.Divide = own (sign S.Slash) (N.Binary B.Divide) ∷ part P.Factor ∷ I.Make ∷ []
-- Products = "%" Factor Products, grouped in the same way
right R.Remainder = own (sign S.Percent) (N.Binary B.Remainder) ∷ part P.Factor ∷ I.Make ∷ []
-- Products = nothing
right R.NoProduct = []
-- Factor = Designator Call
right R.Variable = part P.Designator ∷ []
-- Factor = number
right R.Number = literal number ∷ I.Make ∷ []
-- Factor = charConst
right R.Character = literal character ∷ I.Make ∷ []
-- Factor = "new" ident Length, at the word; the identifier is the type
right R.New = own (word W.New) (N.New 0) ∷ noted name ∷ []
-- Factor = "(" Expr ")", with no node of its own
right R.Bracketed = one (sign S.OpenParen) ∷ inner P.Expr ∷ one (sign S.CloseParen) ∷ []
-- Call = "(" Arguments ")", a call at the bracket
right R.Call = own (sign S.OpenParen) N.Call ∷ inner P.Arguments ∷ one (sign S.CloseParen) ∷ I.Make ∷ []
-- Call = nothing
right R.NoCall = []
-- Length = "[" Expr "]", the one part of the `new`
right R.Length = one (sign S.OpenBracket) ∷ inner P.Expr ∷ one (sign S.CloseBracket) ∷ I.Make ∷ []
-- Length = nothing: the `new` has no part
right R.NoLength = I.Make ∷ []
-- Designator = ident Selectors, a name at the identifier
right R.Designator = own name N.Name ∷ I.Make ∷ []
-- Selectors = "." ident Selectors, a field at the dot of what stands before it
right R.Field = own (sign S.Dot) (N.Field 0) ∷ noted name ∷ I.Make ∷ []
-- Selectors = "[" Expr "]" Selectors, an element at the bracket of what stands before it
right R.Element = own (sign S.OpenBracket) N.Element ∷ inner P.Expr ∷ one (sign S.CloseBracket) ∷ I.Make ∷ []
-- Selectors = nothing
right R.NoSelector = []

-- the tail of each rule
abbrev pub tail : Rule → Option Part
tail R.Constants = Some P.Declarations
tail R.Variables = Some P.Declarations
tail R.Classes = Some P.Declarations
tail R.MoreNames = Some P.Names
tail R.MoreVarDecls = Some P.VarDecls
tail R.MoreMethods = Some P.Methods
tail R.FirstParameter = Some P.MoreParameters
tail R.NextParameter = Some P.MoreParameters
tail R.MoreStatements = Some P.Statements
tail R.Action = Some P.Action
tail R.Print = Some P.PrintEnd
tail R.FirstArgument = Some P.MoreArguments
tail R.NextArgument = Some P.MoreArguments
tail R.Condition = Some P.OrTerms
tail R.Or = Some P.OrTerms
tail R.CondTerm = Some P.AndFacts
tail R.And = Some P.AndFacts
tail R.CondFact = Some P.Relation
tail R.Negative = Some P.Sums
tail R.Positive = Some P.Sums
tail R.Add = Some P.Sums
tail R.Subtract = Some P.Sums
tail R.Term = Some P.Products
tail R.Multiply = Some P.Products
tail R.Divide = Some P.Products
tail R.Remainder = Some P.Products
tail R.Variable = Some P.Call
tail R.New = Some P.Length
tail R.Designator = Some P.Selectors
tail R.Field = Some P.Selectors
tail R.Element = Some P.Selectors
tail r = None
