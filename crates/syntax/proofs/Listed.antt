-- A test that is computed at each value of an enum, or at each terminal, passes at any.
use Rattle.std.proofs.Common.{◌≡◌, ◌<◌, Bool, true, false, ◌&&◌, List, [], ◌∷◌, map, length, get_or, Some, None, Option, inl, inr, sym, refl, ap, ◌∙◌, subst, arith}
use Rattle.std.specs.List.{list_all, range_with_len}
use Rattle.std.proofs.Math.ListN.{get_or-map}
use Rattle.std.proofs.lemmas.List.{length-map}
use Rattle.std.proofs.lemmas.List.FromFn.{length-range_with_len, get_or-range_with_len}
use Rattle.std.proofs.lemmas.List.Sums.{AllPass-from_list_all}
use mathlib.Core.Bool.{false≢true}
use denote.RattleType.{RattleType}
use denote.Enum.Bare.{Bare, tag_one}
use denote.Enum.Declared.{Declared, variants, tag_of}
use denote.Enum.Enum.{Sum, tag}
use Rattle.lexer.specs.contracts.token.Keyword.{the_type as keyword_type}
use Rattle.lexer.specs.contracts.token.Operator.{the_type as operator_type}
use Rattle.lexer.specs.declared.Keyword.{Keyword}
use Rattle.lexer.specs.declared.Keyword.TheVariants as W
use Rattle.lexer.specs.declared.Operator.{Operator}
use Rattle.lexer.specs.declared.Operator.TheVariants as S
use Rattle.syntax.specs.contracts.grammar.Part.{the_type as part_type}
use Rattle.syntax.specs.contracts.grammar.Rule.{the_type as rule_type}
use Rattle.syntax.specs.declared.grammar.Part.{Part}
use Rattle.syntax.specs.declared.grammar.Part.TheVariants as P
use Rattle.syntax.specs.declared.grammar.Rule.{Rule}
use Rattle.syntax.specs.declared.grammar.Rule.TheVariants as R
use Rattle.syntax.specs.declared.grammar.Terminal.{Terminal}
use Rattle.syntax.specs.declared.grammar.Terminal.TheVariants.{Name, Number, Character, Word, Sign}

-- the values of the enums with no fields, in the order in which they are declared
abbrev keywords : List Keyword
keywords = W.Program ∷ W.Class ∷ W.If ∷ W.Else ∷ W.While ∷ W.Read ∷ W.Print ∷ W.Return ∷ W.Break ∷ W.Void ∷ W.Final ∷ W.New ∷ []

abbrev operators : List Operator
operators = S.Plus ∷ S.Minus ∷ S.Star ∷ S.Slash ∷ S.Percent ∷ S.PlusPlus ∷ S.MinusMinus ∷ S.EqualEqual ∷ S.NotEqual ∷ S.Greater ∷ S.GreaterEqual ∷ S.Less ∷ S.LessEqual ∷ S.AndAnd ∷ S.OrOr ∷ S.OpenParen ∷ S.CloseParen ∷ S.OpenBracket ∷ S.CloseBracket ∷ S.OpenBrace ∷ S.CloseBrace ∷ S.Assign ∷ S.Semicolon ∷ S.Comma ∷ S.Dot ∷ []

abbrev parts : List Part
parts = P.Program ∷ P.Declarations ∷ P.ConstDecl ∷ P.Literal ∷ P.VarDecl ∷ P.Names ∷ P.ClassDecl ∷ P.VarDecls ∷ P.Type ∷ P.Brackets ∷ P.Methods ∷ P.MethodDecl ∷ P.ReturnType ∷ P.Parameters ∷ P.MoreParameters ∷ P.Parameter ∷ P.Block ∷ P.Statements ∷ P.Statement ∷ P.Action ∷ P.Else ∷ P.ReturnValue ∷ P.PrintEnd ∷ P.Arguments ∷ P.MoreArguments ∷ P.Condition ∷ P.OrTerms ∷ P.CondTerm ∷ P.AndFacts ∷ P.CondFact ∷ P.Relation ∷ P.Expr ∷ P.Sums ∷ P.Term ∷ P.Products ∷ P.Factor ∷ P.Call ∷ P.Length ∷ P.Designator ∷ P.Selectors ∷ []

abbrev rules : List Rule
rules = R.Program ∷ R.Constants ∷ R.Variables ∷ R.Classes ∷ R.NoDeclaration ∷ R.ConstDecl ∷ R.NumberLiteral ∷ R.CharacterLiteral ∷ R.VarDecl ∷ R.MoreNames ∷ R.NoName ∷ R.ClassDecl ∷ R.MoreVarDecls ∷ R.NoVarDecl ∷ R.Type ∷ R.ArrayBrackets ∷ R.NoBrackets ∷ R.MoreMethods ∷ R.NoMethod ∷ R.MethodDecl ∷ R.Function ∷ R.Void ∷ R.FirstParameter ∷ R.NoParameter ∷ R.NextParameter ∷ R.LastParameter ∷ R.Parameter ∷ R.Block ∷ R.MoreStatements ∷ R.NoStatement ∷ R.Action ∷ R.If ∷ R.While ∷ R.Break ∷ R.Return ∷ R.Read ∷ R.Print ∷ R.Nested ∷ R.Empty ∷ R.Assign ∷ R.CallStatement ∷ R.Increment ∷ R.Decrement ∷ R.Else ∷ R.NoElse ∷ R.Value ∷ R.NoValue ∷ R.Width ∷ R.NoWidth ∷ R.FirstArgument ∷ R.NoArgument ∷ R.NextArgument ∷ R.LastArgument ∷ R.Condition ∷ R.Or ∷ R.NoOr ∷ R.CondTerm ∷ R.And ∷ R.NoAnd ∷ R.CondFact ∷ R.Equal ∷ R.NotEqual ∷ R.Greater ∷ R.GreaterEqual ∷ R.Less ∷ R.LessEqual ∷ R.Negative ∷ R.Positive ∷ R.Add ∷ R.Subtract ∷ R.NoSum ∷ R.Term ∷ R.Multiply ∷ R.Divide ∷ R.Remainder ∷ R.NoProduct ∷ R.Variable ∷ R.Number ∷ R.Character ∷ R.New ∷ R.Bracketed ∷ R.Call ∷ R.NoCall ∷ R.Length ∷ R.NoLength ∷ R.Designator ∷ R.Field ∷ R.Element ∷ R.NoSelector ∷ []

-- the number of a variant is below how many there are
tag_below : (Tss : List (List RattleType)) (a : Sum Tss) → tag Tss a < length Tss
tag_below [] a = absurd a
tag_below (Ts ∷ Tss) (inl x) = omega arith
tag_below (Ts ∷ Tss) (inr y) = omega (arith, tag_below Tss y)

-- a test that passes at each value of a list passes at any, if the list holds the variants in their order
passes : (D : Declared) → Bare D.parts → (xs : List D.D) → map (tag_of D) xs ≡ range_with_len 0 (length (variants D)) → (f : D.D → Bool) → list_all f xs ≡ true → (d : D.D) → f d ≡ true
passes D bare xs e f h d =
    let i = tag_of D d in
    let n = length (variants D) in
    let low : i < n = tag_below (variants D) (D.to d) in
    let long : length xs ≡ n = sym (length-map xs (tag_of D)) ∙ ap length e ∙ length-range_with_len 0 n in
    let tagged : tag_of D (get_or xs i d) ≡ i = omega (arith, get_or-map (tag_of D) xs i d, ap (λ l. get_or l i i) e, get_or-range_with_len 0 n i i low) in
    subst (λ x. f x ≡ true) (tag_one D bare _ _ tagged) (AllPass-from_list_all f xs h i d (omega arith))

-- so at any part
pub at_part : (f : Part → Bool) → list_all f parts ≡ true → (p : Part) → f p ≡ true
at_part = passes part_type tt parts refl

-- and at any rule
pub at_rule : (f : Rule → Bool) → list_all f rules ≡ true → (r : Rule) → f r ≡ true
at_rule = passes rule_type tt rules refl

-- two tests that pass together pass each
pub both : (a b : Bool) → (a && b) ≡ true → (a ≡ true) × (b ≡ true)
both true b h = (refl, h)
both false b h = absurd (false≢true h)

-- what can come next and is neither a keyword nor a sign
abbrev others : List (Option Terminal)
others = None ∷ Some Name ∷ Some Number ∷ Some Character ∷ []

-- the test passes at each terminal, and where none comes next
abbrev pub all_terminals : (Option Terminal → Bool) → Bool
all_terminals f = list_all f others && (list_all (λ w. f (Some (Word w))) keywords && list_all (λ g. f (Some (Sign g))) operators)

-- so at any
pub at_terminal : (f : Option Terminal → Bool) → all_terminals f ≡ true → (a : Option Terminal) → f a ≡ true
at_terminal f h None = AllPass-from_list_all f others (both _ _ h).0 0 None (omega arith)
at_terminal f h (Some Name) = AllPass-from_list_all f others (both _ _ h).0 1 None (omega arith)
at_terminal f h (Some Number) = AllPass-from_list_all f others (both _ _ h).0 2 None (omega arith)
at_terminal f h (Some Character) = AllPass-from_list_all f others (both _ _ h).0 3 None (omega arith)
at_terminal f h (Some (Word w)) = passes keyword_type tt keywords refl (λ w. f (Some (Word w))) (both _ _ (both _ _ h).1).0 w
at_terminal f h (Some (Sign g)) = passes operator_type tt operators refl (λ g. f (Some (Sign g))) (both _ _ (both _ _ h).1).1 g
