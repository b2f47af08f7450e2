-- Worked examples: what some short texts are by the definitions.
use Rattle.std.specs.Prelude.{ℕ, [], ◌∷◌, codes}
use Rattle.lexer.specs.Tokens.{Cut}
use Rattle.lexer.specs.Scan.{Refused}
use Rattle.lexer.specs.declared.token.Kind.{Kind}
use Rattle.lexer.specs.declared.token.Kind.TheVariants.{Name, Number, Character, Sign}
use Rattle.lexer.specs.declared.token.Operator.TheVariants.{Plus, PlusPlus, LessEqual}
use Rattle.lexer.specs.declared.token.Token.{Token}

abbrev pub token : Kind → ℕ → ℕ → Token
token k p n = record { kind = k; place = p; len = n }

pub record Examples : Type 0 where
  -- 2147483647 is a number
  pub largest : Cut (codes "2147483647") 0 10 (token (Number 2147483647) 0 10 ∷ [])
  -- 2147483648 is refused by 4 at 0
  pub larger : Refused (codes "2147483648") 4 0
  -- '' is refused by 3 at 0
  pub empty : Refused (39 ∷ 39 ∷ []) 3 0
  -- '\' is the character 92
  pub backslash : Cut (39 ∷ 92 ∷ 39 ∷ []) 0 3 (token (Character 92) 0 3 ∷ [])
  -- <= is one token
  pub less_equal : Cut (codes "<=") 0 2 (token (Sign LessEqual) 0 2 ∷ [])
  -- a+++b is a, ++, + and b
  pub plusses : Cut (codes "a+++b") 0 5 (token Name 0 1 ∷ token (Sign PlusPlus) 1 2 ∷ token (Sign Plus) 3 1 ∷ token Name 4 1 ∷ [])
