-- What an operation or a relation on words of 32 bits comes to. Assumes nothing.
use Rattle.std.specs.Prelude.{◌≡◌, ◌^◌, Bool, true, false, cond, not, ◌&&◌, T, ℤ, ◌+ℤ◌, ◌-ℤ◌, ◌*ℤ◌, neg_ℤ, IfSome, Some, None, Option, ◌==◌, int_div, int_le, int_lt, int_rem, nat_lt, unsigned_abs}
use Rattle.std.specs.Int.Signed.{mag}
use Rattle.std.specs.Int.{int_wrap, w32}
use Rattle.arith.specs.declared.Operation.{Operation}
use Rattle.arith.specs.declared.Operation.TheVariants.{Add, Sub, Mul, Div, Rem, Neg}
use Rattle.arith.specs.declared.Relation.{Relation}
use Rattle.arith.specs.declared.Relation.TheVariants.{Equal, NotEqual, Less, LessEqual, Greater, GreaterEqual}

-- z is a word, from -2 ^ 31 to 2 ^ 31 - 1: `mag` is n of n and of -(n + 1)
abbrev pub fits : ℤ → Bool
fits z = nat_lt (mag z) (2 ^ 31)

-- the exact result; a quotient is cut towards zero, and a remainder has the dividend's sign
abbrev pub exact : Operation → ℤ
exact (Add a b) = a +ℤ b
exact (Sub a b) = a -ℤ b
exact (Mul a b) = a *ℤ b
exact (Div a b) = int_div a b
exact (Rem a b) = int_rem a b
exact (Neg a) = neg_ℤ a

-- z is zero
abbrev pub is_zero : ℤ → Bool
is_zero z = unsigned_abs z == 0

-- the operation divides, and its divisor is zero
abbrev pub by_zero : Operation → Bool
by_zero (Add a b) = false
by_zero (Sub a b) = false
by_zero (Mul a b) = false
by_zero (Div a b) = is_zero b
by_zero (Rem a b) = is_zero b
by_zero (Neg a) = false

-- an arithmetic that makes the exact result an answer by a rule; nothing is divided by zero
abbrev pub ruled : (ℤ → Option ℤ) → Operation → Option ℤ
ruled rule o = cond (by_zero o) None (rule (exact o))

-- the exact result wrapped around: the word that differs from it by a multiple of 2 ^ 32
abbrev pub java : Operation → Option ℤ
java = ruled (λ z. Some (int_wrap w32 z))

-- the exact result where it is a word, and else out of range
abbrev pub stopping : Operation → Option ℤ
stopping = ruled (λ z. cond (fits z) (Some z) None)

-- an answer is a word or out of range
abbrev pub WordOrNone : Option ℤ → Type 0
WordOrNone r = IfSome r (λ z. T (fits z))

-- all operands are words
abbrev pub of_words : Operation → Bool
of_words (Add a b) = fits a && fits b
of_words (Sub a b) = fits a && fits b
of_words (Mul a b) = fits a && fits b
of_words (Div a b) = fits a && fits b
of_words (Rem a b) = fits a && fits b
of_words (Neg a) = fits a

-- two arithmetics answer alike whatever words they are asked about, division by zero aside
abbrev pub SameMeaning : (Operation → Option ℤ) → (Operation → Option ℤ) → Type 0
SameMeaning f g = (o : Operation) → of_words o ≡ true → by_zero o ≡ false → f o ≡ g o

-- two whole numbers are equal: neither is above the other
abbrev pub same : ℤ → ℤ → Bool
same a b = int_le a b && int_le b a

-- whether a relation holds between two whole numbers
abbrev pub related : Relation → ℤ → ℤ → Bool
related Equal a b = same a b
related NotEqual a b = not (same a b)
related Less a b = int_lt a b
related LessEqual a b = int_le a b
related Greater a b = int_lt b a
related GreaterEqual a b = int_le b a
