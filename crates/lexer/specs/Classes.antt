-- The class of a byte, by ranges.
use Rattle.std.specs.Prelude.{ℕ, Bool, cond, ◌&&◌, ◌||◌, ◌==◌, nat_le}
use Rattle.lexer.specs.declared.class.Class.{Class}
use Rattle.lexer.specs.declared.class.Class.TheVariants.{Letter, Digit, Underscore, Blank, Sign, Other}

-- b is one of the bytes from low to high
abbrev pub within : ℕ → ℕ → ℕ → Bool
within low high b = nat_le low b && nat_le b high

-- A to Z, a to z
abbrev pub letter : ℕ → Bool
letter b = within 65 90 b || within 97 122 b

-- 0 to 9
abbrev pub digit : ℕ → Bool
digit b = within 48 57 b

-- tab, line feed, carriage return, space
abbrev pub blank : ℕ → Bool
blank b = within 9 10 b || b == 13 || b == 32

-- ! and % & ' ( ) * + , - . / and ; < = > and [ and ] and { | }
abbrev pub sign_byte : ℕ → Bool
sign_byte b = b == 33 || within 37 47 b || within 59 62 b || b == 91 || b == 93 || within 123 125 b

-- the class of a byte
abbrev pub class_of : ℕ → Class
class_of b = cond (letter b) Letter (cond (digit b) Digit (cond (b == 95) Underscore (cond (blank b) Blank (cond (sign_byte b) Sign Other))))
