-- How the keywords and the signs are spelled.
use Rattle.std.specs.Prelude.{◌≡◌, ℕ, ◌≤◌, List, length, take, codes}
use Rattle.lexer.specs.declared.token.Keyword.{Keyword}
use Rattle.lexer.specs.declared.token.Keyword.TheVariants.{Program, Class, If, Else, While, Read, Print, Return, Break, Void, Final, New}
use Rattle.lexer.specs.declared.token.Operator.{Operator}
use Rattle.lexer.specs.declared.token.Operator.TheVariants.{Plus, Minus, Star, Slash, Percent, PlusPlus, MinusMinus, EqualEqual, NotEqual, Greater, GreaterEqual, Less, LessEqual, AndAnd, OrOr, OpenParen, CloseParen, OpenBracket, CloseBracket, OpenBrace, CloseBrace, Assign, Semicolon, Comma, Dot}

-- the bytes of each keyword
abbrev pub keyword_text : Keyword → List ℕ
keyword_text Program = codes "program"
keyword_text Class = codes "class"
keyword_text If = codes "if"
keyword_text Else = codes "else"
keyword_text While = codes "while"
keyword_text Read = codes "read"
keyword_text Print = codes "print"
keyword_text Return = codes "return"
keyword_text Break = codes "break"
keyword_text Void = codes "void"
keyword_text Final = codes "final"
keyword_text New = codes "new"

-- the bytes of each sign
abbrev pub sign_text : Operator → List ℕ
sign_text Plus = codes "+"
sign_text Minus = codes "-"
sign_text Star = codes "*"
sign_text Slash = codes "/"
sign_text Percent = codes "%"
sign_text PlusPlus = codes "++"
sign_text MinusMinus = codes "--"
sign_text EqualEqual = codes "=="
sign_text NotEqual = codes "!="
sign_text Greater = codes ">"
sign_text GreaterEqual = codes ">="
sign_text Less = codes "<"
sign_text LessEqual = codes "<="
sign_text AndAnd = codes "&&"
sign_text OrOr = codes "||"
sign_text OpenParen = codes "("
sign_text CloseParen = codes ")"
sign_text OpenBracket = codes "["
sign_text CloseBracket = codes "]"
sign_text OpenBrace = codes "{"
sign_text CloseBrace = codes "}"
sign_text Assign = codes "="
sign_text Semicolon = codes ";"
sign_text Comma = codes ","
sign_text Dot = codes "."

-- s begins with the bytes of t
abbrev pub Begins : List ℕ → List ℕ → Type 0
Begins t s = take (length t) s ≡ t

-- s begins with this sign and with no longer one
abbrev pub Longest : List ℕ → Operator → Type 0
Longest s g = Begins (sign_text g) s × ((h : Operator) → Begins (sign_text h) s → length (sign_text h) ≤ length (sign_text g))
