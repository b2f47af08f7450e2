-- No two keywords and no two signs are spelled alike.
use Rattle.std.proofs.Common.{◌≡◌, rules}
use Rattle.lexer.specs.Spelling.{keyword_text, sign_text}
use Rattle.lexer.specs.declared.token.Keyword.{Keyword}
use Rattle.lexer.specs.declared.token.Operator.{Operator}

pub same_keyword : (k l : Keyword) → keyword_text k ≡ keyword_text l → k ≡ l
same_keyword k l e = search rules

pub same_sign : (g h : Operator) → sign_text g ≡ sign_text h → g ≡ h
same_sign g h e = search rules
