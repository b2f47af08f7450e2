-- What the token lister prints of a recipe.
use Rattle.std.specs.Prelude.{ℕ, List, ◌++◌, length, take, drop, codes, decimal}
use Rattle.std.specs.List.{flat_map}
use Rattle.lexer.specs.Refusals.{refused_text}
use Rattle.lexer.specs.Scan.{Accepted, Refused}
use Rattle.lexer.specs.declared.Kind.{Kind}
use Rattle.lexer.specs.declared.Kind.TheVariants.{End, Name, Number, Character, Word, Sign}
use Rattle.lexer.specs.declared.Token.{Token}

-- the word for a kind of token
abbrev pub label : Kind → List ℕ
label End = codes "end"
label Name = codes "name"
label (Number _) = codes "number"
label (Character _) = codes "character"
label (Word _) = codes "word"
label (Sign _) = codes "sign"

-- a token's line: place, kind and text, separated by one blank
abbrev pub line : List ℕ → Token → List ℕ
line recipe t = decimal t.place ++ (codes " " ++ (label t.kind ++ (codes " " ++ (take t.len (drop t.place recipe) ++ codes "\n"))))

-- the last line: how many tokens there are
abbrev pub total : ℕ → List ℕ
total n = codes "tokens " ++ (decimal n ++ codes "\n")

-- the line of a refusal: its number and place
abbrev pub refused_line : ℕ → ℕ → List ℕ
refused_line number place = refused_text number place ++ codes "\n"

-- what is printed of a recipe
pub data Listed (recipe : List ℕ) : List ℕ → Type 0 where
  -- a line for each token and the count of all
  the_tokens : {tokens : List Token} → Accepted recipe tokens → Listed recipe (flat_map (line recipe) tokens ++ total (length tokens))
  -- only the refusal
  the_refusal : {number place : ℕ} → Refused recipe number place → Listed recipe (refused_line number place)
