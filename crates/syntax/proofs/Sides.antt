-- The rule that the next token asks for speaks of the part for which it is asked.
use Rattle.std.proofs.Common.{◌≡◌, Bool, Option, refl, ap, ◌∙◌}
use denote.Enum.Bare.{sameb, same_true}
use Rattle.syntax.specs.contracts.grammar.Part.{the_type}
use Rattle.syntax.specs.Grammar.{left}
use Rattle.syntax.specs.Choices.{predicted}
use Rattle.syntax.specs.declared.grammar.Part.{Part}
use Rattle.syntax.specs.declared.grammar.Rule.{Rule}
use Rattle.syntax.specs.declared.grammar.Terminal.{Terminal}
use Rattle.syntax.proofs.Listed.{all_terminals, at_terminal, at_part}

-- the rule that a terminal asks for speaks of the part
abbrev speaks : Part → Option Terminal → Bool
speaks p a = sameb the_type (left (predicted p a)) p

-- computed for each part and each terminal
left_predicted : (p : Part) (a : Option Terminal) → left (predicted p a) ≡ p
left_predicted p a = same_true the_type tt _ _ (at_terminal (speaks p) (at_part (λ p. all_terminals (speaks p)) refl p) a)

-- the same of any rule that is that one
pub left_asked : (p : Part) (a : Option Terminal) (r : Rule) → r ≡ predicted p a → left r ≡ p
left_asked p a r e = ap left e ∙ left_predicted p a
