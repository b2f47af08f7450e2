use Rattle.std.proofs.Common.{◌∙◌}
use Rattle.syntax.proofs.Taking.{ahead_is}
use Rattle.syntax.proofs.parser.Parser.terminal.Goals as goal

pub returns : goal.returns
returns c = λ ts coming. c.of.ensures ∙ ahead_is ts c.in_ok-self.was coming
