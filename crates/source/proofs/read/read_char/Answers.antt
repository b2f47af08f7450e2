use Rattle.source.proofs.Steps.{char_read}
use Rattle.source.proofs.read.read_char.Goals as goal

pub returns : goal.returns
returns g c = rw (c.ok_or.ensures.value, c.take.ensures.answer, c.take.ensures.rest) (char_read _)
