-- What waits in a tape.
use Rattle.std.specs.Prelude.{ℕ, List}
use Rattle.source.specs.declared.tape.Tape.{Tape}

-- the text that is left
abbrev pub text_left : Tape → List ℕ
text_left t = t.rest.now
