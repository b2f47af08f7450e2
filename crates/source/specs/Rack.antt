-- What waits in a rack.
use Rattle.std.specs.Prelude.{ℕ, List, drop}
use Rattle.source.specs.declared.rack.Rack.{Rack}
use Rattle.source.specs.Racks.{rack_text}

-- the text of the readings still to be told, without the bytes taken of the first
abbrev pub text_left : Rack → List ℕ
text_left k = drop k.taken (rack_text k.readings.now)
