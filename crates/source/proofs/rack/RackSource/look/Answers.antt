use Rattle.std.proofs.Common.{sym}
use Rattle.source.proofs.Racks.{rack_first}
use Rattle.source.proofs.rack.RackSource.look.Goals as goal

pub returns : goal.returns
returns c = rw c.unwrap_or.ensures (rack_first _ _ _ _ (sym c.in_ok-reading.ensures.value) c.args.self.now.inside c.told_byte.ensures)
