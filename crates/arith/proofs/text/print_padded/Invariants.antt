use Rattle.std.proofs.Common.{◌≡◌, ◌-◌, ◌++◌, length, take, replicate}
use Rattle.slicevec.specs.Held.{held, KeepsMemory}
use Rattle.arith.proofs.text.print_padded.Given as goal

-- a blank for each turn
abbrev pub invariant-loop : goal.invariant-loop
invariant-loop l =
    record {
      page : held l.page ≡ held l.initial.page ++ replicate (l.counter - length l.text) 32;
      kept : KeepsMemory l.initial.page l.page;
    }

-- a byte of the text for each turn
abbrev pub invariant-loop-byte : goal.invariant-loop-byte
invariant-loop-byte l =
    record {
      page : held l.page ≡ held l.initial.page ++ take l.byte-index l.text;
      kept : KeepsMemory l.initial.page l.page;
    }
