-- What waits in a source, one int on.
use Rattle.std.proofs.Common.{ℕ, ◌+◌, ◌<◌, ◌≤◌, cond, List, length, ℤ, Ok, arith, length-drop}
use Rattle.std.specs.List.{prefix_len}
use Rattle.std.proofs.lemmas.List.{length_push}
use Rattle.std.proofs.lemmas.List.Sums.{prefix_len-le-length, count_by-le-length}
use Rattle.lexer.specs.Classes.{digit, blank}
use Rattle.source.specs.Reading.{after_blanks, after_minus, minus_next, IntRead, a_word}
use Rattle.mjrack.specs.Report.{is_dead, dead_of, ReadSofar, untouched, one_more}

-- an int takes a byte or more
pub int_shorter : {w left : List ℕ} {z : ℤ} → IntRead w (Ok z) left → length left < length w
int_shorter {w} (a_word some fits) =
    let b = after_blanks w in
    let m = after_minus b in
    omega (arith, length-drop (prefix_len blank w) w, length-drop (cond (minus_next b) 1 0) b, length-drop (prefix_len digit m) m, prefix_len-le-length digit m)

-- so there are no more ints than bytes
ints_few : {w rest : List ℕ} {zs : List ℤ} → ReadSofar w zs rest → length zs + length rest ≤ length w
ints_few untouched = omega arith
ints_few (one_more {zs = zs} {z = z} sofar read) = omega (arith, ints_few sofar, int_shorter read, length_push zs z)

-- and of the dead no more than ints
pub dead_few : {w rest : List ℕ} {zs : List ℤ} → ReadSofar w zs rest → dead_of zs + length rest ≤ length w
dead_few {zs = zs} sofar = omega (arith, ints_few sofar, count_by-le-length is_dead zs)
