use Rattle.std.proofs.Common.{arith}
use Rattle.std.proofs.lemmas.List.FromFn.{get_or-map-range_with_len}
use Rattle.lexer.specs.Classes.{class_of}
use Rattle.lexer.specs.declared.class.Class.TheVariants.{Letter}
use Rattle.lexer.proofs.class.class_of.Goals as goal

-- the table is `class_of` at each of its 256 places: both lists are computed and compared
pub returns : goal.returns
returns c = get_or-map-range_with_len class_of 0 256 c.from.result c.args.byte Letter (omega (arith, c.from.ensures)) (omega (arith, c.from.ensures))
