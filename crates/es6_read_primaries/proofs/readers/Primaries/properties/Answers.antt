use Rattle.std.proofs.Common.{◌∙◌, arith}
use Rattle.es6_cursor.proofs.Loops.{turns_is}
use Rattle.es6_read_primaries.proofs.PropertyLists.{properties_end}
use Rattle.es6_read_primaries.proofs.readers.Primaries.properties.Goals as goal

pub returns-then-take_mark : goal.returns-then-take_mark
returns-then-take_mark g c = c.loop-turn.invariant ∙ properties_end _ _ _ _ _ _ (omega (arith, turns_is)) (rw c.if-take_mark.true at c.take_mark.ensures)
