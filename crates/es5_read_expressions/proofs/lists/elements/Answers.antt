use Rattle.std.proofs.Common.{◌-◌, ◌∙◌, arith}
use Rattle.es5_cursor.proofs.Loops.{turns_is}
use Rattle.es5_read_expressions.proofs.ListTurns.{elements_end}
use Rattle.es5_read_expressions.proofs.lists.elements.Goals as goal

pub returns-then-take_mark : goal.returns-then-take_mark
returns-then-take_mark g c = c.loop-turn.invariant ∙ elements_end _ _ _ _ _ (omega (arith, turns_is)) (rw c.if-take_mark.true at c.take_mark.ensures)
