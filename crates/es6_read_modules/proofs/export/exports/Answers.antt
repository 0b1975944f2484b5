use Rattle.std.proofs.Common.{◌∙◌, true, arith}
use Rattle.es6_cursor.proofs.Loops.{turns_is}
use Rattle.es6_read_modules.proofs.ItemLists.{exports_end}
use Rattle.es6_read_modules.proofs.export.exports.Goals as goal

pub returns-then-take_mark : goal.returns-then-take_mark
returns-then-take_mark c = c.loop-turn.invariant ∙ exports_end _ _ _ _ (omega (arith, turns_is)) (rw c.if-take_mark.true at c.take_mark.ensures)
