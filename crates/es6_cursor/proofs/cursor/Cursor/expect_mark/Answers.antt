use Rattle.std.proofs.Common.{◌∙◌, true, false}
use Rattle.es6_cursor.proofs.Choices.{took_mark, missed_mark, refused_stops}
use Rattle.es6_cursor.proofs.cursor.Cursor.expect_mark.Goals as goal

pub returns-then-take_mark : goal.returns-then-take_mark
returns-then-take_mark c = took_mark _ _ _ (rw c.if-take_mark.true at c.take_mark.ensures)

pub returns-else-take_mark : goal.returns-else-take_mark
returns-else-take_mark c = missed_mark _ _ _ (rw c.if-take_mark.false at c.take_mark.ensures) ∙ refused_stops _ _ c.refused.ensures
