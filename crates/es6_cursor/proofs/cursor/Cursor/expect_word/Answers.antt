use Rattle.std.proofs.Common.{◌∙◌, true, false}
use Rattle.es6_cursor.proofs.Choices.{took_word, missed_word, refused_stops}
use Rattle.es6_cursor.proofs.cursor.Cursor.expect_word.Goals as goal

pub returns-then-take_word : goal.returns-then-take_word
returns-then-take_word c = took_word _ _ _ (rw c.if-take_word.true at c.take_word.ensures)

pub returns-else-take_word : goal.returns-else-take_word
returns-else-take_word c = missed_word _ _ _ (rw c.if-take_word.false at c.take_word.ensures) ∙ refused_stops _ _ c.refused.ensures
