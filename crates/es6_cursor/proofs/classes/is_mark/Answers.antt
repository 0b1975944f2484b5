use Rattle.std.proofs.Common.{◌∙◌}
use Rattle.es6_cursor.proofs.Marks.{marks_tested}
use Rattle.es6_cursor.proofs.classes.is_mark.Goals as goal

pub returns-in-Punctuator : goal.returns-in-Punctuator
returns-in-Punctuator c = rw c.in-Punctuator.is (c.eq.ensures ∙ marks_tested c.in-Punctuator.other c.args.mark)
