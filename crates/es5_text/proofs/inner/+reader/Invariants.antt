use Rattle.std.proofs.Common.{◌+◌, ◌*◌}
use Rattle.es5_text.proofs.inner.+reader.Given as goal

abbrev pub decreases-nested_expression : goal.decreases-nested_expression
decreases-nested_expression l = l.room * 2

abbrev pub decreases-inner_statement : goal.decreases-inner_statement
decreases-inner_statement l = l.room * 2 + 1
