use Rattle.std.proofs.Common.{◌≡◌, ◌∙◌, arith}
use Rattle.es6_cursor.proofs.Loops.{turns_is}
use Rattle.es6_read_statements.proofs.Alternatives.{otherwise_last}
use Rattle.es6_read_statements.proofs.readers.Statements.otherwise.Goals as goal

pub returns-in-Last : goal.returns-in-Last
returns-in-Last g c = c.loop-turn.invariant ∙ otherwise_last _ _ _ _ _ _ _ (omega (arith, turns_is)) (rw c.in-Last.is at c.in_ok-condition.ensures)
