use Rattle.std.proofs.Common.{◌≡◌, ◌-◌}
use Rattle.es5_cursor.specs.Readers.{inner}
use Rattle.es5_read_expressions.specs.Levels.{IsRising, operand_after, resumed, top}
use Rattle.es5_reading.specs.Expressions.{binary_from}
use Rattle.es5_read_expressions.proofs.binary.operators.Given as goal

abbrev pub invariant-loop-turn : goal.invariant-loop-turn
invariant-loop-turn g l = record {
  same : binary_from (inner l.room) l.no_in 10 3 l.initial.cursor ≡ resumed (inner l.room) l.no_in 2 l.stack (operand_after (inner l.room) l.no_in (top 2 l.stack) l.cursor);
  rising : IsRising 2 l.stack;
}
