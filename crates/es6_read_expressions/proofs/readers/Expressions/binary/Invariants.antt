use Rattle.std.proofs.Common.{◌≡◌}
use Rattle.es6_ast.specs.declared.settings.Role.TheVariants.{Leading}
use Rattle.es6_reading.specs.Expressions.{binary_from}
use Rattle.es6_read_expressions.specs.Levels.{IsRising, operand_after, resumed, top}
use Rattle.es6_read_expressions.specs.Waits.{stacked}
use Rattle.es6_cursor.specs.Readers.{inner}
use Rattle.es6_read_expressions.proofs.readers.Expressions.binary.Given as goal

abbrev pub invariant-loop-turn : goal.invariant-loop-turn
invariant-loop-turn g l =
    let stack = stacked g.G.MakesReadings.seen g.G.MakesOperators.seen_operands l.stack in
    record {
      same : binary_from (inner l.self.here.room) l.self.here.flags Leading 10 3 l.initial.cursor ≡ resumed (inner l.self.here.room) l.self.here.flags 2 stack (operand_after (inner l.self.here.room) l.self.here.flags l.role (top 2 stack) l.cursor);
      rising : IsRising 2 stack;
    }
