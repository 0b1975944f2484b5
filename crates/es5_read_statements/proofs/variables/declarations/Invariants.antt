use Rattle.std.proofs.Common.{◌≡◌, ◌-◌, false}
use Rattle.es5_cursor.specs.Readers.{before, inner, turns}
use Rattle.es5_reading.specs.Statements.{declared_list, one_declared}
use Rattle.es5_read_statements.proofs.variables.declarations.Given as goal

abbrev pub invariant-loop-turn : goal.invariant-loop-turn
invariant-loop-turn g l = declared_list (one_declared (inner l.room) false) (inner l.room).fuel l.initial.cursor ≡ before l.list (declared_list (one_declared (inner l.room) false) (turns - l.turn) l.cursor)
