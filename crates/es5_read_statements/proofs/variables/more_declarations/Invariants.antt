use Rattle.std.proofs.Common.{◌≡◌, ◌-◌, true}
use Rattle.es5_cursor.specs.Readers.{before, inner, turns}
use Rattle.es5_reading.specs.Statements.{declared_list}
use Rattle.es5_read_statements.proofs.variables.more_declarations.Given as goal

abbrev pub invariant-loop-turn : goal.invariant-loop-turn
invariant-loop-turn g l = declared_list ((inner l.room).declared true) (inner l.room).fuel l.initial.cursor ≡ before l.list (declared_list ((inner l.room).declared true) (turns - l.turn) l.cursor)
