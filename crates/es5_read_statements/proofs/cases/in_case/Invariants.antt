use Rattle.std.proofs.Common.{◌≡◌, ◌-◌}
use Rattle.es5_cursor.specs.Readers.{before, inner, turns}
use Rattle.es5_reading.specs.Statements.{in_case}
use Rattle.es5_read_statements.proofs.cases.in_case.Given as goal

abbrev pub invariant-loop-turn : goal.invariant-loop-turn
invariant-loop-turn g l = in_case (inner l.room) l.inside (inner l.room).fuel l.initial.cursor ≡ before l.list (in_case (inner l.room) l.inside (turns - l.turn) l.cursor)
