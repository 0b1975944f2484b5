use Rattle.std.proofs.Common.{◌≡◌, ◌-◌, true}
use Rattle.es5_cursor.specs.Readers.{before, inner, turns}
use Rattle.es5_reading.specs.Statements.{cases}
use Rattle.es5_read_statements.proofs.cases.cases.Given as goal

abbrev pub invariant-loop-turn : goal.invariant-loop-turn
invariant-loop-turn g l = cases (inner l.room) l.inside true (inner l.room).fuel l.initial.cursor ≡ before l.list (cases (inner l.room) l.inside l.may_default (turns - l.turn) l.cursor)
