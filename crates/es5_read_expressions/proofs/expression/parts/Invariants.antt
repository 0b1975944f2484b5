use Rattle.std.proofs.Common.{◌≡◌, ◌-◌}
use Rattle.es5_cursor.specs.Readers.{before, inner, turns}
use Rattle.es5_reading.specs.Expressions.{parts}
use Rattle.es5_read_expressions.proofs.expression.parts.Given as goal

abbrev pub invariant-loop-turn : goal.invariant-loop-turn
invariant-loop-turn g l = parts (inner l.room) l.no_in (inner l.room).fuel l.initial.cursor ≡ before l.list (parts (inner l.room) l.no_in (turns - l.turn) l.cursor)
