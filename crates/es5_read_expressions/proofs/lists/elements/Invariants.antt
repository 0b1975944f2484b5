use Rattle.std.proofs.Common.{◌≡◌, ◌-◌}
use Rattle.es5_cursor.specs.Readers.{before, inner, turns}
use Rattle.es5_reading.specs.Expressions.{elements}
use Rattle.es5_read_expressions.proofs.lists.elements.Given as goal

abbrev pub invariant-loop-turn : goal.invariant-loop-turn
invariant-loop-turn g l = elements (inner l.room) (inner l.room).fuel l.initial.cursor ≡ before l.list (elements (inner l.room) (turns - l.turn) l.cursor)
