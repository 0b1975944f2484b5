use Rattle.std.proofs.Common.{◌≡◌, ◌-◌}
use Rattle.es5_cursor.specs.Readers.{before, inner, turns}
use Rattle.es5_reading.specs.Expressions.{statements}
use Rattle.es5_read_expressions.proofs.function.listed_statements.Given as goal

abbrev pub invariant-loop-turn : goal.invariant-loop-turn
invariant-loop-turn g l = statements (inner l.room) l.inside l.top (inner l.room).fuel l.initial.cursor ≡ before l.list (statements (inner l.room) l.inside l.top (turns - l.turn) l.cursor)
