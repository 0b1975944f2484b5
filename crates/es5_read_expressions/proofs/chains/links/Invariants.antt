use Rattle.std.proofs.Common.{◌≡◌, ◌-◌}
use Rattle.es5_cursor.specs.Readers.{before, inner, turns}
use Rattle.es5_reading.specs.Expressions.{links}
use Rattle.es5_read_expressions.proofs.chains.links.Given as goal

abbrev pub invariant-loop-turn : goal.invariant-loop-turn
invariant-loop-turn g l = links (inner l.room) l.calls (inner l.room).fuel l.initial.cursor ≡ before l.list (links (inner l.room) l.calls (turns - l.turn) l.cursor)
