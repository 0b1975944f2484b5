use Rattle.std.proofs.Common.{◌≡◌, ◌-◌}
use Rattle.es6_reading.specs.Expressions.{parts}
use Rattle.es6_cursor.specs.Readers.{inner, turns, before}
use Rattle.es6_read_expressions.proofs.readers.Expressions.parts.Given as goal

abbrev pub invariant-loop-turn : goal.invariant-loop-turn
invariant-loop-turn g l = parts (inner l.self.here.room) l.self.here.flags (inner l.self.here.room).fuel l.initial.cursor ≡ before (g.G.MakesGroups.seen_expressions l.list) (parts (inner l.self.here.room) l.self.here.flags (turns - l.turn) l.cursor)
