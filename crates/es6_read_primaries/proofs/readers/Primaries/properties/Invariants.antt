use Rattle.std.proofs.Common.{◌≡◌, ◌-◌}
use Rattle.es6_reading.specs.Expressions.{properties}
use Rattle.es6_cursor.specs.Readers.{inner, turns, before}
use Rattle.es6_read_primaries.proofs.readers.Primaries.properties.Given as goal

abbrev pub invariant-loop-turn : goal.invariant-loop-turn
invariant-loop-turn g l = properties (inner l.self.here.room) l.self.here.flags (inner l.self.here.room).fuel l.initial.cursor ≡ before (g.G.MakesProperties.seen_properties l.list) (properties (inner l.self.here.room) l.self.here.flags (turns - l.turn) l.cursor)
