use Rattle.std.proofs.Common.{◌≡◌, ◌-◌}
use Rattle.es6_reading.specs.Expressions.{elements}
use Rattle.es6_read_primaries.specs.Lists.{before_listing}
use Rattle.es6_cursor.specs.Readers.{inner, turns}
use Rattle.es6_read_primaries.proofs.readers.Primaries.elements.Given as goal

abbrev pub invariant-loop-turn : goal.invariant-loop-turn
invariant-loop-turn g l = elements (inner l.self.here.room) l.self.here.flags (inner l.self.here.room).fuel l.initial.cursor ≡ before_listing (g.G.MakesElements.seen_elements l.list) (elements (inner l.self.here.room) l.self.here.flags (turns - l.turn) l.cursor)
