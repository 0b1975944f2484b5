use Rattle.std.proofs.Common.{◌≡◌, ◌-◌}
use Rattle.es6_reading.specs.Expressions.{links}
use Rattle.es6_cursor.specs.Readers.{inner, turns, before}
use Rattle.es6_read_primaries.proofs.readers.Primaries.links.Given as goal

abbrev pub invariant-loop-turn : goal.invariant-loop-turn
invariant-loop-turn g l = links (inner l.self.here.room) l.self.here.flags l.calls (inner l.self.here.room).fuel l.initial.cursor ≡ before (g.G.MakesLinks.seen_links l.list) (links (inner l.self.here.room) l.self.here.flags l.calls (turns - l.turn) l.cursor)
