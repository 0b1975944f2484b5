use Rattle.std.proofs.Common.{◌≡◌, ◌-◌, [], ◌∷◌}
use Rattle.es6_reading.specs.Expressions.{held_parts}
use Rattle.es6_read_primaries.specs.Lists.{before_held}
use Rattle.es6_cursor.specs.Readers.{inner, turns}
use Rattle.es6_read_primaries.proofs.readers.Primaries.more_held.Given as goal

abbrev pub invariant-loop-turn : goal.invariant-loop-turn
invariant-loop-turn g l =
    let x = (g.G.MakesReadings.seen l.first).value in
    before_held (x ∷ []) (held_parts (inner l.self.here.room) l.self.here.flags l.role (turns - 1) l.initial.cursor) ≡ before_held (x ∷ g.G.MakesGroups.seen_expressions l.more) (held_parts (inner l.self.here.room) l.self.here.flags l.role (turns - l.turn) l.cursor)
