use Rattle.std.proofs.Common.{◌≡◌, ◌-◌}
use Rattle.es6_reading.specs.Parts.{more_parameters}
use Rattle.es6_cursor.specs.Readers.{inner, turns, before}
use Rattle.es6_read_parts.proofs.parameters.more_parameters.Given as goal

abbrev pub invariant-loop-turn : goal.invariant-loop-turn
invariant-loop-turn g l = more_parameters (inner l.room) l.flags (inner l.room).fuel l.initial.cursor ≡ before (g.G.MakesParameters.seen_parameters l.list) (more_parameters (inner l.room) l.flags (turns - l.turn) l.cursor)
