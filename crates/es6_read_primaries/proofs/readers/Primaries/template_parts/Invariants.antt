use Rattle.std.proofs.Common.{◌≡◌, ◌-◌}
use Rattle.es6_reading.specs.Parts.{template_parts}
use Rattle.es6_cursor.specs.Readers.{inner, turns, before}
use Rattle.es6_read_primaries.proofs.readers.Primaries.template_parts.Given as goal

abbrev pub invariant-loop-turn : goal.invariant-loop-turn
invariant-loop-turn g l = template_parts (inner l.self.here.room) l.self.here.flags (inner l.self.here.room).fuel l.initial.cursor ≡ before (g.G.MakesTemplates.seen_template_parts l.list) (template_parts (inner l.self.here.room) l.self.here.flags (turns - l.turn) l.cursor)
