use Rattle.std.proofs.Common.{◌≡◌, ◌-◌}
use Rattle.es6_reading.specs.Parts.{members}
use Rattle.es6_cursor.specs.Readers.{inner, turns, before}
use Rattle.es6_read_parts.proofs.class_members.members.Given as goal

abbrev pub invariant-loop-turn : goal.invariant-loop-turn
invariant-loop-turn g l = members (inner l.room) l.flags (inner l.room).fuel l.initial.cursor ≡ before (g.G.MakesMembers.seen_members l.list) (members (inner l.room) l.flags (turns - l.turn) l.cursor)
