use Rattle.std.proofs.Common.{◌≡◌, ◌-◌, ◌+◌, ◌*◌}
use Rattle.es6_reading.specs.Parts.{array_parts, object_parts}
use Rattle.es6_cursor.specs.Readers.{inner, turns, before}
use Rattle.es6_read_parts.proofs.+reader.Given as goal

abbrev pub invariant-patterns::array_parts-loop-turn : goal.invariant-patterns::array_parts-loop-turn
invariant-patterns::array_parts-loop-turn g l = array_parts (inner l.room) l.flags (inner l.room).fuel l.initial.cursor ≡ before (g.G.MakesArrayParts.seen_array_parts l.list) (array_parts (inner l.room) l.flags (turns - l.turn) l.cursor)

abbrev pub invariant-patterns::object_parts-loop-turn : goal.invariant-patterns::object_parts-loop-turn
invariant-patterns::object_parts-loop-turn g l = object_parts (inner l.room) l.flags (inner l.room).fuel l.initial.cursor ≡ before (g.G.MakesObjectParts.seen_object_parts l.list) (object_parts (inner l.room) l.flags (turns - l.turn) l.cursor)

abbrev pub decreases-inner::inner_part : goal.decreases-inner::inner_part
decreases-inner::inner_part g l = l.room * 128 + 0

abbrev pub decreases-inner::inner_object_part : goal.decreases-inner::inner_object_part
decreases-inner::inner_object_part g l = l.room * 128 + 0

abbrev pub decreases-patterns::array_parts : goal.decreases-patterns::array_parts
decreases-patterns::array_parts g l = l.room * 128 + 1

abbrev pub decreases-patterns::object_parts : goal.decreases-patterns::object_parts
decreases-patterns::object_parts g l = l.room * 128 + 1

abbrev pub decreases-patterns::object_pattern : goal.decreases-patterns::object_pattern
decreases-patterns::object_pattern g l = l.room * 128 + 2

abbrev pub decreases-patterns::binding_pattern : goal.decreases-patterns::binding_pattern
decreases-patterns::binding_pattern g l = l.room * 128 + 3

abbrev pub decreases-patterns::binding : goal.decreases-patterns::binding
decreases-patterns::binding g l = l.room * 128 + 4

abbrev pub decreases-patterns::initialized : goal.decreases-patterns::initialized
decreases-patterns::initialized g l = l.room * 128 + 5

abbrev pub decreases-patterns::one_part : goal.decreases-patterns::one_part
decreases-patterns::one_part g l = l.room * 128 + 6

abbrev pub decreases-patterns::keyed_part : goal.decreases-patterns::keyed_part
decreases-patterns::keyed_part g l = l.room * 128 + 7

abbrev pub decreases-patterns::one_object_part : goal.decreases-patterns::one_object_part
decreases-patterns::one_object_part g l = l.room * 128 + 8
