use Rattle.std.proofs.Common.{◌≡◌, ◌-◌}
use Rattle.es6_reading.specs.Expressions.{more_arguments}
use Rattle.es6_cursor.specs.Readers.{inner, turns, before}
use Rattle.es6_read_parts.proofs.argument_list.more_arguments.Given as goal

abbrev pub invariant-loop-turn : goal.invariant-loop-turn
invariant-loop-turn g l = more_arguments (inner l.room) l.flags (inner l.room).fuel l.initial.cursor ≡ before (g.G.MakesArguments.seen_arguments l.list) (more_arguments (inner l.room) l.flags (turns - l.turn) l.cursor)
