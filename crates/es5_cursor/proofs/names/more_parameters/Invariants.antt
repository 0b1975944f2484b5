use Rattle.std.proofs.Common.{◌≡◌, ◌-◌}
use Rattle.es5_reading.specs.Expressions.{more_parameters}
use Rattle.es5_cursor.specs.Readers.{turns, before}
use Rattle.es5_cursor.proofs.names.more_parameters.Given as goal

abbrev pub invariant-loop-turn : goal.invariant-loop-turn
invariant-loop-turn l = more_parameters turns l.initial.cursor ≡ before l.list (more_parameters (turns - l.turn) l.cursor)
