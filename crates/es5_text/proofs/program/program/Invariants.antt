use Rattle.std.proofs.Common.{◌≡◌, ◌-◌}
use Rattle.es5_reading.specs.Programs.{program}
use Rattle.es5_cursor.specs.Readers.{inner, turns, before}
use Rattle.es5_text.proofs.program.program.Given as goal

abbrev pub invariant-loop-turn : goal.invariant-loop-turn
invariant-loop-turn l = program (inner l.room) (inner l.room).fuel l.initial.cursor ≡ before l.list (program (inner l.room) (turns - l.turn) l.cursor)
