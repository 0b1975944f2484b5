use Rattle.std.proofs.Common.{◌≡◌, ◌-◌}
use Rattle.es6_reading.specs.Modules.{imports}
use Rattle.es6_cursor.specs.Readers.{turns, before}
use Rattle.es6_read_modules.proofs.import.imports.Given as goal

abbrev pub invariant-loop-turn : goal.invariant-loop-turn
invariant-loop-turn l = imports turns l.initial.cursor ≡ before l.list (imports (turns - l.turn) l.cursor)
