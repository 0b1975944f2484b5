use Rattle.std.proofs.Common.{◌≡◌, ◌-◌}
use Rattle.es6_reading.specs.Modules.{exports}
use Rattle.es6_cursor.specs.Readers.{turns, before}
use Rattle.es6_read_modules.proofs.export.exports.Given as goal

abbrev pub invariant-loop-turn : goal.invariant-loop-turn
invariant-loop-turn l = exports turns l.initial.cursor ≡ before l.list (exports (turns - l.turn) l.cursor)
