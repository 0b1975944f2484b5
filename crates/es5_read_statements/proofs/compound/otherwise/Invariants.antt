use Rattle.std.proofs.Common.{◌≡◌, ◌-◌}
use Rattle.es5_cursor.specs.Readers.{inner, turns}
use Rattle.es5_read_statements.specs.Parts.{before_more}
use Rattle.es5_reading.specs.Statements.{otherwise}
use Rattle.es5_read_statements.proofs.compound.otherwise.Given as goal

abbrev pub invariant-loop-turn : goal.invariant-loop-turn
invariant-loop-turn g l = otherwise (inner l.room) l.inside (inner l.room).fuel l.initial.cursor ≡ before_more l.more (otherwise (inner l.room) l.inside (turns - l.turn) l.cursor)
