use Rattle.std.proofs.Common.{◌≡◌, ◌-◌, true}
use Rattle.es6_reading.specs.Statements.{otherwise}
use Rattle.es6_read_statements.specs.Variables.{before_more}
use Rattle.es6_cursor.specs.Readers.{inner, turns}
use Rattle.es6_read_statements.proofs.readers.Statements.otherwise.Given as goal

abbrev pub invariant-loop-turn : goal.invariant-loop-turn
invariant-loop-turn g l = otherwise (inner l.self.here.room) l.self.here.flags (inner l.self.here.room).fuel l.initial.cursor ≡ before_more (g.G.MakesConditions.seen_conditions l.more) (otherwise (inner l.self.here.room) l.self.here.flags (turns - l.turn) l.cursor)
