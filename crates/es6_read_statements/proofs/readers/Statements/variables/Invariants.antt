use Rattle.std.proofs.Common.{◌≡◌, ◌-◌, true}
use Rattle.es6_reading.specs.Parts.{initialized}
use Rattle.es6_reading.specs.Statements.{variables}
use Rattle.es6_cursor.specs.Readers.{inner, turns, before}
use Rattle.es6_read_statements.proofs.readers.Statements.variables.Given as goal

abbrev pub invariant-loop-turn : goal.invariant-loop-turn
invariant-loop-turn g l = variables (initialized (inner l.self.here.room) l.self.here.flags l.self.here.flags) (inner l.self.here.room).fuel l.initial.cursor ≡ before (g.G.MakesVariables.seen_parts l.list) (variables (initialized (inner l.self.here.room) l.self.here.flags l.self.here.flags) (turns - l.turn) l.cursor)
