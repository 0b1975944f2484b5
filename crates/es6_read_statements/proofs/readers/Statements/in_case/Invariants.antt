use Rattle.std.proofs.Common.{◌≡◌, ◌-◌, true}
use Rattle.es6_reading.specs.Statements.{in_case}
use Rattle.es6_cursor.specs.Readers.{inner, turns, before}
use Rattle.es6_read_statements.proofs.readers.Statements.in_case.Given as goal

abbrev pub invariant-loop-turn : goal.invariant-loop-turn
invariant-loop-turn g l = in_case (inner l.self.here.room) l.self.here.flags (inner l.self.here.room).fuel l.initial.cursor ≡ before (g.G.MakesStatementLists.seen_statements l.list) (in_case (inner l.self.here.room) l.self.here.flags (turns - l.turn) l.cursor)
