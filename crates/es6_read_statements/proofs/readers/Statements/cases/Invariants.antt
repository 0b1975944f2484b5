use Rattle.std.proofs.Common.{◌≡◌, ◌-◌, true}
use Rattle.es6_reading.specs.Statements.{cases}
use Rattle.es6_cursor.specs.Readers.{inner, turns, before}
use Rattle.es6_read_statements.proofs.readers.Statements.cases.Given as goal

abbrev pub invariant-loop-turn : goal.invariant-loop-turn
invariant-loop-turn g l = cases (inner l.self.here.room) l.self.here.flags true (inner l.self.here.room).fuel l.initial.cursor ≡ before (g.G.MakesCases.seen_cases l.list) (cases (inner l.self.here.room) l.self.here.flags l.may_default (turns - l.turn) l.cursor)
