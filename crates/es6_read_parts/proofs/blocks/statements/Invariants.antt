use Rattle.std.proofs.Common.{◌≡◌, ◌-◌}
use Rattle.es6_reading.specs.Parts.{statements}
use Rattle.es6_cursor.specs.Readers.{inner, turns, before}
use Rattle.es6_read_parts.proofs.blocks.statements.Given as goal

abbrev pub invariant-loop-turn : goal.invariant-loop-turn
invariant-loop-turn g l = statements (inner l.room) l.flags (inner l.room).fuel l.initial.cursor ≡ before (g.G.MakesStatementLists.seen_statements l.list) (statements (inner l.room) l.flags (turns - l.turn) l.cursor)
