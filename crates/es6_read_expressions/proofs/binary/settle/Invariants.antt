use Rattle.std.proofs.Common.{◌≡◌, ℕ, length}
use Rattle.es6_ast.specs.declared.settings.Flags.{Flags}
use Rattle.es6_cursor.specs.Readers.{inner}
use Rattle.es6_read_expressions.specs.Levels.{IsRising, IsSilent, resumed, standing, top}
use Rattle.es6_read_expressions.specs.Waits.{stacked}
use Rattle.es6_read_expressions.proofs.binary.settle.Given as goal

abbrev pub invariant-closing : goal.invariant-closing
invariant-closing g l =
    let seen = g.G.MakesReadings.seen in
    let s = stacked seen g.G.MakesOperators.seen_operands in
    record {
      same : (room : ℕ) (flags : Flags) → IsSilent flags l.level l.cursor → resumed (inner room) flags 2 (s l.initial.stack) (standing (inner room) flags (top 2 (s l.initial.stack)) l.level l.initial.operand.begin (seen l.initial.operand.value) l.cursor) ≡ resumed (inner room) flags 2 (s l.stack) (standing (inner room) flags (top 2 (s l.stack)) l.level l.operand.begin (seen l.operand.value) l.cursor);
      rising : IsRising 2 (s l.stack);
    }

abbrev pub decreases-closing : goal.decreases-closing
decreases-closing g l = length l.stack
