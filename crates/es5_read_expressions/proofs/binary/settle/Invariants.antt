use Rattle.std.proofs.Common.{◌≡◌, ℕ, Bool, length}
use Rattle.es5_read_expressions.specs.Levels.{IsRising, IsSilent, resumed, standing, top}
use Rattle.es5_cursor.specs.Readers.{inner}
use Rattle.es5_read_expressions.proofs.binary.settle.Given as goal

abbrev pub invariant-closing : goal.invariant-closing
invariant-closing l = record {
  same : (room : ℕ) (no_in : Bool) → IsSilent no_in l.level l.cursor → resumed (inner room) no_in 2 l.initial.stack (standing (inner room) no_in (top 2 l.initial.stack) l.level l.initial.operand.begin l.initial.operand.value l.cursor) ≡ resumed (inner room) no_in 2 l.stack (standing (inner room) no_in (top 2 l.stack) l.level l.operand.begin l.operand.value l.cursor);
  rising : IsRising 2 l.stack;
}

abbrev pub decreases-closing : goal.decreases-closing
decreases-closing l = length l.stack
