use Rattle.std.proofs.Common.{◌≡◌, ◌≤◌, length}
use Rattle.source_map.specs.Line.{text_end}
use Rattle.source_map.proofs.line.end_of.Given as goal

abbrev pub invariant-loop-end : goal.invariant-loop-end
invariant-loop-end l = record { same : text_end l.script l.end ≡ text_end l.script (length l.script); within : l.end ≤ length l.script }

abbrev pub decreases-loop-end : goal.decreases-loop-end
decreases-loop-end l = l.end
