use Rattle.std.proofs.Common.{◌-◌, length}
use Rattle.std.specs.Prelude.{All}
use Rattle.es_text.specs.Marks.{IsMark}
use Rattle.es_text.proofs.lines.marks_of.Given as goal

abbrev pub invariant-loop-mark : goal.invariant-loop-mark
invariant-loop-mark l = record { mark : IsMark l.text l.mark; marks : All (IsMark l.text) l.marks.items }

abbrev pub decreases-loop-mark : goal.decreases-loop-mark
decreases-loop-mark l = length l.text - l.mark.index
