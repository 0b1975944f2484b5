use Rattle.std.proofs.Common.{◌-◌, length}
use Rattle.es_text.specs.Marks.{IsMark}
use Rattle.es_text.proofs.Marked.{AreBefore}
use Rattle.es_text.proofs.lines.place_of.Given as goal

-- no character before the mark begins at the offset or behind it
abbrev pub invariant-loop-mark : goal.invariant-loop-mark
invariant-loop-mark l = record { mark : IsMark l.text l.mark; before : AreBefore l.text l.mark l.offset }

abbrev pub decreases-loop-mark : goal.decreases-loop-mark
decreases-loop-mark l = length l.text - l.mark.index
