use Rattle.std.proofs.Common.{◌-◌, length}
use Rattle.es_text.specs.Marks.{IsMark}
use Rattle.es_text.proofs.Marked.{ArePlacedBefore}
use Rattle.es_text.proofs.lines.offset_of.Given as goal

-- no character before the mark stands at the place or behind it
abbrev pub invariant-loop-place : goal.invariant-loop-place
invariant-loop-place l = record { mark : IsMark l.text l.mark; before : ArePlacedBefore l.text l.mark l.place }

abbrev pub decreases-loop-place : goal.decreases-loop-place
decreases-loop-place l = length l.text - l.mark.index
