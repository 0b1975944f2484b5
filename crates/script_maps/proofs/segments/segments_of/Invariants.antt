use Rattle.std.proofs.Common.{take}
use Rattle.script_maps.specs.Mapped.{AreSegmentsOf}
use Rattle.script_maps.proofs.segments.segments_of.Given as goal

abbrev pub invariant-loop-mark : goal.invariant-loop-mark
invariant-loop-mark l = AreSegmentsOf l.modules (take l.mark-index l.marks) l.segments
