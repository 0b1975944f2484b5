use Rattle.std.proofs.Common.{◌≡◌, ◌++◌, drop, map}
use Rattle.split_emit.specs.Split.{mark_in}
use Rattle.split_emit.proofs.writing.marks_at.Given as goal

abbrev pub invariant-loop-mark : goal.invariant-loop-mark
invariant-loop-mark l = l.made ++ map (mark_in l.number) (drop l.mark-index l.marks) ≡ map (mark_in l.number) l.marks
