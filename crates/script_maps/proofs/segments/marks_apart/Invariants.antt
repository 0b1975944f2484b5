use Rattle.std.proofs.Common.{◌≡◌, None, ◌++◌, drop}
use Rattle.script_maps.specs.Mapped.{apart}
use Rattle.script_maps.proofs.segments.marks_apart.Given as goal

abbrev pub invariant-loop-mark : goal.invariant-loop-mark
invariant-loop-mark l = apart None l.marks ≡ l.kept ++ apart l.last (drop l.mark-index l.marks)
