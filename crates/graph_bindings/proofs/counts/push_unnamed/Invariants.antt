use Rattle.std.proofs.Common.{◌≡◌, ◌++◌, None}
use Rattle.std.specs.Prelude.{replicate}
use Rattle.graph_bindings.proofs.counts.push_unnamed.Given as goal

abbrev pub invariant-loop-left : goal.invariant-loop-left
invariant-loop-left l = l.out ++ replicate l.left None ≡ l.initial.out ++ replicate l.initial.left None

abbrev pub decreases-loop-left : goal.decreases-loop-left
decreases-loop-left l = l.left
