use Rattle.std.proofs.Common.{◌≡◌, ℕ, ◌≤◌, drop, length}
use Rattle.module_lowering.specs.Modules.{space_at}
use Rattle.graph_bindings.specs.Spaces.{placed}
use Rattle.graph_bindings.proofs.spaces.index_of.Given as goal

abbrev pub invariant-loop-left : goal.invariant-loop-left
invariant-loop-left l = record {
  within : l.left ≤ length l.spaces;
  homes : (at : ℕ) → placed l.index at ≡ space_at at (drop l.left l.spaces);
}

abbrev pub decreases-loop-left : goal.decreases-loop-left
decreases-loop-left l = l.left
