use Rattle.std.proofs.Common.{◌≡◌, ℕ, ◌≤◌, List, drop, length}
use Rattle.es6_static_semantics.specs.Endings.{requested}
use Rattle.graph_bindings.specs.Requests.{asked}
use Rattle.graph_bindings.proofs.requests.index_of.Given as goal

abbrev pub invariant-loop-left : goal.invariant-loop-left
invariant-loop-left l = record {
  within : l.left ≤ length l.requests;
  asked : (from : List ℕ) → asked l.index from ≡ requested (drop l.left l.requests) from;
}

abbrev pub decreases-loop-left : goal.decreases-loop-left
decreases-loop-left l = l.left
