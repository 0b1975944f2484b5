use Rattle.std.proofs.Common.{◌≡◌, ℕ, ◌≤◌, length, nat_eq, drop}
use Rattle.std.specs.Prelude.{reverse}
use Rattle.indexmap.specs.IndexSet.{contains}
use Rattle.lower_walk.specs.lower_names.Counting.{has_var, last_ones_of}
use Rattle.lower_walk.proofs.lower_names.bodies.last_ones.Given as goal

abbrev pub invariant-loop-left : goal.invariant-loop-left
invariant-loop-left l = record {
  within : l.left ≤ length l.vars;
  flags : l.flags.items ≡ reverse (last_ones_of (drop l.left l.vars));
  seen : (k : ℕ) → contains nat_eq l.seen k ≡ has_var k (drop l.left l.vars);
}

abbrev pub decreases-loop-left : goal.decreases-loop-left
decreases-loop-left l = l.left
