use Rattle.std.proofs.Common.{◌≡◌, ◌≤◌, ◌-◌, ◌++◌, drop, length, take}
use Rattle.source_meaning.specs.Environments.{with_held}
use Rattle.source_moves.proofs.assignment.set_held.Given as goal

abbrev pub invariant-names : goal.invariant-names
invariant-names l = record {
  within : l.at ≤ length l.bindings;
  unwritten : l.bindings ≡ l.initial.bindings;
  same : take l.at l.bindings ++ with_held (drop l.at l.bindings) l.name l.fn.value ≡ with_held l.bindings l.name l.fn.value;
}

abbrev pub decreases-names : goal.decreases-names
decreases-names l = length l.bindings - l.at
