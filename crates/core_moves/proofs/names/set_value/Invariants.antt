use Rattle.std.proofs.Common.{◌≡◌, ◌≤◌, ◌-◌, ◌++◌, drop, length, take}
use Rattle.core_meaning.specs.Names.{with_value}
use Rattle.core_moves.proofs.names.set_value.Given as goal

abbrev pub invariant-names : goal.invariant-names
invariant-names g l = record {
  within : l.at ≤ length l.bindings;
  unwritten : l.bindings ≡ l.initial.bindings;
  same : take l.at l.bindings ++ with_value (drop l.at l.bindings) l.var l.fn.value ≡ with_value l.bindings l.var l.fn.value;
}

abbrev pub decreases-names : goal.decreases-names
decreases-names g l = length l.bindings - l.at
