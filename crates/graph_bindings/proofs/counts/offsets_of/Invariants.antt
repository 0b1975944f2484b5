use Rattle.std.proofs.Common.{◌≡◌, ◌+◌, ◌++◌, length, drop}
use Rattle.std.specs.Prelude.{sum_by}
use Rattle.module_lowering.specs.Modules.{offsets_from}
use Rattle.graph_bindings.proofs.counts.offsets_of.Given as goal

abbrev pub invariant-loop-home : goal.invariant-loop-home
invariant-loop-home l = record {
  offsets : l.offsets ++ offsets_from l.count (drop l.home l.scopes.modules.items) ≡ offsets_from 0 l.scopes.modules.items;
  count : l.count + sum_by (λ m. length m.names) (drop l.home l.scopes.modules.items) ≡ sum_by (λ m. length m.names) l.scopes.modules.items;
}
