use Rattle.std.proofs.Common.{◌≡◌, ◌++◌, drop}
use Rattle.module_lowering.specs.Modules.{hints}
use Rattle.graph_bindings.proofs.counts.hints_of.Given as goal

abbrev pub invariant-loop-home : goal.invariant-loop-home
invariant-loop-home l = l.out ++ hints (drop l.home l.scopes.modules.items) ≡ hints l.scopes.modules.items
