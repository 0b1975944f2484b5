use Rattle.std.proofs.Common.{◌-◌, ◌≤◌, length}
use Rattle.std.specs.Prelude.{slice_get}
use Rattle.lower_walk.specs.lower_names.Names.{names_in}
use Rattle.graph_bindings.proofs.counts.names_count.Given as goal

abbrev pub invariant-loop-binding : goal.invariant-loop-binding
invariant-loop-binding l = l.number ≤ length (names_in (slice_get l.scopes.modules.items l.home))

abbrev pub decreases-loop-binding : goal.decreases-loop-binding
decreases-loop-binding l = length (names_in (slice_get l.scopes.modules.items l.home)) - l.number
