use Rattle.std.proofs.Common.{◌≡◌, ◌-◌, ◌++◌, length, map, drop, Some}
use Rattle.std.specs.Prelude.{slice_get}
use Rattle.lower_walk.specs.lower_names.Names.{names_in}
use Rattle.graph_bindings.proofs.counts.push_hints.Given as goal

abbrev pub invariant-loop-binding : goal.invariant-loop-binding
invariant-loop-binding l =
    l.out ++ map (λ b. Some b.name) (drop l.number (names_in (slice_get l.scopes.modules.items l.home)))
    ≡ l.initial.out ++ map (λ b. Some b.name) (names_in (slice_get l.scopes.modules.items l.home))

abbrev pub decreases-loop-binding : goal.decreases-loop-binding
decreases-loop-binding l = length (names_in (slice_get l.scopes.modules.items l.home)) - l.number
