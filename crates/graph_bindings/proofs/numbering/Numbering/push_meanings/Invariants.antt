use Rattle.std.proofs.Common.{◌≡◌, ◌-◌, ◌++◌, length, drop}
use Rattle.std.specs.Prelude.{slice_get}
use Rattle.lower_walk.specs.lower_names.Names.{names_in}
use Rattle.graph_bindings.specs.Meanings.{meanings_by}
use Rattle.graph_bindings.proofs.numbering.Numbering.push_meanings.Given as goal

abbrev pub invariant-loop-binding : goal.invariant-loop-binding
invariant-loop-binding l =
    l.out ++ meanings_by l.self l.home l.number (drop l.number (names_in (slice_get l.self.scopes.now.modules.items l.home)))
    ≡ l.initial.out ++ meanings_by l.self l.home 0 (names_in (slice_get l.self.scopes.now.modules.items l.home))

abbrev pub decreases-loop-binding : goal.decreases-loop-binding
decreases-loop-binding l = length (names_in (slice_get l.self.scopes.now.modules.items l.home)) - l.number
