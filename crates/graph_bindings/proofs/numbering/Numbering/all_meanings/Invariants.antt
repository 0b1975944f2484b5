use Rattle.std.proofs.Common.{◌≡◌, ◌++◌, drop}
use Rattle.graph_bindings.specs.Meanings.{all_meanings_by}
use Rattle.graph_bindings.proofs.numbering.Numbering.all_meanings.Given as goal

abbrev pub invariant-loop-home : goal.invariant-loop-home
invariant-loop-home l =
    l.out ++ all_meanings_by l.self l.home (drop l.home l.self.scopes.now.modules.items)
    ≡ all_meanings_by l.self 0 l.self.scopes.now.modules.items
