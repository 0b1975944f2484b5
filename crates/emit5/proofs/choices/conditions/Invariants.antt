use Rattle.std.proofs.Common.{◌≡◌, ◌++◌, length}
use Rattle.emission_rules.specs.Emission.{conditions, otherwise}
use Rattle.emit5.proofs.choices.conditions.Given as goal

abbrev pub invariant-loop-case : goal.invariant-loop-case
invariant-loop-case l = (l.out ++ conditions l.left.items ≡ l.initial.out ++ conditions l.fn.cases.items) × (otherwise l.left.items ≡ otherwise l.fn.cases.items)

abbrev pub decreases-loop-case : goal.decreases-loop-case
decreases-loop-case l = length l.left.items
