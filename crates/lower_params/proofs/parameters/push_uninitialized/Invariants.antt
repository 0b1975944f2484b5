use Rattle.std.proofs.Common.{◌≡◌, ◌++◌, drop, map}
use Rattle.lowering_rules.specs.Making.{uninitialized}
use Rattle.lower_params.proofs.parameters.push_uninitialized.Given as goal

abbrev pub invariant-loop-name : goal.invariant-loop-name
invariant-loop-name l = l.out ++ map uninitialized (drop l.name-index l.names) ≡ l.initial.out ++ map uninitialized l.names
