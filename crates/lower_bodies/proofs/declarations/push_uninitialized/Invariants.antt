use Rattle.std.proofs.Common.{◌≡◌, ◌++◌, drop, map}
use Rattle.lowering_rules.specs.Making.{uninitialized}
use Rattle.lower_bodies.proofs.declarations.push_uninitialized.Given as goal

abbrev pub invariant-loop-name : goal.invariant-loop-name
invariant-loop-name l =
    l.out ++ map (λ n. uninitialized n.var) (drop l.name-index l.names)
    ≡ l.initial.out ++ map (λ n. uninitialized n.var) l.names
