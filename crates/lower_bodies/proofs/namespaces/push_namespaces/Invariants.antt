use Rattle.std.proofs.Common.{◌≡◌, ◌++◌, drop, map}
use Rattle.lowering_rules.specs.statement_rules.Bodies.{namespace_made}
use Rattle.lower_bodies.proofs.namespaces.push_namespaces.Given as goal

abbrev pub invariant-loop-one : goal.invariant-loop-one
invariant-loop-one l = l.out ++ map namespace_made (drop l.one-index l.namespaces) ≡ l.initial.out ++ map namespace_made l.namespaces
