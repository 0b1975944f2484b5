use Rattle.std.proofs.Common.{◌≡◌, ◌++◌, drop, map}
use Rattle.lowering_rules.specs.statement_rules.Bodies.{temporary}
use Rattle.lower_bodies.proofs.modules.push_temporaries.Given as goal

abbrev pub invariant-loop-var : goal.invariant-loop-var
invariant-loop-var l = l.names ++ map temporary (drop l.var-index l.temporaries) ≡ l.initial.names ++ map temporary l.temporaries
