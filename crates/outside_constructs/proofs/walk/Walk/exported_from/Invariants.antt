use Rattle.std.proofs.Common.{◌≡◌, ◌++◌, drop}
use Rattle.early_findings.specs.Pairs.{least_with}
use Rattle.es6_static_semantics.specs.Findings.{joined}
use Rattle.es6_static_semantics.specs.Outside.{named}
use Rattle.outside_constructs.proofs.walk.Walk.exported_from.Given as goal

abbrev pub invariant-loop-name : goal.invariant-loop-name
invariant-loop-name l =
    let scope = l.initial.self.environment in
    record {
      least : least_with l.self.finder (joined (λ n. named n.local ++ named n.exported) (drop l.name-index l.names)) ≡ least_with l.initial.self.finder (joined (λ n. named n.local ++ named n.exported) l.names);
      environment : l.self.environment ≡ scope;
    }
