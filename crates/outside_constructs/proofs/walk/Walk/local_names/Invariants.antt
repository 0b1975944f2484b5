use Rattle.std.proofs.Common.{◌≡◌, [], ◌∷◌, drop}
use Rattle.early_findings.specs.Pairs.{least_with}
use Rattle.es6_static_semantics.specs.Findings.{joined}
use Rattle.es6_static_semantics.specs.Outside.{all_named}
use Rattle.outside_constructs.proofs.walk.Walk.local_names.Given as goal

abbrev pub invariant-loop-name : goal.invariant-loop-name
invariant-loop-name l =
    let scope = l.initial.self.environment in
    record {
      least : least_with l.self.finder (all_named (joined (λ n. n.local ∷ []) (drop l.name-index l.names))) ≡ least_with l.initial.self.finder (all_named (joined (λ n. n.local ∷ []) l.names));
      environment : l.self.environment ≡ scope;
    }
