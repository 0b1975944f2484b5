use Rattle.std.proofs.Common.{◌≡◌, drop}
use Rattle.es6_static_semantics.specs.Findings.{shared}
use Rattle.early_findings.specs.Pairs.{least_with}
use Rattle.early_names.proofs.twice.shared.Given as goal

abbrev pub invariant-loop-name : goal.invariant-loop-name
invariant-loop-name l = least_with l.finder (shared l.rule l.others (drop l.name-index l.names)) ≡ least_with l.initial.finder (shared l.rule l.others l.names)
