use Rattle.std.proofs.Common.{◌≡◌, drop}
use Rattle.es6_static_semantics.specs.Findings.{clashes}
use Rattle.early_findings.specs.Pairs.{least_with}
use Rattle.early_names.proofs.twice.clashes.Given as goal

abbrev pub invariant-loop-name : goal.invariant-loop-name
invariant-loop-name l = least_with l.finder (clashes l.rule (drop l.name-index l.names) l.others) ≡ least_with l.initial.finder (clashes l.rule l.names l.others)
