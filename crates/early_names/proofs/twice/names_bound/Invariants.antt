use Rattle.std.proofs.Common.{◌≡◌, drop}
use Rattle.es6_static_semantics.specs.Findings.{joined}
use Rattle.es6_static_semantics.specs.Early.{bound}
use Rattle.early_findings.specs.Pairs.{least_with}
use Rattle.early_names.proofs.twice.names_bound.Given as goal

abbrev pub invariant-loop-name : goal.invariant-loop-name
invariant-loop-name l = least_with l.finder (joined bound (drop l.name-index l.names)) ≡ least_with l.initial.finder (joined bound l.names)
