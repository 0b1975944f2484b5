use Rattle.std.proofs.Common.{◌≡◌, take, drop, []}
use Rattle.es6_static_semantics.specs.Findings.{repeated}
use Rattle.early_findings.specs.Pairs.{least_with}
use Rattle.early_names.specs.Indexes.{Indexes}
use Rattle.early_names.proofs.twice.repeated.Given as goal

abbrev pub invariant-loop-name : goal.invariant-loop-name
invariant-loop-name l = record {
  pairs : least_with l.finder (repeated l.rule (take l.name-index l.names) (drop l.name-index l.names)) ≡ least_with l.initial.finder (repeated l.rule [] l.names);
  before : Indexes l.before (take l.name-index l.names);
}
