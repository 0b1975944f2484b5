use Rattle.std.proofs.Common.{◌≡◌, drop}
use Rattle.es6_static_semantics.specs.Early.{has_label}
use Rattle.early_errors.proofs.labels.any_label.Given as goal

abbrev pub invariant-loop-label : goal.invariant-loop-label
invariant-loop-label l = has_label l.name (drop l.label-index l.labels) ≡ has_label l.name l.labels
