use Rattle.std.proofs.Common.{◌≡◌, drop}
use Rattle.es6_static_semantics.specs.Early.{has_loop_label}
use Rattle.early_errors.proofs.labels.any_loop_label.Given as goal

abbrev pub invariant-loop-label : goal.invariant-loop-label
invariant-loop-label l = has_loop_label l.name (drop l.label-index l.labels) ≡ has_loop_label l.name l.labels
