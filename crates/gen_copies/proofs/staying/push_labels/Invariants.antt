use Rattle.std.proofs.Common.{◌≡◌, ◌++◌, drop}
use Rattle.gen_copies.proofs.staying.push_labels.Given as goal

abbrev pub invariant-loop-label : goal.invariant-loop-label
invariant-loop-label l = l.out ++ drop l.label-index l.labels ≡ l.initial.out ++ l.labels
