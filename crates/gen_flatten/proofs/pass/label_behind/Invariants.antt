use Rattle.std.proofs.Common.{◌≡◌, drop}
use Rattle.pass_rules.specs.yield_rules.Yields.{label_behind}
use Rattle.gen_flatten.proofs.pass.label_behind.Given as goal

abbrev pub invariant-loop-label : goal.invariant-loop-label
invariant-loop-label l = label_behind (drop l.label-index l.labels) l.behind ≡ label_behind l.labels 0
