use Rattle.std.proofs.Common.{◌≡◌, ◌++◌, drop, map}
use Rattle.pass_rules.specs.state_rules.States.{target}
use Rattle.gen_machine.proofs.jumps.push_targets.Given as goal

abbrev pub invariant-loop-label : goal.invariant-loop-label
invariant-loop-label l = l.targets ++ map (target l.place l.leaves l.goes_on) (drop l.label-index l.labels) ≡ l.initial.targets ++ map (target l.place l.leaves l.goes_on) l.labels
