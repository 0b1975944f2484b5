use Rattle.std.proofs.Common.{◌≡◌, drop}
use Rattle.pass_rules.specs.state_rules.States.{found}
use Rattle.gen_machine.proofs.jumps.found.Given as goal

abbrev pub invariant-loop-target : goal.invariant-loop-target
invariant-loop-target l = found l.label l.targets ≡ found l.label (drop l.target-index l.targets)
