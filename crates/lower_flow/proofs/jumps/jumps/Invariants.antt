use Rattle.std.proofs.Common.{◌≡◌, drop}
use Rattle.std.specs.Option.{option_map}
use Rattle.module_lowering.specs.Statements.{jumps}
use Rattle.lower_flow.proofs.jumps.jumps.Given as goal

abbrev pub invariant-loop-target : goal.invariant-loop-target
invariant-loop-target l =
    jumps l.goes_on (option_map (λ x. x.name) l.label) (drop l.target-index l.targets)
    ≡ jumps l.goes_on (option_map (λ x. x.name) l.label) l.targets
