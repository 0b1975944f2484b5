use Rattle.std.proofs.Common.{◌≡◌, [], drop, map}
use Rattle.lower_walk.specs.Handed.{done_at}
use Rattle.module_lowering.specs.Functions.{all_hoisted, hoisted}
use Rattle.module_lowering.specs.Lowering.{each_by_onto}
use Rattle.lower_listed.specs.Hoisted.{hoisted_of}
use Rattle.lower_listed.proofs.hoisted.lower_hoisted.Given as goal

abbrev pub invariant-loop-function : goal.invariant-loop-function
invariant-loop-function g l =
    done_at l.here.around (each_by_onto hoisted l.made (map hoisted_of (drop l.function-index l.functions))) l.state
    ≡ done_at l.here.around (all_hoisted (map hoisted_of l.functions)) l.initial.state
