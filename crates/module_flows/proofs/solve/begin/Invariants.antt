use Rattle.std.proofs.Common.{take}
use Rattle.module_flows.specs.Steps.{Holds}
use Rattle.module_flows.proofs.solve.begin.Given as goal

abbrev pub invariant-loop-end : goal.invariant-loop-end
invariant-loop-end l = Holds l.users l.ends (take l.end-index l.ends) l.flow
