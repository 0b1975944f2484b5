use Rattle.module_flows.specs.Steps.{Holds, work}
use Rattle.module_flows.proofs.solve.reached.Given as goal

abbrev pub invariant-loop-node : goal.invariant-loop-node
invariant-loop-node l = Holds l.users l.ends l.ends l.flow

abbrev pub decreases-loop-node : goal.decreases-loop-node
decreases-loop-node l = work l.flow
