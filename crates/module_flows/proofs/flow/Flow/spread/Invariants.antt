use Rattle.std.proofs.Common.{take}
use Rattle.module_flows.specs.Steps.{Spreads}
use Rattle.module_flows.proofs.flow.Flow.spread.Given as goal

abbrev pub invariant-loop-node : goal.invariant-loop-node
invariant-loop-node l = Spreads (take l.node-index l.nodes) l.value l.initial.self l.self
