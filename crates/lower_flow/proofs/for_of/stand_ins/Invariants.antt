use Rattle.std.proofs.Common.{◌≡◌, ◌++◌, drop}
use Rattle.module_lowering.specs.Statements.{stand_ins}
use Rattle.lower_flow.proofs.for_of.stand_ins.Given as goal

abbrev pub invariant-loop-name : goal.invariant-loop-name
invariant-loop-name l = l.made ++ stand_ins (drop l.name-index l.names) l.rest ≡ stand_ins l.names l.dead
