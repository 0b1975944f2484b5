use Rattle.std.proofs.Common.{◌≡◌, drop}
use Rattle.lower_walk.specs.Handed.{done_at}
use Rattle.module_lowering.specs.Lowering.{each_by, each_by_onto}
use Rattle.module_lowering.specs.Statements.{dead_name}
use Rattle.lower_flow.proofs.flow.Flow.dead_names.Given as goal

abbrev pub invariant-loop-name : goal.invariant-loop-name
invariant-loop-name g l =
    done_at l.self.here.around (each_by_onto dead_name l.dead (drop l.name-index l.names)) l.state
    ≡ done_at l.self.here.around (each_by dead_name l.names) l.initial.state
