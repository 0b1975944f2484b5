use Rattle.std.proofs.Common.{◌≡◌, map, drop}
use Rattle.lower_walk.specs.Handed.{done_at}
use Rattle.module_lowering.specs.Lowering.{each_by, each_by_onto}
use Rattle.module_lowering.specs.Lowered as lowered
use Rattle.module_lowering.specs.Statements.{case_lowered}
use Rattle.lower_flow.proofs.flow.Flow.cases.Given as goal

abbrev pub invariant-loop-case : goal.invariant-loop-case
invariant-loop-case g l =
    done_at l.self.here.around (each_by_onto case_lowered l.made (map lowered.case_lowered (drop l.case-index l.cases))) l.state
    ≡ done_at l.self.here.around (each_by case_lowered (map lowered.case_lowered l.cases)) l.initial.state
