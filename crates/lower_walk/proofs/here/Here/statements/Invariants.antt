use Rattle.std.proofs.Common.{◌≡◌, [], map, drop}
use Rattle.lower_walk.specs.Handed.{done_at}
use Rattle.module_lowering.specs.Lowering.{all_by, all_by_onto}
use Rattle.module_lowering.specs.Lowered.{statement_lowered}
use Rattle.lower_walk.proofs.here.Here.statements.Given as goal

abbrev pub invariant-loop-statement : goal.invariant-loop-statement
invariant-loop-statement g l =
    done_at l.self.around (all_by_onto (λ s. s.listed.statements) l.made (map statement_lowered (drop l.statement-index l.statements))) l.state ≡ done_at l.self.around (all_by (λ s. s.listed.statements) (map statement_lowered l.statements)) l.initial.state
