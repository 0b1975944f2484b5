use Rattle.program_runs.specs.Outcomes.{finished}
use Rattle.program_runs.proofs.Endings.{of_unwritten}
use Rattle.program_runs.proofs.finish.say.Goals as goal

pub returns-in-Ok-clause-finishes : goal.returns-in-Ok-clause-finishes
returns-in-Ok-clause-finishes g c = finished c.in-Ok.ensures.writes

pub returns-in-Err-clause-finishes : goal.returns-in-Err-clause-finishes
returns-in-Err-clause-finishes g c = of_unwritten _ _ _ _ c.in-Err.halt _ c.from.ensures c.in-Err.ensures.writes
