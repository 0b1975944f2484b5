use Rattle.commands.proofs.Outcomes.{run_by}
use Rattle.commands.proofs.run.graph_run.Goals as goal

pub returns-in-Ok-clause-ends : goal.returns-in-Ok-clause-ends
returns-in-Ok-clause-ends g c = run_by _ _ _ _ _ _ _ _ _ _ c.in-Ok.ensures c.run_checked.ensures.ends
