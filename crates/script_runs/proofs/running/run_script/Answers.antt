use Rattle.script_runs.proofs.Ran.{ended}
use Rattle.script_runs.proofs.running.run_script.Goals as goal

pub returns-in-Ok-clause-ends : goal.returns-in-Ok-clause-ends
returns-in-Ok-clause-ends g c = ended _ _ _ _ _ _ _ _ _ c.run_read.result.0 c.in-Ok.ensures.read c.run_read.ensures.ends
