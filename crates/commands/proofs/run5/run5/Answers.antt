use Rattle.commands.proofs.Outcomes.{script_outcome}
use Rattle.commands.proofs.run5.run5.Goals as goal

pub returns-clause-outcome : goal.returns-clause-outcome
returns-clause-outcome g c = script_outcome _ _ _ _ _ _ _ _ _ _ c.run_script-made.result.0 c.run_script-made.ensures.keeps.hosts.names c.run_script-made.ensures.ends c.told-status.ensures.told
