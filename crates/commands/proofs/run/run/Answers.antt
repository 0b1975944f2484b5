use Rattle.commands.proofs.Outcomes.{graph_outcome}
use Rattle.commands.proofs.run.run.Goals as goal

pub returns-clause-outcome : goal.returns-clause-outcome
returns-clause-outcome g c = graph_outcome _ _ _ _ _ _ _ _ _ _ c.graph_run-made.result.0 c.graph_run-made.ensures.keeps.hosts.names c.graph_run-made.ensures.ends c.told-status.ensures.told
