use Rattle.es_outside.specs.HostList.{names}
use Rattle.script_runs.proofs.Ran.{ran}
use Rattle.script_runs.proofs.running.run_core.Goals as goal

pub returns-in-Ok-clause-ends : goal.returns-in-Ok-clause-ends
returns-in-Ok-clause-ends g c =
    ran c.args.read.now.script c.args.core.now _ (names c.args.hosts) _ _ _ _ _ _ c.requires.core c.requires.names c.in-Ok.ensures.machine (c.run_out_with-end.ensures.outcome _ c.in-Ok.ensures.start)
