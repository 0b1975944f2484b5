use Rattle.program_runs.specs.Outcomes.{unsaid}
use Rattle.program_runs.proofs.Talking.{adds_nothing}
use Rattle.program_runs.proofs.finish.finish.Goals as goal

pub returns-in-Err-clause-finishes : goal.returns-in-Err-clause-finishes
returns-in-Err-clause-finishes g c = unsaid (adds_nothing (g.S.Sink.bytes c.args.out.now))
