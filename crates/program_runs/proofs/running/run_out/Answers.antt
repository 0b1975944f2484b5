use Rattle.program_runs.proofs.Endings.{finishes}
use Rattle.program_runs.proofs.running.run_out.Goals as goal

pub returns-in-Ok-clause-outcome : goal.returns-in-Ok-clause-outcome
returns-in-Ok-clause-outcome g c = λ start at.
    finishes _ c.args.steps (g.P.Places.sites c.args.places.now) _ _ _ c.in-Ok.ensures.keeps.output c.in-Ok.over c.finish.result
    (c.in-Ok.ensures.runs start at) c.finish.ensures.finishes
