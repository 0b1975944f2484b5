use Rattle.std.proofs.Common.{◌≡◌, IfOk, subst}
use Rattle.program_runs.specs.Positions.{At}
use Rattle.graph_runs.proofs.Unstarted.{by_machine, unstarted}
use Rattle.graph_runs.proofs.running.run_begun.Goals as goal

pub returns-in-Ok-clause-outcome : goal.returns-in-Ok-clause-outcome
returns-in-Ok-clause-outcome g c = λ machine start same at.
    let here = subst (λ r. IfOk r (λ run. g.R.ProgramRun.position run ≡ At start)) c.in-Ok.is at in
    by_machine _ machine start _ _ _ _ _ (same c.in-Ok.run') (c.run_out_with.ensures.outcome start here)

pub returns-in-Err-clause-outcome : goal.returns-in-Err-clause-outcome
returns-in-Err-clause-outcome g c = λ machine start same at. unstarted machine start c.args.steps (g.P.Places.sites c.args.places.now) _
