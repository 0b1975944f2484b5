use Rattle.std.proofs.Common.{◌≡◌}
use Rattle.program_runs.specs.Positions.{At}
use Rattle.answered_runs.proofs.Courses.{Course}
use Rattle.answered_runs.proofs.running.go_on.Given as goal

abbrev pub invariant-loop-done : goal.invariant-loop-done
invariant-loop-done g l = record {
  course : (start : g.R.ProgramRun.State) → g.R.ProgramRun.position l.fn.run ≡ At start
      → Course (g.R.ProgramRun.machine l.fn.run) start l.done l.events (g.R.ProgramRun.position l.run);
  machine : g.R.ProgramRun.machine l.run ≡ g.R.ProgramRun.machine l.fn.run;
}
