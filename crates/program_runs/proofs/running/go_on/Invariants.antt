use Rattle.std.proofs.Common.{◌≡◌}
use Rattle.program_runs.specs.Around.{Keeps, around, hosted, output}
use Rattle.program_runs.specs.Positions.{At}
use Rattle.program_runs.proofs.Courses.{Course}
use Rattle.program_runs.proofs.running.go_on.Given as goal

abbrev pub invariant-loop-done : goal.invariant-loop-done
invariant-loop-done g l = record {
  course : (start : g.R.ProgramRun.State) → g.R.ProgramRun.position l.fn.run ≡ At start
      → Course (g.R.ProgramRun.machine l.fn.run) start l.steps l.done
      (around (hosted l.fn.hosts (λ b. (goal.Host-dyn g (b.vtable, b.value)).talk b.value) (λ b. (goal.Host-dyn g (b.vtable, b.value)).faults b.value)) (output g.S.Sink.bytes g.S.Sink.faults l.fn.out))
      (around (hosted l.hosts (λ b. (goal.Host-dyn g (b.vtable, b.value)).talk b.value) (λ b. (goal.Host-dyn g (b.vtable, b.value)).faults b.value)) (output g.S.Sink.bytes g.S.Sink.faults l.out))
      (g.R.ProgramRun.position l.run);
  machine : g.R.ProgramRun.machine l.run ≡ g.R.ProgramRun.machine l.fn.run;
  keeps : Keeps
      (around (hosted l.fn.hosts (λ b. (goal.Host-dyn g (b.vtable, b.value)).talk b.value) (λ b. (goal.Host-dyn g (b.vtable, b.value)).faults b.value)) (output g.S.Sink.bytes g.S.Sink.faults l.fn.out))
      (around (hosted l.hosts (λ b. (goal.Host-dyn g (b.vtable, b.value)).talk b.value) (λ b. (goal.Host-dyn g (b.vtable, b.value)).faults b.value)) (output g.S.Sink.bytes g.S.Sink.faults l.out));
}
