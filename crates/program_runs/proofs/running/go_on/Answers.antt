use Rattle.std.proofs.Common.{refl, ◌∙◌, arith}
use Rattle.program_runs.proofs.Courses.{begun, further, halted_then, is_going, keeps_refl, keeps_trans, over_then, spent}
use Rattle.program_runs.proofs.Positions.{at_state, is_at}
use Rattle.program_runs.proofs.running.go_on.Goals as goal

pub loop-done-init : goal.loop-done-init
loop-done-init g c = record {
  course = λ start at. begun (g.R.ProgramRun.machine c.args.run.now) start c.args.steps _ _ at;
  machine = refl;
  keeps = keeps_refl _;
}

pub turn-requires : goal.turn-requires
turn-requires g c =
    let begins = at_state (g.R.ProgramRun.position c.args.run.now) c.requires in
    let here = is_going _ begins.0 _ _ _ _ _ c.loop-done-test.true (c.loop-done.invariant.course begins.0 begins.1) in
    is_at _ here.0 here.1

pub returns-in-Ok-Some-clause-runs : goal.returns-in-Ok-Some-clause-runs
returns-in-Ok-Some-clause-runs g c = λ start at.
    over_then (g.R.ProgramRun.machine c.args.run.now) (g.R.ProgramRun.machine c.loop-done.run) start c.args.steps c.loop-done.done _ _ _ _
    (g.R.ProgramRun.position c.turn.new.run) c.loop-done.invariant.machine c.loop-done-test.true c.loop-done.invariant.keeps c.in-Ok-Some.ensures.keeps
    (c.loop-done.invariant.course start at) c.in-Ok-Some.ending c.in-Ok-Some.field-0 c.in-Ok-Some.field-0-is
    c.in-Ok-Some.ensures.turns

pub returns-in-Ok-Some-clause-keeps : goal.returns-in-Ok-Some-clause-keeps
returns-in-Ok-Some-clause-keeps g c = keeps_trans _ _ _ c.loop-done.invariant.keeps c.in-Ok-Some.ensures.keeps

pub returns-in-Err-clause-runs : goal.returns-in-Err-clause-runs
returns-in-Err-clause-runs g c = λ start at.
    halted_then (g.R.ProgramRun.machine c.args.run.now) (g.R.ProgramRun.machine c.loop-done.run) start c.args.steps c.loop-done.done _ _ _ _
    (g.R.ProgramRun.position c.turn.new.run) c.loop-done.invariant.machine c.loop-done-test.true c.loop-done.invariant.keeps c.in-Err.ensures.keeps
    (c.loop-done.invariant.course start at) c.in-Err.halt c.in-Err.ensures.turns

pub returns-in-Err-clause-keeps : goal.returns-in-Err-clause-keeps
returns-in-Err-clause-keeps g c = keeps_trans _ _ _ c.loop-done.invariant.keeps c.in-Err.ensures.keeps

pub loop-done-preserved : goal.loop-done-preserved
loop-done-preserved g c = record {
  course = λ start at.
      further (g.R.ProgramRun.machine c.args.run.now) (g.R.ProgramRun.machine c.loop-done.run) start c.args.steps c.loop-done.done _ _ _ _
      (g.R.ProgramRun.position c.turn.new.run) c.loop-done.invariant.machine c.loop-done-test.true c.loop-done.invariant.keeps c.in-Ok-None.ensures.keeps
      (c.loop-done.invariant.course start at) c.in-Ok-None.field-0 c.in-Ok-None.field-0-is c.in-Ok-None.ensures.turns;
  machine = c.in-Ok-None.ensures.machine ∙ c.loop-done.invariant.machine;
  keeps = keeps_trans _ _ _ c.loop-done.invariant.keeps c.in-Ok-None.ensures.keeps;
}

pub returns-clause-runs : goal.returns-clause-runs
returns-clause-runs g c = λ start at.
    spent (g.R.ProgramRun.machine c.args.run.now) start c.args.steps c.loop-done.done _ _ _ (omega (arith, c.loop-done-test.false, c.loop-done.auto.done-end))
    (c.loop-done.invariant.course start at)
