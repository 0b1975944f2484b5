use Rattle.std.proofs.Common.{refl, ◌∙◌, arith}
use Rattle.program_runs.proofs.Positions.{at_state, is_at}
use Rattle.answered_runs.proofs.Courses.{begun, further, over_then, spent}
use Rattle.answered_runs.proofs.running.go_on.Goals as goal

pub loop-done-init : goal.loop-done-init
loop-done-init g c = record {
  course = λ start at. begun (g.R.ProgramRun.machine c.args.run.now) start c.args.events.now _ c.requires.none at;
  machine = refl;
}

pub turn-requires : goal.turn-requires
turn-requires g c =
    let begins = at_state (g.R.ProgramRun.position c.args.run.now) c.requires.at in
    let here = c.loop-done.invariant.course begins.0 begins.1 in
    is_at _ here.state here.at

pub returns-in-Ok-Some : goal.returns-in-Ok-Some
returns-in-Ok-Some g c = λ start at.
    over_then (g.R.ProgramRun.machine c.args.run.now) (g.R.ProgramRun.machine c.loop-done.run) start c.loop-done.done _ _ _ _
    c.loop-done.invariant.machine (c.loop-done.invariant.course start at) _ (λ state here. c.in-Ok-Some.ensures.turns state here)
    c.args.steps c.loop-done-test.true c.in-Ok-Some.ending c.in-Ok-Some.field-0-is

pub loop-done-preserved : goal.loop-done-preserved
loop-done-preserved g c = record {
  course = λ start at.
      further (g.R.ProgramRun.machine c.args.run.now) (g.R.ProgramRun.machine c.loop-done.run) start c.loop-done.done _ _ _ _
      c.loop-done.invariant.machine (c.loop-done.invariant.course start at) _ (λ state here. c.in-Ok-None.ensures.turns state here) c.in-Ok-None.field-0-is;
  machine = c.in-Ok-None.ensures.machine ∙ c.loop-done.invariant.machine;
}

pub returns : goal.returns
returns g c = λ start at.
    spent (g.R.ProgramRun.machine c.args.run.now) start c.args.steps c.loop-done.done _ _ (omega (arith, c.loop-done-test.false, c.loop-done.auto.done-end))
    (c.loop-done.invariant.course start at)
