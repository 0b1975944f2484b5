use Rattle.std.proofs.Common.{refl}
use Rattle.program_runs.proofs.Positions.{asking, at_state, is_awaiting, running}
use Rattle.answered_runs.specs.Answers.{went, asked, over}
use Rattle.answered_runs.proofs.running.turn.Goals as goal

pub answer-requires : goal.answer-requires
answer-requires g c =
    let here = at_state (g.R.ProgramRun.position c.args.run.now) c.requires in
    let asks = asking c.in-Asks.event (g.R.ProgramRun.position c.step.new.self) (g.R.ProgramRun.machine c.args.run.now here.0) (c.in-Asks.ensures.steps here.0 here.1) in
    is_awaiting _ asks.0 asks.2

pub returns-in-Running-clause-turns : goal.returns-in-Running-clause-turns
returns-in-Running-clause-turns g c = λ state at.
    let runs = running (g.R.ProgramRun.position c.step.new.self) (g.R.ProgramRun.machine c.args.run.now state) (c.in-Running.ensures.steps state at) in
    went runs.0 runs.1 runs.2 refl

pub returns-in_ok-answer-in-Asks-clause-turns : goal.returns-in_ok-answer-in-Asks-clause-turns
returns-in_ok-answer-in-Asks-clause-turns g c = λ state at.
    let asks = asking c.in-Asks.event (g.R.ProgramRun.position c.step.new.self) (g.R.ProgramRun.machine c.args.run.now state) (c.in-Asks.ensures.steps state at) in
    asked c.in-Asks.event asks.0 asks.1 (c.in_ok-answer-in-Asks.ensures.resumes asks.0 asks.2) c.in_ok-answer-in-Asks.ensures.events

pub returns-in-Is-clause-turns : goal.returns-in-Is-clause-turns
returns-in-Is-clause-turns g c = λ state at. over c.in-Is.ending (c.in-Is.ensures.steps state at) refl
