use Rattle.std.proofs.Common.{refl}
use Rattle.program_runs.specs.Turns.{went, told, over, unstepped}
use Rattle.program_runs.proofs.Positions.{asking, at_state, is_awaiting, running}
use Rattle.program_runs.proofs.Talking.{adds_nothing}
use Rattle.program_runs.proofs.turn.turn.Goals as goal

pub speak-requires : goal.speak-requires
speak-requires g c =
    let here = at_state (g.R.ProgramRun.position c.args.run.now) c.requires in
    let asks = asking c.in-Asks.event (g.R.ProgramRun.position c.step.new.self) (g.R.ProgramRun.machine c.args.run.now here.0) (c.in-Asks.ensures.steps here.0 here.1) in
    is_awaiting _ asks.0 asks.2

pub returns-in-Running-clause-turns : goal.returns-in-Running-clause-turns
returns-in-Running-clause-turns g c = λ state at.
    let runs = running (g.R.ProgramRun.position c.step.new.self) (g.R.ProgramRun.machine c.args.run.now state) (c.in-Running.ensures.steps state at) in
    went runs.0 runs.1 runs.2 (adds_nothing (g.S.Sink.bytes c.args.out.now)) refl

pub returns-in-Asks-clause-turns : goal.returns-in-Asks-clause-turns
returns-in-Asks-clause-turns g c = λ state at.
    let asks = asking c.in-Asks.event (g.R.ProgramRun.position c.step.new.self) (g.R.ProgramRun.machine c.args.run.now state) (c.in-Asks.ensures.steps state at) in
    told c.in-Asks.event asks.0 asks.1 (c.speak.ensures.tells asks.0 asks.2)

pub returns-in-Is-clause-turns : goal.returns-in-Is-clause-turns
returns-in-Is-clause-turns g c = λ state at.
    over c.in-Is.ending (c.in-Is.ensures.steps state at) (adds_nothing (g.S.Sink.bytes c.args.out.now)) refl

pub returns-in-OutOfMemory-clause-turns : goal.returns-in-OutOfMemory-clause-turns
returns-in-OutOfMemory-clause-turns g c = λ state at. unstepped (adds_nothing (g.S.Sink.bytes c.args.out.now)) refl
