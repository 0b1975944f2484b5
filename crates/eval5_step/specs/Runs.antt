-- What a run stands for.
use Rattle.std.specs.Prelude.{◌≡◌}
use Rattle.program_runs.specs.Positions.{Position}
use Rattle.script_core.specs.Meaning.{ScriptNext, script_step}
use Rattle.eval5_step.specs.Stages.{ScriptConfiguration, position_at}
use Rattle.eval5_step.specs.declared.run5.Run5.{Run5}
use Rattle.eval5_step.specs.declared.stage.Stage.{Stage}
use Rattle.eval5_step.specs.declared.stage.Stage.TheVariants.{Goes, Lost}

abbrev pub stage_of : Run5 → Stage
stage_of run = run.stage

-- the machine whose steps it does
abbrev pub machine_of : Run5 → ScriptConfiguration → ScriptNext
machine_of run = script_step run.rows.core.now

-- where it stands
abbrev pub position_of : Run5 → Position ScriptConfiguration
position_of run = position_at run.state run.stage

-- a run that doesn't go on is as it was, unless memory was wanting
abbrev pub StaysAt : Stage → Run5 → Run5 → Stage → Type 0
StaysAt (Goes control) before after stage = Unit {0}
StaysAt other before after Lost = Unit {0}
StaysAt other before after stage = (stage ≡ other) × (after.state ≡ before.state)

abbrev pub Stays : Run5 → Run5 → Type 0
Stays before after = StaysAt before.stage before after after.stage
