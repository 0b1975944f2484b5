-- Where a run stands beside its state, and where the next step leads.
use Rattle.std.specs.Prelude.{◌≡◌}
use Rattle.core_ast.specs.declared.whole.Core.{Core}
use Rattle.core_meaning.specs.Calls.{reply_of}
use Rattle.core_meaning.specs.Rows.{with_control}
use Rattle.core_meaning.specs.State.{Configuration, Hand}
use Rattle.core_moves.specs.declared.moves.Finish.{Finish}
use Rattle.core_moves.specs.declared.moves.Finish.TheVariants as finish
use Rattle.core_moves.specs.declared.moves.Move.{Move}
use Rattle.core_moves.specs.declared.moves.Move.TheVariants as move
use Rattle.es_outside.specs.declared.events.Ending.{Ending}
use Rattle.es_outside.specs.declared.events.Ending.TheVariants.{Ended, Left, Threw}
use Rattle.program_runs.specs.Positions.{Position, Steps}
use Rattle.program_runs.specs.Positions as position
use Rattle.es_outside.specs.declared.events.Step.{Step}
use Rattle.es_outside.specs.declared.events.Step.TheVariants as status
use Rattle.script_core.specs.Meaning.{ScriptState, script_sorts, script_step}
use Rattle.script_core.specs.declared.nothing.Nothing.{Nothing}
use Rattle.eval5_step.specs.declared.stage.Stage.{Stage}
use Rattle.eval5_step.specs.declared.stage.Stage.TheVariants.{Awaits, Goes, Lost, Over}

-- a state, and what the next step does there
abbrev pub ScriptConfiguration : Type 0
ScriptConfiguration = Configuration script_sorts (Unit {0})

abbrev pub ending_of : Finish → Ending
ending_of finish.Ended = Ended
ending_of (finish.Threw seen) = Threw seen

abbrev pub stage_after : Move Nothing → Stage
stage_after (move.Goes control) = Goes control
stage_after (move.Asks event) = Awaits event
stage_after (move.Ends end) = Over (ending_of end)
stage_after (move.Leaves number site) = Over (Left number site)

-- what a step answers that leads there
abbrev pub status_of : Stage → Step
status_of (Goes control) = status.Running
status_of (Awaits event) = status.Asks event
status_of (Over ending) = status.Is ending
status_of Lost = status.OutOfMemory

-- as a position of a run of the machine
abbrev pub position_at : ScriptState → Stage → Position ScriptConfiguration
position_at st (Goes control) = position.At (with_control control st)
position_at st (Awaits event) = position.Awaits (λ reply. with_control (Hand (reply_of reply)) st)
position_at st (Over ending) = position.Over
position_at st Lost = position.Over

-- from one stage and state the next step leads to others, if there is memory
abbrev pub Follows : Core → Stage → ScriptState → Stage → ScriptState → Type 0
Follows core (Goes control) before next after =
    Steps (status_of next) (position_at after next) (script_step core (with_control control before))
Follows core stage before next after = (next ≡ stage) × (after ≡ before)
