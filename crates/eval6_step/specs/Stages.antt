-- Where a run stands beside its state, and where the next step leads.
use Rattle.std.specs.Prelude.{◌≡◌}
use Rattle.es_outside.specs.declared.events.Ending.{Ending}
use Rattle.es_outside.specs.declared.events.Ending.TheVariants.{Ended, Left, Threw}
use Rattle.program_runs.specs.Positions.{Position, Steps}
use Rattle.program_runs.specs.Positions as position
use Rattle.run_parts.specs.Stages.{status_of}
use Rattle.run_parts.specs.declared.stage.Stage.{Stage}
use Rattle.run_parts.specs.declared.stage.Stage.TheVariants.{Awaits, Goes, Lost, Over}
use Rattle.source_meaning.specs.Calls.{reply_of}
use Rattle.source_meaning.specs.State.{Configuration, Control, Hand, Work}
use Rattle.source_meaning.specs.Step.{step}
use Rattle.source_meaning.specs.Steps.{with_control}
use Rattle.source_moves.specs.Seen.{state_of}
use Rattle.source_moves.specs.declared.moves.Finish.{Finish}
use Rattle.source_moves.specs.declared.moves.Finish.TheVariants as finish
use Rattle.source_moves.specs.declared.moves.Move.{Move}
use Rattle.source_moves.specs.declared.moves.Move.TheVariants as move
use Rattle.source_state.specs.declared.state.State.{State as StateOf}

abbrev pub ending_of : Finish → Ending
ending_of finish.Ended = Ended
ending_of (finish.Threw seen) = Threw seen

abbrev pub stage_after : Move → Stage Control
stage_after (move.Goes control) = Goes control
stage_after (move.Asks event) = Awaits event
stage_after (move.Ends end) = Over (ending_of end)
stage_after (move.Leaves number site) = Over (Left number site)

-- as a position of a run of the machine
abbrev pub position_at : {W : Type 0} → (W → Work) → StateOf W → Stage Control → Position Configuration
position_at seen st (Goes control) = position.At (with_control control (state_of seen st))
position_at seen st (Awaits event) = position.Awaits (λ reply. with_control (Hand (reply_of reply)) (state_of seen st))
position_at seen st (Over ending) = position.Over
position_at seen st Lost = position.Over

-- from one stage and state the next step leads to others, if there is memory
abbrev pub Follows : {W : Type 0} → (W → Work) → Stage Control → StateOf W → Stage Control → StateOf W → Type 0
Follows seen (Goes control) before next after =
    Steps (status_of next) (position_at seen after next) (step (with_control control (state_of seen before)))
Follows seen stage before next after = (next ≡ stage) × (after ≡ before)
