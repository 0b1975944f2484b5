-- What a step answers leads where its definition does.
use Rattle.std.proofs.Common.{◌≡◌, sym}
use Rattle.program_runs.specs.Positions.{Steps}
use Rattle.run_parts.specs.Stages.{status_of}
use Rattle.source_meaning.specs.State.{Work}
use Rattle.source_meaning.specs.Steps.{Next}
use Rattle.source_moves.specs.Moves.{next_of}
use Rattle.source_moves.specs.Seen.{state_of}
use Rattle.source_moves.specs.declared.moves.Finish.TheVariants as finish
use Rattle.source_moves.specs.declared.moves.Move.{Move}
use Rattle.source_moves.specs.declared.moves.Move.TheVariants as move
use Rattle.source_state.specs.declared.state.State.{State as StateOf}
use Rattle.eval6_step.specs.Stages.{position_at, stage_after}

pub moved_follows : {W : Type 0} (seen : W → Work) (m : Move) (st : StateOf W) (next : Next) → next_of m (state_of seen st) ≡ next → Steps (status_of (stage_after m)) (position_at seen st (stage_after m)) next
moved_follows seen (move.Goes control) st next e = sym e
moved_follows seen (move.Asks event) st next e = sym e
moved_follows seen (move.Ends finish.Ended) st next e = sym e
moved_follows seen (move.Ends (finish.Threw seen_of)) st next e = sym e
moved_follows seen (move.Leaves number site) st next e = sym e
