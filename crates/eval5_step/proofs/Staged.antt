-- What a step of the machine answers leads where its definition does.
use Rattle.std.proofs.Common.{◌≡◌, sym}
use Rattle.core_moves.specs.Moves.{next_of}
use Rattle.core_moves.specs.declared.moves.Finish.TheVariants as finish
use Rattle.core_moves.specs.declared.moves.Move.{Move}
use Rattle.core_moves.specs.declared.moves.Move.TheVariants as move
use Rattle.program_runs.specs.Positions.{Steps}
use Rattle.script_core.specs.Meaning.{ScriptNext, ScriptState}
use Rattle.script_core.specs.declared.nothing.Nothing.{Nothing}
use Rattle.eval5_step.specs.Stages.{position_at, stage_after, status_of}

pub moved_follows : (m : Move Nothing) (st : ScriptState) (next : ScriptNext) → next_of m st ≡ next → Steps (status_of (stage_after m)) (position_at st (stage_after m)) next
moved_follows (move.Goes control) st next e = sym e
moved_follows (move.Asks event) st next e = sym e
moved_follows (move.Ends finish.Ended) st next e = sym e
moved_follows (move.Ends (finish.Threw seen)) st next e = sym e
moved_follows (move.Leaves number site) st next e = sym e
