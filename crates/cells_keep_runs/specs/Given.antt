-- What a value does that is handed to the top frames of related states.
use Rattle.std.specs.Prelude.{List, map, ℕ}
use Rattle.core_ast.specs.declared.tree.CoreCase.{CoreCase}
use Rattle.core_ast.specs.declared.tree.CoreLink.{CoreLink}
use Rattle.core_ast.specs.declared.tree.CoreStat.{CoreStat}
use Rattle.core_ast.specs.declared.whole.Core.{Core}
use Rattle.core_meaning.specs.Marks.{CoreNext, CoreState, CoreWork, Mark}
use Rattle.core_meaning.specs.Modules.{core_step}
use Rattle.core_meaning.specs.Rows.{pushed, with_control}
use Rattle.core_meaning.specs.State.{Choice, CoreValue, Frame, Gives, Hand, Loop, LoopTest, LoopUpdate, Returning, Throwing}
use Rattle.pass_rules.specs.Scopes.{case_flat, stats_flat}
use Rattle.cells_keep_runs.specs.Alike.{Alike, IsPlain, LinkFrame, link_frame}
use Rattle.cells_keep_runs.specs.Opened.{opened}
use Rattle.cells_keep_runs.specs.Related.{BelowCells, Frames, Related, Seats, Stand, cell_along, loop_flat}

-- the value is handed to this frame
abbrev pub given_to : Core → CoreValue Mark → Frame Mark CoreWork → CoreState → CoreNext
given_to core v f st = core_step core (with_control (Hand (Gives v)) (pushed f st))

-- Frames that wait with links take the same value along related links.
abbrev pub LinksTakeValues : Type 0
LinksTakeValues = (core core2 : Core) (owners : List ℕ) (seats : Seats) (f : LinkFrame) (v : CoreValue Mark) (links : List CoreLink) (s t : CoreState)
    → Stand owners seats s t → BelowCells owners seats s links t
    → Alike (Related owners seats) (given_to core v (link_frame f links) s)
    (given_to core2 v (link_frame f (opened owners (cell_along seats s.context.environment) links).links) t)

-- Frames that hold no part of a core take it as they are.
abbrev pub PlainFramesTakeValues : Type 0
PlainFramesTakeValues = (core core2 : Core) (owners : List ℕ) (seats : Seats) (f : Frame Mark CoreWork) (v : CoreValue Mark) (s t : CoreState)
    → IsPlain f → Stand owners seats s t → Frames owners seats s.context.environment s.context.frames t.context.frames
    → Alike (Related owners seats) (given_to core v f s) (given_to core2 v f t)

-- a frame of a statement, and what it is behind the pass
pub data StatFrames (owners : List ℕ) : Frame Mark CoreWork → Frame Mark CoreWork → Type 0 where
  of_choice : (body : List CoreStat) (cases : List CoreCase)
      → StatFrames owners (Choice body cases) (Choice (stats_flat owners body) (map (case_flat owners) cases))
  of_test : (l : Loop) → StatFrames owners (LoopTest l) (LoopTest (loop_flat owners l))
  of_update : (l : Loop) → StatFrames owners (LoopUpdate l) (LoopUpdate (loop_flat owners l))
  of_return : StatFrames owners Returning Returning
  of_throw : StatFrames owners Throwing Throwing

-- Choices, loops, returns and throws take the same value.
abbrev pub StatementsTakeValues : Type 0
StatementsTakeValues = (core core2 : Core) (owners : List ℕ) (seats : Seats) (f g : Frame Mark CoreWork) (v : CoreValue Mark) (s t : CoreState)
    → StatFrames owners f g → Stand owners seats s t → Frames owners seats s.context.environment s.context.frames t.context.frames
    → Alike (Related owners seats) (given_to core v f s) (given_to core2 v g t)
