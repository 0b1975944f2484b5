-- How statements end between related states, and what ends them early.
use Rattle.std.specs.Prelude.{◌≡◌, List, [], ◌∷◌, None, ℕ}
use Rattle.core_ast.specs.declared.tree.CoreLink.{CoreLink, out-CoreLink}
use Rattle.core_ast.specs.declared.tree.CoreStat.{CoreStat}
use Rattle.core_ast.specs.declared.whole.Core.{Core}
use Rattle.core_meaning.specs.Marks.{CoreState, CoreWork, Mark}
use Rattle.core_meaning.specs.Modules.{core_step}
use Rattle.core_meaning.specs.Rows.{with_control, with_frames}
use Rattle.core_meaning.specs.State.{After, Catching, Completion, Done, Frame, Hand, Throws}
use Rattle.cells_keep_runs.specs.Alike.{Alike}
use Rattle.cells_keep_runs.specs.Opened.{write_in}
use Rattle.cells_keep_runs.specs.Related.{BelowCells, BelowScopes, Frames, Related, Seats, Stand}
use Rattle.cells_keep_runs.specs.Ways.{IsAbrupt, Way}

-- a frame is there, and no shared name waits for the value of statements
abbrev pub EndsHere : List ℕ → List (Frame Mark CoreWork) → Type 0
EndsHere owners [] = ⊥
EndsHere owners (After (l ∷ ls) ∷ fs) = write_in owners (out-CoreLink l) ≡ None
EndsHere owners (f ∷ fs) = Unit {0}

-- The end of statements does the same in both, and comes to related states.
abbrev pub StatementsEndAlike : Type 0
StatementsEndAlike = (core core2 : Core) (owners : List ℕ) (seats : Seats) (s t : CoreState)
    → EndsHere owners s.context.frames
    → Stand owners seats s t → Frames owners seats s.context.environment s.context.frames t.context.frames
    → Alike (Related owners seats) (core_step core (with_control (Hand Done) s)) (core_step core2 (with_control (Hand Done) t))

-- a frame is there, and if it is a handler, what comes is no throw
abbrev pub PassesHere : Completion Mark → List (Frame Mark CoreWork) → Type 0
PassesHere c [] = ⊥
PassesHere (Throws v) (Catching x names handler ∷ fs) = ⊥
PassesHere c (f ∷ fs) = Unit {0}

-- So does a throw, a return or a jump.
abbrev pub AbruptEndsAlike : Type 0
AbruptEndsAlike = (core core2 : Core) (owners : List ℕ) (seats : Seats) (c : Completion Mark) (s t : CoreState)
    → IsAbrupt c → PassesHere c s.context.frames
    → Stand owners seats s t → Frames owners seats s.context.environment s.context.frames t.context.frames
    → Alike (Related owners seats) (core_step core (with_control (Hand c) s)) (core_step core2 (with_control (Hand c) t))

-- In the target it passes the cells that wait, a step each, to where both stand at the same.
abbrev pub CellsArePassed : Type 0
CellsArePassed = (core2 : Core) (owners : List ℕ) (seats : Seats) (c : Completion Mark) (links : List CoreLink) (s t : CoreState)
    → IsAbrupt c → BelowCells owners seats s links t
    → (k : ℕ) × (gs : List (Frame Mark CoreWork)) × Way core2 k (Hand c) t (Hand c) (with_frames gs t)
    × Frames owners seats s.context.environment s.context.frames gs

-- And in the source it passes the scopes round it, two steps each, to where both stand at the same.
abbrev pub ScopesArePassed : Type 0
ScopesArePassed = (core : Core) (owners : List ℕ) (seats : Seats) (c : Completion Mark) (ys : List CoreStat) (s t : CoreState)
    → IsAbrupt c → Stand owners seats s t → BelowScopes owners seats s s.context.frames ys t
    → (k : ℕ) × (u : CoreState) × Way core k (Hand c) s (Hand c) u × Stand owners seats u t
    × Frames owners seats u.context.environment u.context.frames t.context.frames
