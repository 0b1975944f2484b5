-- What the source does where a scope is entered, copied, and left, while the target stands still or makes what stands in its place; and
-- that related frames stand at the same place.
use Rattle.std.specs.Prelude.{◌≡◌, List, ◌∷◌, Option, ℕ}
use Rattle.es_outside.specs.declared.events.Site.{Site}
use Rattle.es_value.specs.declared.value.Value.TheVariants as value
use Rattle.core_ast.specs.declared.parts.CoreHead.TheVariants as head
use Rattle.core_ast.specs.declared.parts.ScopedName.{ScopedName}
use Rattle.core_ast.specs.declared.parts.Var.{Var}
use Rattle.core_ast.specs.declared.tree.CoreLink.{CoreLink}
use Rattle.core_ast.specs.declared.tree.CoreStat.{CoreStat}
use Rattle.core_ast.specs.declared.tree.CoreStat.TheVariants as stat
use Rattle.core_ast.specs.declared.whole.Core.{Core}
use Rattle.core_ast.specs.Made.{expression}
use Rattle.core_meaning.specs.Cells.{copied, uninitialized}
use Rattle.core_meaning.specs.Marks.{CoreState, CoreWork, Mark}
use Rattle.core_meaning.specs.Rows.{nearest, pushed, with_frames, with_record, within}
use Rattle.core_meaning.specs.State.{Begin, Completion, Done, Environment, Frame, Go, Hand, Has, Rest, Restore, Run, User}
use Rattle.cells_keep_runs.specs.Related.{Frames, Seats, Tail}
use Rattle.cells_keep_runs.specs.Ways.{IsAbrupt, Way}

abbrev pub scope_entered : List ScopedName → List CoreStat → CoreState → CoreState
scope_entered names xs st =
    with_record (uninitialized names) (pushed (Restore st.context.environment) (pushed (Rest xs) st))

-- A scope is entered in a step: it leaves what stands behind it, and the environment round it.
abbrev pub ScopesAreEntered : Type 0
ScopesAreEntered = (core : Core) (names : List ScopedName) (body xs : List CoreStat) (st : CoreState)
    → Way core 1 (Run (stat.Scoped names body ∷ xs)) st (Run body) (scope_entered names xs st)

-- At its end what stands behind it goes on, in two steps.
abbrev pub ScopesEnd : Type 0
ScopesEnd = (core : Core) (e : Environment) (xs : List CoreStat) (st : CoreState)
    → Way core 2 (Hand Done) (pushed (Restore e) (pushed (Rest xs) st)) (Run xs) (within e st)

-- A copy of the innermost record takes a step.
abbrev pub CopiesAreTaken : Type 0
CopiesAreTaken = (core : Core) (site : Option Site) (xs : List Var) (links : List CoreLink) (st : CoreState)
    → Way core 1 (Begin (expression site (head.Copy xs) links)) st (Go (Has (User value.Undefined)) links) (copied st)

-- the state with these frames, along this environment
abbrev pub placed : Environment → List (Frame Mark CoreWork) → CoreState → CoreState
placed e fs st = with_frames fs (within e st)

-- What ends statements early passes the scopes round it, each in two steps, and what stands behind them is dropped.
abbrev pub ScopesAreLeft : Type 0
ScopesAreLeft = (core : Core) (owners : List ℕ) (seats : Seats) (st : CoreState) (c : Completion Mark) (e e2 : Environment) (fs gs : List (Frame Mark CoreWork)) (ys : List CoreStat)
    → IsAbrupt c → Tail owners seats e fs ys e2 gs
    → (k : ℕ) × Way core k (Hand c) (placed e fs st) (Hand c) (placed e2 gs st)

-- Related frames stand at the same place, so an event carries the same.
abbrev pub PlacesAreKept : Type 0
PlacesAreKept = (owners : List ℕ) (seats : Seats) (e : Environment) (fs gs : List (Frame Mark CoreWork)) (site : Site)
    → Frames owners seats e fs gs → nearest gs site ≡ nearest fs site
