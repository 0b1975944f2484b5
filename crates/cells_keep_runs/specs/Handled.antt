-- How a handler takes a throw between related states.
use Rattle.std.specs.Prelude.{◌≡◌, true, false, List, [], ◌∷◌, ◌++◌, map, Option, None, Some, length, ℕ}
use Rattle.runs.specs.Run.{Goes}
use Rattle.es_value.specs.declared.value.Value.{Value}
use Rattle.core_ast.specs.declared.parts.ScopedName.{ScopedName}
use Rattle.core_ast.specs.declared.parts.Var.{Var}
use Rattle.core_ast.specs.declared.tree.CoreStat.{CoreStat}
use Rattle.core_ast.specs.declared.whole.Core.{Core}
use Rattle.core_meaning.specs.Calls.{binding}
use Rattle.core_meaning.specs.Cells.{uninitialized}
use Rattle.core_meaning.specs.Marks.{CoreState, Mark}
use Rattle.core_meaning.specs.Modules.{core_step}
use Rattle.core_meaning.specs.Rows.{pushed, with_control, with_record}
use Rattle.core_meaning.specs.State.{Catching, CoreValue, EnvironmentRecord, Hand, Restore, Run, Throws, User}
use Rattle.pass_rules.specs.Cells.{is_among}
use Rattle.pass_rules.specs.Scopes.{reset, stats_flat, vars}
use Rattle.runs.specs.Simulation.{Reaches}
use Rattle.cells_keep_runs.specs.Alike.{Config}
use Rattle.cells_keep_runs.specs.Entered.{AllAt, reset_of}
use Rattle.cells_keep_runs.specs.Memory.{Memory, Seat, Seats, cell_found, is_scoped, keeps_none}
use Rattle.cells_keep_runs.specs.Related.{Frames, Related, Stand}
use Rattle.cells_keep_runs.specs.Renewed.{NewScope, scope_seat}

-- the seat of a handler's record: that of a scope of its pattern's names, with an image that has its parameter
abbrev pub with_own_image : ℕ → Var → Seat → Seat
with_own_image i x seat =
    record { image = Some i; home = seat.home; scoped = seat.scoped; cells = seat.cells; has = x ∷ []; locals = []; keeps = keeps_none }

-- A scope's record is left where it should be if one more name is bound in it, and in a new record of the target.
abbrev pub ParametersAreRemembered : Type 0
ParametersAreRemembered = (owners : List ℕ) (seats : Seats) (seat : Seat) (rs ts : List (EnvironmentRecord Mark)) (bindings : EnvironmentRecord Mark) (cells : List (Option Value)) (x : Var) (v : CoreValue Mark)
    → seat.image ≡ None → is_scoped seat x ≡ false
    → ((y : Var) (k : ℕ) → cell_found seat.cells y ≡ Some k → is_scoped seat y ≡ true)
    → Memory owners (seats ++ seat ∷ []) (rs ++ bindings ∷ []) ts cells
    → Memory owners (seats ++ with_own_image (length ts) x seat ∷ []) (rs ++ (binding x v ∷ bindings) ∷ [])
    (ts ++ (binding x v ∷ []) ∷ []) cells

-- the state in which the source begins the handler
abbrev pub handler_entered : Var → Value → List ScopedName → CoreState → CoreState
handler_entered x v names st =
    with_record (binding x (User v) ∷ uninitialized names) (pushed (Restore st.context.environment) st)

abbrev pub handled_seats : Seats → ℕ → Var → ℕ → List ScopedName → ℕ → Seats
handled_seats seats i x h names k =
    seats ++ with_own_image i x (scope_seat h (vars names) k (map reset_of names)) ∷ []

-- A handler takes a throw in both: the source enters its record with the names of its pattern, and the target makes one for the
-- parameter, and resets the names at home.
abbrev pub HandlersTakeThrows : Type 0
HandlersTakeThrows = (core core2 : Core) (owners : List ℕ) (seats : Seats) (h : ℕ) (x : Var) (names : List ScopedName) (handler : List CoreStat) (v : Value) (s t : CoreState)
    → NewScope owners seats s.records t.records h (vars names) (uninitialized names) (map reset_of names)
    → AllAt seats s.context.environment h names → is_among x (vars names) ≡ false
    → Stand owners seats s t → Frames owners seats s.context.environment s.context.frames t.context.frames
    → (k : ℕ) × (u : Config)
    × (core_step core (with_control (Hand (Throws v)) (pushed (Catching x names handler) s)) ≡ Goes (with_control (Run handler) (handler_entered x v names s)))
    × Reaches (core_step core2) k (with_control (Hand (Throws v)) (pushed (Catching x [] (map reset names ++ stats_flat owners handler)) t)) u
    × Related owners (handled_seats seats (length t.records) x h names (length t.store.cells)) (with_control (Run handler) (handler_entered x v names s)) u
