-- How a scope is entered between related states.
use Rattle.std.specs.Prelude.{◌≡◌, cond, List, [], ◌∷◌, ◌++◌, map, None, Some, length, ℕ}
use Rattle.runs.specs.Run.{Goes}
use Rattle.core_ast.specs.declared.parts.ScopedName.{ScopedName}
use Rattle.core_ast.specs.declared.tree.CoreLink.TheOpen as layer
use Rattle.core_ast.specs.declared.tree.CoreStat.{CoreStat, out-CoreStat}
use Rattle.core_ast.specs.declared.whole.Core.{Core}
use Rattle.core_meaning.specs.Cells.{uninitialized}
use Rattle.core_meaning.specs.Marks.{CoreState}
use Rattle.core_meaning.specs.Modules.{core_step}
use Rattle.core_meaning.specs.Rows.{with_control}
use Rattle.core_meaning.specs.State.{Environment, Run}
use Rattle.pass_rules.specs.Scopes.{stats_flat, vars}
use Rattle.cells_keep_runs.specs.Memory.{Seats}
use Rattle.cells_keep_runs.specs.Passed.{scope_entered}
use Rattle.cells_keep_runs.specs.Related.{BelowScopes, Related, Stand}
use Rattle.cells_keep_runs.specs.Renewed.{NewScope, NoValue, OwnCell, Renewal, scope_seat}
use Rattle.cells_keep_runs.specs.Seen.{target_at}
use Rattle.cells_keep_runs.specs.Ways.{Way, reset_steps}

-- what a name is given where its scope is entered
abbrev pub reset_of : ScopedName → Renewal
reset_of n = cond n.shared (OwnCell n.var None) (NoValue n.var)

-- the target finds each name at home
abbrev pub AllAt : Seats → Environment → ℕ → List ScopedName → Type 0
AllAt seats e h [] = Unit {0}
AllAt seats e h (n ∷ names) = (target_at seats e n.var ≡ Some h) × AllAt seats e h names

abbrev pub entered_seats : Seats → ℕ → List ScopedName → ℕ → Seats
entered_seats seats h names k = seats ++ scope_seat h (vars names) k (map reset_of names) ∷ []

-- The source enters a scope in a step, and the target resets its names: what they come to is related, with the scope's record more.
abbrev pub ScopesAreEnteredAlike : Type 0
ScopesAreEnteredAlike = (core core2 : Core) (owners : List ℕ) (seats : Seats) (h : ℕ) (x : CoreStat) (names : List ScopedName) (body xs ys : List CoreStat) (s t : CoreState)
    → out-CoreStat x ≡ layer.Scoped names body
    → NewScope owners seats s.records t.records h (vars names) (uninitialized names) (map reset_of names)
    → AllAt seats s.context.environment h names
    → Stand owners seats s t → BelowScopes owners seats s s.context.frames ys t
    → (u : CoreState)
    × (core_step core (with_control (Run (x ∷ xs)) s) ≡ Goes (with_control (Run body) (scope_entered names xs s)))
    × Way core2 (reset_steps names) (Run (stats_flat owners (x ∷ xs) ++ ys)) t (Run (stats_flat owners body ++ (stats_flat owners xs ++ ys))) u
    × Related owners (entered_seats seats h names (length t.store.cells)) (with_control (Run body) (scope_entered names xs s))
    (with_control (Run (stats_flat owners body ++ (stats_flat owners xs ++ ys))) u)
