-- How a statement begins between related states.
use Rattle.std.specs.Prelude.{List, ◌++◌, ◌∷◌, ℕ}
use Rattle.core_ast.specs.declared.tree.CoreCase.{CoreCase}
use Rattle.core_ast.specs.declared.tree.CoreExpr.{CoreExpr}
use Rattle.core_ast.specs.declared.tree.CoreLink.{CoreLink}
use Rattle.core_ast.specs.declared.tree.CoreLink.TheOpen as layer
use Rattle.core_ast.specs.declared.tree.CoreLink.TheOpen.{CoreStat-F}
use Rattle.core_ast.specs.declared.tree.CoreStat.{CoreStat, out-CoreStat}
use Rattle.core_ast.specs.declared.whole.Core.{Core}
use Rattle.core_meaning.specs.Marks.{CoreState}
use Rattle.core_meaning.specs.Modules.{core_step}
use Rattle.core_meaning.specs.Rows.{with_control}
use Rattle.core_meaning.specs.State.{Run}
use Rattle.pass_rules.specs.Scopes.{stats_flat}
use Rattle.cells_keep_runs.specs.Alike.{Alike}
use Rattle.cells_keep_runs.specs.Related.{BelowScopes, Related, Seats, Stand}

-- a statement that is no scope, and no yield
abbrev pub IsUntouchedStat : CoreStat-F CoreLink CoreStat CoreCase CoreExpr → Type 0
IsUntouchedStat (layer.Scoped names body) = ⊥
IsUntouchedStat (layer.Yield value kind result) = ⊥
IsUntouchedStat s = Unit {0}

-- Such a statement begins in both machines in a step. What stands behind it in the scopes round it stands behind it in the target.
abbrev pub UntouchedStatementsKeepRelated : Type 0
UntouchedStatementsKeepRelated = (core core2 : Core) (owners : List ℕ) (seats : Seats) (x : CoreStat) (xs ys : List CoreStat) (s t : CoreState)
    → IsUntouchedStat (out-CoreStat x) → Stand owners seats s t → BelowScopes owners seats s s.context.frames ys t
    → Alike (Related owners seats) (core_step core (with_control (Run (x ∷ xs)) s))
    (core_step core2 (with_control (Run (stats_flat owners (x ∷ xs) ++ ys)) t))
