-- How a closure is made between related states.
use Rattle.std.specs.Prelude.{◌≡◌, ◌+◌, true, List, [], ◌∷◌, Some, ℕ}
use Rattle.core_ast.specs.declared.parts.CoreHead.TheVariants as head
use Rattle.core_ast.specs.declared.parts.FunctionId.{FunctionId}
use Rattle.core_ast.specs.declared.parts.Var.{Var}
use Rattle.core_ast.specs.declared.tree.CoreExpr.{CoreExpr, out-CoreExpr}
use Rattle.core_ast.specs.declared.whole.Core.{Core}
use Rattle.core_ast.specs.declared.whole.CoreFunction.{CoreFunction}
use Rattle.core_meaning.specs.Expressions.{function_at}
use Rattle.core_meaning.specs.Marks.{CoreState, Mark}
use Rattle.core_meaning.specs.Modules.{core_step}
use Rattle.core_meaning.specs.Names.{Resolved, resolve}
use Rattle.core_meaning.specs.Rows.{with_control}
use Rattle.core_meaning.specs.State.{Begin, Environment}
use Rattle.pass_rules.specs.Cells.{is_among, is_foreign, is_shared}
use Rattle.pass_rules.specs.Scopes.{expr_flat, function_flat}
use Rattle.cells_keep_runs.specs.Begun.{Matched}
use Rattle.cells_keep_runs.specs.Memory.{Seats, cell_along, kept_along}
use Rattle.cells_keep_runs.specs.Opened.{AllHold}
use Rattle.cells_keep_runs.specs.Related.{Frames, Related, Stand}
use Rattle.cells_keep_runs.specs.Seen.{Sees}

-- a shared name that both machines find
pub record SeenShared (owners : List ℕ) (seats : Seats) (s : CoreState) (x : Var) : Type 0 where
  pub shared : is_shared owners x ≡ true
  pub found : Resolved Mark
  pub is : resolve s x ≡ Some found
  pub sees : Sees owners seats s.context.environment found.at x

abbrev pub AllSeen : List ℕ → Seats → CoreState → List Var → Type 0
AllSeen owners seats s [] = Unit {0}
AllSeen owners seats s (x ∷ xs) = SeenShared owners seats s x × AllSeen owners seats s xs

-- before the pass it keeps no cells, and behind it none of names that it declares itself
abbrev pub KeepsOthers : List ℕ → FunctionId → CoreFunction → List Var → Type 0
KeepsOthers owners f function kept =
    (function.cells ≡ []) × ((x : Var) → is_among x kept ≡ true → is_foreign owners (f.0 + 1) x ≡ true)

-- these are all names whose cells the closures of the function are to keep that are made along the environment
abbrev pub KeepsAll : Seats → Environment → FunctionId → List Var → Type 0
KeepsAll seats e f kept = (x : Var) → kept_along seats e f x ≡ true → is_among x kept ≡ true

-- A closure is made alike, if both machines find the names whose cells the target's keeps; the function of a class isn't made yet.
abbrev pub ClosuresAreMadeAlike : Type 0
ClosuresAreMadeAlike = (core core2 : Core) (owners : List ℕ) (seats : Seats) (x : CoreExpr) (f : FunctionId) (function : CoreFunction) (kept : List Var) (s t : CoreState)
    → (out-CoreExpr x).head ≡ head.Function f → function_at core f ≡ Some function
    → function_at core2 f ≡ Some (function_flat owners kept function) → KeepsOthers owners f function kept → AllSeen owners seats s kept → KeepsAll seats s.context.environment f kept
    → Stand owners seats s t → Frames owners seats s.context.environment s.context.frames t.context.frames
    → AllHold t owners (cell_along seats s.context.environment) (out-CoreExpr x).links
    → Matched (Related owners seats) core2 (core_step core (with_control (Begin x) s)) (with_control (Begin (expr_flat owners x)) t)
