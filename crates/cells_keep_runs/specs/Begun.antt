-- How an expression begins between related states, where its head names nothing.
use Rattle.std.specs.Prelude.{◌≡◌, List, ℕ, suc}
use Rattle.runs.specs.Run.{Asks, Ends, Goes, Leaves}
use Rattle.runs.specs.Simulation.{Reaches}
use Rattle.es_outside.specs.declared.host.Reply.{Reply}
use Rattle.core_ast.specs.declared.parts.CoreHead.{CoreHead}
use Rattle.core_ast.specs.declared.parts.CoreHead.TheVariants as head
use Rattle.core_ast.specs.declared.tree.CoreExpr.{CoreExpr, out-CoreExpr}
use Rattle.core_ast.specs.declared.whole.Core.{Core}
use Rattle.core_meaning.specs.Marks.{CoreNext, CoreState}
use Rattle.core_meaning.specs.Modules.{core_step}
use Rattle.core_meaning.specs.Rows.{with_control}
use Rattle.core_meaning.specs.State.{Begin}
use Rattle.pass_rules.specs.Scopes.{expr_flat}
use Rattle.cells_keep_runs.specs.Alike.{Config}
use Rattle.cells_keep_runs.specs.Opened.{AllHold}
use Rattle.cells_keep_runs.specs.Related.{Frames, Related, Seats, Stand, cell_along}

-- A step of the source is matched by the machine on this core: after some silent steps it does alike, and a silent step is matched by
-- one at least.
abbrev pub Matched : (Config → Config → Type 0) → Core → CoreNext → Config → Type 0
Matched R core (Goes s) t = (k : ℕ) × (u : Config) × Reaches (core_step core) (suc k) t u × R s u
Matched R core (Asks e follow) t =
    (k : ℕ) × (u : Config) × (follow2 : Reply → Config) × Reaches (core_step core) k t u × (core_step core u ≡ Asks e follow2)
    × ((a : Reply) → R (follow a) (follow2 a))
Matched R core (Ends ending) t = (k : ℕ) × (u : Config) × Reaches (core_step core) k t u × (core_step core u ≡ Ends ending)
Matched R core (Leaves exit) t = Unit {0}

-- heads that name neither a variable nor a function
unfoldable pub IsUntouchedHead : CoreHead → Type 0
IsUntouchedHead (head.Variable x) = ⊥
IsUntouchedHead (head.TypeOf x) = ⊥
IsUntouchedHead (head.Function f) = ⊥
IsUntouchedHead (head.Primitive p) = ⊥
IsUntouchedHead (head.Copy xs) = ⊥
IsUntouchedHead h = Unit {0}

-- The beginning of such an expression is matched, if the shared names that its links write hold their cells.
abbrev pub UntouchedHeadsKeepRelated : Type 0
UntouchedHeadsKeepRelated = (core core2 : Core) (owners : List ℕ) (seats : Seats) (x : CoreExpr) (s t : CoreState)
    → IsUntouchedHead (out-CoreExpr x).head → Stand owners seats s t
    → Frames owners seats s.context.environment s.context.frames t.context.frames
    → AllHold t owners (cell_along seats s.context.environment) (out-CoreExpr x).links
    → Matched (Related owners seats) core2 (core_step core (with_control (Begin x) s)) (with_control (Begin (expr_flat owners x)) t)
