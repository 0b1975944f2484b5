-- How a value goes on to an operation between related states, and how an expression begins with a primitive.
use Rattle.std.specs.Prelude.{◌≡◌, List, ◌∷◌, Option, ℕ}
use Rattle.es_outside.specs.declared.events.Site.{Site}
use Rattle.core_ast.specs.declared.parts.CoreHead.TheVariants as head
use Rattle.core_ast.specs.declared.parts.CoreOp.{CoreOp}
use Rattle.core_ast.specs.declared.parts.Primitive.{Primitive}
use Rattle.core_ast.specs.declared.parts.Primitive.TheVariants as primitive
use Rattle.core_ast.specs.declared.tree.CoreExpr.{CoreExpr, out-CoreExpr}
use Rattle.core_ast.specs.declared.tree.CoreLink.{CoreLink, out-CoreLink}
use Rattle.core_ast.specs.declared.tree.CoreLink.TheOpen as layer
use Rattle.core_ast.specs.declared.whole.Core.{Core}
use Rattle.core_meaning.specs.Marks.{CoreState, Mark}
use Rattle.core_meaning.specs.Modules.{core_step}
use Rattle.core_meaning.specs.Rows.{with_control}
use Rattle.core_meaning.specs.State.{Begin, Current, Go}
use Rattle.pass_rules.specs.Scopes.{expr_flat}
use Rattle.cells_keep_runs.specs.Acted.{IsAlikeOp, KindsAreKept}
use Rattle.cells_keep_runs.specs.Alike.{Alike}
use Rattle.cells_keep_runs.specs.Begun.{Matched}
use Rattle.cells_keep_runs.specs.Memory.{Seats, cell_along}
use Rattle.cells_keep_runs.specs.Opened.{AllHold, link_in, opened}
use Rattle.cells_keep_runs.specs.Related.{BelowCells, Frames, Related, Stand}

-- At an operation that acts alike both machines read a reference, begin its first part, or do it, and come to related states.
abbrev pub OperationsGoOnAlike : Type 0
OperationsGoOnAlike = (core core2 : Core) (owners : List ℕ) (seats : Seats) (l : CoreLink) (links : List CoreLink) (o : CoreOp) (xs : List CoreExpr) (site : Option Site) (c : Current Mark) (s t : CoreState)
    → KindsAreKept core core2 → out-CoreLink l ≡ layer.Strict o xs site → IsAlikeOp o → Stand owners seats s t → BelowCells owners seats s links t
    → Alike (Related owners seats) (core_step core (with_control (Go c (l ∷ links)) s))
    (core_step core2 (with_control (Go c (link_in owners (out-CoreLink l) ∷ (opened owners (cell_along seats s.context.environment) links).links)) t))

-- a primitive that isn't of a generator's states
abbrev pub IsAlikeHead : Primitive → Type 0
IsAlikeHead primitive.GeneratorMake = ⊥
IsAlikeHead p = Unit {0}

-- An expression that begins with a primitive begins alike.
abbrev pub PrimitivesBeginAlike : Type 0
PrimitivesBeginAlike = (core core2 : Core) (owners : List ℕ) (seats : Seats) (x : CoreExpr) (p : Primitive) (s t : CoreState)
    → (out-CoreExpr x).head ≡ head.Primitive p → IsAlikeHead p → Stand owners seats s t
    → Frames owners seats s.context.environment s.context.frames t.context.frames
    → AllHold t owners (cell_along seats s.context.environment) (out-CoreExpr x).links
    → Matched (Related owners seats) core2 (core_step core (with_control (Begin x) s)) (with_control (Begin (expr_flat owners x)) t)
