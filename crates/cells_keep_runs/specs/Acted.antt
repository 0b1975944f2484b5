-- The operations that do alike between related states.
use Rattle.std.specs.Prelude.{◌≡◌, List, Option, ℕ}
use Rattle.es_outside.specs.declared.events.Site.{Site}
use Rattle.core_ast.specs.declared.parts.CoreOp.{CoreOp}
use Rattle.core_ast.specs.declared.parts.CoreOp.TheVariants as op
use Rattle.core_ast.specs.declared.parts.FunctionId.{FunctionId}
use Rattle.core_ast.specs.declared.parts.Primitive.{Primitive}
use Rattle.core_ast.specs.declared.parts.Primitive.TheVariants as primitive
use Rattle.core_ast.specs.declared.tree.CoreExpr.{CoreExpr}
use Rattle.core_ast.specs.declared.tree.CoreLink.{CoreLink}
use Rattle.core_ast.specs.declared.whole.Core.{Core}
use Rattle.core_meaning.specs.Classes.{is_derived_function}
use Rattle.core_meaning.specs.Expressions.{function_at}
use Rattle.core_meaning.specs.Marks.{CoreState, Mark}
use Rattle.core_meaning.specs.Modules.{rows}
use Rattle.core_meaning.specs.State.{CoreValue, Current}
use Rattle.core_meaning.specs.Step.{act}
use Rattle.cells_keep_runs.specs.Alike.{Alike, strict}
use Rattle.cells_keep_runs.specs.Memory.{Seats, cell_along}
use Rattle.cells_keep_runs.specs.Opened.{opened}
use Rattle.cells_keep_runs.specs.Related.{BelowCells, Related, Stand}

-- a function is that of a derived class in both
abbrev pub KindsAreKept : Core → Core → Type 0
KindsAreKept core core2 = (f : FunctionId) → is_derived_function (function_at core2 f) ≡ is_derived_function (function_at core f)

-- a primitive that makes no cell, no class and no member of one
abbrev pub IsAlikePrimitive : Primitive → Type 0
IsAlikePrimitive (primitive.CellMake x) = ⊥
IsAlikePrimitive primitive.ClassMake = ⊥
IsAlikePrimitive primitive.MethodPut = ⊥
IsAlikePrimitive primitive.AccessorPut = ⊥
IsAlikePrimitive p = Unit {0}

-- all but the operations on names and cells, and those that make cells, classes and members
unfoldable pub IsAlikeOp : CoreOp → Type 0
IsAlikeOp (op.Set x) = ⊥
IsAlikeOp (op.Init x) = ⊥
IsAlikeOp (op.StepVariable u x) = ⊥
IsAlikeOp op.Content = ⊥
IsAlikeOp op.SetContent = ⊥
IsAlikeOp (op.Primitive p) = IsAlikePrimitive p
IsAlikeOp o = Unit {0}

-- They do the same from the same values, and go on along related links.
abbrev pub OperationsActAlike : Type 0
OperationsActAlike = (core core2 : Core) (owners : List ℕ) (seats : Seats) (o : CoreOp) (site : Option Site) (c : Current Mark) (values : List (CoreValue Mark)) (parts : List CoreExpr) (links : List CoreLink) (s t : CoreState)
    → KindsAreKept core core2 → IsAlikeOp o → Stand owners seats s t → BelowCells owners seats s links t
    → Alike (Related owners seats) (act (rows core) core (strict o site c values parts links) s)
    (act (rows core2) core2 (strict o site c values parts (opened owners (cell_along seats s.context.environment) links).links) t)
