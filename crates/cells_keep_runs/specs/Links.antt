-- How a value goes one link on between related states.
use Rattle.std.specs.Prelude.{List, ◌∷◌, ℕ}
use Rattle.core_ast.specs.declared.tree.CoreCase.{CoreCase}
use Rattle.core_ast.specs.declared.tree.CoreExpr.{CoreExpr}
use Rattle.core_ast.specs.declared.tree.CoreLink.{CoreLink, out-CoreLink}
use Rattle.core_ast.specs.declared.tree.CoreLink.TheOpen as layer
use Rattle.core_ast.specs.declared.tree.CoreLink.TheOpen.{CoreLink-F}
use Rattle.core_ast.specs.declared.tree.CoreStat.{CoreStat}
use Rattle.core_ast.specs.declared.whole.Core.{Core}
use Rattle.core_meaning.specs.Marks.{CoreState, Mark}
use Rattle.core_meaning.specs.Modules.{core_step}
use Rattle.core_meaning.specs.Rows.{with_control}
use Rattle.core_meaning.specs.State.{Current, Go}
use Rattle.cells_keep_runs.specs.Alike.{Alike, IsUntouched}
use Rattle.cells_keep_runs.specs.Opened.{link_in, opened}
use Rattle.cells_keep_runs.specs.Related.{BelowCells, Related, Seats, Stand, cell_along}

-- a link that isn't an operation on a name, a list of arguments or a cell, and no primitive
abbrev pub IsUntouchedLink : CoreLink-F CoreLink CoreStat CoreCase CoreExpr → Type 0
IsUntouchedLink (layer.Strict o parts site) = IsUntouched o
IsUntouchedLink (layer.Lazy when taken other) = Unit {0}
IsUntouchedLink (layer.Run body) = Unit {0}

-- At such a link both machines do the same, from the same current value: they read a reference, begin its first part, a branch or its
-- statements, or do its operation.
abbrev pub UntouchedLinksKeepRelated : Type 0
UntouchedLinksKeepRelated = (core core2 : Core) (owners : List ℕ) (seats : Seats) (l : CoreLink) (links : List CoreLink) (c : Current Mark) (s t : CoreState)
    → IsUntouchedLink (out-CoreLink l) → Stand owners seats s t → BelowCells owners seats s links t
    → Alike (Related owners seats) (core_step core (with_control (Go c (l ∷ links)) s))
    (core_step core2 (with_control (Go c (link_in owners (out-CoreLink l) ∷ (opened owners (cell_along seats s.context.environment) links).links)) t))
