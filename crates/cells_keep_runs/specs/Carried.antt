-- The operations that name no variable keep the relation of the states before the flattening of scopes and behind it.
use Rattle.std.specs.Prelude.{List, Option, ℕ}
use Rattle.es_outside.specs.declared.events.Site.{Site}
use Rattle.core_ast.specs.declared.parts.CoreOp.{CoreOp}
use Rattle.core_ast.specs.declared.tree.CoreExpr.{CoreExpr}
use Rattle.core_ast.specs.declared.tree.CoreLink.{CoreLink}
use Rattle.core_ast.specs.declared.whole.Core.{Core}
use Rattle.core_meaning.specs.Marks.{CoreState, Mark}
use Rattle.core_meaning.specs.Modules.{rows}
use Rattle.core_meaning.specs.State.{CoreValue, Current}
use Rattle.core_meaning.specs.Step.{act}
use Rattle.cells_keep_runs.specs.Alike.{Alike, IsUntouched, strict}
use Rattle.cells_keep_runs.specs.Opened.{opened}
use Rattle.cells_keep_runs.specs.Related.{BelowCells, Related, Seats, Stand, cell_along}

-- Between related states, whatever the two cores are, an operation that names no variable does the same and comes to related ones. The
-- source goes on along its links, the target along those before the first write of a shared name.
abbrev pub UntouchedKeepRelated : Type 0
UntouchedKeepRelated = (core core2 : Core) (owners : List ℕ) (seats : Seats) (o : CoreOp) (site : Option Site) (c : Current Mark) (values : List (CoreValue Mark)) (parts : List CoreExpr) (links : List CoreLink) (s t : CoreState)
    → IsUntouched o → Stand owners seats s t → BelowCells owners seats s links t
    → Alike (Related owners seats) (act (rows core) core (strict o site c values parts links) s)
    (act (rows core2) core2 (strict o site c values parts (opened owners (cell_along seats s.context.environment) links).links) t)
