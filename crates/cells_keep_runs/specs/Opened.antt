-- How a flattened expression begins: the shared names that its links write are read first, the last one first, and their cells wait for
-- the value. And how all names of a loop are copied.
use Rattle.std.specs.Prelude.{◌≡◌, ◌+◌, true, cond, List, [], ◌∷◌, ◌++◌, map, Option, None, Some, length, slice_get, ℕ}
use Rattle.es_value.specs.declared.value.Value.{Value}
use Rattle.core_ast.specs.declared.parts.Constant.TheVariants.{Undefined}
use Rattle.core_ast.specs.declared.parts.CoreHead.{CoreHead}
use Rattle.core_ast.specs.declared.parts.CoreHead.TheVariants as head
use Rattle.core_ast.specs.declared.parts.CoreOp.{CoreOp}
use Rattle.core_ast.specs.declared.parts.CoreOp.TheVariants as op
use Rattle.core_ast.specs.declared.parts.Var.{Var}
use Rattle.core_ast.specs.declared.tree.CoreCase.{CoreCase}
use Rattle.core_ast.specs.declared.tree.CoreExpr.{CoreExpr, out-CoreExpr}
use Rattle.core_ast.specs.declared.tree.CoreLink.{CoreLink, out-CoreLink}
use Rattle.core_ast.specs.declared.tree.CoreLink.TheOpen as layer
use Rattle.core_ast.specs.declared.tree.CoreLink.TheOpen.{CoreLink-F}
use Rattle.core_ast.specs.declared.tree.CoreLink.TheVariants as link
use Rattle.core_ast.specs.declared.tree.CoreStat.{CoreStat}
use Rattle.core_ast.specs.declared.whole.Core.{Core}
use Rattle.core_ast.specs.Made.{act, expression}
use Rattle.core_meaning.specs.Marks.{Cell, CoreState, CoreWork, Mark}
use Rattle.core_meaning.specs.Rows.{with_frames}
use Rattle.core_meaning.specs.State.{Begin, CoreValue, Extra, Frame, Go, Has, Part}
use Rattle.pass_rules.specs.Cells.{is_shared}
use Rattle.pass_rules.specs.Scopes.{copies, expr_flat, stats_flat}
use Rattle.cells_keep_runs.specs.Shapes.{option_flat}
use Rattle.cells_keep_runs.specs.Ways.{Holds, IsOpen, Way, with_own_cell, writing}

-- ---- links: the shared name that one writes, and what it is where it writes none

abbrev pub if_shared : List ℕ → Var → Option Var
if_shared owners x = cond (is_shared owners x) (Some x) None

unfoldable pub written_by : List ℕ → CoreOp → Option Var
written_by owners (op.Set x) = if_shared owners x
written_by owners (op.Init x) = if_shared owners x
written_by owners o = None

abbrev pub write_in : List ℕ → CoreLink-F CoreLink CoreStat CoreCase CoreExpr → Option Var
write_in owners (layer.Strict o parts site) = written_by owners o
write_in owners (layer.Lazy when taken other) = None
write_in owners (layer.Run body) = None

abbrev pub link_in : List ℕ → CoreLink-F CoreLink CoreStat CoreCase CoreExpr → CoreLink
link_in owners (layer.Strict o parts site) = link.Strict o (map (expr_flat owners) parts) site
link_in owners (layer.Lazy when taken other) = link.Lazy when (expr_flat owners taken) (option_flat owners other)
link_in owners (layer.Run body) = link.Run (stats_flat owners body)

-- ---- what of a list of links goes on first, and the cells that wait for what this gives, the next one first

pub record Opened : Type 0 where
  pub links : List CoreLink
  pub frames : List (Frame Mark CoreWork)

abbrev pub opened_by : (Var → ℕ) → Option Var → CoreLink → Opened → Opened
opened_by cell None l o = record { links = l ∷ o.links; frames = o.frames }
opened_by cell (Some x) l o = record { links = []; frames = Part (writing (cell x) o.links) ∷ o.frames }

abbrev pub opened : List ℕ → (Var → ℕ) → List CoreLink → Opened
opened owners cell [] = record { links = []; frames = [] }
opened owners cell (l ∷ ls) =
    opened_by cell (write_in owners (out-CoreLink l)) (link_in owners (out-CoreLink l)) (opened owners cell ls)

-- each shared name that is written holds its cell
abbrev pub WriteHolds : CoreState → (Var → ℕ) → Option Var → Type 0
WriteHolds st cell None = Unit {0}
WriteHolds st cell (Some x) = Holds st x (cell x)

abbrev pub AllHold : CoreState → List ℕ → (Var → ℕ) → List CoreLink → Type 0
AllHold st owners cell [] = Unit {0}
AllHold st owners cell (l ∷ ls) = WriteHolds st cell (write_in owners (out-CoreLink l)) × AllHold st owners cell ls

-- a read of the name, and a step to its part, for each
abbrev pub write_steps : Option Var → ℕ
write_steps None = 0
write_steps (Some x) = 2

abbrev pub opening_steps : List ℕ → List CoreLink → ℕ
opening_steps owners [] = 0
opening_steps owners (l ∷ ls) = opening_steps owners ls + write_steps (write_in owners (out-CoreLink l))

-- ---- heads

unfoldable pub begun_head : CoreHead → CoreHead
begun_head (head.Copy xs) = head.Constant Undefined
begun_head h = h

unfoldable pub begun_links : List ℕ → CoreHead → List CoreLink
begun_links owners (head.Variable x) = cond (is_shared owners x) (act op.Content ∷ []) []
begun_links owners (head.Copy xs) = copies owners xs
begun_links owners h = []

abbrev pub with_more_frames : List (Frame Mark CoreWork) → CoreState → CoreState
with_more_frames fs st = with_frames (fs ++ st.context.frames) st

abbrev pub flat_begun : List ℕ → CoreExpr → List CoreLink → CoreExpr
flat_begun owners x links =
    expression (out-CoreExpr x).site (begun_head (out-CoreExpr x).head) (begun_links owners (out-CoreExpr x).head ++ links)

-- A flattened expression that begins comes to where its head begins, and cells wait for what the links before each write give.
abbrev pub BeginsOpenCells : Type 0
BeginsOpenCells = (core : Core) (owners : List ℕ) (cell : Var → ℕ) (x : CoreExpr) (st : CoreState)
    → AllHold st owners cell (out-CoreExpr x).links
    → Way core (opening_steps owners (out-CoreExpr x).links) (Begin (expr_flat owners x)) st
    (Begin (flat_begun owners x (opened owners cell (out-CoreExpr x).links).links))
    (with_more_frames (opened owners cell (out-CoreExpr x).links).frames st)

-- ---- copies

abbrev pub Apart : Var → List Var → Type 0
Apart x [] = Unit {0}
Apart x (y ∷ ys) = (y.0 ≡ x.0 → ⊥) × Apart x ys

abbrev pub AllApart : List Var → Type 0
AllApart [] = Unit {0}
AllApart (x ∷ xs) = Apart x xs × AllApart xs

-- a shared name holds a cell with this content, and may be written
pub record HoldsValue (st : CoreState) (x : Var) (v : Option Value) : Type 0 where
  pub cell : ℕ
  pub held : Holds st x cell
  pub there : slice_get st.store.cells cell ≡ Some v
  pub is_open : IsOpen st x

abbrev pub AllHoldValues : List ℕ → CoreState → (Var → Option Value) → List Var → Type 0
AllHoldValues owners st content [] = Unit {0}
AllHoldValues owners st content (x ∷ xs) =
    (is_shared owners x ≡ true → HoldsValue st x (content x)) × AllHoldValues owners st content xs

-- the shared names hold cells of their own, one after the other
abbrev pub all_copied : List ℕ → (Var → Option Value) → List Var → CoreState → CoreState
all_copied owners content [] st = st
all_copied owners content (x ∷ xs) st =
    all_copied owners content xs (cond (is_shared owners x) (with_own_cell x (content x) st) st)

-- what goes on is the last of these cells
abbrev pub copy_given : List ℕ → (Var → Option Value) → List Var → CoreState → CoreValue Mark → CoreValue Mark
copy_given owners content [] st w = w
copy_given owners content (x ∷ xs) st w =
    copy_given owners content xs (cond (is_shared owners x) (with_own_cell x (content x) st) st)
    (cond (is_shared owners x) (Extra (Cell (length st.store.cells))) w)

abbrev pub copy_steps : List ℕ → List Var → ℕ
copy_steps owners [] = 0
copy_steps owners (x ∷ xs) = cond (is_shared owners x) 7 0 + copy_steps owners xs

-- The links that a copy becomes give each shared name a cell of its own with the value that it had.
abbrev pub CopiesAreMade : Type 0
CopiesAreMade = (core : Core) (owners : List ℕ) (content : Var → Option Value) (xs : List Var) (w : CoreValue Mark) (links : List CoreLink) (st : CoreState)
    → AllApart xs → AllHoldValues owners st content xs
    → Way core (copy_steps owners xs) (Go (Has w) (copies owners xs ++ links)) st
    (Go (Has (copy_given owners content xs st w)) links) (all_copied owners content xs st)
