-- Where both machines find a name along related environments, and what a step does there: reading, and writing.
use Rattle.std.specs.Prelude.{◌≡◌, ◌⊎◌, true, false, List, [], ◌∷◌, Option, None, Some, if◌then◌else◌, slice_get, ℕ}
use Rattle.es_outside.specs.declared.events.Site.{Site}
use Rattle.core_ast.specs.declared.parts.CoreHead.TheVariants as head
use Rattle.core_ast.specs.declared.parts.CoreOp.TheVariants as op
use Rattle.core_ast.specs.declared.parts.Var.{Var}
use Rattle.core_ast.specs.declared.tree.CoreExpr.{CoreExpr, out-CoreExpr}
use Rattle.core_ast.specs.declared.tree.CoreLink.{CoreLink, out-CoreLink}
use Rattle.core_ast.specs.declared.tree.CoreLink.TheOpen as layer
use Rattle.core_ast.specs.declared.whole.Core.{Core}
use Rattle.core_meaning.specs.Marks.{CoreState, Mark}
use Rattle.core_meaning.specs.Modules.{core_step}
use Rattle.core_meaning.specs.Names.{Resolved, resolve}
use Rattle.core_meaning.specs.Rows.{with_control}
use Rattle.core_meaning.specs.State.{Begin, CoreValue, Environment, Go, Has}
use Rattle.pass_rules.specs.Cells.{is_among, is_shared}
use Rattle.pass_rules.specs.Scopes.{expr_flat}
use Rattle.cells_keep_runs.specs.Begun.{Matched}
use Rattle.cells_keep_runs.specs.Memory.{IsNewest, Keeps, Seat, Seats, cell_along}
use Rattle.cells_keep_runs.specs.Opened.{AllHold, opened}
use Rattle.cells_keep_runs.specs.Related.{BelowCells, Frames, Related, Stand}
use Rattle.cells_keep_runs.specs.Writes.{CellOf, IsHeld, PlaceOf}

-- ---- where the target finds a name: the first image along the environment that has it

abbrev pub or_image : Option ℕ → Option ℕ → Option ℕ
or_image None outer = outer
or_image (Some m) outer = Some m

abbrev pub image_with : Option Seat → Var → Option ℕ → Option ℕ
image_with None x outer = outer
image_with (Some seat) x outer = if is_among x seat.has then or_image seat.image outer else outer

abbrev pub target_at : Seats → Environment → Var → Option ℕ
target_at seats [] x = None
target_at seats (n ∷ e) x = image_with (slice_get seats n) x (target_at seats e x)

-- The target finds of a name what the source finds in the record n: an unshared one where it stands, a shared one in its home while the
-- record is the newest, or where a closure keeps it.
pub data Sees (owners : List ℕ) (seats : Seats) (e : Environment) (n : ℕ) (x : Var) : Type 0 where
  sees_plain : (m : ℕ) → is_shared owners x ≡ false → PlaceOf owners seats n x m → target_at seats e x ≡ Some m → Sees owners seats e n x
  sees_home : (k : ℕ) (c : CellOf owners seats n x k) → cell_along seats e x ≡ k → IsNewest seats n x
      → target_at seats e x ≡ Some c.seat.home → Sees owners seats e n x
  sees_kept : (k j i : ℕ) → CellOf owners seats n x k → cell_along seats e x ≡ k → Keeps seats j i x k → target_at seats e x ≡ Some i
      → Sees owners seats e n x

-- ---- reading

-- An expression that begins with a name begins alike in related states, if the target finds the name, and the shared names that its links
-- write hold their cells. A name that isn't found leaves.
abbrev pub NamesAreRead : Type 0
NamesAreRead = (core core2 : Core) (owners : List ℕ) (seats : Seats) (x : CoreExpr) (y : Var) (s t : CoreState)
    → (out-CoreExpr x).head ≡ head.Variable y
    → ((r : Resolved Mark) → resolve s y ≡ Some r → Sees owners seats s.context.environment r.at y)
    → Stand owners seats s t → Frames owners seats s.context.environment s.context.frames t.context.frames
    → AllHold t owners (cell_along seats s.context.environment) (out-CoreExpr x).links
    → Matched (Related owners seats) core2 (core_step core (with_control (Begin x) s)) (with_control (Begin (expr_flat owners x)) t)

-- ---- writing

abbrev pub IsWrite : CoreLink → Var → Option Site → Type 0
IsWrite l x site = (out-CoreLink l ≡ layer.Strict (op.Set x) [] site) ⊎ (out-CoreLink l ≡ layer.Strict (op.Init x) [] site)

-- it is no initialization
abbrev pub Assigns : CoreLink → Var → Option Site → Type 0
Assigns l x site = out-CoreLink l ≡ layer.Strict (op.Set x) [] site

-- A name that both find takes a value alike, a shared one only a value of programs, or none. One that may not be written is only initialized.
abbrev pub NamesAreWritten : Type 0
NamesAreWritten = (core core2 : Core) (owners : List ℕ) (seats : Seats) (l : CoreLink) (links : List CoreLink) (x : Var) (site : Option Site) (v : CoreValue Mark) (r : Resolved Mark) (s t : CoreState)
    → IsWrite l x site → resolve s x ≡ Some r → (Assigns l x site → r.binding.mutable ≡ true)
    → Sees owners seats s.context.environment r.at x → (is_shared owners x ≡ true → IsHeld v)
    → Stand owners seats s t → BelowCells owners seats s (l ∷ links) t
    → Matched (Related owners seats) core2 (core_step core (with_control (Go (Has v) (l ∷ links)) s))
    (with_control (Go (Has v) (opened owners (cell_along seats s.context.environment) (l ∷ links)).links) t)
