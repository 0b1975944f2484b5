-- What is at the end of links between related states, behind a copy, and where a reference is read for a name.
use Rattle.std.specs.Prelude.{◌≡◌, true, List, [], ◌∷◌, Option, Some, ℕ}
use Rattle.es_outside.specs.declared.events.Site.{Site}
use Rattle.es_value.specs.declared.value.Value.{Value}
use Rattle.es_value.specs.declared.value.Value.TheVariants as value
use Rattle.es_heap.specs.declared.key.Key.{Key}
use Rattle.core_ast.specs.declared.parts.CoreOp.TheVariants as op
use Rattle.core_ast.specs.declared.parts.Var.{Var}
use Rattle.core_ast.specs.declared.tree.CoreExpr.{CoreExpr}
use Rattle.core_ast.specs.declared.tree.CoreLink.{CoreLink, out-CoreLink}
use Rattle.core_ast.specs.declared.tree.CoreLink.TheOpen as layer
use Rattle.core_ast.specs.declared.whole.Core.{Core}
use Rattle.core_meaning.specs.Marks.{Cell, CoreState, Mark}
use Rattle.core_meaning.specs.Modules.{core_step}
use Rattle.core_meaning.specs.Names.{Resolved, resolve, stored_at}
use Rattle.core_meaning.specs.Rows.{pushed, with_control}
use Rattle.core_meaning.specs.State.{After, CoreValue, Current, Extra, Gives, Go, Hand, Has, Reference, User}
use Rattle.pass_rules.specs.Cells.{is_shared}
use Rattle.runs.specs.Simulation.{Reaches}
use Rattle.cells_keep_runs.specs.Alike.{Alike, Config}
use Rattle.cells_keep_runs.specs.Memory.{Seats, cell_along}
use Rattle.cells_keep_runs.specs.Opened.{link_in, opened}
use Rattle.cells_keep_runs.specs.Related.{BelowCells, Currents, DropsHere, Frames, Related, Stand}
use Rattle.cells_keep_runs.specs.Seen.{Assigns, IsWrite, Sees}
use Rattle.cells_keep_runs.specs.Ways.{Way}
use Rattle.cells_keep_runs.specs.Writes.{IsHeld}

-- At the end of links both hand the value on, or read the reference.
abbrev pub LinksEndAlike : Type 0
LinksEndAlike = (core core2 : Core) (owners : List ℕ) (seats : Seats) (c d : Current Mark) (s t : CoreState)
    → Currents s.context.frames [] c d → Stand owners seats s t → Frames owners seats s.context.environment s.context.frames t.context.frames
    → Alike (Related owners seats) (core_step core (with_control (Go c []) s)) (core_step core2 (with_control (Go d []) t))

abbrev pub copy_behind : CoreState → ℕ → Config
copy_behind t n = with_control (Hand (Gives (Extra (Cell n)))) t

-- What a copy gives is dropped, whether it is undefined or a cell,
abbrev pub CopiesAreDropped : Type 0
CopiesAreDropped = (core core2 : Core) (owners : List ℕ) (seats : Seats) (n : ℕ) (s t : CoreState)
    → DropsHere s.context.frames
    → Stand owners seats s t → Frames owners seats s.context.environment s.context.frames t.context.frames
    → Alike (Related owners seats) (core_step core (with_control (Hand (Gives (User value.Undefined))) s)) (core_step core2 (copy_behind t n))

-- and so it is where another expression follows.
abbrev pub CopiesGoOnAlike : Type 0
CopiesGoOnAlike = (core core2 : Core) (owners : List ℕ) (seats : Seats) (n : ℕ) (l : CoreLink) (links : List CoreLink) (x : CoreExpr) (site : Option Site) (s t : CoreState)
    → out-CoreLink l ≡ layer.Strict op.Then (x ∷ []) site → Stand owners seats s t → BelowCells owners seats s links t
    → Alike (Related owners seats) (core_step core (with_control (Go (Has (User value.Undefined)) (l ∷ links)) s))
    (core_step core2 (with_control (Go (Has (Extra (Cell n))) (link_in owners (out-CoreLink l) ∷ (opened owners (cell_along seats s.context.environment) links).links)) t))

-- A reference whose value a name takes is read in both; where the name is a shared one, its cell waits for the value.
abbrev pub ReferencesAreReadAlike : Type 0
ReferencesAreReadAlike = (core core2 : Core) (owners : List ℕ) (seats : Seats) (l : CoreLink) (links : List CoreLink) (x : Var) (site : Option Site) (base : Value) (k : Key) (s t : CoreState)
    → IsWrite l x site → Stand owners seats s t → BelowCells owners seats s (l ∷ links) t
    → Alike (Related owners seats) (core_step core (with_control (Go (Reference base k) (l ∷ links)) s))
    (core_step core2 (with_control (Go (Reference base k) (opened owners (cell_along seats s.context.environment) (l ∷ links)).links) t))

-- Then the source writes it in two steps, and the target's cell takes it.
abbrev pub CellsTakeReads : Type 0
CellsTakeReads = (core core2 : Core) (owners : List ℕ) (seats : Seats) (l : CoreLink) (links : List CoreLink) (x : Var) (site : Option Site) (v : CoreValue Mark) (r : Resolved Mark) (s t : CoreState)
    → IsWrite l x site → is_shared owners x ≡ true → resolve s x ≡ Some r → (Assigns l x site → r.binding.mutable ≡ true)
    → Sees owners seats s.context.environment r.at x → IsHeld v
    → Stand owners seats s t → BelowCells owners seats s (l ∷ links) t
    → (k : ℕ) × (u : Config) × Way core 2 (Hand (Gives v)) (pushed (After (l ∷ links)) s) (Go (Has v) links) (stored_at r.at x v s)
    × Reaches (core_step core2) k (with_control (Hand (Gives v)) t) u
    × Related owners seats (with_control (Go (Has v) links) (stored_at r.at x v s)) u
