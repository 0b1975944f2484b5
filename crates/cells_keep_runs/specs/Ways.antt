-- What the machine does, in so many steps, at what the flattening of scopes puts into the place of scopes and of shared names.
use Rattle.std.specs.Prelude.{◌≡◌, ◌+◌, true, cond, List, [], ◌∷◌, ◌++◌, map, Option, None, Some, length, slice_get, ℕ}
use Rattle.runs.specs.Simulation.{Reaches}
use Rattle.es_outside.specs.declared.events.Site.{Site}
use Rattle.es_value.specs.declared.value.Value.{Value}
use Rattle.core_ast.specs.declared.parts.CoreHead.TheVariants as head
use Rattle.core_ast.specs.declared.parts.CoreOp.TheVariants as op
use Rattle.core_ast.specs.declared.parts.ScopedName.{ScopedName}
use Rattle.core_ast.specs.declared.parts.Var.{Var}
use Rattle.core_ast.specs.declared.tree.CoreExpr.{CoreExpr}
use Rattle.core_ast.specs.declared.tree.CoreLink.{CoreLink}
use Rattle.core_ast.specs.declared.tree.CoreStat.{CoreStat}
use Rattle.core_ast.specs.declared.whole.Core.{Core}
use Rattle.core_ast.specs.Made.{act, acting, expression}
use Rattle.core_meaning.specs.Cells.{with_cell}
use Rattle.core_meaning.specs.Marks.{Cell, CoreState, CoreStrict, Mark, empty, value_in, value_or_empty, with_store}
use Rattle.core_meaning.specs.Modules.{core_step}
use Rattle.core_meaning.specs.Names.{Resolved, initialized, resolve}
use Rattle.core_meaning.specs.Rows.{pushed, with_control}
use Rattle.core_meaning.specs.State.{Begin, Completion, Control, CoreValue, Extra, Gives, Go, Hand, Has, Jumps, Part, Returns, Run, Throws}
use Rattle.pass_rules.specs.Scopes.{copied, reset}

-- the machine goes from one configuration to another in so many silent steps
abbrev pub Way : Core → ℕ → Control Mark → CoreState → Control Mark → CoreState → Type 0
Way core k c st d u = Reaches (core_step core) k (with_control c st) (with_control d u)

-- ---- names that hold cells

-- the name holds the cell with this number
abbrev pub Holds : CoreState → Var → ℕ → Type 0
Holds st x n = (r : Resolved Mark) × (resolve st x ≡ Some r) × (r.binding.value ≡ Extra (Cell n))

-- the name is bound, and may be written
abbrev pub IsOpen : CoreState → Var → Type 0
IsOpen st x = (r : Resolved Mark) × (resolve st x ≡ Some r) × (r.binding.mutable ≡ true)

-- one cell more, with this content
abbrev pub with_new_cell : Option Value → CoreState → CoreState
with_new_cell v st = with_store (record st.store { cells = st.store.cells ++ v ∷ [] }) st

-- the name takes a new cell with this content
abbrev pub with_own_cell : Var → Option Value → CoreState → CoreState
with_own_cell x v st = initialized x (Extra (Cell (length st.store.cells))) (with_new_cell v st)

-- ---- reading

-- A shared name that is read gives what is in its cell.
abbrev pub ReadsOpenCells : Type 0
ReadsOpenCells = (core : Core) (st : CoreState) (x : Var) (n : ℕ) (v : Option Value) (site : Option Site) (links : List CoreLink)
    → Holds st x n → slice_get st.store.cells n ≡ Some v
    → Way core 2 (Begin (expression site (head.Variable x) (act op.Content ∷ links))) st
    (Go (Has (value_or_empty v)) links) st

-- ---- writing

-- what waits for the value of a shared name
abbrev pub writing : ℕ → List CoreLink → CoreStrict
writing n links = record {
  op = op.SetContent;
  site = None;
  current = Has (Extra (Cell n));
  values = [];
  parts = [];
  links = links;
}

-- A shared name that is written is read first, so that its cell waits for the value;
abbrev pub WritesBeginAtCells : Type 0
WritesBeginAtCells = (core : Core) (st : CoreState) (x : Var) (n : ℕ) (e : CoreExpr) (links : List CoreLink)
    → Holds st x n
    → Way core 2 (Begin (expression None (head.Variable x) (acting op.SetContent e ∷ links))) st
    (Begin e) (pushed (Part (writing n links)) st)

-- the value goes into the cell, and goes on;
abbrev pub WritesFillCells : Type 0
WritesFillCells = (core : Core) (st : CoreState) (n : ℕ) (links : List CoreLink) (v : CoreValue Mark)
    → Way core 1 (Hand (Gives v)) (pushed (Part (writing n links)) st) (Go (Has v) links) (with_cell n (value_in v) st)

-- and what is no value goes past it.
abbrev pub IsAbrupt : Completion Mark → Type 0
IsAbrupt (Throws v) = Unit {0}
IsAbrupt (Returns v) = Unit {0}
IsAbrupt (Jumps goes_on label) = Unit {0}
IsAbrupt c = ⊥

abbrev pub WritesAreLeft : Type 0
WritesAreLeft = (core : Core) (st : CoreState) (n : ℕ) (links : List CoreLink) (c : Completion Mark)
    → IsAbrupt c → Way core 1 (Hand c) (pushed (Part (writing n links)) st) (Hand c) st

-- ---- the entry of a scope

-- where a name is reset: it is uninitialized, and a shared one holds a new cell that is
abbrev pub reset_in : ScopedName → CoreState → CoreState
reset_in n st = cond n.shared (with_own_cell n.var None st) (initialized n.var empty st)

abbrev pub all_reset : List ScopedName → CoreState → CoreState
all_reset [] st = st
all_reset (n ∷ names) st = all_reset names (reset_in n st)

-- the shared ones among these names may be written
abbrev pub AreOpen : CoreState → List ScopedName → Type 0
AreOpen st [] = Unit {0}
AreOpen st (n ∷ names) = (n.shared ≡ true → IsOpen st n.var) × AreOpen st names

abbrev pub reset_steps : List ScopedName → ℕ
reset_steps [] = 0
reset_steps (n ∷ names) = cond n.shared 6 5 + reset_steps names

-- The statements that a scope begins with reset its names, one after the other, and what stands behind them goes on.
abbrev pub ResetsAreMade : Type 0
ResetsAreMade = (core : Core) (names : List ScopedName) (xs : List CoreStat) (st : CoreState)
    → AreOpen st names → Way core (reset_steps names) (Run (map reset names ++ xs)) st (Run xs) (all_reset names st)

-- ---- copies

-- A shared name that is copied holds a cell of its own with the value of now. The cell is what goes on.
abbrev pub CopiesHaveTheirOwn : Type 0
CopiesHaveTheirOwn = (core : Core) (st : CoreState) (x : Var) (n : ℕ) (v : Option Value) (w : CoreValue Mark) (links : List CoreLink)
    → Holds st x n → IsOpen st x → slice_get st.store.cells n ≡ Some v
    → Way core 7 (Go (Has w) (copied x ∷ links)) st
    (Go (Has (Extra (Cell (length st.store.cells)))) links) (with_own_cell x v st)
