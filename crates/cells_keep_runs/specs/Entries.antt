-- What stands for the new record of a call.
use Rattle.std.specs.Prelude.{◌≡◌, ◌<◌, true, List, [], ◌∷◌, ◌++◌, None, Some, is_some, length, ℕ, Option}
use Rattle.es_value.specs.declared.value.Value.{Value}
use Rattle.core_ast.specs.declared.parts.Var.{Var}
use Rattle.core_meaning.specs.Marks.{Cell, KeptCell, Mark}
use Rattle.core_meaning.specs.Names.{binding_in}
use Rattle.core_meaning.specs.State.{Binding, EnvironmentRecord, Extra}
use Rattle.pass_rules.specs.Cells.{is_among}
use Rattle.cells_keep_runs.specs.Memory.{Bindings, Memory, Seat, Seats, cell_found, keeps_none}

-- a binding of the name, which has the same value
pub record BoundAlike (bindings : EnvironmentRecord Mark) (x : Var) (b : Binding Mark) : Type 0 where
  pub binding : Binding Mark
  pub there : binding_in bindings x ≡ Some binding
  pub same : Bindings b binding

pub record BoundOpen (bindings : EnvironmentRecord Mark) (x : Var) : Type 0 where
  pub binding : Binding Mark
  pub there : binding_in bindings x ≡ Some binding
  pub mutable : binding.mutable ≡ true

pub record BoundCell (bindings : EnvironmentRecord Mark) (x : Var) (k : ℕ) : Type 0 where
  pub binding : Binding Mark
  pub there : binding_in bindings x ≡ Some binding
  pub value : binding.value ≡ Extra (Cell k)

-- The target's record of the call has what the source's has, its locals may be written, and it has the cells that the closure keeps, which
-- are those of no name of the source's.
pub record NewCall (bindings2 bindings : EnvironmentRecord Mark) (cells : List (Option Value)) (locals has : List Var) (kept : List KeptCell) : Type 0 where
  pub same : (x : Var) (b : Binding Mark) → binding_in bindings x ≡ Some b → BoundAlike bindings2 x b
  pub shape : (x : Var) → is_some (binding_in bindings2 x) ≡ is_among x has
  pub locals_open : (x : Var) → is_among x locals ≡ true → BoundOpen bindings2 x
  pub holds : (x : Var) (k : ℕ) → cell_found kept x ≡ Some k → BoundCell bindings2 x k
  pub made : (x : Var) (k : ℕ) → cell_found kept x ≡ Some k → k < length cells
  pub foreign : (x : Var) (k : ℕ) → cell_found kept x ≡ Some k → binding_in bindings x ≡ None

-- the seat of a call whose record is the target's next
abbrev pub call_seat : ℕ → List Var → List Var → List KeptCell → Seat
call_seat i locals has kept = record { image = Some i; home = i; scoped = []; cells = kept; has = has; locals = locals; keeps = keeps_none }

abbrev pub CallsAreRemembered : Type 0
CallsAreRemembered = (owners : List ℕ) (seats : Seats) (rs ts : List (EnvironmentRecord Mark)) (cells : List (Option Value)) (bindings2 bindings : EnvironmentRecord Mark) (locals has : List Var) (kept : List KeptCell)
    → Memory owners seats rs ts cells → NewCall bindings2 bindings cells locals has kept
    → Memory owners (seats ++ call_seat (length ts) locals has kept ∷ []) (rs ++ bindings ∷ []) (ts ++ bindings2 ∷ []) cells
