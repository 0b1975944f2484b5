-- What a write leaves of where the names of the source are: an unshared name is written in the source and in the target, and a shared one
-- in the source and in its cell.
use Rattle.std.specs.Prelude.{◌≡◌, true, false, List, Option, Some, slice_get, slice_set, ℕ}
use Rattle.es_value.specs.declared.value.Value.{Value}
use Rattle.core_ast.specs.declared.parts.Var.{Var}
use Rattle.core_meaning.specs.Marks.{Mark, value_in, value_or_empty}
use Rattle.core_meaning.specs.Names.{binding_in, record_at}
use Rattle.core_meaning.specs.State.{Binding, CoreValue, EnvironmentRecord}
use Rattle.pass_rules.specs.Cells.{is_shared}
use Rattle.cells_keep_runs.specs.Memory.{IsNewest, Memory, Seat, Seats, cell_found, is_scoped}
use Rattle.cells_keep_runs.specs.Places.{written}

-- the record of the target that has an unshared name of this record of the source
pub data PlaceOf (owners : List ℕ) (seats : Seats) (n : ℕ) (x : Var) (m : ℕ) : Type 0 where
  at_image : (seat : Seat) → slice_get seats n ≡ Some seat → seat.image ≡ Some m → is_scoped seat x ≡ false
      → PlaceOf owners seats n x m
  at_home : (seat : Seat) → slice_get seats n ≡ Some seat → seat.home ≡ m → is_scoped seat x ≡ true → is_shared owners x ≡ false
      → IsNewest seats n x → PlaceOf owners seats n x m

abbrev pub UnsharedAreWritten : Type 0
UnsharedAreWritten = (owners : List ℕ) (seats : Seats) (rs ts : List (EnvironmentRecord Mark)) (cells : List (Option Value)) (n m : ℕ) (x : Var) (v : CoreValue Mark) (b : Binding Mark)
    → Memory owners seats rs ts cells → binding_in (record_at rs n) x ≡ Some b → PlaceOf owners seats n x m
    → Memory owners seats (written n x v rs) (written m x v ts) cells

-- the cell of a shared name of this record
pub record CellOf (owners : List ℕ) (seats : Seats) (n : ℕ) (x : Var) (k : ℕ) : Type 0 where
  pub seat : Seat
  pub seated : slice_get seats n ≡ Some seat
  pub scoped : is_scoped seat x ≡ true
  pub shared : is_shared owners x ≡ true
  pub found : cell_found seat.cells x ≡ Some k

-- what a cell can hold: a value of the program, or none
abbrev pub IsHeld : CoreValue Mark → Type 0
IsHeld v = v ≡ value_or_empty (value_in v)

abbrev pub SharedAreWritten : Type 0
SharedAreWritten = (owners : List ℕ) (seats : Seats) (rs ts : List (EnvironmentRecord Mark)) (cells : List (Option Value)) (n k : ℕ) (x : Var) (v : CoreValue Mark) (b : Binding Mark)
    → Memory owners seats rs ts cells → binding_in (record_at rs n) x ≡ Some b → CellOf owners seats n x k → IsHeld v
    → Memory owners seats (written n x v rs) ts (slice_set cells k (value_in v))
