-- What stands for a new record of a scope, or for a copy of one: its names are renewed at home, one after the other.
use Rattle.std.specs.Prelude.{◌≡◌, ◌<◌, ◌⊎◌, true, false, List, [], ◌∷◌, ◌++◌, Option, None, Some, length, slice_get, suc, ℕ}
use Rattle.es_value.specs.declared.value.Value.{Value}
use Rattle.core_ast.specs.declared.parts.Var.{Var}
use Rattle.core_meaning.specs.Marks.{Cell, KeptCell, Mark, empty, value_or_empty}
use Rattle.core_meaning.specs.Names.{binding_in, record_at}
use Rattle.core_meaning.specs.State.{Binding, EnvironmentRecord, Extra}
use Rattle.pass_rules.specs.Cells.{is_among, is_shared}
use Rattle.cells_keep_runs.specs.Memory.{HasOpen, Keeps, Memory, OpenAt, Seat, Seats, keeps_none}
use Rattle.cells_keep_runs.specs.Places.{written}

-- what a name is given: a cell of its own with this content, or no value
pub data Renewal : Type 0 where
  OwnCell : Var → Option Value → Renewal
  NoValue : Var → Renewal

abbrev pub renewed_name : Renewal → Var
renewed_name (OwnCell x v) = x
renewed_name (NoValue x) = x

-- the records of the target, and its cells
pub record Held : Type 0 where
  pub records : List (EnvironmentRecord Mark)
  pub cells : List (Option Value)

abbrev pub renewed_by : ℕ → Renewal → Held → Held
renewed_by h (OwnCell x v) m =
    record { records = written h x (Extra (Cell (length m.cells))) m.records; cells = m.cells ++ v ∷ [] }
renewed_by h (NoValue x) m = record { records = written h x empty m.records; cells = m.cells }

abbrev pub all_renewed : ℕ → List Renewal → Held → Held
all_renewed h [] m = m
all_renewed h (r ∷ rs) m = all_renewed h rs (renewed_by h r m)

-- the cells that are made, from this number on
abbrev pub cells_from : ℕ → List Renewal → List KeptCell
cells_from k [] = []
cells_from k (OwnCell x v ∷ rs) = record { var = x; cell = k } ∷ cells_from (suc k) rs
cells_from k (NoValue x ∷ rs) = cells_from k rs

abbrev pub ApartFrom : Var → List Renewal → Type 0
ApartFrom x [] = Unit {0}
ApartFrom x (r ∷ rs) = ((renewed_name r).0 ≡ x.0 → ⊥) × ApartFrom x rs

abbrev pub AllDiffer : List Renewal → Type 0
AllDiffer [] = Unit {0}
AllDiffer (r ∷ rs) = ApartFrom (renewed_name r) rs × AllDiffer rs

abbrev pub Among : Renewal → List Renewal → Type 0
Among r [] = ⊥
Among r (q ∷ rs) = (q ≡ r) ⊎ Among r rs

-- each is one of these names, and the home has it
abbrev pub AllNamed : List (EnvironmentRecord Mark) → ℕ → List Var → List Renewal → Type 0
AllNamed ts h names [] = Unit {0}
AllNamed ts h names (r ∷ rs) = (is_among (renewed_name r) names ≡ true) × OpenAt ts h (renewed_name r) × AllNamed ts h names rs

-- What a name of the new record has: that of its own cell, no value, or what the home has already.
pub data Gets (owners : List ℕ) (ts : List (EnvironmentRecord Mark)) (h : ℕ) (renewals : List Renewal) (x : Var) (b : Binding Mark) : Type 0 where
  gets_cell : (v : Option Value) → Among (OwnCell x v) renewals → is_shared owners x ≡ true → b.value ≡ value_or_empty v
      → Gets owners ts h renewals x b
  gets_none : Among (NoValue x) renewals → is_shared owners x ≡ false → b.value ≡ empty → Gets owners ts h renewals x b
  stays : ApartFrom x renewals → is_shared owners x ≡ false → HasOpen ts h x b.value → Gets owners ts h renewals x b

-- The new record has these names, each gets its value, they are renewed at this home, and no image has one of them there.
pub record NewScope (owners : List ℕ) (seats : Seats) (rs ts : List (EnvironmentRecord Mark)) (h : ℕ) (names : List Var) (bindings : EnvironmentRecord Mark) (renewals : List Renewal) : Type 0 where
  pub differ : AllDiffer renewals
  pub named : AllNamed ts h names renewals
  pub bound : (x : Var) (b : Binding Mark) → binding_in bindings x ≡ Some b → is_among x names ≡ true
  pub gets : (x : Var) (b : Binding Mark) → binding_in bindings x ≡ Some b → Gets owners ts h renewals x b
  pub home : h < length ts
  pub clear : (n : ℕ) (here : Seat) (x : Var) → slice_get seats n ≡ Some here → here.image ≡ Some h → is_among x names ≡ true
      → binding_in (record_at rs n) x ≡ None
  pub unkept : (n k : ℕ) (x : Var) → Keeps seats n h x k → is_among x names ≡ false

abbrev pub scope_seat : ℕ → List Var → ℕ → List Renewal → Seat
scope_seat h names k renewals = record { image = None; home = h; scoped = names; cells = cells_from k renewals; has = []; locals = []; keeps = keeps_none }

abbrev pub renewed_at : ℕ → List Renewal → List (EnvironmentRecord Mark) → List (Option Value) → Held
renewed_at h renewals ts cells = all_renewed h renewals (record { records = ts; cells = cells })

abbrev pub ScopesAreRemembered : Type 0
ScopesAreRemembered = (owners : List ℕ) (seats : Seats) (rs ts : List (EnvironmentRecord Mark)) (cells : List (Option Value)) (h : ℕ) (names : List Var) (bindings : EnvironmentRecord Mark) (renewals : List Renewal)
    → Memory owners seats rs ts cells → NewScope owners seats rs ts h names bindings renewals
    → Memory owners (seats ++ scope_seat h names (length cells) renewals ∷ []) (rs ++ bindings ∷ [])
    (renewed_at h renewals ts cells).records (renewed_at h renewals ts cells).cells
