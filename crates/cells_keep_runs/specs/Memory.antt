-- What stands for the names of the source's records behind the flattening of scopes: where each is, and that no two are in one place.
--
-- A record of a call, of a module or of a handler has an image, a record of the target. That of a scope, or a copy of one, has none:
-- its names stand in the first record of its activation, its home.
--
-- A shared name of a scope is a cell, one for each record that has it. The home has the cell of the newest record, and the record of a
-- call has those that its closure keeps. An unshared name stands in the home as the newest record has it: no code looks at an older one,
-- if a name that comes anew in each turn of a loop and that a function mentions is a shared one.
use Rattle.std.specs.Prelude.{◌≡◌, ◌≤◌, ◌<◌, Bool, true, false, ◌||◌, List, [], ◌∷◌, Option, None, Some, if◌then◌else◌, is_some, length, nat_eq, slice_get, ℕ}
use Rattle.es_value.specs.declared.value.Value.{Value}
use Rattle.core_ast.specs.declared.parts.FunctionId.{FunctionId}
use Rattle.core_ast.specs.declared.parts.Var.{Var}
use Rattle.core_meaning.specs.Marks.{Cell, KeptCell, Mark, value_or_empty}
use Rattle.core_meaning.specs.Names.{binding_in, record_at}
use Rattle.core_meaning.specs.State.{Binding, CoreValue, Environment, EnvironmentRecord, Extra}
use Rattle.pass_rules.specs.Cells.{is_among, is_shared}

-- ---- records

-- the names whose cells the closures of a function keep behind the pass
abbrev pub Keeping : Type 0
Keeping = FunctionId → List Var

abbrev pub keeps_none : Keeping
keeps_none f = []

-- What stands for a record of the source: its image, if it has one, its home, the names of it that stand there, and the cells of its
-- shared names, or those that its closure keeps; of its image all names, and those that scopes reset; and of that of a module the names
-- whose cells the closures keep that are made along it.
pub record Seat : Type 0 where
  pub image : Option ℕ
  pub home : ℕ
  pub scoped : List Var
  pub cells : List KeptCell
  pub has : List Var
  pub locals : List Var
  pub keeps : Keeping

-- by the number of the record
abbrev pub Seats : Type 0
Seats = List Seat

-- the name is one of a scope, or of a handler's pattern
abbrev pub is_scoped : Seat → Var → Bool
is_scoped seat x = is_among x seat.scoped

abbrev pub image_in : Option Seat → Option ℕ
image_in None = None
image_in (Some seat) = seat.image

abbrev pub with_image : Option ℕ → Environment → Environment
with_image None e = e
with_image (Some m) e = m ∷ e

abbrev pub images : Seats → Environment → Environment
images seats [] = []
images seats (n ∷ e) = with_image (image_in (slice_get seats n)) (images seats e)

-- the record is that of a scope, or a copy
abbrev pub IsScope : Seats → ℕ → Type 0
IsScope seats n = (seat : Seat) × (slice_get seats n ≡ Some seat) × (seat.image ≡ None)

abbrev pub cell_found : List KeptCell → Var → Option ℕ
cell_found [] x = None
cell_found (k ∷ ks) x = if nat_eq k.var.0 x.0 then Some k.cell else cell_found ks x

abbrev pub cells_in : Option Seat → List KeptCell
cells_in None = []
cells_in (Some seat) = seat.cells

abbrev pub or_outer : Option ℕ → ℕ → ℕ
or_outer None n = n
or_outer (Some m) n = m

-- the cell of a shared name, as it is seen along an environment
abbrev pub cell_along : Seats → Environment → Var → ℕ
cell_along seats [] x = 0
cell_along seats (n ∷ e) x = or_outer (cell_found (cells_in (slice_get seats n)) x) (cell_along seats e x)

abbrev pub keeping_in : Option Seat → Keeping
keeping_in None = keeps_none
keeping_in (Some seat) = seat.keeps

-- the closures of the function keep the cell of the name, if they are made along this environment
abbrev pub kept_along : Seats → Environment → FunctionId → Var → Bool
kept_along seats [] f x = false
kept_along seats (n ∷ e) f x = is_among x (keeping_in (slice_get seats n) f) || kept_along seats e f x

-- ---- names

-- a binding of the source, and that of the target, which has the same value
pub record Bindings (a b : Binding Mark) : Type 0 where
  pub value : b.value ≡ a.value
  pub mutable : b.mutable ≡ a.mutable

-- no later record of the same home has the name
abbrev pub IsNewest : Seats → ℕ → Var → Type 0
IsNewest seats n x = (m : ℕ) (here there : Seat) → slice_get seats n ≡ Some here → slice_get seats m ≡ Some there
    → there.home ≡ here.home → is_scoped there x ≡ true → m ≤ n

-- the record with this number has the name with this value, and it may be written
pub record HasOpen (records : List (EnvironmentRecord Mark)) (h : ℕ) (x : Var) (v : CoreValue Mark) : Type 0 where
  pub binding : Binding Mark
  pub there : binding_in (record_at records h) x ≡ Some binding
  pub value : binding.value ≡ v
  pub mutable : binding.mutable ≡ true

-- the record has the name, and it may be written
pub record OpenAt (records : List (EnvironmentRecord Mark)) (h : ℕ) (x : Var) : Type 0 where
  pub binding : Binding Mark
  pub there : binding_in (record_at records h) x ≡ Some binding
  pub mutable : binding.mutable ≡ true

-- the record has the name with this cell
pub record CellAt (records : List (EnvironmentRecord Mark)) (h : ℕ) (x : Var) (k : ℕ) : Type 0 where
  pub binding : Binding Mark
  pub there : binding_in (record_at records h) x ≡ Some binding
  pub value : binding.value ≡ Extra (Cell k)

-- the record with this image keeps the cell of a name that isn't its own
pub record Keeps (seats : Seats) (n i : ℕ) (x : Var) (k : ℕ) : Type 0 where
  pub seat : Seat
  pub seated : slice_get seats n ≡ Some seat
  pub image : seat.image ≡ Some i
  pub plain : is_scoped seat x ≡ false
  pub found : cell_found seat.cells x ≡ Some k

-- What the target has, in these records and cells, of a name of this record: its image has it, or it is a shared name of a scope and a
-- cell has its value, or it is an unshared one and the home has it while no newer record does.
pub data Names (owners : List ℕ) (seats : Seats) (records : List (EnvironmentRecord Mark)) (cells : List (Option Value)) (n : ℕ) (x : Var) (b : Binding Mark) : Type 0 where
  in_image : (seat : Seat) (m : ℕ) (c : Binding Mark) → slice_get seats n ≡ Some seat → seat.image ≡ Some m
      → is_scoped seat x ≡ false → binding_in (record_at records m) x ≡ Some c → Bindings b c
      → Names owners seats records cells n x b
  in_cell : (seat : Seat) (k : ℕ) (v : Option Value) → slice_get seats n ≡ Some seat
      → is_scoped seat x ≡ true → is_shared owners x ≡ true → cell_found seat.cells x ≡ Some k
      → slice_get cells k ≡ Some v → b.value ≡ value_or_empty v
      → (IsNewest seats n x → HasOpen records seat.home x (Extra (Cell k)))
      → Names owners seats records cells n x b
  in_home : (seat : Seat) → slice_get seats n ≡ Some seat → is_scoped seat x ≡ true → is_shared owners x ≡ false
      → (IsNewest seats n x → HasOpen records seat.home x b.value)
      → Names owners seats records cells n x b

-- ---- all of it

-- The records of the source, and those of the target with its cells. Each name of the source is where it should be, no two records have
-- one image, no two shared names one cell, no image has in the source a name for which it is the home, and a cell that is kept is that of
-- neither.
pub record Memory (owners : List ℕ) (seats : Seats) (rs ts : List (EnvironmentRecord Mark)) (cells : List (Option Value)) : Type 0 where
  pub seated : length seats ≡ length rs
  pub names : (n : ℕ) (x : Var) (b : Binding Mark) → binding_in (record_at rs n) x ≡ Some b → Names owners seats ts cells n x b
  pub images_made : (n i : ℕ) (here : Seat) → slice_get seats n ≡ Some here → here.image ≡ Some i → i < length ts
  pub homes_made : (n : ℕ) (here : Seat) → slice_get seats n ≡ Some here → here.home < length ts
  pub cells_made : (n k : ℕ) (here : Seat) (x : Var) → slice_get seats n ≡ Some here → cell_found here.cells x ≡ Some k → k < length cells
  pub images_apart : (n m i : ℕ) (here there : Seat) → slice_get seats n ≡ Some here → slice_get seats m ≡ Some there
      → here.image ≡ Some i → there.image ≡ Some i → n ≡ m
  pub homes_apart : (n m : ℕ) (here there : Seat) (x : Var) → slice_get seats n ≡ Some here → slice_get seats m ≡ Some there
      → here.image ≡ Some there.home → is_scoped there x ≡ true → binding_in (record_at rs n) x ≡ None
  pub cells_apart : (n m k : ℕ) (here there : Seat) (x y : Var) → slice_get seats n ≡ Some here → slice_get seats m ≡ Some there
      → is_scoped here x ≡ true → is_scoped there y ≡ true
      → cell_found here.cells x ≡ Some k → cell_found there.cells y ≡ Some k → (n ≡ m) × (x.0 ≡ y.0)
  pub shapes : (n i : ℕ) (here : Seat) (x : Var) → slice_get seats n ≡ Some here → here.image ≡ Some i
      → is_some (binding_in (record_at ts i) x) ≡ is_among x here.has
  pub locals_open : (n i : ℕ) (here : Seat) (x : Var) → slice_get seats n ≡ Some here → here.image ≡ Some i
      → is_among x here.locals ≡ true → OpenAt ts i x
  pub kept : (n i k : ℕ) (x : Var) → Keeps seats n i x k → CellAt ts i x k
  pub kept_unbound : (n i k : ℕ) (x : Var) → Keeps seats n i x k → binding_in (record_at rs n) x ≡ None
  pub kept_apart : (n i k m : ℕ) (x : Var) (there : Seat) → Keeps seats n i x k → slice_get seats m ≡ Some there → there.home ≡ i
      → is_scoped there x ≡ false
