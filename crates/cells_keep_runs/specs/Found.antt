-- How names are found along an environment, by the names that each record binds: in the activation that they are of, and from everywhere else. In an
-- activation the newest record counts; a name that is found from elsewhere has a cell that a closure keeps, is no scope's, or comes once in its
-- activation.
use Rattle.std.specs.Prelude.{◌≡◌, ◌⊎◌, Bool, true, false, List, [], ◌∷◌, ◌++◌, Option, None, Some, if◌then◌else◌, length, map, slice_get, slice_index_or, ℕ}
use Rattle.core_ast.specs.declared.parts.FunctionId.{FunctionId}
use Rattle.core_ast.specs.declared.parts.Var.{Var}
use Rattle.core_meaning.specs.Marks.{CoreState, KeptCell, Mark}
use Rattle.core_meaning.specs.Names.{Resolved, resolve}
use Rattle.core_meaning.specs.State.{Binding, Environment, EnvironmentRecord}
use Rattle.pass_rules.specs.Cells.{is_among, is_shared}
use Rattle.cells_keep_runs.specs.Closed.{SeenShared}
use Rattle.cells_keep_runs.specs.Memory.{IsNewest, Keeps, Seat, Seats, cell_along, cell_found, is_scoped, kept_along}
use Rattle.cells_keep_runs.specs.Places.{Below}
use Rattle.cells_keep_runs.specs.Seen.{Sees, target_at}
use Rattle.cells_keep_runs.specs.Stays.{with_call}
use Rattle.cells_keep_runs.specs.Writes.{CellOf}

-- ---- the names that records bind, by the number of the record

abbrev pub Bound : Type 0
Bound = List (List Var)

abbrev pub bound_at : Bound → ℕ → List Var
bound_at bound n = slice_index_or bound n []

abbrev pub if_bound : Bool → ℕ → Option ℕ → Option ℕ
if_bound b n outer = if b then Some n else outer

-- the first record that binds the name
abbrev pub first_at : Bound → Environment → Var → Option ℕ
first_at bound [] x = None
first_at bound (n ∷ e) x = if_bound (is_among x (bound_at bound n)) n (first_at bound e x)

abbrev pub names_in : EnvironmentRecord Mark → List Var
names_in bs = map (λ (b : Binding Mark). b.var) bs

abbrev pub names_of : List (EnvironmentRecord Mark) → Bound
names_of rs = map names_in rs

-- A name is found there.
pub record FoundIn (s : CoreState) (n : ℕ) (x : Var) : Type 0 where
  pub found : Resolved Mark
  pub is : resolve s x ≡ Some found
  pub at : found.at ≡ n

abbrev pub FirstAreFound : Type 0
FirstAreFound = (s : CoreState) (n : ℕ) (x : Var) → first_at (names_of s.records) s.context.environment x ≡ Some n → FoundIn s n x

-- and what is found is the first
abbrev pub FoundAreFirst : Type 0
FoundAreFirst = (s : CoreState) (x : Var) (found : Resolved Mark) → resolve s x ≡ Some found
    → first_at (names_of s.records) s.context.environment x ≡ Some found.at

-- ---- how a name is found

-- both machines find it
pub record FoundAt (owners : List ℕ) (seats : Seats) (bound : Bound) (e : Environment) (x : Var) : Type 0 where
  pub number : ℕ
  pub here : Seat
  pub first : first_at bound e x ≡ Some number
  pub seated : slice_get seats number ≡ Some here
  pub sees : Sees owners seats e number x

-- they go on to find it from wherever it is found, if the names that come once do
pub data Lasting (owners : List ℕ) (once : Var → Bool) (seats : Seats) (e : Environment) (n : ℕ) (here : Seat) (x : Var) : Type 0 where
  lasts_unscoped : (m : ℕ) → is_shared owners x ≡ false → here.image ≡ Some m → is_scoped here x ≡ false → target_at seats e x ≡ Some m
      → Lasting owners once seats e n here x
  lasts_once : is_shared owners x ≡ false → is_scoped here x ≡ true → once x ≡ true → IsNewest seats n x → target_at seats e x ≡ Some here.home
      → Lasting owners once seats e n here x
  lasts_kept : (k j i : ℕ) → CellOf owners seats n x k → cell_along seats e x ≡ k → Keeps seats j i x k → target_at seats e x ≡ Some i
      → Lasting owners once seats e n here x

pub record LastsAt (owners : List ℕ) (once : Var → Bool) (seats : Seats) (bound : Bound) (e : Environment) (x : Var) : Type 0 where
  pub number : ℕ
  pub here : Seat
  pub first : first_at bound e x ≡ Some number
  pub seated : slice_get seats number ≡ Some here
  pub lasting : Lasting owners once seats e number here x

-- or the closures of the function that are made there keep its cell
pub record KeptAt (owners : List ℕ) (seats : Seats) (bound : Bound) (e : Environment) (f : FunctionId) (x : Var) : Type 0 where
  pub number : ℕ
  pub cell : ℕ
  pub first : first_at bound e x ≡ Some number
  pub cells : CellOf owners seats number x cell
  pub along : cell_along seats e x ≡ cell
  pub kept : kept_along seats e f x ≡ true

abbrev pub ClosedAt : List ℕ → (Var → Bool) → Seats → Bound → Environment → FunctionId → Var → Type 0
ClosedAt owners once seats bound e f x = LastsAt owners once seats bound e x ⊎ KeptAt owners seats bound e f x

-- ---- what both find at a closure's making

abbrev pub LastingIsFound : Type 0
LastingIsFound = (owners : List ℕ) (once : Var → Bool) (seats : Seats) (bound : Bound) (e : Environment) (x : Var)
    → LastsAt owners once seats bound e x → FoundAt owners seats bound e x

-- A shared name that is found has its cell there.
abbrev pub SharedIsKept : Type 0
SharedIsKept = (owners : List ℕ) (seats : Seats) (bound : Bound) (e : Environment) (f : FunctionId) (x : Var)
    → FoundAt owners seats bound e x → is_shared owners x ≡ true → kept_along seats e f x ≡ true → KeptAt owners seats bound e f x

-- ---- with one record more

-- Unless the new one is a newer one of the same home with the name, it is still found;
abbrev pub FoundStays : Type 0
FoundStays = (owners : List ℕ) (seats : Seats) (bound : Bound) (new : Seat) (names : List Var) (e : Environment) (x : Var)
    → Below (length seats) e → length seats ≡ length bound → (f : FoundAt owners seats bound e x)
    → (new.home ≡ f.here.home → is_scoped new x ≡ false)
    → FoundAt owners (seats ++ new ∷ []) (bound ++ names ∷ []) e x

-- of a name that lasts that is asked where it comes once;
abbrev pub LastingStays : Type 0
LastingStays = (owners : List ℕ) (once : Var → Bool) (seats : Seats) (bound : Bound) (new : Seat) (names : List Var) (e : Environment) (x : Var)
    → Below (length seats) e → length seats ≡ length bound → (f : LastsAt owners once seats bound e x)
    → (is_shared owners x ≡ false → once x ≡ true → is_scoped f.here x ≡ true → new.home ≡ f.here.home → is_scoped new x ≡ false)
    → LastsAt owners once (seats ++ new ∷ []) (bound ++ names ∷ []) e x

-- and a cell that is kept stays.
abbrev pub KeptStays : Type 0
KeptStays = (owners : List ℕ) (seats : Seats) (bound : Bound) (new : Seat) (names : List Var) (e : Environment) (f : FunctionId) (x : Var)
    → Below (length seats) e → length seats ≡ length bound → KeptAt owners seats bound e f x
    → KeptAt owners (seats ++ new ∷ []) (bound ++ names ∷ []) e f x

-- ---- within a record that hasn't the name

pub record Passes (seats : Seats) (bound : Bound) (n : ℕ) (x : Var) : Type 0 where
  pub seat : Seat
  pub seated : slice_get seats n ≡ Some seat
  pub unbound : is_among x (bound_at bound n) ≡ false
  pub unnamed : is_among x seat.has ≡ false
  pub uncelled : cell_found seat.cells x ≡ None

abbrev pub FoundWithin : Type 0
FoundWithin = (owners : List ℕ) (seats : Seats) (bound : Bound) (n : ℕ) (e : Environment) (x : Var)
    → Passes seats bound n x → FoundAt owners seats bound e x → FoundAt owners seats bound (n ∷ e) x

abbrev pub LastsWithin : Type 0
LastsWithin = (owners : List ℕ) (once : Var → Bool) (seats : Seats) (bound : Bound) (n : ℕ) (e : Environment) (x : Var)
    → Passes seats bound n x → LastsAt owners once seats bound e x → LastsAt owners once seats bound (n ∷ e) x

-- ---- in a call: the names whose cells its closure keeps

abbrev pub KeptInCalls : Type 0
KeptInCalls = (owners : List ℕ) (once : Var → Bool) (seats : Seats) (bound : Bound) (e : Environment) (f : FunctionId) (x : Var) (i k : ℕ)
    (locals has names : List Var) (kept : List KeptCell)
    → Below (length seats) e → length seats ≡ length bound → (c : KeptAt owners seats bound e f x)
    → cell_found kept x ≡ Some c.cell → is_among x has ≡ true → is_among x names ≡ false
    → LastsAt owners once (with_call seats i locals has kept) (bound ++ names ∷ []) (length seats ∷ e) x

-- ---- what is asked of the source's configuration

abbrev pub FoundIsSeen : Type 0
FoundIsSeen = (owners : List ℕ) (seats : Seats) (s : CoreState) (x : Var)
    → FoundAt owners seats (names_of s.records) s.context.environment x → is_shared owners x ≡ true → SeenShared owners seats s x

abbrev pub FoundIsReady : Type 0
FoundIsReady = (owners : List ℕ) (seats : Seats) (s : CoreState) (x : Var) (r : Resolved Mark)
    → FoundAt owners seats (names_of s.records) s.context.environment x → resolve s x ≡ Some r
    → Sees owners seats s.context.environment r.at x

pub record NamesAreFoundOn : Type 0 where
  pub first_found : FirstAreFound
  pub found_first : FoundAreFirst
  pub lasting_found : LastingIsFound
  pub shared_kept : SharedIsKept
  pub found_stays : FoundStays
  pub lasting_stays : LastingStays
  pub kept_stays : KeptStays
  pub found_within : FoundWithin
  pub lasts_within : LastsWithin
  pub kept_in_calls : KeptInCalls
  pub found_seen : FoundIsSeen
  pub found_ready : FoundIsReady
