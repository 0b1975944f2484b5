-- What is round code, along an environment: each name of the scopes round it is found; the names of its function's scopes that aren't round it are bound
-- nowhere along the environment, and are locals behind the pass where the target finds them; and the innermost record is that of the innermost scope.
use Rattle.std.specs.Prelude.{◌≡◌, ◌≤◌, ◌⊎◌, Bool, true, false, if◌then◌else◌, nat_lt, List, [], ◌∷◌, ◌++◌, Option, None, Some, length, map, slice_get, ℕ}
use Rattle.core_ast.specs.declared.parts.FunctionId.{FunctionId}
use Rattle.core_ast.specs.declared.parts.ScopedName.{ScopedName}
use Rattle.core_ast.specs.declared.parts.Var.{Var}
use Rattle.core_meaning.specs.Marks.{CoreState, Mark}
use Rattle.core_meaning.specs.Names.{record_at}
use Rattle.core_meaning.specs.State.{Environment, EnvironmentRecord}
use Rattle.pass_rules.specs.Cells.{is_among, is_shared}
use Rattle.pass_rules.specs.Scopes.{vars}
use Rattle.cells_keep_runs.specs.Copied.{Copyable, copied_seats}
use Rattle.cells_keep_runs.specs.Entered.{entered_seats, reset_of}
use Rattle.cells_keep_runs.specs.Found.{Bound, FoundAt, LastsAt, bound_at, first_at, names_in, names_of}
use Rattle.cells_keep_runs.specs.Handled.{handled_seats, with_own_image}
use Rattle.cells_keep_runs.specs.MayBeFlattened.{Round, Whole, copy_may, in_handler, parameter_may, scope_may, within}
use Rattle.cells_keep_runs.specs.Memory.{IsNewest, Keeping, Seat, Seats, cell_found, is_scoped, kept_along}
use Rattle.cells_keep_runs.specs.Places.{Below}
use Rattle.cells_keep_runs.specs.Ready.{AllMarked, HandlerReady, ScopeReady}
use Rattle.cells_keep_runs.specs.Renewed.{AllDiffer, scope_seat}
use Rattle.cells_keep_runs.specs.Seen.{target_at}

-- the name comes once in its activation, if it isn't shared: a function further in mentions it
abbrev pub once : Whole → Var → Bool
once whole x = is_among x whole.captured

-- the home of the innermost record, and so of the activation
abbrev pub home_in : Option Seat → Option ℕ
home_in None = None
home_in (Some seat) = Some seat.home

abbrev pub home_at : Seats → Environment → Option ℕ
home_at seats [] = None
home_at seats (n ∷ e) = home_in (slice_get seats n)

-- the records of modules are of one activation
abbrev pub grouped : Whole → ℕ → ℕ
grouped whole h = if nat_lt h whole.modules then 0 else h

abbrev pub grouped_in : Whole → Option ℕ → Option ℕ
grouped_in whole None = None
grouped_in whole (Some h) = Some (grouped whole h)

abbrev pub activation_at : Whole → Seats → Environment → Option ℕ
activation_at whole seats e = grouped_in whole (home_at seats e)

abbrev pub IsAlong : ℕ → Environment → Type 0
IsAlong n [] = ⊥
IsAlong n (m ∷ e) = (m ≡ n) ⊎ IsAlong n e

-- ---- names

-- a name of a scope of the same activation, that is shared or that no function further in mentions
pub record OwnAt (whole : Whole) (seats : Seats) (bound : Bound) (e : Environment) (here : List Var) (x : Var) : Type 0 where
  pub among : is_among x here ≡ true
  pub found : FoundAt whole.owners seats bound e x
  pub home : home_at seats e ≡ Some found.here.home
  pub loose : (is_shared whole.owners x ≡ true) ⊎ (once whole x ≡ false)

abbrev pub NameAt : Whole → Seats → Bound → Environment → List Var → Var → Type 0
NameAt whole seats bound e here x = LastsAt whole.owners (once whole) seats bound e x ⊎ OwnAt whole seats bound e here x

-- the first record of the activation, or of the module, which has an image
pub record BaseAt (seats : Seats) (e : Environment) : Type 0 where
  pub number : ℕ
  pub seat : Seat
  pub home : ℕ
  pub along : IsAlong number e
  pub seated : slice_get seats number ≡ Some seat
  pub image : seat.image ≡ Some home

-- a local there, behind the pass
pub record LocalAt (seats : Seats) (e : Environment) (seat : Seat) (home : ℕ) (x : Var) : Type 0 where
  pub target : target_at seats e x ≡ Some home
  pub local : is_among x seat.locals ≡ true
  pub unkept : cell_found seat.cells x ≡ None

-- the innermost record is that of a scope with these names, and the newest of them
pub record ScopeAt (seats : Seats) (bound : Bound) (e : Environment) (here names : List Var) : Type 0 where
  pub number : ℕ
  pub outer : Environment
  pub seat : Seat
  pub is : e ≡ number ∷ outer
  pub seated : slice_get seats number ≡ Some seat
  pub scope : seat.image ≡ None
  pub scoped : seat.scoped ≡ names
  pub bound_is : bound_at bound number ≡ names
  pub unnamed : seat.has ≡ []
  pub uncelled : (x : Var) → is_among x names ≡ false → cell_found seat.cells x ≡ None
  pub unkeeping : (f : FunctionId) (x : Var) → is_among x (seat.keeps f) ≡ false
  pub own : (x : Var) → is_among x names ≡ true → is_among x here ≡ true
  pub newest : (x : Var) → is_among x names ≡ true → IsNewest seats number x
  pub found : (x : Var) → is_among x names ≡ true → target_at seats e x ≡ Some seat.home

abbrev pub InnermostAt : Seats → Bound → Environment → List Var → Option (List ScopedName) → Type 0
InnermostAt seats bound e here None = Unit {0}
InnermostAt seats bound e here (Some names) = ScopeAt seats bound e here (vars names)

-- ---- what is round code

-- `declarer` gives the number of what declares a name, and `kept` the names whose cells the closures of a function keep.
pub record RoundAt (whole : Whole) (kept : Keeping) (declarer : Var → ℕ) (seats : Seats) (bound : Bound) (e : Environment) (r : Round) : Type 0 where
  pub names : (x : Var) → is_among x r.names ≡ true → NameAt whole seats bound e r.here x
  pub base : BaseAt seats e
  pub activation : activation_at whole seats e ≡ Some (grouped whole base.home)
  pub at_home : (x : Var) → is_among x r.here ≡ true → home_at seats e ≡ Some base.home
  pub locals : (x : Var) → is_among x r.locals ≡ true → LocalAt seats e base.seat base.home x
  pub unbound : (x : Var) → is_among x r.locals ≡ true → is_among x r.names ≡ false → first_at bound e x ≡ None
  pub innermost : InnermostAt seats bound e r.here r.innermost
  pub above : (x : Var) (n : ℕ) → first_at bound e x ≡ Some n → r.functions ≤ declarer x
  pub declared : (x : Var) → is_among x r.locals ≡ true → r.functions ≤ declarer x
  pub keeps : (f : FunctionId) (x : Var) → is_among x (kept f) ≡ true → kept_along seats e f x ≡ true

-- ---- with one record more

-- The new record has no name of a scope that is found in the same activation, and none that comes once and was there.
pub record Away (whole : Whole) (seats : Seats) (bound : Bound) (new : Seat) (e : Environment) : Type 0 where
  pub own : home_at seats e ≡ Some new.home → (x : Var) (n : ℕ) → first_at bound e x ≡ Some n → is_scoped new x ≡ false
  pub first : (x : Var) (n : ℕ) (here : Seat) → is_shared whole.owners x ≡ false → once whole x ≡ true → slice_get seats n ≡ Some here → is_scoped here x ≡ true → new.home ≡ here.home
      → is_scoped new x ≡ false

abbrev pub RoundsStay : Type 0
RoundsStay = (whole : Whole) (kept : Keeping) (declarer : Var → ℕ) (seats : Seats) (bound : Bound) (new : Seat) (names : List Var) (e : Environment) (r : Round)
    → Below (length seats) e → length seats ≡ length bound → Away whole seats bound new e
    → RoundAt whole kept declarer seats bound e r → RoundAt whole kept declarer (seats ++ new ∷ []) (bound ++ names ∷ []) e r

-- the first environment is the second, or further out
abbrev pub IsTail : Environment → Environment → Type 0
IsTail e [] = e ≡ []
IsTail e (n ∷ o) = (e ≡ n ∷ o) ⊎ IsTail e o

-- What isn't bound along an environment isn't further out: so a scope's names are none that are found in its activation further out.
abbrev pub TailsAreUnbound : Type 0
TailsAreUnbound = (bound : Bound) (e e2 : Environment) (x : Var) → IsTail e e2 → first_at bound e2 x ≡ None → first_at bound e x ≡ None

-- ---- a scope that is entered

abbrev pub new_seat : ℕ → List ScopedName → ℕ → Seat
new_seat h names k = scope_seat h (vars names) k (map reset_of names)

-- What is round a scope has it ready,
abbrev pub ScopesAreReady : Type 0
ScopesAreReady = (whole : Whole) (kept : Keeping) (declarer : Var → ℕ) (seats : Seats) (s : CoreState) (names : List ScopedName) (r : Round)
    → (at : RoundAt whole kept declarer seats (names_of s.records) s.context.environment r) → scope_may whole names r ≡ true
    → AllDiffer (map reset_of names) → AllMarked whole.owners names
    → (ready : ScopeReady whole.owners seats s names) × (ready.home ≡ at.base.home)

-- and is round its statements too.
abbrev pub ScopesAreRound : Type 0
ScopesAreRound = (whole : Whole) (kept : Keeping) (declarer : Var → ℕ) (seats : Seats) (s : CoreState) (names : List ScopedName) (k : ℕ) (r : Round)
    → (ready : ScopeReady whole.owners seats s names) → Below (length seats) s.context.environment → length seats ≡ length s.records
    → (at : RoundAt whole kept declarer seats (names_of s.records) s.context.environment r) → scope_may whole names r ≡ true → ready.home ≡ at.base.home
    → Away whole seats (names_of s.records) (new_seat ready.home names k) s.context.environment
    → RoundAt whole kept declarer (entered_seats seats ready.home names k) (names_of s.records ++ vars names ∷ []) (length seats ∷ s.context.environment) (within names r)

-- ---- a handler that takes a throw

abbrev pub handler_may : Whole → Var → List ScopedName → Round → Type 0
handler_may whole x names r = (parameter_may whole x names r ≡ true) × (scope_may whole names r ≡ true)

abbrev pub HandlersAreRound : Type 0
HandlersAreRound = (whole : Whole) (kept : Keeping) (declarer : Var → ℕ) (seats : Seats) (s : CoreState) (x : Var) (names : List ScopedName) (i k : ℕ) (r : Round)
    → (ready : HandlerReady whole.owners seats s x names) → Below (length seats) s.context.environment → length seats ≡ length s.records
    → (at : RoundAt whole kept declarer seats (names_of s.records) s.context.environment r) → handler_may whole x names r → ready.pattern.home ≡ at.base.home
    → r.functions ≤ declarer x
    → Away whole seats (names_of s.records) (with_own_image i x (new_seat ready.pattern.home names k)) s.context.environment
    → RoundAt whole kept declarer (handled_seats seats i x ready.pattern.home names k) (names_of s.records ++ (x ∷ vars names) ∷ []) (length seats ∷ s.context.environment) (in_handler x names r)

-- ---- a copy of the innermost record

-- It may be copied, and what is round code there is round it along the copy.
abbrev pub CopiesAreRound : Type 0
CopiesAreRound = (whole : Whole) (kept : Keeping) (declarer : Var → ℕ) (seats : Seats) (rs : List (EnvironmentRecord Mark)) (n : ℕ) (o : Environment)
    (names : List ScopedName) (xs : List Var) (k : ℕ) (r : Round)
    → RoundAt whole kept declarer seats (names_of rs) (n ∷ o) r → r.innermost ≡ Some names → copy_may whole xs (Some names) ≡ true
    → Below (length seats) o → length seats ≡ length rs
    → (c : Copyable whole.owners seats rs (n ∷ o) n xs)
    × RoundAt whole kept declarer (copied_seats whole.owners seats c.seat (record_at rs n) xs k) (names_of rs ++ names_in (record_at rs n) ∷ []) (length seats ∷ o) r

pub record RoundsGoOn : Type 0 where
  pub tails : TailsAreUnbound
  pub stay : RoundsStay
  pub ready : ScopesAreReady
  pub scopes : ScopesAreRound
  pub handlers : HandlersAreRound
  pub copies : CopiesAreRound
