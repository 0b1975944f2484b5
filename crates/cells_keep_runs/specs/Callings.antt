-- What is round the statements of a function that is called: its own names, and those further out that it mentions, which its closure was made with.
use Rattle.std.specs.Prelude.{◌≡◌, ◌+◌, ◌≤◌, true, false, List, [], ◌∷◌, ◌++◌, Some, get_or, length, slice_get, suc, ℕ}
use Rattle.core_ast.specs.declared.parts.FunctionId.{FunctionId}
use Rattle.core_ast.specs.declared.parts.Var.{Var}
use Rattle.core_ast.specs.declared.whole.CoreFunction.{CoreFunction}
use Rattle.core_meaning.specs.Marks.{CoreState, KeptCell, Own}
use Rattle.core_meaning.specs.State.{Call, Closure, Environment}
use Rattle.pass_rules.specs.Cells.{is_among, is_shared}
use Rattle.cells_keep_runs.specs.Called.{bindings_of}
use Rattle.cells_keep_runs.specs.Entries.{call_seat}
use Rattle.cells_keep_runs.specs.Found.{Bound, ClosedAt, first_at, names_in}
use Rattle.cells_keep_runs.specs.MayBeFlattened.{Round, Whole, closure_may, function_may, round_of}
use Rattle.cells_keep_runs.specs.Memory.{Keeping, Seat, Seats, cell_along, cell_found, is_scoped, kept_along}
use Rattle.cells_keep_runs.specs.Named.{NamesApart, call_names, own_names, scoped_names}
use Rattle.cells_keep_runs.specs.Places.{Below}
use Rattle.cells_keep_runs.specs.Related.{Closures}
use Rattle.cells_keep_runs.specs.Rounds.{RoundAt, once}

abbrev pub outer_for : Whole → ℕ → List Var
outer_for whole place = get_or whole.outer place []

-- A closure of the function may be made along the environment: what is bound there is declared by what holds it, and the names that it mentions further
-- out are found from wherever it is called.
pub record MakesAt (whole : Whole) (kept : Keeping) (declarer : Var → ℕ) (seats : Seats) (bound : Bound) (e : Environment) (f : FunctionId) : Type 0 where
  pub above : (x : Var) (n : ℕ) → first_at bound e x ≡ Some n → suc f.0 ≤ declarer x
  pub names : (x : Var) → is_among x (outer_for whole f.0) ≡ true → ClosedAt whole.owners (once whole) seats bound e f x
  pub keeps : (g : FunctionId) (x : Var) → is_among x (kept g) ≡ true → kept_along seats e g x ≡ true

-- the names of a call's record, and the cells that its closure keeps behind the pass
pub record Calls1 (whole : Whole) (declarer : Var → ℕ) (seats : Seats) (e : Environment) (f : FunctionId) (function : CoreFunction) (names : List Var) (cells : List KeptCell) : Type 0 where
  pub named : (x : Var) → is_among x names ≡ is_among x (own_names function)
  pub cells_along : (x : Var) (k : ℕ) → cell_found cells x ≡ Some k → cell_along seats e x ≡ k
  pub cells_shared : (x : Var) (k : ℕ) → cell_found cells x ≡ Some k → is_shared whole.owners x ≡ true
  pub cells_apart : (x : Var) (k : ℕ) → cell_found cells x ≡ Some k → is_among x (scoped_names function) ≡ false
  pub whole_cells : (x : Var) → kept_along seats e f x ≡ true → (k : ℕ) × (cell_found cells x ≡ Some k)
  pub own_declared : (x : Var) → is_among x (own_names function) ≡ true → f.0 ≤ declarer x
  pub scoped_declared : (x : Var) → is_among x (scoped_names function) ≡ true → declarer x ≡ f.0

abbrev pub CallsAreRound : Type 0
CallsAreRound = (whole : Whole) (kept : Keeping) (declarer : Var → ℕ) (seats : Seats) (bound : Bound) (e : Environment) (f : FunctionId) (function : CoreFunction)
    (i : ℕ) (names : List Var) (cells : List KeptCell)
    → Below (length seats) e → length seats ≡ length bound → MakesAt whole kept declarer seats bound e f
    → Calls1 whole declarer seats e f function names cells → function_may whole f.0 function ≡ true
    → RoundAt whole kept declarer (seats ++ call_seat i (scoped_names function) (call_names function cells) cells ∷ []) (bound ++ names ∷ []) (length seats ∷ e)
    (round_of (own_names function ++ outer_for whole f.0) (scoped_names function) f.0)

-- So it is where a closure is called that belongs to one of the target.
abbrev pub CallsAreNamed : Type 0
CallsAreNamed = (whole : Whole) (declarer : Var → ℕ) (seats : Seats) (a b : Closure Own) (function : CoreFunction) (c : Call) (s : CoreState)
    → Closures whole.owners seats a b → function.declared ≡ [] → NamesApart whole.owners (a.function.0 + 1) function
    → ((x : Var) → is_among x (own_names function) ≡ true → a.function.0 ≤ declarer x)
    → ((x : Var) → is_among x (scoped_names function) ≡ true → declarer x ≡ a.function.0)
    → Calls1 whole declarer seats a.environment a.function function (names_in (bindings_of function a c s)) b.own.cells

-- What is round an expression that makes a closure lets it be made.
abbrev pub ClosuresMayBeMade : Type 0
ClosuresMayBeMade = (whole : Whole) (kept : Keeping) (declarer : Var → ℕ) (seats : Seats) (bound : Bound) (e : Environment) (f : FunctionId) (r : Round)
    → ((x : Var) → is_among x (outer_for whole f.0) ≡ true → is_among x whole.captured ≡ true)
    → ((x : Var) → is_among x (get_or whole.kept f.0 []) ≡ true → is_among x (kept f) ≡ true)
    → RoundAt whole kept declarer seats bound e r → closure_may whole f r ≡ true → MakesAt whole kept declarer seats bound e f

-- So it may with one record more, if that has no name that comes once and was in a record of the same home.
abbrev pub MakesStay : Type 0
MakesStay = (whole : Whole) (kept : Keeping) (declarer : Var → ℕ) (seats : Seats) (bound : Bound) (new : Seat) (names : List Var) (e : Environment) (f : FunctionId)
    → Below (length seats) e → length seats ≡ length bound
    → ((x : Var) (n : ℕ) (here : Seat) → is_shared whole.owners x ≡ false → once whole x ≡ true → slice_get seats n ≡ Some here → is_scoped here x ≡ true → new.home ≡ here.home
    → is_scoped new x ≡ false)
    → MakesAt whole kept declarer seats bound e f → MakesAt whole kept declarer (seats ++ new ∷ []) (bound ++ names ∷ []) e f

-- Its own names, and those of its scopes, are declared by the function.
abbrev pub FunctionsDeclare : Type 0
FunctionsDeclare = (whole : Whole) (place : ℕ) (function : CoreFunction) (x : Var)
    → function_may whole place function ≡ true → is_among x (own_names function ++ scoped_names function) ≡ true → whole.declarer x ≡ place

pub record CallsGoOn : Type 0 where
  pub calls : CallsAreRound
  pub closures : ClosuresMayBeMade
  pub named : CallsAreNamed
  pub stay : MakesStay
  pub declare : FunctionsDeclare
