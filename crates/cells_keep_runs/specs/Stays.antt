-- How both machines come to find a name, and when they go on to.
use Rattle.std.specs.Prelude.{◌≡◌, true, false, List, [], ◌∷◌, ◌++◌, None, Some, length, slice_get, ℕ, Option}
use Rattle.es_value.specs.declared.value.Value.{Value}
use Rattle.core_ast.specs.declared.parts.ScopedName.{ScopedName}
use Rattle.core_ast.specs.declared.parts.Var.{Var}
use Rattle.core_meaning.specs.Marks.{CoreState, KeptCell, Mark}
use Rattle.core_meaning.specs.Names.{binding_in, record_at}
use Rattle.core_meaning.specs.State.{Binding, Environment, EnvironmentRecord}
use Rattle.pass_rules.specs.Cells.{is_among, is_shared}
use Rattle.pass_rules.specs.Scopes.{vars}
use Rattle.cells_keep_runs.specs.Copied.{Copyable, copied_seats}
use Rattle.cells_keep_runs.specs.Entered.{entered_seats}
use Rattle.cells_keep_runs.specs.Entries.{call_seat}
use Rattle.cells_keep_runs.specs.Handled.{handled_seats}
use Rattle.cells_keep_runs.specs.Memory.{Memory, Seat, Seats, cell_found, is_scoped}
use Rattle.cells_keep_runs.specs.Places.{Below}
use Rattle.cells_keep_runs.specs.Ready.{HandlerReady, ScopeReady}
use Rattle.cells_keep_runs.specs.Seen.{Sees}
use Rattle.cells_keep_runs.specs.Writes.{CellOf, IsHeld}

-- In a scope that is entered both find its names.
abbrev pub ScopesNamesAreSeen : Type 0
ScopesNamesAreSeen = (owners : List ℕ) (seats : Seats) (s : CoreState) (names : List ScopedName) (k : ℕ) (x : Var)
    → (r : ScopeReady owners seats s names) → Below (length seats) s.context.environment → is_among x (vars names) ≡ true
    → Sees owners (entered_seats seats r.home names k) (length seats ∷ s.context.environment) (length seats) x

abbrev pub with_call : Seats → ℕ → List Var → List Var → List KeptCell → Seats
with_call seats i locals has kept = seats ++ call_seat i locals has kept ∷ []

-- In a call both find the names of its record that aren't shared, and the shared ones whose cells the closure keeps.
abbrev pub CallsNamesAreSeen : Type 0
CallsNamesAreSeen = (owners : List ℕ) (seats : Seats) (e : Environment) (i : ℕ) (locals has : List Var) (kept : List KeptCell) (x : Var)
    → is_shared owners x ≡ false → is_among x has ≡ true
    → Sees owners (with_call seats i locals has kept) (length seats ∷ e) (length seats) x

abbrev pub KeptNamesAreSeen : Type 0
KeptNamesAreSeen = (owners : List ℕ) (seats : Seats) (e : Environment) (i : ℕ) (locals has : List Var) (kept : List KeptCell) (n k : ℕ) (x : Var)
    → CellOf owners seats n x k → cell_found kept x ≡ Some k → is_among x has ≡ true
    → Sees owners (with_call seats i locals has kept) (length seats ∷ e) n x

-- They still find a name with one record more, if that isn't a newer one of the same home with the name;
abbrev pub SeenNamesStay : Type 0
SeenNamesStay = (owners : List ℕ) (seats : Seats) (here new : Seat) (e : Environment) (n : ℕ) (x : Var)
    → Below (length seats) e → slice_get seats n ≡ Some here → (new.home ≡ here.home → is_scoped new x ≡ false)
    → Sees owners seats e n x → Sees owners (seats ++ new ∷ []) e n x

-- and within a record that hasn't the name, and out of it.
abbrev pub SeenWithin : Type 0
SeenWithin = (owners : List ℕ) (seats : Seats) (inner : Seat) (m : ℕ) (e : Environment) (n : ℕ) (x : Var)
    → slice_get seats m ≡ Some inner → is_among x inner.has ≡ false → cell_found inner.cells x ≡ None
    → Sees owners seats e n x → Sees owners seats (m ∷ e) n x

abbrev pub SeenOutside : Type 0
SeenOutside = (owners : List ℕ) (seats : Seats) (inner : Seat) (m : ℕ) (e : Environment) (n : ℕ) (x : Var)
    → slice_get seats m ≡ Some inner → is_among x inner.has ≡ false → cell_found inner.cells x ≡ None
    → Sees owners seats (m ∷ e) n x → Sees owners seats e n x

-- In a handler both find the names of its pattern, and its parameter.
abbrev pub PatternsAreSeen : Type 0
PatternsAreSeen = (owners : List ℕ) (seats : Seats) (s : CoreState) (x : Var) (names : List ScopedName) (i k : ℕ) (y : Var)
    → (r : HandlerReady owners seats s x names) → Below (length seats) s.context.environment → is_among y (vars names) ≡ true
    → Sees owners (handled_seats seats i x r.pattern.home names k) (length seats ∷ s.context.environment) (length seats) y

abbrev pub ParametersAreSeen : Type 0
ParametersAreSeen = (owners : List ℕ) (seats : Seats) (e : Environment) (x : Var) (names : List ScopedName) (i h k : ℕ)
    → is_among x (vars names) ≡ false → is_shared owners x ≡ false
    → Sees owners (handled_seats seats i x h names k) (length seats ∷ e) (length seats) x

-- Along a copy they find the names that they found along what is copied.
abbrev pub CopiesNamesAreSeen : Type 0
CopiesNamesAreSeen = (owners : List ℕ) (seats : Seats) (rs : List (EnvironmentRecord Mark)) (n : ℕ) (o : Environment) (xs : List Var) (k : ℕ) (y : Var)
    → (c : Copyable owners seats rs (n ∷ o) n xs) → Below (length seats) o → is_among y c.seat.scoped ≡ true
    → Sees owners (copied_seats owners seats c.seat (record_at rs n) xs k) (length seats ∷ o) (length seats) y

-- A shared name of the source has a value of programs, or none.
abbrev pub SharedNamesAreHeld : Type 0
SharedNamesAreHeld = (owners : List ℕ) (seats : Seats) (rs ts : List (EnvironmentRecord Mark)) (cells : List (Option Value)) (n k : ℕ) (x : Var) (b : Binding Mark)
    → Memory owners seats rs ts cells → binding_in (record_at rs n) x ≡ Some b → CellOf owners seats n x k → IsHeld b.value
