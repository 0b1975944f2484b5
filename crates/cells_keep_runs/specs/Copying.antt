-- When the innermost record may be copied: from where its scope is entered on.
use Rattle.std.specs.Prelude.{◌≡◌, true, false, List, [], ◌∷◌, ◌++◌, length, ℕ}
use Rattle.core_ast.specs.declared.parts.ScopedName.{ScopedName}
use Rattle.core_ast.specs.declared.parts.Var.{Var}
use Rattle.core_meaning.specs.Cells.{uninitialized}
use Rattle.core_meaning.specs.Marks.{CoreState, Mark}
use Rattle.core_meaning.specs.Names.{record_at}
use Rattle.core_meaning.specs.State.{Environment, EnvironmentRecord}
use Rattle.pass_rules.specs.Cells.{is_among, is_shared}
use Rattle.pass_rules.specs.Scopes.{vars}
use Rattle.cells_keep_runs.specs.Copied.{Copyable, copied_seats}
use Rattle.cells_keep_runs.specs.Entered.{entered_seats}
use Rattle.cells_keep_runs.specs.Memory.{Seat, Seats, is_scoped}
use Rattle.cells_keep_runs.specs.Opened.{AllApart}
use Rattle.cells_keep_runs.specs.Places.{Below}
use Rattle.cells_keep_runs.specs.Ready.{ScopeReady}

-- a copy names the shared names of the scope, each once
pub record CopiesNames (owners : List ℕ) (names : List ScopedName) (xs : List Var) : Type 0 where
  pub listed : (x : Var) → is_among x (vars names) ≡ true → is_shared owners x ≡ true → is_among x xs ≡ true
  pub named : (x : Var) → is_among x xs ≡ true → is_among x (vars names) ≡ true
  pub apart : AllApart xs

-- A scope that is entered may be copied,
abbrev pub ScopesMayBeCopied : Type 0
ScopesMayBeCopied = (owners : List ℕ) (seats : Seats) (s : CoreState) (names : List ScopedName) (k : ℕ) (xs : List Var)
    → (r : ScopeReady owners seats s names) → Below (length seats) s.context.environment → length seats ≡ length s.records
    → CopiesNames owners names xs
    → Copyable owners (entered_seats seats r.home names k) (s.records ++ uninitialized names ∷ []) (length seats ∷ s.context.environment) (length seats) xs

-- and so may its copy,
abbrev pub CopiesMayBeCopied : Type 0
CopiesMayBeCopied = (owners : List ℕ) (seats : Seats) (rs : List (EnvironmentRecord Mark)) (n : ℕ) (o : Environment) (xs : List Var) (k : ℕ)
    → (c : Copyable owners seats rs (n ∷ o) n xs) → Below (length seats) o → length seats ≡ length rs
    → Copyable owners (copied_seats owners seats c.seat (record_at rs n) xs k) (rs ++ record_at rs n ∷ []) (length seats ∷ o) (length seats) xs

-- also where there is a record more, if that isn't one of the same home with one of the names.
abbrev pub CopyableStays : Type 0
CopyableStays = (owners : List ℕ) (seats : Seats) (rs : List (EnvironmentRecord Mark)) (bindings : EnvironmentRecord Mark) (new : Seat) (e : Environment) (n : ℕ) (xs : List Var)
    → (c : Copyable owners seats rs e n xs) → Below (length seats) e → length seats ≡ length rs
    → (new.home ≡ c.seat.home → (x : Var) → is_among x c.seat.scoped ≡ true → is_scoped new x ≡ false)
    → Copyable owners (seats ++ new ∷ []) (rs ++ bindings ∷ []) e n xs
