-- Where code stands with what is round it, by the seats of records and the names that they bind.
use Rattle.std.specs.Prelude.{◌≡◌, ◌⊎◌, true, false, ◌∷◌, None, Some, length, slice_get, ℕ}
use Rattle.core_ast.specs.declared.parts.FunctionId.{FunctionId}
use Rattle.core_ast.specs.declared.parts.Var.{Var}
use Rattle.core_meaning.specs.State.{Environment}
use Rattle.pass_rules.specs.Cells.{is_shared}
use Rattle.cells_keep_runs.specs.Callings.{MakesAt}
use Rattle.cells_keep_runs.specs.Found.{Bound, first_at}
use Rattle.cells_keep_runs.specs.MayBeFlattened.{Round, Whole, closure_may}
use Rattle.cells_keep_runs.specs.Memory.{Keeping, Seat, Seats, is_scoped}
use Rattle.cells_keep_runs.specs.Places.{Below}
use Rattle.cells_keep_runs.specs.Rounds.{Away, IsTail, RoundAt, activation_at, grouped, once}

-- what is known of a core: the names, the cells that closures keep, and the number of what declares a name
pub record Known : Type 0 where
  pub whole : Whole
  pub kept : Keeping
  pub declarer : Var → ℕ

abbrev pub Around : Known → Seats → Bound → Environment → Round → Type 0
Around k seats bound e r = RoundAt k.whole k.kept k.declarer seats bound e r

-- the function of a class that may be made: it stands where it is
abbrev pub UnmadeAt : Known → Seats → Bound → Environment → FunctionId → Type 0
UnmadeAt k seats bound e f = (r : Round) × (closure_may k.whole f r ≡ true) × Around k seats bound e r

abbrev pub MadeAt : Known → Seats → Bound → Environment → FunctionId → Type 0
MadeAt k seats bound e f = MakesAt k.whole k.kept k.declarer seats bound e f

-- from the first environment one goes back to the second, in the same activation
abbrev pub LeadsTo : Known → Seats → Environment → Environment → Type 0
LeadsTo k seats e o = (n : ℕ) × (e ≡ n ∷ o) × (activation_at k.whole seats e ≡ activation_at k.whole seats o)

-- ---- one record more

-- An environment of the present context from this one on, or of another activation than the new record's.
pub record StaysAt (k : Known) (seats : Seats) (new : Seat) (present e : Environment) : Type 0 where
  pub below : Below (length seats) e
  pub apart : IsTail e present ⊎ (activation_at k.whole seats e ≡ Some (grouped k.whole new.home) → ⊥)

-- the new record's names are bound nowhere along the present environment, and those that come once in no record of its home
pub record IsNew (k : Known) (seats : Seats) (bound : Bound) (new : Seat) (present : Environment) : Type 0 where
  pub unbound : (x : Var) → is_scoped new x ≡ true → first_at bound present x ≡ None
  pub first : (x : Var) (n : ℕ) (here : Seat) → is_shared k.whole.owners x ≡ false → once k.whole x ≡ true → slice_get seats n ≡ Some here
      → is_scoped here x ≡ true → new.home ≡ here.home → is_scoped new x ≡ false

-- Then it leaves alone what is found there.
abbrev pub NewIsAway : Type 0
NewIsAway = (k : Known) (seats : Seats) (bound : Bound) (new : Seat) (present e : Environment)
    → IsNew k seats bound new present → StaysAt k seats new present e → Away k.whole seats bound new e

-- And where one goes back to from there, it stays so.
abbrev pub StaysBack : Type 0
StaysBack = (k : Known) (seats : Seats) (new : Seat) (present e o : Environment)
    → LeadsTo k seats e o → StaysAt k seats new present e → StaysAt k seats new present o

pub record NewRecordsAreAway : Type 0 where
  pub away : NewIsAway
  pub back : StaysBack
