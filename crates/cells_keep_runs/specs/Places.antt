-- What a look-up gives behind a write, and where there is one record more.
use Rattle.std.specs.List.{list_all}
use Rattle.std.specs.Option.{option_map}
use Rattle.std.specs.Prelude.{◌≡◌, true, List, [], ◌∷◌, ◌++◌, if◌then◌else◌, length, nat_eq, nat_lt, slice_set, ℕ, ◌&&◌}
use Rattle.core_ast.specs.declared.parts.Var.{Var}
use Rattle.core_meaning.specs.Names.{Resolved, binding_in, or_outer, record_at, resolved, with_value}
use Rattle.core_meaning.specs.State.{CoreValue, Environment, EnvironmentRecord}

-- ---- the records behind a write, as `stored_at` has them

abbrev pub written : {M : Type 0} → ℕ → Var → CoreValue M → List (EnvironmentRecord M) → List (EnvironmentRecord M)
written n x v records = slice_set records n (with_value (record_at records n) x v)

-- what a look-up of y gave, behind a write of x in the record with the number n
abbrev pub rebound : {M : Type 0} → ℕ → Var → CoreValue M → Var → Resolved M → Resolved M
rebound n x v y r =
    if nat_eq y.0 x.0 && nat_eq r.at n then record r { binding = record r.binding { value = v } } else r

-- A write changes what is found of this name in this record, and nothing else; whether or not the record is there.
abbrev pub WritesAreSeen : Type 0 → Type 0
WritesAreSeen M = (records : List (EnvironmentRecord M)) (n : ℕ) (x : Var) (v : CoreValue M) (e : Environment) (y : Var)
    → resolved (written n x v records) e y ≡ option_map (rebound n x v y) (resolved records e y)

-- ---- one record more

-- each record of an environment is among so many
abbrev pub Below : ℕ → Environment → Type 0
Below n e = list_all (λ m. nat_lt m n) e ≡ true

-- Records that come behind hide nothing of an environment that has none of them.
abbrev pub NewRecordsHideNothing : Type 0 → Type 0
NewRecordsHideNothing M = (records more : List (EnvironmentRecord M)) (e : Environment) (y : Var)
    → Below (length records) e → resolved (records ++ more) e y ≡ resolved records e y

-- In a new innermost record a name is found first, and else as before.
abbrev pub NewRecordsComeFirst : Type 0 → Type 0
NewRecordsComeFirst M = (records : List (EnvironmentRecord M)) (bindings : EnvironmentRecord M) (e : Environment) (y : Var)
    → Below (length records) e
    → resolved (records ++ bindings ∷ []) (length records ∷ e) y
    ≡ or_outer (length records) (binding_in bindings y) (resolved records e y)
