-- One step of what is found flowing on, and what holds before and after each.
use Rattle.std.specs.Prelude.{◌≡◌, ℕ, ◌+◌, ◌*◌, ◌<◌, ◌≤◌, ◌==◌, ◌⊎◌, List, length, cond, Option, Some, None, unwrap_or, sum_by}
use Rattle.std.specs.List.{Contains}
use Rattle.module_flows.specs.declared.found.Found.{Found}
use Rattle.module_flows.specs.declared.found.Found.TheVariants.{Nothing, One, Several}
use Rattle.module_flows.specs.declared.flow.Flow.{Flow}
use Rattle.module_flows.specs.Flows.{Reaches, found_at, users_of}

abbrev pub raised_by_one : Found → ℕ → Option Found
raised_by_one Nothing end = Some (One end)
raised_by_one (One other) end = cond (other == end) None (Some Several)
raised_by_one Several end = None

abbrev pub raised_by_several : Found → Option Found
raised_by_several Nothing = Some Several
raised_by_several (One end) = Some Several
raised_by_several Several = None

-- what is found together with more, unless that is no more
abbrev pub raised : Found → Found → Option Found
raised found Nothing = None
raised found (One end) = raised_by_one found end
raised found Several = raised_by_several found

abbrev pub joined : Found → Found → Found
joined found more = unwrap_or (raised found more) found

-- an end is among those found, where several stands for all
abbrev pub Covers : Found → ℕ → Type 0
Covers Nothing end = ⊥
Covers (One other) end = other ≡ end
Covers Several end = Unit {0}

-- what is found first is among what is found then
abbrev pub Below : Found → Found → Type 0
Below Nothing found = Unit {0}
Below (One end) found = Covers found end
Below Several found = found ≡ Several

-- how often more can be found
abbrev pub room : Found → ℕ
room Nothing = 2
room (One end) = 1
room Several = 0

abbrev pub work : Flow → ℕ
work flow = 2 * sum_by room flow.found + length flow.todo

-- a value was added at these nodes, and each at which more is found now has still to flow on
pub record Spreads (nodes : List ℕ) (value : Found) (old new : Flow) : Type 0 where
  pub size : length new.found ≡ length old.found
  pub values : (n : ℕ) → (found_at new.found n ≡ found_at old.found n) ⊎ (Contains nodes n × (found_at new.found n ≡ joined (found_at old.found n) value))
  pub covers : (n : ℕ) → Contains nodes n → Below value (found_at new.found n)
  pub marked : (n : ℕ) → (found_at new.found n ≡ found_at old.found n) ⊎ Contains new.todo n
  pub kept : (n : ℕ) → Contains old.todo n → Contains new.todo n
  pub within : (n : ℕ) → Contains new.todo n → Contains old.todo n ⊎ Contains nodes n
  pub less : work new ≤ work old

-- what is found is reached
abbrev pub IsSound : List (List ℕ) → List ℕ → ℕ → Found → Type 0
IsSound users ends node Nothing = Unit {0}
IsSound users ends node (One end) = Reaches users ends node end
IsSound users ends node Several = (one : ℕ) × (other : ℕ) × (Reaches users ends node one × Reaches users ends node other × (one ≡ other → ⊥))

-- these of the ends have begun to flow, and what is found at a node is found at each that uses it, or has still to flow on
pub record Holds (users : List (List ℕ)) (ends begun : List ℕ) (flow : Flow) : Type 0 where
  pub size : length flow.found ≡ length users
  pub todo : (n : ℕ) → Contains flow.todo n → n < length users
  pub sound : (n : ℕ) → IsSound users ends n (found_at flow.found n)
  pub begins : (n : ℕ) → Contains begun n → Covers (found_at flow.found n) n
  pub flows : (user n : ℕ) → Contains (users_of users n) user → Below (found_at flow.found n) (found_at flow.found user) ⊎ Contains flow.todo n
