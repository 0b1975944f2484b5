-- The ends that are reached from the nodes of a graph.
use Rattle.std.specs.Prelude.{◌≡◌, ℕ, List, [], length, slice_index_or}
use Rattle.std.specs.List.{Contains}
use Rattle.module_flows.specs.declared.found.Found.{Found}
use Rattle.module_flows.specs.declared.found.Found.TheVariants.{Nothing, One, Several}

-- the nodes that use a node
abbrev pub users_of : List (List ℕ) → ℕ → List ℕ
users_of users node = slice_index_or users node []

-- An end is reached from itself, and what is reached from a node is reached from those that use it.
pub data Reaches (users : List (List ℕ)) (ends : List ℕ) : ℕ → ℕ → Type 0 where
  itself : {end : ℕ} → Contains ends end → Reaches users ends end end
  by_use : {user end : ℕ} (node : ℕ) → Contains (users_of users node) user → Reaches users ends node end → Reaches users ends user end

-- what is found is all that is reached from a node
abbrev pub IsRight : List (List ℕ) → List ℕ → ℕ → Found → Type 0
IsRight users ends node Nothing = (end : ℕ) → Reaches users ends node end → ⊥
IsRight users ends node (One end) = Reaches users ends node end × ((other : ℕ) → Reaches users ends node other → other ≡ end)
IsRight users ends node Several = (one : ℕ) × (other : ℕ) × (Reaches users ends node one × Reaches users ends node other × (one ≡ other → ⊥))

abbrev pub found_at : List Found → ℕ → Found
found_at found node = slice_index_or found node Nothing

pub record AreRight (users : List (List ℕ)) (ends : List ℕ) (found : List Found) : Type 0 where
  pub size : length found ≡ length users
  pub right : (node : ℕ) → IsRight users ends node (found_at found node)
