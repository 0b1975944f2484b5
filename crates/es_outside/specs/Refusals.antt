-- Which lists of names hosts may have, and which name of a list is refused first.
use Rattle.std.specs.Prelude.{◌≡◌, ℕ, ◌<◌, ◌⊎◌, true, false, List, length}
use Rattle.es_outside.specs.HostNames.{is_host_name}
use Rattle.es_outside.specs.NamedList.{name_at, NoneNamedBelow}

-- Each of the first names may name a host, and none of them stands twice.
pub record AreHostNamesBelow (names : List (List ℕ)) (count : ℕ) : Type 0 where
  pub lawful : (k : ℕ) → k < count → is_host_name (name_at names k) ≡ true
  pub distinct : (k : ℕ) → k < count → NoneNamedBelow names (name_at names k) k

-- each name may name a host, and none stands twice
abbrev pub AreHostNames : List (List ℕ) → Type 0
AreHostNames names = AreHostNamesBelow names (length names)

-- The name at this index is the first that can't stand: by number 1 it may name no host, and by number 2 it may,
-- but stands earlier.
pub record IsRefused (names : List (List ℕ)) (number at : ℕ) : Type 0 where
  pub within : at < length names
  pub earlier : AreHostNamesBelow names at
  pub reason : ((number ≡ 1) × (is_host_name (name_at names at) ≡ false))
      ⊎ ((number ≡ 2) × (is_host_name (name_at names at) ≡ true) × ((j : ℕ) × (j < at) × (name_at names j ≡ name_at names at)))
