-- Lists of named things, and the names by their index.
use Rattle.std.specs.Prelude.{◌≡◌, ◌≢◌, ℕ, ◌<◌, List, [], length, map, slice_index_or, String, string_bytes}

-- the names of a list of named things
abbrev pub names_of : {A B : Type 0} → List (String A × B) → List (List ℕ)
names_of entries = map (λ entry. string_bytes entry.0) entries

-- the name at this index
abbrev pub name_at : List (List ℕ) → ℕ → List ℕ
name_at names index = slice_index_or names index []

-- this name stands at the index
pub record IsNamed (names : List (List ℕ)) (name : List ℕ) (index : ℕ) : Type 0 where
  pub within : index < length names
  pub name_is : name_at names index ≡ name

-- none of the first names is this one
abbrev pub NoneNamedBelow : List (List ℕ) → List ℕ → ℕ → Type 0
NoneNamedBelow names name count = (k : ℕ) → k < count → name_at names k ≢ name

-- no name is this one
abbrev pub NoneNamed : List (List ℕ) → List ℕ → Type 0
NoneNamed names name = NoneNamedBelow names name (length names)
