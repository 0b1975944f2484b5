-- What a shelf becomes as it hands out modules.
use Rattle.std.specs.Prelude.{◌≡◌, ℕ, false, List, [], ◌∷◌, ◌++◌, Vec, String, map, string_bytes}
use Rattle.std.specs.Global.{Global}
use Rattle.std.specs.Str.{bytes_eq}
use Rattle.rebuild.specs.declared.shelf.Shelf.{Shelf}
use Rattle.rebuild.specs.Files.{File, Map, if_changed, kept_in}

abbrev pub shelved : {R A B : Type 0} → Shelf R A B → Map
shelved shelf = kept_in shelf.kept

-- the paths whose modules were read
abbrev pub read_paths : {R A B : Type 0} → Shelf R A B → List (List ℕ)
read_paths shelf = map string_bytes shelf.parsed.items

-- The module of this file is out, which was read unless it was kept with the same bytes; what is kept at other paths is kept still.
pub record HandsOver {R A B : Type 0} (old : Shelf R A B) (path bytes : List ℕ) (new : Shelf R A B) : Type 0 where
  pub out_is : new.out ≡ old.out ++ (path, bytes) ∷ []
  pub parsed_is : read_paths new ≡ read_paths old ++ if_changed (shelved old) (path, bytes)
  pub others : (other : List ℕ) → bytes_eq path other ≡ false → shelved new other ≡ shelved old other
