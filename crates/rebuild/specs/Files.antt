-- Files that builds read, and maps from paths to bytes.
use Rattle.std.specs.Prelude.{◌≡◌, ℕ, Bool, false, List, [], ◌∷◌, ◌++◌, Option, Some, None, String, cond, map, option_and_then}
use Rattle.std.specs.BTreeMap.{BTreeMap, get_by_text}
use Rattle.std.specs.Str.{bytes_eq}
use Rattle.es6_ast.specs.declared.graph.Request.{Request}
use Rattle.module_loading.specs.Files.{Told}
use Rattle.module_loading.specs.Loading.{IsGraph, Loaded}

-- a file: its path, and its bytes
abbrev pub File : Type 0
File = List ℕ × List ℕ

-- the bytes of each path that has some
abbrev pub Map : Type 0
Map = List ℕ → Option (List ℕ)

-- the file that a module was read of
abbrev pub file_of : {M : Type 0} → Loaded M → File
file_of m = (m.path, m.bytes)

-- what is kept, by paths; a file is found at no other path than its own
abbrev pub kept_in : {A : Type 0} → BTreeMap (String A) File → Map
kept_in map path = option_and_then (λ file. cond (bytes_eq file.0 path) (Some file.1) None) (get_by_text map path)

abbrev pub is_same : Option (List ℕ) → List ℕ → Bool
is_same None bytes = false
is_same (Some there) bytes = bytes_eq there bytes

-- whether these bytes are kept at the path
abbrev pub has : Map → List ℕ → List ℕ → Bool
has kept path bytes = is_same (kept path) bytes

-- the map with these files put into it; of two with one path the first counts
abbrev pub with_files : List File → Map → Map
with_files [] kept path = kept path
with_files (file ∷ files) kept path = cond (bytes_eq file.0 path) (Some file.1) (with_files files kept path)

-- the path of a file, unless the map has it with the same bytes
abbrev pub if_changed : Map → File → List (List ℕ)
if_changed kept file = cond (has kept file.0 file.1) [] (file.0 ∷ [])

-- the paths of those files that the map lacks, or has with other bytes
abbrev pub changed : Map → List File → List (List ℕ)
changed kept [] = []
changed kept (file ∷ files) = if_changed kept file ++ changed kept files

-- these modules were read of these files, in order
abbrev pub AreReadOf : {M : Type 0} → (List ℕ → List ℕ → M → Type 0) → List File → List M → Type 0
AreReadOf reads [] [] = Unit {0}
AreReadOf reads (file ∷ files) (made ∷ modules) = reads file.0 file.1 made × AreReadOf reads files modules
AreReadOf reads _ _ = ⊥

-- the graph of these modules is loaded from some files
pub record IsLoadedOf {M : Type 0} (reads : List ℕ → List ℕ → M → Type 0) (requests : M → List Request) (requested : M → List Request → M) (modules : List M) : Type 0 where
  pub told : Told
  pub entry : List ℕ
  pub is_graph : IsGraph told reads requests entry requested modules

-- the same, and its modules were read of these
pub record IsReadOf {M : Type 0} (reads : List ℕ → List ℕ → M → Type 0) (requests : M → List Request) (requested : M → List Request → M) (files : List File) (modules : List M) : Type 0 where
  pub loaded : IsLoadedOf reads requests requested modules
  pub read : AreReadOf reads files (map (λ m. m.made) loaded.is_graph.modules)
