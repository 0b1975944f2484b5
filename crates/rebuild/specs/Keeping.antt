-- What is kept between builds and while one is made.
use Rattle.std.specs.Prelude.{◌≡◌, ℕ, List, [], Option, Some, None, Result, Ok, Err, Vec, String, map, option_map, string_bytes}
use Rattle.std.specs.Global.{Global}
use Rattle.module_loading.specs.declared.fault.LoadFault.{LoadFault}
use Rattle.module_loading.specs.declared.fault.LoadFault.TheVariants as fault
use Rattle.rebuild.specs.declared.building.Rebuild.{Rebuild}
use Rattle.rebuild.specs.declared.fault.RebuildFault.{RebuildFault}
use Rattle.rebuild.specs.declared.fault.RebuildFault.TheVariants.{Load, Link, OutOfMemory}
use Rattle.rebuild.specs.declared.shelf.Shelf.{Shelf}
use Rattle.rebuild.specs.Files.{File, Map, kept_in, with_files}
use Rattle.rebuild.specs.Shelves.{read_paths, shelved}

-- the files of the graph that was built last
abbrev pub files_of : {G : Type 0} → Option (G × List File) → List File
files_of None = []
files_of (Some built) = built.1

-- the bytes of each path whose module is kept, in the graph or beside it
abbrev pub keeps : {A B C D E : Type 0} → Rebuild A B C D E → Map
keeps builds = with_files (files_of builds.built) (kept_in builds.kept)

-- the graph that was built last, unless it was refused
abbrev pub graph_in : {A B C D E : Type 0} → Rebuild A B C D E → Option B
graph_in builds = option_map (λ built. built.0) builds.built

-- a new shelf, with what is kept
pub record IsCleared {A B C : Type 0} (before : Map) (shelf : Shelf A B C) : Type 0 where
  pub keeps : (path : List ℕ) → shelved shelf path ≡ before path
  pub out_is : shelf.out ≡ []
  pub parsed_is : read_paths shelf ≡ []

-- the modules that were out are kept
abbrev pub KeepsOut : {A B C : Type 0} → Shelf A B C → Map → Type 0
KeepsOut shelf after = (path : List ℕ) → after path ≡ with_files shelf.out (shelved shelf) path

module _ {A B C G L : Type 0} (links : G → List (List ℕ) → G → Type 0) (unlinked : G → List (List ℕ) → L → Type 0) (loaded : G) (hosts : List (List ℕ)) (shelf : Shelf A B C) (after : Map)
    (graph : Option G) where
  -- the graph that is linked is held
  pub record Holds (parsed : List (List ℕ)) : Type 0 where
    pub linked : G
    pub links_to : links loaded hosts linked
    pub graph_is : graph ≡ Some linked
    pub parsed_is : parsed ≡ read_paths shelf
    pub keeps_out : KeepsOut shelf after

  abbrev pub Accepts : {F : Type 0} → Result (Vec (String Global) Global) (RebuildFault F L) → Type 0
  Accepts (Ok parsed) = Holds (map string_bytes parsed.items)
  Accepts (Err (Load fault)) = ⊥
  Accepts (Err (Link fault)) = unlinked loaded hosts fault × KeepsOut shelf after
  Accepts (Err OutOfMemory) = Unit {0}

-- of want of memory it isn't said
abbrev pub UnlessNoMemory : {F : Type 0} → LoadFault F → Type 0 → Type 0
UnlessNoMemory fault.OutOfMemory P = Unit {0}
UnlessNoMemory _ P = P

-- a fault of loading is answered, and the modules that were out are kept
abbrev pub Refuses : {A B C F L : Type 0} → LoadFault F → Shelf A B C → Map → Result (Vec (String Global) Global) (RebuildFault F L) → Type 0
Refuses f shelf after (Err (Load g)) = (g ≡ f) × (f ≡ fault.OutOfMemory → ⊥) × KeepsOut shelf after
Refuses f shelf after (Err OutOfMemory) = Unit {0}
Refuses f shelf after _ = ⊥
