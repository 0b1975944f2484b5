-- What a build answers, and what is kept after it.
use Rattle.std.specs.Prelude.{◌≡◌, ℕ, List, Option, Some, Result, Ok, Err, Vec, String, map, string_bytes}
use Rattle.std.specs.Global.{Global}
use Rattle.es_text.specs.declared.Place.{Place}
use Rattle.es6_ast.specs.declared.graph.Request.{Request}
use Rattle.module_loading.specs.Files.{Told}
use Rattle.module_loading.specs.Loading.{IsGraph, Loaded}
use Rattle.module_loading.specs.Supplying.{StopsWhere}
use Rattle.module_loading.specs.declared.fault.LoadFault.{LoadFault}
use Rattle.module_loading.specs.declared.fault.LoadFault.TheVariants as fault
use Rattle.rebuild.specs.declared.fault.RebuildFault.{RebuildFault}
use Rattle.rebuild.specs.declared.fault.RebuildFault.TheVariants.{Load, Link, OutOfMemory}
use Rattle.rebuild.specs.Files.{Map, changed, file_of, with_files}

-- each of these modules is kept, with its bytes, and at all other paths what was kept before
abbrev pub Keeps : {M : Type 0} → Map → Map → List (Loaded M) → Type 0
Keeps before after modules = (path : List ℕ) → after path ≡ with_files (map file_of modules) before path

module _ {M F G L : Type 0} (reads : List ℕ → List ℕ → M → Type 0) (requests : M → List Request) (shows : M → ℕ → Place → Type 0) (refuses : List ℕ → List ℕ → F → Type 0)
    (requested : M → List Request → M) (graph_of : List M → G) (links : G → List (List ℕ) → G → Type 0) (unlinked : G → List (List ℕ) → L → Type 0)
    (told : Told) (entry : List ℕ) (hosts : List (List ℕ)) (before after : Map) where
  -- The graph is loaded and linked, its modules are kept, and of these the files were read that weren't kept with the same bytes.
  pub record IsAccepted (graph : Option G) (parsed : List (List ℕ)) : Type 0 where
    pub loaded : List M
    pub is_graph : IsGraph told reads requests entry requested loaded
    pub linked : G
    pub links_to : links (graph_of loaded) hosts linked
    pub graph_is : graph ≡ Some linked
    pub parsed_are : parsed ≡ changed before (map file_of is_graph.modules)
    pub keeps : Keeps before after is_graph.modules

  -- it is loaded, and refused where it is linked
  pub record IsUnlinked (fault : L) : Type 0 where
    pub loaded : List M
    pub is_graph : IsGraph told reads requests entry requested loaded
    pub refused : unlinked (graph_of loaded) hosts fault
    pub keeps : Keeps before after is_graph.modules

  -- A refused graph leaves the modules kept that passed. Where memory runs out nothing is said.
  abbrev pub BuildsTo : Option G → Result (Vec (String Global) Global) (RebuildFault F L) → Type 0
  BuildsTo graph (Ok parsed) = IsAccepted graph (map string_bytes parsed.items)
  BuildsTo graph (Err (Load f)) = (f ≡ fault.OutOfMemory → ⊥) × StopsWhere reads requests shows refuses told entry (λ modules. Keeps before after modules) f
  BuildsTo graph (Err (Link f)) = IsUnlinked f
  BuildsTo graph (Err OutOfMemory) = Unit {0}

-- a read that failed
abbrev pub HasFailedRead : {A F L : Type 0} → Result A (RebuildFault F L) → Type 0
HasFailedRead result = (path : List ℕ) × (result ≡ Err (Load (fault.ReadFault path)))
