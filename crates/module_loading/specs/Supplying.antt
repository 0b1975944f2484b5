-- Loading from a supply, which hands out the modules: what it becomes, and what is left where loading stops.
use Rattle.std.specs.Prelude.{◌≡◌, ℕ, List, [], ◌∷◌, ◌++◌, map, Result, Ok, Err}
use Rattle.es_text.specs.declared.Place.{Place}
use Rattle.es6_ast.specs.declared.graph.Request.{Request}
use Rattle.module_loading.specs.declared.fault.LoadFault.{LoadFault}
use Rattle.module_loading.specs.declared.fault.LoadFault.TheVariants as fault
use Rattle.module_loading.specs.Files.{Told}
use Rattle.module_loading.specs.Loading.{IsFault, IsGraph, Loaded}

-- What a supply becomes that hands out these modules, one after the other.
pub data HandsOut {S M : Type 0} (hands : S → List ℕ → List ℕ → S → Type 0) (start : S) : List (Loaded M) → S → Type 0 where
  nothing : HandsOut hands start [] start
  one_more : {modules : List (Loaded M)} (m : Loaded M) {now next : S} → HandsOut hands start modules now → hands now m.path m.bytes next → HandsOut hands start (modules ++ m ∷ []) next

-- these modules were handed out, and they are what there is
pub record AreOut {S M : Type 0} (hands : S → List ℕ → List ℕ → S → Type 0) (start : S) (there : List M) (now : S) (modules : List (Loaded M)) : Type 0 where
  pub modules_are : there ≡ map (λ m. m.made) modules
  pub handed : HandsOut hands start modules now

module _ {M F : Type 0} (reads : List ℕ → List ℕ → M → Type 0) (requests : M → List Request) (shows : M → ℕ → Place → Type 0) (refuses : List ℕ → List ℕ → F → Type 0)
    (told : Told) (entry : List ℕ) where
  -- this holds of the modules that pass before the fault; where memory runs out it is said of none
  abbrev pub HoldsBefore : (List (Loaded M) → Type 0) → (f : LoadFault F) → IsFault told reads requests entry shows refuses f → Type 0
  HoldsBefore P (fault.BadSpecifier base place specifier) is = P is.modules
  HoldsBefore P (fault.TooManyModules base place) is = P is.modules
  HoldsBefore P (fault.ReadFault path) is = P is.0
  HoldsBefore P fault.EntryMissing is = P []
  HoldsBefore P (fault.Missing base place specifier) is = P is.modules
  HoldsBefore P (fault.FileTooLong path) is = P is.modules
  HoldsBefore P (fault.GraphTooLong path) is = P is.modules
  HoldsBefore P (fault.InModule path f) is = P is.modules
  HoldsBefore P fault.OutOfMemory is = Unit {0}

  -- the fault comes first, and of the modules that pass before it this holds
  pub record StopsWhere (P : List (Loaded M) → Type 0) (f : LoadFault F) : Type 0 where
    pub is : IsFault told reads requests entry shows refuses f
    pub holds : HoldsBefore P f is

  -- the graph is loaded of what the supply hands out; or the first fault, and then the modules that pass before it are there as they
  -- were handed out
  abbrev pub LoadsFrom : {S : Type 0} → (M → List Request → M) → (S → List ℕ → List ℕ → S → Type 0) → S → List M → S → Result Unit (LoadFault F) → Type 0
  LoadsFrom requested hands start there now (Ok done) = (graph : IsGraph told reads requests entry requested there) × HandsOut hands start graph.modules now
  LoadsFrom requested hands start there now (Err f) = StopsWhere (λ modules. AreOut hands start there now modules) f
