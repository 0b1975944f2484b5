-- What the code keeps of a load, and what its parts answer.
use Rattle.std.specs.Prelude.{◌≡◌, ℕ, ◌<◌, ◌≤◌, ◌⊎◌, Bool, true, false, List, [], length, map, reverse, slice_get, All, Option, Some, None, Result, Ok, Err, String, string_bytes}
use Rattle.std.specs.Global.{Global}
use Rattle.es_text.specs.declared.Place.{Place}
use Rattle.es6_ast.specs.declared.graph.Request.{Request}
use Rattle.module_loading.specs.declared.fault.LoadFault.{LoadFault}
use Rattle.module_loading.specs.declared.fault.LoadFault.TheVariants as fault
use Rattle.module_loading.specs.declared.loading.Loading.{Loading}
use Rattle.module_loading.specs.declared.loading.Next.{Next}
use Rattle.module_loading.specs.declared.waiting.Wait.{Wait}
use Rattle.module_loading.specs.Files.{Told}
use Rattle.module_loading.specs.Loading.{Comes, IsNext, IsOf, Loaded, paths_of, size_of}
use Rattle.module_loading.specs.Requests.{Names, NamesNew, NamesNone, is_host, is_listed}
use Rattle.module_loading.specs.Supplying.{AreOut, HandsOut, StopsWhere}

-- these modules are loaded, and these requests wait
pub record Shows {M : Type 0} (modules : List (Loaded M)) (waiting : List Wait) (l : Loading M) : Type 0 where
  pub paths_are : l.paths ≡ paths_of modules
  pub modules_are : l.modules ≡ map (λ m. m.made) modules
  pub size_is : l.size ≡ size_of modules
  pub waits_are : reverse l.waiting ≡ waiting

-- what waits is a request of one of these modules
pub record IsWithin {M : Type 0} (requests : M → List Request) (modules : List M) (wait : Wait) : Type 0 where
  pub made : M
  pub stands : slice_get modules wait.importer ≡ Some made
  pub within : wait.index < length (requests made)

pub record AreWithin {M : Type 0} (requests : M → List Request) (l : Loading M) : Type 0 where
  pub paired : length l.paths ≡ length l.modules
  pub each : All (IsWithin requests l.modules) l.waiting

-- a request that waits, the path of its module, and its place there
pub record IsAsked {M : Type 0} (requests : M → List Request) (shows : M → ℕ → Place → Type 0) (modules : List (Loaded M)) (wait : Wait) (base : List ℕ) (request : Request) (place : Place) : Type 0 where
  pub m : Loaded M
  pub is_of : IsOf requests modules wait m request
  pub base_is : base ≡ m.path
  pub place_is : shows m.made request.at place

-- what is told where no file has the path that is named: by the request that waits, or as the entry
abbrev pub IsMissingAt : {M F : Type 0} → (M → List Request) → (M → ℕ → Place → Type 0) → List (Loaded M) → Option Wait → LoadFault F → Type 0
IsMissingAt requests shows modules None told = told ≡ fault.EntryMissing
IsMissingAt requests shows modules (Some wait) told =
    (base : List ℕ) × (request : Request) × (place : Place) × IsAsked requests shows modules wait base request place × (told ≡ fault.Missing base place request.specifier)

-- what is answered for a request, where the modules with these paths are loaded: none where it names no other
abbrev pub Picks : {F : Type 0} → List (List ℕ) → List ℕ → Place → Request → Result (Option (String Global)) (LoadFault F) → Type 0
Picks paths base place request (Ok None) = (is_host request ≡ true) ⊎ ((path : List ℕ) × Names base request path × (is_listed path paths ≡ true))
Picks paths base place request (Ok (Some path)) = NamesNew paths base request (string_bytes path) × (length paths < 1024)
Picks paths base place request (Err (fault.BadSpecifier own at specifier)) = NamesNone base request × (own ≡ base) × (at ≡ place) × (specifier ≡ request.specifier)
Picks paths base place request (Err (fault.TooManyModules own at)) = ((path : List ℕ) × NamesNew paths base request path) × (1024 ≤ length paths) × (own ≡ base) × (at ≡ place)
Picks paths base place request (Err fault.OutOfMemory) = Unit {0}
Picks paths base place request (Err other) = ⊥

module _ {M F : Type 0} (reads : List ℕ → List ℕ → M → Type 0) (requests : M → List Request) (shows : M → ℕ → Place → Type 0) (refuses : List ℕ → List ℕ → F → Type 0) where
  -- the fault comes first, after just these modules
  abbrev pub StopsAfter : Told → List ℕ → List (Loaded M) → LoadFault F → Type 0
  StopsAfter told entry modules f = StopsWhere reads requests shows refuses told entry (λ ms. ms ≡ modules) f

  -- what the first request that waits leads to
  abbrev pub Follows : Told → List ℕ → List (Loaded M) → Wait → List Wait → Result (Option (String Global)) (LoadFault F) → Type 0
  Follows told entry modules wait rest (Ok None) = Comes told reads requests entry modules rest
  Follows told entry modules wait rest (Ok (Some path)) = IsNext told reads requests entry modules rest (Some wait) (string_bytes path)
  Follows told entry modules wait rest (Err f) = StopsAfter told entry modules f

  -- what the requests that wait lead to
  abbrev pub Reaches : Told → List ℕ → List (Loaded M) → Loading M → Result (Option Next) (LoadFault F) → Type 0
  Reaches told entry modules new (Ok None) = Comes told reads requests entry modules [] × Shows modules [] new
  Reaches told entry modules new (Ok (Some next)) = (rest : List Wait) × IsNext told reads requests entry modules rest next.wait (string_bytes next.path) × Shows modules rest new
  Reaches told entry modules new (Err f) = StopsAfter told entry modules f

  module _ {S : Type 0} (hands : S → List ℕ → List ℕ → S → Type 0) (told : Told) (entry : List ℕ) (start : S) where
    -- loading comes to what is kept, and the supply handed out its modules
    pub record Arrives (l : Loading M) (now : S) : Type 0 where
      pub modules : List (Loaded M)
      pub waiting : List Wait
      pub comes : Comes told reads requests entry modules waiting
      pub kept : Shows modules waiting l
      pub handed : HandsOut hands start modules now

    -- all requests are followed
    pub record Arrived (l : Loading M) (now : S) : Type 0 where
      pub modules : List (Loaded M)
      pub comes : Comes told reads requests entry modules []
      pub kept : Shows modules [] l
      pub handed : HandsOut hands start modules now

    -- the fault comes first, and the modules that pass before it are kept
    abbrev pub Stops : Loading M → S → LoadFault F → Type 0
    Stops l now f = StopsWhere reads requests shows refuses told entry (λ modules. AreOut hands start l.modules now modules) f

    -- what the file that comes next leads to
    abbrev pub Adds : Loading M → S → Result Unit (LoadFault F) → Type 0
    Adds new now (Ok done) = Arrives new now
    Adds new now (Err f) = Stops new now f

    -- what it leads to where there may be none
    abbrev pub Steps : Loading M → S → Result Bool (LoadFault F) → Type 0
    Steps new now (Ok true) = Arrives new now
    Steps new now (Ok false) = Arrived new now
    Steps new now (Err f) = Stops new now f

    -- what all requests lead to
    abbrev pub Fills : Loading M → S → Result Unit (LoadFault F) → Type 0
    Fills new now (Ok done) = Arrived new now
    Fills new now (Err f) = Stops new now f
