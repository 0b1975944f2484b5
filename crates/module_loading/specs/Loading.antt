-- Loading a graph of modules: the entry first, and depth first by requests, each path once. What reads one module says which bytes
-- it reads as which module, and in which it finds which fault.
use Rattle.std.specs.Prelude.{◌≡◌, ℕ, ◌+◌, ◌<◌, ◌≤◌, true, List, [], ◌∷◌, ◌++◌, length, map, slice_get, sum_by, Option, Some, None, Result, Ok, Err}
use Rattle.es_text.specs.declared.Place.{Place}
use Rattle.es6_ast.specs.declared.graph.Request.{Request}
use Rattle.module_loading.specs.declared.fault.LoadFault.{LoadFault}
use Rattle.module_loading.specs.declared.fault.LoadFault.TheVariants as fault
use Rattle.module_loading.specs.declared.waiting.Wait.{Wait}
use Rattle.module_loading.specs.Files.{Holds, Told}
use Rattle.module_loading.specs.Requests.{Names, NamesNew, NamesNone, is_host, is_listed, renumbered, waits}

-- a module that is loaded: its path, the bytes of its file, and what they are read as
pub record Loaded (M : Type 0) : Type 0 where
  pub path : List ℕ
  pub bytes : List ℕ
  pub made : M

abbrev pub paths_of : {M : Type 0} → List (Loaded M) → List (List ℕ)
paths_of modules = map (λ m. m.path) modules

abbrev pub size_of : {M : Type 0} → List (Loaded M) → ℕ
size_of modules = sum_by (λ m. length m.bytes) modules

-- what waits is this request of this module
pub record IsOf {M : Type 0} (requests : M → List Request) (modules : List (Loaded M)) (wait : Wait) (m : Loaded M) (request : Request) : Type 0 where
  pub stands : slice_get modules wait.importer ≡ Some m
  pub asked : slice_get (requests m.made) wait.index ≡ Some request

-- The file at this path has these bytes, which are no more than a module may have, and with those loaded no more than a graph may.
pub record Fits {M : Type 0} (told : Told) (modules : List (Loaded M)) (path bytes : List ℕ) : Type 0 where
  pub holds : Holds told path (Some bytes)
  pub short : length bytes ≤ 4194304
  pub within : size_of modules + length bytes ≤ 16777216

module _ {M : Type 0} (told : Told) (reads : List ℕ → List ℕ → M → Type 0) (requests : M → List Request) where
  -- One step: the first request that waits is the host's, or that of a module which is loaded, or its module is loaded now, and the
  -- requests of that one come first.
  pub data Goes : List (Loaded M) → List Wait → List (Loaded M) → List Wait → Type 0 where
    past_host : {modules : List (Loaded M)} {wait : Wait} {rest : List Wait} {m : Loaded M} {request : Request} → IsOf requests modules wait m request → is_host request ≡ true
        → Goes modules (wait ∷ rest) modules rest
    past_loaded : {modules : List (Loaded M)} {wait : Wait} {rest : List Wait} {m : Loaded M} {request : Request} {path : List ℕ} → IsOf requests modules wait m request → Names m.path request path
        → is_listed path (paths_of modules) ≡ true → Goes modules (wait ∷ rest) modules rest
    loads : {modules : List (Loaded M)} {wait : Wait} {rest : List Wait} {m : Loaded M} {request : Request} {path bytes : List ℕ} {made : M} → IsOf requests modules wait m request
        → NamesNew (paths_of modules) m.path request path → length modules < 1024 → Fits told modules path bytes → reads path bytes made
        → Goes modules (wait ∷ rest) (modules ++ record { path = path; bytes = bytes; made = made } ∷ []) (waits (length modules) (length (requests made)) ++ rest)

  module _ (entry : List ℕ) where
    -- the modules in load order, and the requests that wait, to which loading comes
    pub data Comes : List (Loaded M) → List Wait → Type 0 where
      begins : {bytes : List ℕ} {made : M} → Fits {M = M} told [] entry bytes → reads entry bytes made
          → Comes (record { path = entry; bytes = bytes; made = made } ∷ []) (waits 0 (length (requests made)))
      goes : {modules after : List (Loaded M)} {waiting more : List Wait} → Comes modules waiting → Goes modules waiting after more → Comes after more

    -- The file that is read after these modules have passed, while these requests wait: that of the entry, or of a request.
    pub data IsNext : List (Loaded M) → List Wait → Option Wait → List ℕ → Type 0 where
      the_entry : IsNext [] [] None entry
      the_requested : {modules : List (Loaded M)} {wait : Wait} {rest : List Wait} {m : Loaded M} {request : Request} {path : List ℕ} → Comes modules (wait ∷ rest)
          → IsOf requests modules wait m request → NamesNew (paths_of modules) m.path request path → length modules < 1024 → IsNext modules rest (Some wait) path

    -- The graph: all requests are followed, and these are the modules with the numbers of those that they name.
    pub record IsGraph (requested : M → List Request → M) (graph : List M) : Type 0 where
      pub modules : List (Loaded M)
      pub ends : Comes modules []
      pub graph_is : graph ≡ map (λ m. renumbered requests requested (paths_of modules) m.made m.path) modules

    -- The request that comes first among those that wait, told by the path of its module and by its place there.
    pub record IsFirst (shows : M → ℕ → Place → Type 0) (modules : List (Loaded M)) (request : Request) (base : List ℕ) (place : Place) : Type 0 where
      pub wait : Wait
      pub rest : List Wait
      pub comes : Comes modules (wait ∷ rest)
      pub m : Loaded M
      pub is_of : IsOf requests modules wait m request
      pub base_is : base ≡ m.path
      pub place_is : shows m.made request.at place

    -- it names no module
    pub record IsBad (shows : M → ℕ → Place → Type 0) (base : List ℕ) (place : Place) (specifier : List ℕ) : Type 0 where
      pub modules : List (Loaded M)
      pub request : Request
      pub first : IsFirst shows modules request base place
      pub names : NamesNone base request
      pub specifier_is : specifier ≡ request.specifier

    -- it names one more than a graph may have
    pub record IsOneTooMany (shows : M → ℕ → Place → Type 0) (base : List ℕ) (place : Place) : Type 0 where
      pub modules : List (Loaded M)
      pub request : Request
      pub first : IsFirst shows modules request base place
      pub path : List ℕ
      pub names : NamesNew (paths_of modules) base request path
      pub full : 1024 ≤ length modules

    -- it names one for which there is room, and no file
    pub record IsMissing (shows : M → ℕ → Place → Type 0) (base : List ℕ) (place : Place) (specifier : List ℕ) : Type 0 where
      pub modules : List (Loaded M)
      pub request : Request
      pub first : IsFirst shows modules request base place
      pub path : List ℕ
      pub names : NamesNew (paths_of modules) base request path
      pub room : length modules < 1024
      pub missing : Holds told path None
      pub specifier_is : specifier ≡ request.specifier

    -- after these modules the file at this path comes next
    pub record FollowsFile (modules : List (Loaded M)) (path : List ℕ) : Type 0 where
      pub rest : List Wait
      pub wait : Option Wait
      pub next : IsNext modules rest wait path

    pub record IsFileTooLong (path : List ℕ) : Type 0 where
      pub modules : List (Loaded M)
      pub next : FollowsFile modules path
      pub bytes : List ℕ
      pub holds : Holds told path (Some bytes)
      pub long : 4194304 < length bytes

    pub record IsGraphTooLong (path : List ℕ) : Type 0 where
      pub modules : List (Loaded M)
      pub next : FollowsFile modules path
      pub bytes : List ℕ
      pub holds : Holds told path (Some bytes)
      pub short : length bytes ≤ 4194304
      pub long : 16777216 < size_of modules + length bytes

    -- its bytes have a fault of their own
    pub record IsRefused {F : Type 0} (refuses : List ℕ → List ℕ → F → Type 0) (path : List ℕ) (f : F) : Type 0 where
      pub modules : List (Loaded M)
      pub next : FollowsFile modules path
      pub bytes : List ℕ
      pub fits : Fits told modules path bytes
      pub refused : refuses path bytes f

    -- The first fault. The checks of a request have the order in which their faults stand here. Of a read that failed it is said which
    -- it was, and nothing where memory runs out.
    abbrev pub IsFault : {F : Type 0} → (M → ℕ → Place → Type 0) → (List ℕ → List ℕ → F → Type 0) → LoadFault F → Type 0
    IsFault shows refuses (fault.BadSpecifier base place specifier) = IsBad shows base place specifier
    IsFault shows refuses (fault.TooManyModules base place) = IsOneTooMany shows base place
    IsFault shows refuses (fault.ReadFault path) = (modules : List (Loaded M)) × FollowsFile modules path
    IsFault shows refuses fault.EntryMissing = Holds told entry None
    IsFault shows refuses (fault.Missing base place specifier) = IsMissing shows base place specifier
    IsFault shows refuses (fault.FileTooLong path) = IsFileTooLong path
    IsFault shows refuses (fault.GraphTooLong path) = IsGraphTooLong path
    IsFault shows refuses (fault.InModule path f) = IsRefused refuses path f
    IsFault shows refuses fault.OutOfMemory = Unit {0}

    abbrev pub LoadsTo : {F : Type 0} → (M → List Request → M) → (M → ℕ → Place → Type 0) → (List ℕ → List ℕ → F → Type 0) → Result (List M) (LoadFault F) → Type 0
    LoadsTo requested shows refuses (Ok graph) = IsGraph requested graph
    LoadsTo requested shows refuses (Err f) = IsFault shows refuses f

-- a read that failed
abbrev pub HasReadFault : {G F : Type 0} → Result G (LoadFault F) → Type 0
HasReadFault {G} {F} result = (path : List ℕ) × (result ≡ Err (fault.ReadFault path))
