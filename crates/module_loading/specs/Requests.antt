-- What the requests of modules name.
use Rattle.std.specs.Prelude.{◌≡◌, ℕ, zero, suc, Bool, false, List, [], ◌∷◌, ◌++◌, codes, cond, map, position, Option, Some, None, option_and_then}
use Rattle.std.specs.List.{list_any}
use Rattle.std.specs.Str.{bytes_eq}
use Rattle.es6_ast.specs.declared.graph.Request.{Request}
use Rattle.module_paths.specs.Paths.{path_from}
use Rattle.module_loading.specs.declared.waiting.Wait.{Wait}

abbrev pub is_listed : List ℕ → List (List ℕ) → Bool
is_listed path paths = list_any (bytes_eq path) paths

-- the host, which is no module
abbrev pub is_host : Request → Bool
is_host request = bytes_eq request.specifier (codes "host")

-- in the module with the path `base` the request names the module with this path
pub record Names (base : List ℕ) (request : Request) (path : List ℕ) : Type 0 where
  pub no_host : is_host request ≡ false
  pub path_is : path_from base request.specifier ≡ Some path

-- it is none of those with these paths
pub record NamesNew (paths : List (List ℕ)) (base : List ℕ) (request : Request) (path : List ℕ) : Type 0 where
  pub names : Names base request path
  pub is_new : is_listed path paths ≡ false

-- it names none
pub record NamesNone (base : List ℕ) (request : Request) : Type 0 where
  pub no_host : is_host request ≡ false
  pub no_path : path_from base request.specifier ≡ None

-- a path that is added at the end, unless it is there
abbrev pub with_path : List (List ℕ) → List ℕ → List (List ℕ)
with_path paths path = cond (is_listed path paths) paths (paths ++ path ∷ [])

-- the first requests, so many, of the module with this number
abbrev pub waits : ℕ → ℕ → List Wait
waits importer zero = []
waits importer (suc index) = waits importer index ++ record { importer = importer; index = index } ∷ []

-- the number of the module that a request names, among those with these paths: none for the host
abbrev pub number_of : List (List ℕ) → List ℕ → Request → Option ℕ
number_of paths base request =
    cond (is_host request) None (option_and_then (λ path. position (bytes_eq path) paths) (path_from base request.specifier))

abbrev pub numbered : List (List ℕ) → List ℕ → Request → Request
numbered paths base request = record request { «module» = number_of paths base request }

-- a module with the path `base`, with the numbers of the modules that it requests
abbrev pub renumbered : {M : Type 0} → (M → List Request) → (M → List Request → M) → List (List ℕ) → M → List ℕ → M
renumbered requests requested paths made base = requested made (map (numbered paths base) (requests made))

-- two lists that are put together, element by element
abbrev pub zipped : {A B : Type 0} → (A → B → A) → List A → List B → List A
zipped f [] ys = []
zipped f (x ∷ xs) [] = []
zipped f (x ∷ xs) (y ∷ ys) = f x y ∷ zipped f xs ys
