-- How a name is found in a map, beside a stack of names that are declared, the innermost first.
use Rattle.std.specs.Prelude.{◌≡◌, ℕ, Bool, List, [], ◌∷◌, Option, None, map, unwrap_or}
use Rattle.std.specs.Str.{bytes_eq}
use Rattle.std.specs.HashMap.{HashMap, get_by}
use Rattle.std.specs.declared.vec.Vec.{Vec}
use Rattle.std.specs.declared.alloc.Global.{Global}
use Rattle.std.specs.declared.hash.FoldHasher.{FoldHasher}
use Rattle.std.specs.declared.hash.BuildHasherDefault.{BuildHasherDefault}
use Rattle.module_scopes.specs.declared.environment.Declared.{Declared}
use Rattle.es6_static_semantics.specs.Outside.{Known, declared_as}

abbrev pub Key : Type 0
Key = Vec ℕ Global

abbrev pub Innermost : Type 0
Innermost = HashMap Key (Option Bool) (BuildHasherDefault FoldHasher)

abbrev pub is_name : List ℕ → Key → Bool
is_name name v = bytes_eq name v.items

-- what the map has at a name
abbrev pub innermost_of : Innermost → List ℕ → Option Bool
innermost_of innermost name = unwrap_or (get_by (is_name name) innermost) None

abbrev pub declaration : Declared → Known
declaration d = record { name = d.name.items; is_host = d.is_host }

-- each declaration remembers what its name is further out
abbrev pub RememberOuter : List Declared → Type 0
RememberOuter [] = Unit {0}
RememberOuter (d ∷ ds) = (d.outer ≡ declared_as d.name.items (map declaration ds)) × RememberOuter ds

-- what is found at a name is its innermost declaration
pub record AgreeWith (found : List ℕ → Option Bool) (stack : List Declared) : Type 0 where
  pub innermost : (name : List ℕ) → found name ≡ declared_as name (map declaration stack)
  pub outer : RememberOuter stack
