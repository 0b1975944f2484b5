-- What a map of places says of a list of names.
use Rattle.std.specs.Prelude.{◌≡◌, ℕ, List, Option}
use Rattle.std.specs.Str.{bytes_eq}
use Rattle.std.specs.HashMap.{get_by}
use Rattle.es6_ast.specs.declared.tree.Identifier.{Identifier}
use Rattle.es6_static_semantics.specs.Findings.{first_place}
use Rattle.early_names.specs.declared.places.Places.{Places}

-- the place that a name has
abbrev pub place_of : Places → List ℕ → Option ℕ
place_of p name = get_by (λ key. bytes_eq name key.now) p.places

-- each name has the place where it first stands in the list
abbrev pub Indexes : Places → List Identifier → Type 0
Indexes p names = (name : List ℕ) → place_of p name ≡ first_place name names
