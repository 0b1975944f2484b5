-- A function among those of its name.
use Rattle.std.specs.Prelude.{List, [], if◌then◌else◌, ◌∷◌, ℕ}
use Rattle.std.specs.List.{list_any}
use Rattle.es6_ast.specs.declared.tree.Function.{Function}
use Rattle.source_meaning.specs.Trees.{function_names, has_name}

-- the function alone, unless its name is among these of later ones
abbrev pub unless_named : List (List ℕ) → Function → List Function
unless_named later f = if list_any (has_name later) (function_names (f ∷ [])) then [] else f ∷ []
