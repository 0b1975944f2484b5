-- Imported namespaces.
use Rattle.std.specs.Prelude.{ℕ, List, map, nat_eq, Option, Some, None}
use Rattle.std.specs.HashMap.{HashMap, get_by}
use Rattle.std.specs.declared.hash.FoldHasher.{FoldHasher}
use Rattle.std.specs.declared.hash.BuildHasherDefault.{BuildHasherDefault}
use Rattle.es6_ast.specs.declared.module.ImportedNames.{ImportedNames}
use Rattle.module_lowering.specs.Modules.{ImportedSpace, module_in, namespace_at, space_at}

-- those of the names of one import, from a module
abbrev pub spaces_under : Option ℕ → ImportedNames → List ImportedSpace
spaces_under home names = map (λ at. record { at = at; home = home }) (namespace_at names)

-- the module of the namespace of a name, by what its module imports
abbrev pub space_among : ℕ → Option (List ImportedSpace) → Option ℕ
space_among at None = None
space_among at (Some ss) = space_at at ss

-- the same by a table of modules by places
abbrev pub Homes : Type 0
Homes = HashMap ℕ (Option ℕ) (BuildHasherDefault FoldHasher)

abbrev pub placed : Homes → ℕ → Option ℕ
placed index at = module_in (get_by (nat_eq at) index)
