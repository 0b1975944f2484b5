-- The names of a core: the next one is the place behind the last.
use Rattle.std.specs.Prelude.{ℕ, length, List, [], ◌∷◌, ◌++◌, Option}
use Rattle.core_ast.specs.declared.parts.Var.{Var}
use Rattle.core_ast.specs.declared.naming.Fresh.{Fresh}

abbrev pub next : Fresh → Var
next fresh = record { 0 = length fresh.hints }

abbrev pub with_hint : Option (List ℕ) → Fresh → Fresh
with_hint hint fresh = record { hints = fresh.hints ++ hint ∷ [] }
