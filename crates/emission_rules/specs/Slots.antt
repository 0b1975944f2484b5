-- The closures of a table's functions, each of which is taken once.
use Rattle.std.specs.Prelude.{ℕ, List, Option, None, Some, slice_get, slice_set}
use Rattle.emission_rules.specs.declared.scene.Closure.{Closure}

abbrev pub joined : {A : Type 0} → Option (Option A) → Option A
joined None = None
joined (Some x) = x

abbrev pub taken : List (Option Closure) → ℕ → Option Closure
taken slots at = joined (slice_get slots at)

abbrev pub left : List (Option Closure) → ℕ → List (Option Closure)
left slots at = slice_set slots at None
