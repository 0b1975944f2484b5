-- The names of properties, as the walk has them, and which of them a later one clashes with (ECMA-262, 5.1 edition, 11.1.5).
use Rattle.std.specs.Prelude.{ℕ, Bool, true, false, ◌&&◌, ◌||◌, cond, List, ◌∷◌}
use Rattle.es5_early.specs.declared.properties.PropertyNames.{PropertyNames}
use Rattle.es5_ast.specs.Early.{Sort5, Data, Get, Set, Held5}
use Rattle.es5_ast.specs.Lexical.{is_one_of}

abbrev pub is_read : Sort5 → Bool
is_read Data = true
is_read Get = true
is_read Set = false

abbrev pub is_written : Sort5 → Bool
is_written Data = true
is_written Get = false
is_written Set = true

abbrev pub clashes_as : PropertyNames → List ℕ → Bool → Bool → Bool
clashes_as names name reads writes = (reads && is_one_of name names.read) || (writes && is_one_of name names.written)

abbrev pub has_clash : PropertyNames → Held5 → Bool
has_clash names p = clashes_as names p.name (is_read p.sort) (is_written p.sort)

abbrev pub with_name : PropertyNames → List ℕ → Bool → Bool → PropertyNames
with_name names name reads writes =
    record { read = cond reads (name ∷ names.read) names.read; written = cond writes (name ∷ names.written) names.written }

abbrev pub with_held : PropertyNames → Held5 → PropertyNames
with_held names p = with_name names p.name (is_read p.sort) (is_written p.sort)
