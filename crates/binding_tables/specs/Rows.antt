-- Bindings by a key, as a place or a number.
use Rattle.std.specs.Prelude.{ℕ, nat_eq, nat_lt, Bool, List, filter, length, map}
use Rattle.binding_tables.specs.declared.ids.BindingId.{BindingId}
use Rattle.binding_tables.specs.declared.ids.Row.{Row}

abbrev pub has_key : ℕ → Row → Bool
has_key key r = nat_eq r.key key

-- the bindings of a key, in the order of the rows
abbrev pub rows_of : ℕ → List Row → List BindingId
rows_of key rows = map (λ r. r.binding) (filter (has_key key) rows)

abbrev pub any_row : ℕ → List Row → Bool
any_row key rows = nat_lt 0 (length (rows_of key rows))
