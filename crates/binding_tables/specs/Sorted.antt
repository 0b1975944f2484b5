-- Rows in the order of their keys, with their bindings.
use Rattle.std.specs.Prelude.{◌≡◌, ℕ, ◌<◌, ◌≤◌, List, length, map, slice_index_or}
use Rattle.std.specs.List.Sorted.{IsNonDecreasingBy}
use Rattle.binding_tables.specs.declared.ids.BindingId.{BindingId}
use Rattle.binding_tables.specs.declared.ids.Row.{Row}

pub record IsTable (rows : List Row) (bindings : List BindingId) : Type 0 where
  pub sorted : IsNonDecreasingBy (λ r. r.key) rows
  pub bindings_are : bindings ≡ map (λ r. r.binding) rows

-- the rows from lo up to hi have the key, and those before and behind have lower and higher ones
pub record IsRange (rows : List Row) (key lo hi : ℕ) : Type 0 where
  pub in_order : lo ≤ hi
  pub within : hi ≤ length rows
  pub below : (k : ℕ) (d : Row) → k < lo → (slice_index_or rows k d).key < key
  pub not_below : (k : ℕ) (d : Row) → lo ≤ k → k < length rows → key ≤ (slice_index_or rows k d).key
  pub not_above : (k : ℕ) (d : Row) → k < hi → (slice_index_or rows k d).key ≤ key
  pub above : (k : ℕ) (d : Row) → hi ≤ k → k < length rows → key < (slice_index_or rows k d).key
