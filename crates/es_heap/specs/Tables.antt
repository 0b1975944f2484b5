-- The properties of an object: a list of keys with properties.
use Rattle.std.specs.Prelude.{◌≡◌, ℕ, ◌+◌, ◌<◌, ◌≤◌, max, Bool, true, nat_lt, if◌then◌else◌, List, [], ◌∷◌, filter, fold, Option, None, Some}
use Rattle.es_heap.specs.declared.key.Key.{Key}
use Rattle.es_heap.specs.declared.prop.Prop.{Prop}
use Rattle.es_heap.specs.declared.prop.Prop.TheVariants.{Plain, Accessor}
use Rattle.es_heap.specs.Keys.{array_index}

abbrev pub is_configurable : Prop → Bool
is_configurable (Plain v w c) = c
is_configurable (Accessor g s c) = c

-- where a cut ends that would end at `end`, once an entry was looked at: an element that isn't configurable stays
abbrev pub end_past : ℕ → Option ℕ → Prop → ℕ
end_past end None p = end
end_past end (Some i) p = if is_configurable p then end else max end (i + 1)

abbrev pub end_after : ℕ → Key × Prop → ℕ
end_after end e = end_past end (array_index e.0) e.1

-- the length that a cut to `length` leaves: past the last element that isn't configurable, or the length asked for
abbrev pub cut_end : ℕ → List (Key × Prop) → ℕ
cut_end length es = fold end_after length es

-- the key is no element at `end` or after it
abbrev pub stays_of : ℕ → Option ℕ → Bool
stays_of end None = true
stays_of end (Some i) = nat_lt i end

abbrev pub stays : ℕ → Key × Prop → Bool
stays end e = stays_of end (array_index e.0)

-- the properties after a cut that ends at `end`
abbrev pub cut_at : ℕ → List (Key × Prop) → List (Key × Prop)
cut_at end es = filter (stays end) es

-- a cut to n comes from both lists to one length, and leaves the same of both
abbrev pub CutsAs : ℕ → List (Key × Prop) → List (Key × Prop) → Type 0
CutsAs n old new = (cut_end n new ≡ cut_end n old) × (cut_at (cut_end n old) new ≡ cut_at (cut_end n old) old)

-- a cut to n takes this property away before all others: its index `left` is the largest below `top`, and it may go
abbrev pub IsFirstToGo : ℕ → ℕ → ℕ → Option (Key × Prop) → Type 0
IsFirstToGo n top left None = ⊥
IsFirstToGo n top left (Some e) = (array_index e.0 ≡ Some left) × (left + 1 ≡ top) × (n ≤ left) × (is_configurable e.1 ≡ true)

abbrev pub IsBelow : ℕ → Option ℕ → Type 0
IsBelow top None = Unit {0}
IsBelow top (Some i) = i < top

-- each array index among the keys is below `top`
abbrev pub IndicesBelow : ℕ → List (Key × Prop) → Type 0
IndicesBelow top [] = Unit {0}
IndicesBelow top (e ∷ es) = IsBelow top (array_index e.0) × IndicesBelow top es
