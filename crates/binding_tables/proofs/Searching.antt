-- What a key has in rows that are sorted by their keys.
use Rattle.std.proofs.Common.{◌≡◌, ℕ, zero, suc, ◌<◌, ◌≤◌, ◌&&◌, nat_eq, Bool, true, false, not, cond, List, [], ◌∷◌, filter, map, length, get_or, take, drop, refl, sym, ap, ◌∙◌, arith, tests, ⊎_elim, ltb, leb, ltb-true, ltb-false, leb-true, leb-false}
use Rattle.std.proofs.lemmas.Bool.{cases_lt}
use Rattle.std.specs.List.Sorted.{IsPartitionPoint, IsStableByKey, ties}
use Rattle.std.specs.Ordering.{is_lt, nat_cmp}
use Rattle.binding_tables.specs.Rows.{has_key, rows_of}
use Rattle.binding_tables.specs.Sorted.{IsRange}
use Rattle.binding_tables.specs.declared.ids.BindingId.{BindingId}
use Rattle.binding_tables.specs.declared.ids.BindingId.TheVariants.{Global}
use Rattle.binding_tables.specs.declared.ids.Row.{Row}

tie_is : (a b : ℕ) → not (is_lt (nat_cmp a b)) && not (is_lt (nat_cmp b a)) ≡ nat_eq b a
tie_is a b = grind (arith, tests)

filter_by : {X : Type 0} (p q : X → Bool) (xs : List X) → ((x : X) → p x ≡ q x) → filter p xs ≡ filter q xs
filter_by p q xs same = ap (λ t. filter t xs) (λ i x. same x i)

-- a stable sort by the keys
pub stable_rows : (key : ℕ) (xs ys : List Row) → IsStableByKey (λ r. r.key) nat_cmp xs ys → rows_of key ys ≡ rows_of key xs
stable_rows key xs ys stable =
    let x : Row = record { key = key; binding = Global 0 } in
    let tied : Row → Bool = ties (λ a b. is_lt (nat_cmp a.key b.key)) x in
    ap (map (λ r. r.binding))
    (filter_by (has_key key) tied ys (λ y. sym (tie_is key y.key)) ∙ stable x ∙ filter_by tied (has_key key) xs (λ y. tie_is key y.key))

other_key : (r : Row) (rows : List Row) (key : ℕ) → nat_eq r.key key ≡ false → rows_of key (r ∷ rows) ≡ rows_of key rows
other_key r rows key e = ap (λ b. map (λ x. x.binding) (cond b (r ∷ filter (has_key key) rows) (filter (has_key key) rows))) e

same_key : (r : Row) (rows : List Row) (key : ℕ) → nat_eq r.key key ≡ true → rows_of key (r ∷ rows) ≡ r.binding ∷ rows_of key rows
same_key r rows key e = ap (λ b. map (λ x. x.binding) (cond b (r ∷ filter (has_key key) rows) (filter (has_key key) rows))) e

below_key : (a b : ℕ) → a < b → nat_eq a b ≡ false
below_key a b l = grind (arith, tests)

above_key : (a b : ℕ) → b < a → nat_eq a b ≡ false
above_key a b l = grind (arith, tests)

at_key : (a b : ℕ) → a ≤ b → b ≤ a → nat_eq a b ≡ true
at_key a b l m = grind (arith, tests)

abbrev none : List BindingId
none = []

taken_none : (n m : ℕ) → drop n (take m none) ≡ none
taken_none zero zero = refl
taken_none zero (suc m) = refl
taken_none (suc n) zero = refl
taken_none (suc n) (suc m) = refl

abbrev pub bindings_of : List Row → List BindingId
bindings_of rows = map (λ r. r.binding) rows

pub sliced : (rows : List Row) (key lo hi : ℕ) → IsRange rows key lo hi → drop lo (take hi (bindings_of rows)) ≡ rows_of key rows
sliced [] key lo hi h = taken_none lo hi
sliced (r ∷ rows) key zero zero h =
    sliced rows key zero zero (record { in_order = omega (arith, h.in_order); within = omega arith; below = λ k d l. absurd (omega arith); not_below = λ k d l m. h.not_below (suc k) d (omega arith) (omega arith); not_above = λ k d l. absurd (omega arith); above = λ k d l m. h.above (suc k) d (omega arith) (omega arith) })
    ∙ sym (other_key r rows key (above_key r.key key (h.above 0 r (omega arith) (omega arith))))
sliced (r ∷ rows) key zero (suc hi) h =
    let rest : drop zero (take hi (bindings_of rows)) ≡ rows_of key rows = sliced rows key zero hi (record { in_order = omega (arith, h.in_order); within = omega (arith, h.within); below = λ k d l. absurd (omega arith); not_below = λ k d l m. h.not_below (suc k) d (omega arith) (omega arith); not_above = λ k d l. h.not_above (suc k) d (omega arith); above = λ k d l m. h.above (suc k) d (omega arith) (omega arith) }) in
    let more : drop zero (take (suc hi) (bindings_of (r ∷ rows))) ≡ r.binding ∷ rows_of key rows = ap (λ bs. r.binding ∷ bs) rest in
    more ∙ sym (same_key r rows key (at_key r.key key (h.not_above 0 r (omega arith)) (h.not_below 0 r (omega arith) (omega arith))))
sliced (r ∷ rows) key (suc lo) zero h = absurd (omega (arith, h.below 0 r (omega arith), h.above 0 r (omega arith) (omega arith)))
sliced (r ∷ rows) key (suc lo) (suc hi) h =
    let rest : drop lo (take hi (bindings_of rows)) ≡ rows_of key rows = sliced rows key lo hi (record { in_order = omega (arith, h.in_order); within = omega (arith, h.within); below = λ k d l. h.below (suc k) d (omega arith); not_below = λ k d l m. h.not_below (suc k) d (omega arith) (omega arith); not_above = λ k d l. h.not_above (suc k) d (omega arith); above = λ k d l m. h.above (suc k) d (omega arith) (omega arith) }) in
    rest ∙ sym (other_key r rows key (below_key r.key key (h.below 0 r (omega arith))))

-- what two binary searches find
pub ranged : (rows : List Row) (key lo hi : ℕ) → lo ≤ length rows → hi ≤ length rows → IsPartitionPoint (λ r. ltb r.key key ≡ true) (λ r. ltb r.key key ≡ false) rows lo
    → IsPartitionPoint (λ r. leb r.key key ≡ true) (λ r. leb r.key key ≡ false) rows hi → IsRange rows key lo hi
ranged rows key lo hi long within low high =
    let d : Row = record { key = key; binding = Global 0 } in
    let below : (k : ℕ) (e : Row) → k < lo → (get_or rows k e).key < key = λ k e l. ltb-true (get_or rows k e).key key (low.0 k e (omega arith) l) in
    let above : (k : ℕ) (e : Row) → hi ≤ k → k < length rows → key < (get_or rows k e).key = λ k e l m. leb-false (get_or rows k e).key key (high.1 k e l m) in
    record {
      in_order = ⊎_elim (λ (l : hi < lo). absurd (omega (arith, below hi d l, above hi d (omega arith) (omega arith)))) (λ (l : lo ≤ hi). l) (cases_lt hi lo);
      within = within;
      below = below;
      not_below = λ k e l m. ltb-false (get_or rows k e).key key (low.1 k e l m);
      not_above = λ k e l. leb-true (get_or rows k e).key key (high.0 k e (omega arith) l);
      above = above;
    }
