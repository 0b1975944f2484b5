-- What operations on a list of properties do to the array indices among its keys.
use Rattle.std.proofs.Common.{◌≡◌, ◌<◌, ◌≤◌, ◌+◌, ◌-◌, ◌++◌, ◌⊎◌, inl, inr, ℕ, zero, suc, length, take, position, swap_remove, slice_get, slice_set, slice_index_or, subst, IsSome, IfSome, Bool, true, false, cond, nat_lt, max, List, [], ◌∷◌, fold, Option, None, Some, refl, sym, ap, ◌∙◌, arith, true≢false, if◌then◌else◌}
use Rattle.std.proofs.lemmas.Bool.Decides.{nat_tests}
use Rattle.std.proofs.lemmas.List.{get_or_default, length-append}
use Rattle.std.specs.Map.{lookup, keys_of}
use Rattle.std.specs.Option.{option_map_or, option_to_list}
use Rattle.std.specs.List.{position_or_len}
use Rattle.indexmap.specs.IndexMap.{IndexMap, Updates, insert_entry, swap_remove_entry}
use Rattle.es_heap.specs.declared.key.Key.{Key}
use Rattle.es_heap.specs.declared.prop.Prop.{Prop}
use Rattle.es_heap.specs.Keys.{same_key, same_key-Decides, array_index}
use Rattle.es_heap.specs.Tables.{is_configurable, end_past, end_after, cut_end, stays_of, stays, cut_at, IsBelow, IndicesBelow, CutsAs, IsFirstToGo}
use Rattle.es_heap.proofs.Indices.{index_injective}

pub IsBelow-weaker : (top more : ℕ) (o : Option ℕ) → top ≤ more → IsBelow top o → IsBelow more o
IsBelow-weaker top more None h b = tt
IsBelow-weaker top more (Some i) h b = omega arith

pub IndicesBelow-weaker : (top more : ℕ) (es : List (Key × Prop)) → top ≤ more → IndicesBelow top es → IndicesBelow more es
IndicesBelow-weaker top more [] h b = tt
IndicesBelow-weaker top more (e ∷ es) h b = (IsBelow-weaker top more (array_index e.0) h b.0, IndicesBelow-weaker top more es h b.1)

pub IndicesBelow-insert : (top : ℕ) (es : List (Key × Prop)) (k : Key) (p : Prop) → IndicesBelow top es → IsBelow top (array_index k) → IndicesBelow top (insert_entry same_key es k p)
IndicesBelow-insert top [] k p b h = (h, tt)
IndicesBelow-insert top (e ∷ es) k p b h = by (same_key k e.0) (IndicesBelow-insert top es k p b.1 h)
  where
    by : (c : Bool) → IndicesBelow top (insert_entry same_key es k p) → IndicesBelow top (if c then (e.0, p) ∷ es else e ∷ insert_entry same_key es k p)
    by true rest = (b.0, b.1)
    by false rest = (b.0, rest)

IndicesBelow-take : (top n : ℕ) (es : List (Key × Prop)) → IndicesBelow top es → IndicesBelow top (take n es)
IndicesBelow-take top zero es b = tt
IndicesBelow-take top (suc n) [] b = tt
IndicesBelow-take top (suc n) (e ∷ es) b = (b.0, IndicesBelow-take top n es b.1)

IndicesBelow-set : (top i : ℕ) (es : List (Key × Prop)) (d : Key × Prop) → IndicesBelow top es → IsBelow top (array_index d.0) → IndicesBelow top (slice_set es i d)
IndicesBelow-set top i [] d b h = tt
IndicesBelow-set top zero (e ∷ es) d b h = (h, b.1)
IndicesBelow-set top (suc i) (e ∷ es) d b h = (b.0, IndicesBelow-set top i es d b.1 h)

IndicesBelow-get : (top i : ℕ) (es : List (Key × Prop)) (d : Key × Prop) → IndicesBelow top es → IsBelow top (array_index d.0) → IsBelow top (array_index (slice_index_or es i d).0)
IndicesBelow-get top i [] d b h = h
IndicesBelow-get top zero (e ∷ es) d b h = b.0
IndicesBelow-get top (suc i) (e ∷ es) d b h = IndicesBelow-get top i es d b.1 h

pub IndicesBelow-remove : (top : ℕ) (es : List (Key × Prop)) (test : Key → Bool) → IndicesBelow top es → IndicesBelow top (swap_remove_entry test es)
IndicesBelow-remove top [] test b = tt
IndicesBelow-remove top (e ∷ es) test b = by (position test (keys_of (e ∷ es)))
  where
    by : (o : Option ℕ) → IndicesBelow top (option_map_or (λ i. swap_remove (e ∷ es) i e) o (e ∷ es))
    by None = b
    by (Some i) = IndicesBelow-take top _ _ (IndicesBelow-set top i (e ∷ es) _ b (IndicesBelow-get top _ (e ∷ es) e b b.0))

-- what stands before the others stays before them
pub swap_remove_after : (test : Key → Bool) (e : Key × Prop) (es : List (Key × Prop)) → test e.0 ≡ false → swap_remove_entry test (e ∷ es) ≡ e ∷ swap_remove_entry test es
swap_remove_after test e [] apart = rw apart refl
swap_remove_after test e (d ∷ ds) apart = rw apart (by (1 + position_or_len test (keys_of (d ∷ ds))) (position_or_len test (keys_of (d ∷ ds))) _ _ (omega arith) (one (position_or_len test (keys_of (d ∷ ds))) (length (keys_of (d ∷ ds)))))
  where
    one : (m n : ℕ) → nat_lt (1 + m) (suc n) ≡ nat_lt m n
    one m n = less (nat_lt m n) refl
      where
        less : (b : Bool) → nat_lt m n ≡ b → nat_lt (1 + m) (suc n) ≡ b
        less true q = grind (arith, nat_tests)
        less false q = grind (arith, nat_tests)

    there : (m : ℕ) → swap_remove (e ∷ d ∷ ds) (suc m) e ≡ e ∷ swap_remove (d ∷ ds) m d
    there m =
        let whole : suc (suc (length ds)) - 1 ≡ suc (length ds) = omega arith in
        let rest : suc (length ds) - 1 ≡ length ds = omega arith in
        ap (λ n. take n (slice_set (e ∷ d ∷ ds) (suc m) (slice_index_or (e ∷ d ∷ ds) n e))) whole
        ∙ ap (λ x. e ∷ take (length ds) (slice_set (d ∷ ds) m x)) (get_or_default (d ∷ ds) (length ds) e d (omega arith))
        ∙ ap (λ n. e ∷ take n (slice_set (d ∷ ds) m (slice_index_or (d ∷ ds) n d))) (sym rest)

    by : (i m : ℕ) (a b : Bool) → i ≡ suc m → a ≡ b → option_map_or (λ i. swap_remove (e ∷ d ∷ ds) i e) (cond a (Some i) None) (e ∷ d ∷ ds) ≡ e ∷ option_map_or (λ i. swap_remove (d ∷ ds) i d) (cond b (Some m) None) (d ∷ ds)
    by i m true true at q = ap (λ n. swap_remove (e ∷ d ∷ ds) n e) at ∙ there m
    by i m false false at q = refl
    by i m true false at q = absurd (true≢false q)
    by i m false true at q = absurd (true≢false (sym q))

-- without the key of the largest index, the indices are below that one
pub IndicesBelow-without : (top i : ℕ) (k : Key) (es : List (Key × Prop)) → i + 1 ≡ top → array_index k ≡ Some i → lookup (same_key k) es ≡ None → IndicesBelow top es → IndicesBelow i es
IndicesBelow-without top i k [] t at none b = tt
IndicesBelow-without top i k (e ∷ es) t at none b = by (same_key k e.0) refl (λ rest. IndicesBelow-without top i k es t at rest b.1)
  where
    apart : (j : ℕ) → array_index e.0 ≡ Some j → same_key k e.0 ≡ false → j < top → (c : Bool) → nat_lt j i ≡ c → j < i
    apart j p ne below true q = grind (arith, nat_tests)
    apart j p ne below false q =
        let past : i ≤ j = grind (arith, nat_tests) in
        let equal : j ≡ i = omega arith in
        let key : k ≡ e.0 = index_injective k e.0 i at (p ∙ ap Some equal) in
        absurd (true≢false (sym ((same_key-Decides k e.0).1 key) ∙ ne))

    other : (o : Option ℕ) → array_index e.0 ≡ o → same_key k e.0 ≡ false → IsBelow top o → IsBelow i o
    other None p ne below = tt
    other (Some j) p ne below = apart j p ne below (nat_lt j i) refl

    by : (c : Bool) → same_key k e.0 ≡ c → (lookup (same_key k) es ≡ None → IndicesBelow i es) → IndicesBelow i (e ∷ es)
    by true q rest =
        let found : Some e.1 ≡ None = sym (ap (λ c. cond c (Some e.1) (lookup (same_key k) es)) q) ∙ none in
        absurd (cc found)
    by false q rest = (other (array_index e.0) refl q b.0, rest (sym (ap (λ c. cond c (Some e.1) (lookup (same_key k) es)) q) ∙ none))

-- a cut never ends past all indices and the length asked for
cut_end-bound : (top n : ℕ) (es : List (Key × Prop)) → n ≤ top → IndicesBelow top es → cut_end n es ≤ top
cut_end-bound top n [] h b = h
cut_end-bound top n (e ∷ es) h b = cut_end-bound top (end_after n e) es (by (array_index e.0) b.0) b.1
  where
    one : (i : ℕ) → i < top → (c : Bool) → (if c then n else max n (i + 1)) ≤ top
    one i below true = h
    one i below false = omega arith

    by : (o : Option ℕ) → IsBelow top o → end_past n o e.1 ≤ top
    by None below = h
    by (Some i) below = one i below (is_configurable e.1)

IndicesBelow-front : (top : ℕ) (es : List (Key × Prop)) (e : Key × Prop) → IndicesBelow top (es ++ e ∷ []) → IndicesBelow top es
IndicesBelow-front top [] e b = tt
IndicesBelow-front top (d ∷ es) e b = (b.0, IndicesBelow-front top es e b.1)

cut_end-push : (n : ℕ) (es : List (Key × Prop)) (e : Key × Prop) → is_configurable e.1 ≡ true → cut_end n (es ++ e ∷ []) ≡ cut_end n es
cut_end-push n [] e c = by (array_index e.0)
  where
    by : (o : Option ℕ) → end_past n o e.1 ≡ n
    by None = refl
    by (Some i) = ap (λ b. if b then n else max n (i + 1)) c
cut_end-push n (d ∷ es) e c = cut_end-push (end_after n d) es e c

cut_at-push : (end : ℕ) (es : List (Key × Prop)) (e : Key × Prop) → stays end e ≡ false → cut_at end (es ++ e ∷ []) ≡ cut_at end es
cut_at-push end [] e gone = ap (λ b. cond b (e ∷ []) []) gone
cut_at-push end (d ∷ es) e gone = ap (λ r. cond (stays end d) (d ∷ r) r) (cut_at-push end es e gone)

last_at : (es : List (Key × Prop)) (e : Key × Prop) → slice_get (es ++ e ∷ []) (length (es ++ e ∷ []) - 1) ≡ Some e
last_at [] e = refl
last_at (d ∷ es) e =
    let n : length (d ∷ (es ++ e ∷ [])) - 1 ≡ suc (length (es ++ e ∷ []) - 1) = omega (arith, length-append es (e ∷ [])) in
    ap (slice_get (d ∷ (es ++ e ∷ []))) n ∙ last_at es e

pub full : (n top left : ℕ) (es : List (Key × Prop)) → IsFirstToGo n top left (slice_get es (length es - 1)) → 0 < length es
full n top left [] goes = absurd goes
full n top left (e ∷ es) goes = omega arith

-- the last property, which a cut takes away first, was taken away
pub popped : (n top left : ℕ) (old new : List (Key × Prop)) (r : Option (Key × Prop)) → old ≡ new ++ option_to_list r → IsSome r → IfSome r (λ e. lookup (same_key e.0) new ≡ None)
    → IsFirstToGo n top left (slice_get old (length old - 1)) → IndicesBelow top old → CutsAs n old new × IndicesBelow left new
popped n top left old new None off some none goes b = absurd (true≢false (sym some))
popped n top left old new (Some e) off some none goes b =
    subst (λ l. CutsAs n l new × IndicesBelow left new) (sym off) (
    let last : slice_get old (length old - 1) ≡ Some e = ap (λ l. slice_get l (length l - 1)) off ∙ last_at new e in
    let g : IsFirstToGo n top left (Some e) = subst (IsFirstToGo n top left) last goes in
    let below : IndicesBelow left new = IndicesBelow-without top left e.0 new g.1 g.0 none (IndicesBelow-front top new e (subst (IndicesBelow top) off b)) in
    let short : cut_end n new ≤ left = cut_end-bound left n new g.2 below in
    let same : cut_end n (new ++ e ∷ []) ≡ cut_end n new = cut_end-push n new e g.3 in
    let late : nat_lt left (cut_end n new) ≡ false = grind (arith, nat_tests, short) in
    let gone : stays (cut_end n new) e ≡ false = ap (stays_of (cut_end n new)) g.0 ∙ late in
    ((sym same, ap (λ m. cut_at m new) same ∙ sym (cut_at-push (cut_end n new) new e gone) ∙ ap (λ m. cut_at m (new ++ e ∷ [])) (sym same)), below))

pub popped_map : {S : Type 0} (n top left : ℕ) (m w : IndexMap Key Prop S) (r : Option (Key × Prop)) → m.entries ≡ w.entries ++ option_to_list r → (0 < length m.entries → IsSome r)
    → IfSome r (λ p. Updates same_key m w p.0 None) → IsFirstToGo n top left (slice_get m.entries (length m.entries - 1)) → IndicesBelow top m.entries
    → CutsAs n m.entries w.entries × IndicesBelow left w.entries
popped_map n top left m w r off found updates goes b = popped n top left m.entries w.entries r off (found (full n top left m.entries goes)) (gone r updates) goes b
  where
    gone : (r : Option (Key × Prop)) → IfSome r (λ p. Updates same_key m w p.0 None) → IfSome r (λ e. lookup (same_key e.0) w.entries ≡ None)
    gone None h = tt
    gone (Some p) h = h.1

-- a cut above all indices leaves everything
pub cut_end-above : (top n : ℕ) (es : List (Key × Prop)) → top ≤ n → IndicesBelow top es → cut_end n es ≡ n
cut_end-above top n [] h b = refl
cut_end-above top n (e ∷ es) h b = ap (λ m. fold end_after m es) (by (array_index e.0) b.0) ∙ cut_end-above top n es h b.1
  where
    one : (i : ℕ) → i < n → (c : Bool) → (if c then n else max n (i + 1)) ≡ n
    one i below true = refl
    one i below false = omega arith

    by : (o : Option ℕ) → IsBelow top o → end_past n o e.1 ≡ n
    by None below = refl
    by (Some i) below = one i (omega arith) (is_configurable e.1)

pub cut_at-above : (top n : ℕ) (es : List (Key × Prop)) → top ≤ n → IndicesBelow top es → cut_at n es ≡ es
cut_at-above top n [] h b = refl
cut_at-above top n (e ∷ es) h b = ap (λ c. cond c (e ∷ cut_at n es) (cut_at n es)) (by (array_index e.0) b.0) ∙ ap (λ r. e ∷ r) (cut_at-above top n es h b.1)
  where
    by : (o : Option ℕ) → IsBelow top o → stays_of n o ≡ true
    by None below = refl
    by (Some i) below = grind (arith, nat_tests)

-- what a cut leaves is below its end
pub IndicesBelow-cut : (n : ℕ) (es : List (Key × Prop)) → IndicesBelow n (cut_at n es)
IndicesBelow-cut n [] = tt
IndicesBelow-cut n (e ∷ es) = by (stays n e) refl (IndicesBelow-cut n es)
  where
    one : (o : Option ℕ) → stays_of n o ≡ true → IsBelow n o
    one None q = tt
    one (Some i) q = grind (arith, nat_tests)

    by : (c : Bool) → stays n e ≡ c → IndicesBelow n (cut_at n es) → IndicesBelow n (cond c (e ∷ cut_at n es) (cut_at n es))
    by true q rest = (one (array_index e.0) q, rest)
    by false q rest = rest

-- the bound once a key is taken out
pub IndicesBelow-lowered : (top left : ℕ) (k : Key) (es : List (Key × Prop)) → (left ≡ top) ⊎ ((array_index k ≡ Some left) × (left + 1 ≡ top))
    → lookup (same_key k) (swap_remove_entry (same_key k) es) ≡ None → IndicesBelow top es → IndicesBelow left (swap_remove_entry (same_key k) es)
IndicesBelow-lowered top left k es (inl e) none b = IndicesBelow-weaker top left (swap_remove_entry (same_key k) es) (omega arith) (IndicesBelow-remove top es (same_key k) b)
IndicesBelow-lowered top left k es (inr h) none b = IndicesBelow-without top left k (swap_remove_entry (same_key k) es) h.1 h.0 none (IndicesBelow-remove top es (same_key k) b)
