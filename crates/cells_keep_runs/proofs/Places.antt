-- Look-ups behind a write, and where there is one record more.
use Rattle.std.specs.List.{list_all}
use Rattle.std.specs.Option.{option_map}
use Rattle.std.proofs.Common.{◌≡◌, ℕ, ◌<◌, ◌≤◌, Bool, true, false, ◌&&◌, List, [], ◌∷◌, ◌++◌, Option, None, Some, length, nat_eq, nat_lt, refl, sym, ap, arith, subst, ◌∙◌, ◌⊎◌, inl, inr}
use Rattle.std.specs.Prelude.{if◌then◌else◌}
use Rattle.std.proofs.lemmas.Bool.{and_parts, cases_eq, cases_lt, eq-eqb, eqb-true, ltb-true, ne_eqb}
use Rattle.std.proofs.lemmas.List.{get_or-set_same, get_or-set_other, get_or_append_left, get_or_at, get_or_past, length-set}
use Rattle.core_ast.specs.declared.parts.Var.{Var}
use Rattle.core_meaning.specs.Names.{Resolved, binding_in, or_outer, record_at, resolved, with_value}
use Rattle.core_meaning.specs.State.{Binding, CoreValue, EnvironmentRecord}
use Rattle.cells_keep_runs.specs.Places.{NewRecordsComeFirst, NewRecordsHideNothing, WritesAreSeen, rebound, written}

-- ---- truths and names

var_of : ℕ → Var
var_of n = record { 0 = n }

and_false_left : (s t : Bool) → s ≡ false → (s && t) ≡ false
and_false_left s t h = ap (λ b. b && t) h

and_false_right : (s t : Bool) → t ≡ false → (s && t) ≡ false
and_false_right true t h = h
and_false_right false t h = refl

and_true : (s t : Bool) → s ≡ true → t ≡ true → (s && t) ≡ true
and_true s t h k = ap (λ b. b && t) h ∙ k

module _ {M : Type 0} where
  abbrev pub valued : CoreValue M → Binding M → Binding M
  valued v b = record b { value = v }

  -- ---- one record

  same_at : (b : Binding M) (bs : EnvironmentRecord M) (x : Var) (v : CoreValue M) (t : Bool) → nat_eq b.var.0 x.0 ≡ t
      → binding_in (with_value bs x v) x ≡ option_map (valued v) (binding_in bs x)
      → binding_in (if t then valued v b ∷ bs else b ∷ with_value bs x v) x ≡ option_map (valued v) (if t then Some b else binding_in bs x)
  same_at b bs x v true e h = ap (λ t. if t then Some (valued v b) else binding_in bs x) e
  same_at b bs x v false e h = ap (λ t. if t then Some b else binding_in (with_value bs x v) x) e ∙ h

  pub same_name : (bs : EnvironmentRecord M) (x : Var) (v : CoreValue M) → binding_in (with_value bs x v) x ≡ option_map (valued v) (binding_in bs x)
  same_name [] x v = refl
  same_name (b ∷ bs) x v = same_at b bs x v (nat_eq b.var.0 x.0) refl (same_name bs x v)

  other_at : (b : Binding M) (bs : EnvironmentRecord M) (x y : Var) (v : CoreValue M) (t : Bool) → nat_eq b.var.0 x.0 ≡ t → (y.0 ≡ x.0 → ⊥)
      → binding_in (with_value bs x v) y ≡ binding_in bs y
      → binding_in (if t then valued v b ∷ bs else b ∷ with_value bs x v) y ≡ (if nat_eq b.var.0 y.0 then Some b else binding_in bs y)
  other_at b bs x y v true e ne h =
      let f : nat_eq b.var.0 y.0 ≡ false = ne_eqb b.var.0 y.0 (λ p. ne (sym p ∙ eqb-true b.var.0 x.0 e)) in
      ap (λ t. if t then Some (valued v b) else binding_in bs y) f ∙ sym (ap (λ t. if t then Some b else binding_in bs y) f)
  other_at b bs x y v false e ne h = ap (λ o. if nat_eq b.var.0 y.0 then Some b else o) h

  pub other_name : (bs : EnvironmentRecord M) (x y : Var) (v : CoreValue M) → (y.0 ≡ x.0 → ⊥) → binding_in (with_value bs x v) y ≡ binding_in bs y
  other_name [] x y v ne = refl
  other_name (b ∷ bs) x y v ne = other_at b bs x y v (nat_eq b.var.0 x.0) refl ne (other_name bs x y v ne)

  pub equal_name : (bs : EnvironmentRecord M) (x y : Var) (v : CoreValue M) → y.0 ≡ x.0 → binding_in (with_value bs x v) y ≡ option_map (valued v) (binding_in bs y)
  unfolding var_of
  equal_name bs x y v p = subst (λ n. binding_in (with_value bs x v) (var_of n) ≡ option_map (valued v) (binding_in bs (var_of n))) (sym p) (same_name bs x v)

  -- ---- the records

  same_by : (records : List (EnvironmentRecord M)) (n : ℕ) (x : Var) (v : CoreValue M) → ((n < length records) ⊎ (length records ≤ n)) → record_at (written n x v records) n ≡ with_value (record_at records n) x v
  same_by records n x v (inl lt) = get_or-set_same records n (with_value (record_at records n) x v) [] lt
  same_by records n x v (inr le) =
      let l : length (written n x v records) ≡ length records = length-set records n (with_value (record_at records n) x v) in
      get_or_past (written n x v records) n [] (omega arith) ∙ sym (ap (λ r. with_value r x v) (get_or_past records n [] le))

  pub same_record : (records : List (EnvironmentRecord M)) (n : ℕ) (x : Var) (v : CoreValue M) → record_at (written n x v records) n ≡ with_value (record_at records n) x v
  same_record records n x v = same_by records n x v (cases_lt n (length records))

  pub other_record : (records : List (EnvironmentRecord M)) (n m : ℕ) (x : Var) (v : CoreValue M) → (m ≡ n → ⊥) → record_at (written n x v records) m ≡ record_at records m
  other_record records n m x v ne = get_or-set_other records n m (with_value (record_at records n) x v) [] ne

  -- ---- an environment

  abbrev found : ℕ → Option (Binding M) → Option (Resolved M) → Option (Resolved M)
  found m b outer = or_outer m b outer

  -- where the record is another, or the name is
  kept_at : (n m : ℕ) (x y : Var) (v : CoreValue M) (b : Option (Binding M)) (outer : Option (Resolved M)) → (nat_eq y.0 x.0 && nat_eq m n) ≡ false
      → or_outer m b (option_map (rebound n x v y) outer) ≡ option_map (rebound n x v y) (or_outer m b outer)
  kept_at n m x y v None outer h = refl
  kept_at n m x y v (Some b) outer h =
      let r : Resolved M = record { at = m; binding = b } in
      ap (λ t. Some (if t then record r { binding = record r.binding { value = v } } else r)) (sym h)

  taken_at : (n m : ℕ) (x y : Var) (v : CoreValue M) (b : Option (Binding M)) (outer : Option (Resolved M)) → (nat_eq y.0 x.0 && nat_eq m n) ≡ true
      → or_outer m (option_map (valued v) b) (option_map (rebound n x v y) outer) ≡ option_map (rebound n x v y) (or_outer m b outer)
  taken_at n m x y v None outer h = refl
  taken_at n m x y v (Some b) outer h =
      let r : Resolved M = record { at = m; binding = b } in
      ap (λ t. Some (if t then record r { binding = record r.binding { value = v } } else r)) (sym h)

  at_record : (records : List (EnvironmentRecord M)) (n : ℕ) (x : Var) (v : CoreValue M) (m : ℕ) (y : Var) (outer : Option (Resolved M)) → ((m ≡ n) ⊎ (m ≡ n → ⊥)) → ((y.0 ≡ x.0) ⊎ (y.0 ≡ x.0 → ⊥))
      → or_outer m (binding_in (record_at (written n x v records) m) y) (option_map (rebound n x v y) outer) ≡ option_map (rebound n x v y) (or_outer m (binding_in (record_at records m) y) outer)
  at_record records n x v m y outer (inr ne) name =
      ap (λ r. or_outer m (binding_in r y) (option_map (rebound n x v y) outer)) (other_record records n m x v ne)
      ∙ kept_at n m x y v (binding_in (record_at records m) y) outer (and_false_right (nat_eq y.0 x.0) (nat_eq m n) (ne_eqb m n ne))
  at_record records n x v m y outer (inl same) (inr other) =
      ap (λ r. or_outer m (binding_in r y) (option_map (rebound n x v y) outer)) (at_same records n x v m same)
      ∙ ap (λ b. or_outer m b (option_map (rebound n x v y) outer)) (other_name (record_at records m) x y v other)
      ∙ kept_at n m x y v (binding_in (record_at records m) y) outer (and_false_left (nat_eq y.0 x.0) (nat_eq m n) (ne_eqb y.0 x.0 other))
    where
      at_same : (rs : List (EnvironmentRecord M)) (k : ℕ) (z : Var) (w : CoreValue M) (i : ℕ) → i ≡ k → record_at (written k z w rs) i ≡ with_value (record_at rs i) z w
      at_same rs k z w i e = subst (λ j. record_at (written k z w rs) j ≡ with_value (record_at rs j) z w) (sym e) (same_record rs k z w)
  at_record records n x v m y outer (inl same) (inl name) =
      ap (λ r. or_outer m (binding_in r y) (option_map (rebound n x v y) outer)) (subst (λ j. record_at (written n x v records) j ≡ with_value (record_at records j) x v) (sym same) (same_record records n x v))
      ∙ ap (λ b. or_outer m b (option_map (rebound n x v y) outer)) (equal_name (record_at records m) x y v name)
      ∙ taken_at n m x y v (binding_in (record_at records m) y) outer (and_true (nat_eq y.0 x.0) (nat_eq m n) (eq-eqb y.0 x.0 name) (eq-eqb m n same))

  pub seen : WritesAreSeen M
  seen records n x v [] y = refl
  seen records n x v (m ∷ ms) y =
      ap (λ outer. or_outer m (binding_in (record_at (written n x v records) m) y) outer) (seen records n x v ms y)
      ∙ at_record records n x v m y (resolved records ms y) (cases_eq m n) (cases_eq y.0 x.0)

  -- ---- one record more

  pub hidden_by_none : NewRecordsHideNothing M
  hidden_by_none records more [] y h = refl
  hidden_by_none records more (m ∷ ms) y h =
      let here = and_parts (nat_lt m (length records)) (list_all (λ k. nat_lt k (length records)) ms) h in
      ap (λ r. or_outer m (binding_in r y) (resolved (records ++ more) ms y)) (get_or_append_left records more [] m (ltb-true m (length records) here.0))
      ∙ ap (λ outer. or_outer m (binding_in (record_at records m) y) outer) (hidden_by_none records more ms y here.1)

  pub first : NewRecordsComeFirst M
  first records bindings e y h =
      ap (λ r. or_outer (length records) (binding_in r y) (resolved (records ++ bindings ∷ []) e y)) (get_or_at records bindings [] [] (length records) refl)
      ∙ ap (λ outer. or_outer (length records) (binding_in bindings y) outer) (hidden_by_none records (bindings ∷ []) e y h)
