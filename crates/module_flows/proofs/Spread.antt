-- A value is added at one node, and then at more.
use Rattle.std.proofs.Common.{◌≡◌, ℕ, ◌+◌, ◌<◌, ◌≤◌, List, [], ◌∷◌, ◌++◌, length, Some, None, refl, sym, ap, ◌∙◌, subst, inl, inr, arith, ◌⊎◌, length-append}
use Rattle.std.specs.Prelude.{sum_by, slice_set}
use Rattle.std.specs.List.{Contains}
use Rattle.std.proofs.lemmas.Bool.{cases_eq}
use Rattle.std.proofs.lemmas.List.{length-set, get_or-set_same, get_or-set_other}
use Rattle.std.proofs.lemmas.List.Elements.{Contains-push, Contains-push_cases, Contains-append_left, Contains-append_right, Contains-append_cases}
use Rattle.std.proofs.lemmas.List.Sums.{sum_by-set}
use Rattle.module_flows.specs.declared.found.Found.{Found}
use Rattle.module_flows.specs.declared.found.Found.TheVariants.{Nothing}
use Rattle.module_flows.specs.declared.flow.Flow.{Flow}
use Rattle.module_flows.specs.Flows.{found_at}
use Rattle.module_flows.specs.Steps.{raised, joined, Below, room, work, Spreads}
use Rattle.module_flows.proofs.Joins.{Below-itself, Below-trans, Below-joined, Below-joined_more, joined-again, joined-none, joined-some, room-raised}

pub none-contained : (n : ℕ) → Contains [] n → ⊥
none-contained n h = absurd (omega (arith, h.1))

pub one-contained : (x n : ℕ) → Contains (x ∷ []) n → x ≡ n
one-contained x n h = elim (Contains-push_cases [] x n h) [ inl none ↦ absurd (none-contained n none) | inr e ↦ e ]

contains-one : (x n : ℕ) → x ≡ n → Contains (x ∷ []) n
contains-one x n e = let P : ℕ → Type 0 = λ z. Contains (x ∷ []) z in subst P e (Contains-push [] x)

-- no less is found than before
pub grows : {nodes : List ℕ} {value : Found} {old new : Flow} → Spreads nodes value old new → (n : ℕ) → Below (found_at old.found n) (found_at new.found n)
grows {value = value} {old = old} {new = new} h n =
    let P : Found → Type 0 = λ z. Below (found_at old.found n) z in
    elim (h.values n) [
      | inl e ↦ subst P (sym e) (Below-itself (found_at old.found n))
      | inr p ↦ subst P (sym p.1) (Below-joined (found_at old.found n) value)
    ]

pub spreads-nil : (value : Found) (s : Flow) → Spreads [] value s s
spreads-nil value s = record {
  size = refl;
  values = λ n. inl refl;
  covers = λ n c. absurd (none-contained n c);
  marked = λ n. inl refl;
  kept = λ n c. c;
  within = λ n c. inl c;
  less = omega arith;
}

-- nothing more is found at the node
pub spreads-none : (s : Flow) (node : ℕ) (value before : Found) → before ≡ found_at s.found node → raised before value ≡ None → Spreads (node ∷ []) value s s
spreads-none s node value before is_before none_before =
    let none : raised (found_at s.found node) value ≡ None = ap (λ z. raised z value) (sym is_before) ∙ none_before in
    record {
      size = refl;
      values = λ n. inl refl;
      covers = λ n c.
          let P : ℕ → Type 0 = λ z. Below value (found_at s.found z) in
          let Q : Found → Type 0 = λ z. Below value z in
          subst P (one-contained node n c) (subst Q (joined-none (found_at s.found node) value none) (Below-joined_more (found_at s.found node) value));
      marked = λ n. inl refl;
      kept = λ n c. c;
      within = λ n c. inl c;
      less = omega arith;
    }

set-at : (xs : List Found) (i n : ℕ) (y : Found) → i < length xs
    → ((i ≡ n) × (found_at (slice_set xs i y) n ≡ y)) ⊎ (found_at (slice_set xs i y) n ≡ found_at xs n)
set-at xs i n y h = elim (cases_eq n i) [
  | inl e ↦ inl (sym e, (let P : ℕ → Type 0 = λ z. found_at (slice_set xs i y) z ≡ y in subst P (sym e) (get_or-set_same xs i y Nothing h)))
  | inr ne ↦ inr (get_or-set_other xs i n y Nothing ne)
]

spreads-set : (s : Flow) (node : ℕ) (value after : Found) → node < length s.found → raised (found_at s.found node) value ≡ Some after
    → Spreads (node ∷ []) value s (record { found = slice_set s.found node after; todo = s.todo ++ node ∷ [] })
spreads-set s node value after inside some =
    let new : List Found = slice_set s.found node after in
    let is : joined (found_at s.found node) value ≡ after = joined-some (found_at s.found node) value after some in
    let at : (n : ℕ) → ((node ≡ n) × (found_at new n ≡ after)) ⊎ (found_at new n ≡ found_at s.found n) = λ n. set-at s.found node n after inside in
    record {
      size = length-set s.found node after;
      values = λ n. elim (at n) [
        | inl p ↦ inr (contains-one node n p.0, (let P : ℕ → Type 0 = λ z. found_at new n ≡ joined (found_at s.found z) value in subst P p.0 (p.1 ∙ sym is)))
        | inr e ↦ inl e
      ];
      covers = λ n c.
          let P : ℕ → Type 0 = λ z. Below value (found_at new z) in
          let Q : Found → Type 0 = λ z. Below value z in
          subst P (one-contained node n c) (subst Q (is ∙ sym (get_or-set_same s.found node after Nothing inside)) (Below-joined_more (found_at s.found node) value));
      marked = λ n. elim (at n) [
        | inl p ↦ inr (Contains-append_right s.todo (node ∷ []) n (contains-one node n p.0))
        | inr e ↦ inl e
      ];
      kept = λ n c. Contains-append_left s.todo (node ∷ []) n c;
      within = λ n c. elim (Contains-push_cases s.todo node n c) [ inl old ↦ inl old | inr e ↦ inr (contains-one node n e) ];
      less =
          let sums : sum_by room new + room (found_at s.found node) ≡ sum_by room s.found + room after = sum_by-set room s.found node after Nothing inside in
          let falls : room after + 1 ≤ room (found_at s.found node) = room-raised (found_at s.found node) value after some in
          let longer : length (s.todo ++ node ∷ []) ≡ length s.todo + 1 = length-append s.todo (node ∷ []) in
          omega arith;
    }

-- more is found at the node
pub spreads-some : (s : Flow) (node : ℕ) (value before after : Found) (found : List Found) (todo : List ℕ) → node < length s.found
    → before ≡ found_at s.found node → raised before value ≡ Some after → found ≡ slice_set s.found node after → todo ≡ s.todo ++ node ∷ []
    → Spreads (node ∷ []) value s (record { found = found; todo = todo })
spreads-some s node value before after found todo inside is_before some_before is_found is_todo =
    let some : raised (found_at s.found node) value ≡ Some after = ap (λ z. raised z value) (sym is_before) ∙ some_before in
    let P : List Found → Type 0 = λ f. Spreads (node ∷ []) value s (record { found = f; todo = todo }) in
    let Q : List ℕ → Type 0 = λ t. Spreads (node ∷ []) value s (record { found = slice_set s.found node after; todo = t }) in
    subst P (sym is_found) (subst Q (sym is_todo) (spreads-set s node value after inside some))

-- one node more
pub spreads-then : (xs : List ℕ) (y : ℕ) (value : Found) (a b c : Flow) → Spreads xs value a b → Spreads (y ∷ []) value b c → Spreads (xs ++ y ∷ []) value a c
spreads-then xs y value a b c first second = record {
  size = second.size ∙ first.size;
  values = λ n. elim (first.values n) [
    | inl e ↦ elim (second.values n) [
      | inl f ↦ inl (f ∙ e)
      | inr p ↦ inr (Contains-append_right xs (y ∷ []) n p.0, p.1 ∙ ap (λ z. joined z value) e)
    ]
    | inr q ↦ elim (second.values n) [
      | inl f ↦ inr (Contains-append_left xs (y ∷ []) n q.0, f ∙ q.1)
      | inr p ↦ inr (Contains-append_left xs (y ∷ []) n q.0, p.1 ∙ ap (λ z. joined z value) q.1 ∙ joined-again (found_at a.found n) value)
    ]
  ];
  covers = λ n h. elim (Contains-append_cases xs (y ∷ []) n h) [
    | inl left ↦ Below-trans value (found_at b.found n) (found_at c.found n) (first.covers n left) (grows second n)
    | inr right ↦ second.covers n right
  ];
  marked = λ n. elim (first.marked n) [
    | inl e ↦ elim (second.marked n) [ inl f ↦ inl (f ∙ e) | inr m ↦ inr m ]
    | inr m ↦ inr (second.kept n m)
  ];
  kept = λ n h. second.kept n (first.kept n h);
  within = λ n h. elim (second.within n h) [
    | inl m ↦ elim (first.within n m) [ inl old ↦ inl old | inr left ↦ inr (Contains-append_left xs (y ∷ []) n left) ]
    | inr right ↦ inr (Contains-append_right xs (y ∷ []) n right)
  ];
  less = let one : work b ≤ work a = first.less in let two : work c ≤ work b = second.less in omega arith;
}
