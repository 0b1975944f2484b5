-- Which segment begins at a place.
use Rattle.std.proofs.Common.{◌≡◌, ℕ, zero, suc, ◌+◌, ◌<◌, ◌≤◌, ◌==◌, ltb, List, [], ◌∷◌, length, get_or, Bool, true, false, cond, ◌&&◌, None, ◌⊎◌, inl, inr, refl, sym, ap, ap₂, ◌∙◌, subst, arith}
use Rattle.std.proofs.lemmas.List.Elements.{All-from_recursion}
use Rattle.std.proofs.lemmas.Bool.{ne_eqb, eqb-true, and_parts, eq-eqb, cases_Bool, ltb-true, ltb-false}
use Rattle.std.proofs.lemmas.List.{get_or_default}
use Rattle.std.proofs.Math.Nat.{eq-or-lt_of_le}
use Rattle.es_text.specs.declared.Place.{Place}
use Rattle.source_map.specs.declared.map.Segment.{Segment}
use Rattle.source_map.specs.Maps.{IsBefore, AreOrdered, is_place, target_at}

before_before : (a b c : Place) → IsBefore a b → IsBefore b c → IsBefore a c
before_before a b c (inl h) (inl k) = inl (omega arith)
before_before a b c (inl h) (inr k) = inl (omega (arith, k.0))
before_before a b c (inr h) (inl k) = inl (omega (arith, h.0))
before_before a b c (inr h) (inr k) = inr (h.0 ∙ k.0, omega (arith, h.1, k.1))

and_false : (b : Bool) → (b && false) ≡ false
and_false true = refl
and_false false = refl

not_less : (a b : ℕ) → (a < b → ⊥) → b ≤ a
not_less a b h = omega arith

le_antisym : {a b : ℕ} → a ≤ b → b ≤ a → a ≡ b
le_antisym {a} {b} h k = omega arith

places_same : (a p : Place) → is_place a p ≡ true → a ≡ p
places_same a p h =
    let parts = and_parts (a.line == p.line) (a.column == p.column) h in
    ap₂ (λ l c. let q : Place = record { line = l; column = c } in q) (eqb-true a.line p.line parts.0) (eqb-true a.column p.column parts.1)

pub below_or_above : (k n : ℕ) → (k < n) ⊎ (n ≤ k)
below_or_above k n = elim (cases_Bool (ltb k n)) [ inl e ↦ inl (ltb-true k n e) | inr e ↦ inr (ltb-false k n e) ]

ordered_at : (ss : List Segment) → AreOrdered ss → (i j : ℕ) (d : Segment) → i < j → j < length ss → IsBefore (get_or ss i d).generated (get_or ss j d).generated
ordered_at [] o i j d h k = absurd (omega arith)
ordered_at (s ∷ ss) o zero zero d h k = absurd (omega arith)
ordered_at (s ∷ ss) o zero (suc j) d h k = All-from_recursion (λ t. IsBefore s.generated t.generated) ss o.0 j d (omega arith)
ordered_at (s ∷ ss) o (suc i) zero d h k = absurd (omega arith)
ordered_at (s ∷ ss) o (suc i) (suc j) d h k = ordered_at ss o.1 i j d (omega arith) (omega arith)

before_at : (ss : List Segment) (m : ℕ) (p : Place) (d e : Segment) → m < length ss → IsBefore (get_or ss m d).generated p → IsBefore (get_or ss m e).generated p
before_at ss m p d e h b = subst (λ s. IsBefore s.generated p) (get_or_default ss m d e h) b

after_at : (ss : List Segment) (m : ℕ) (p : Place) (d e : Segment) → m < length ss → IsBefore p (get_or ss m d).generated → IsBefore p (get_or ss m e).generated
after_at ss m p d e h b = subst (λ s. IsBefore p s.generated) (get_or_default ss m d e h) b

-- the segments below one that stands before the place do so too
pub below_more : (ss : List Segment) (o : AreOrdered ss) (m : ℕ) (p : Place) (d : Segment) → m < length ss → IsBefore (get_or ss m d).generated p
    → (k : ℕ) (e : Segment) → k < m + 1 → IsBefore (get_or ss k e).generated p
below_more ss o m p d h b k e below =
    let last = before_at ss m p d e h b in
    let le : k ≤ m = omega arith in
    elim (eq-or-lt_of_le le) [
      | inl same ↦ subst (λ i. IsBefore (get_or ss i e).generated p) (sym same) last
      | inr less ↦ before_before (get_or ss k e).generated (get_or ss m e).generated p (ordered_at ss o k m e less h) last
    ]

-- the segments above one that stands after the place do so too
pub above_more : (ss : List Segment) (o : AreOrdered ss) (m : ℕ) (p : Place) (d : Segment) → m < length ss → IsBefore p (get_or ss m d).generated
    → (k : ℕ) (e : Segment) → m ≤ k → k < length ss → IsBefore p (get_or ss k e).generated
above_more ss o m p d h b k e above within =
    let first = after_at ss m p d e h b in
    elim (eq-or-lt_of_le above) [
      | inl same ↦ subst (λ i. IsBefore p (get_or ss i e).generated) same first
      | inr less ↦ before_before p (get_or ss m e).generated (get_or ss k e).generated first (ordered_at ss o m k e less within)
    ]

-- ---- what stands at a place

not_place : (a p : Place) → IsBefore a p ⊎ IsBefore p a → is_place a p ≡ false
not_place a p (inl (inl h)) = rw (ne_eqb a.line p.line (λ e. omega arith)) refl
not_place a p (inl (inr h)) = let e : (a.column == p.column) ≡ false = ne_eqb a.column p.column (λ e. omega (arith, h.1)) in ap (λ b. (a.line == p.line) && b) e ∙ and_false (a.line == p.line)
not_place a p (inr (inl h)) = rw (ne_eqb a.line p.line (λ e. omega arith)) refl
not_place a p (inr (inr h)) = let e : (a.column == p.column) ≡ false = ne_eqb a.column p.column (λ e. omega (arith, h.1)) in ap (λ b. (a.line == p.line) && b) e ∙ and_false (a.line == p.line)

-- no segment begins there
pub target_at-none : (ss : List Segment) (p : Place) → ((k : ℕ) (d : Segment) → k < length ss → IsBefore (get_or ss k d).generated p ⊎ IsBefore p (get_or ss k d).generated) → target_at ss p ≡ None
unfolding target_at
target_at-none [] p h = refl
target_at-none (s ∷ ss) p h =
    let no = not_place s.generated p (h 0 s (omega arith)) in
    ap (λ b. cond b s.target (target_at ss p)) no ∙ target_at-none ss p (λ k d l. h (suc k) d (omega arith))

-- the segment that begins there
pub target_at-found : (ss : List Segment) → AreOrdered ss → (m : ℕ) (p : Place) (d : Segment) → m < length ss → is_place (get_or ss m d).generated p ≡ true → target_at ss p ≡ (get_or ss m d).target
unfolding target_at
target_at-found [] o m p d h is = absurd (omega arith)
target_at-found (s ∷ ss) o zero p d h is = ap (λ b. cond b s.target (target_at ss p)) is
target_at-found (s ∷ ss) o (suc m) p d h is =
    let there = get_or ss m d in
    let before : IsBefore s.generated there.generated = All-from_recursion (λ t. IsBefore s.generated t.generated) ss o.0 m d (omega arith) in
    let same = places_same there.generated p is in
    let no = not_place s.generated p (inl (subst (IsBefore s.generated) same before)) in
    ap (λ b. cond b s.target (target_at ss p)) no ∙ target_at-found ss o.1 m p d (omega arith) is

-- a place that stands neither before nor after another is that place
pub is_place-between : (a p : Place) → (IsBefore a p → ⊥) → (IsBefore p a → ⊥) → is_place a p ≡ true
is_place-between a p no_less no_more =
    let lines : a.line ≡ p.line = le_antisym (not_less p.line a.line (λ l. no_more (inl l))) (not_less a.line p.line (λ l. no_less (inl l))) in
    let columns : a.column ≡ p.column = le_antisym (not_less p.column a.column (λ l. no_more (inr (sym lines, l)))) (not_less a.column p.column (λ l. no_less (inr (lines, l)))) in
    ap₂ (λ a b. a && b) (eq-eqb a.line p.line lines) (eq-eqb a.column p.column columns)
