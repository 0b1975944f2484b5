-- Marks, and what a count from one of them finds.
use Rattle.std.proofs.Common.{◌≡◌, ℕ, ◌+◌, ◌*◌, ◌<◌, ◌≤◌, ◌⊎◌, inl, inr, Bool, true, false, List, [], ◌∷◌, length, get_or, refl, sym, ap, subst, ◌∙◌, arith}
use Rattle.std.specs.Prelude.{◌↔◌, None, Some, ◌&&◌, eqb}
use Rattle.std.proofs.lemmas.Bool.Decides.{nat_tests}
use Rattle.std.proofs.lemmas.Bool.{cases_order}
use Rattle.std.proofs.lemmas.Str.{length-le-encodes}
use Rattle.std.specs.Str.{encode_utf8_all}
use Rattle.std.specs.Char.{len_utf8}
use Rattle.es_text.specs.declared.Place.{Place}
use Rattle.es_text.specs.declared.lines.Mark.{Mark}
use Rattle.es_text.specs.Places.{place_after, place_from, place_at, offset_at, rest_after, IsPlace, IsBoundary, IsBefore}
use Rattle.es_text.specs.Marks.{IsMark}
use Rattle.es_text.proofs.Walk.{offset_more, offset_less, offset_within, place_more, place_bounds, place_less, one_place, one_offset, not_before_self, before_trans}

place_zero : (p : Place) (cs : List ℕ) → place_from p cs 0 ≡ p
unfolding place_from
place_zero p [] = refl
place_zero p (c ∷ cs) = refl

-- a text begins at line 0, column 0
pub start_mark : (cs : List ℕ) → IsMark cs (record { index = 0; offset = 0; place = record { line = 0; column = 0 } })
start_mark cs = record { inside = omega arith; offset_is = refl; place_is = sym (place_zero (record { line = 0; column = 0 }) cs) }

-- the mark one character on
pub next_mark : (cs : List ℕ) (m : Mark) → IsMark cs m → m.index < length cs
    → IsMark cs (record { index = m.index + 1; offset = m.offset + len_utf8 (get_or cs m.index 0); place = place_after m.place (get_or cs m.index 0) (rest_after cs m.index) })
next_mark cs m h less = record {
  inside = omega arith;
  offset_is = ap (λ n. n + len_utf8 (get_or cs m.index 0)) h.offset_is ∙ sym (offset_more cs m.index less);
  place_is = ap (λ p. place_after p (get_or cs m.index 0) (rest_after cs m.index)) h.place_is ∙ sym (place_more (record { line = 0; column = 0 }) cs m.index less);
}

-- a mark's numbers are small
pub record IsSmall (cs : List ℕ) (m : Mark) : Type 0 where
  pub line : m.place.line ≤ m.index
  pub column : m.place.column ≤ 2 * m.index
  pub offset : m.offset ≤ length (encode_utf8_all cs)
  pub index : m.index ≤ length (encode_utf8_all cs)

pub small_mark : (cs : List ℕ) (m : Mark) → IsMark cs m → IsSmall cs m
small_mark cs m h =
    let b = place_bounds (record { line = 0; column = 0 }) cs m.index h.inside in
    let l : m.place.line ≡ (place_at cs m.index).line = ap (λ (p : Place). p.line) h.place_is in
    let k : m.place.column ≡ (place_at cs m.index).column = ap (λ (p : Place). p.column) h.place_is in
    let i = h.inside in
    record {
      line = omega arith;
      column = omega arith;
      offset = omega (arith, h.offset_is, offset_within cs m.index h.inside);
      index = omega (arith, length-le-encodes cs);
    }

-- the mark is where the count for an offset ends
pub place_found : (cs : List ℕ) (m : Mark) (offset : ℕ) → IsMark cs m → m.offset ≡ offset → (p : Place) → (Some m.place ≡ Some p) ↔ IsPlace cs offset p
place_found cs m offset h e p =
    let here : IsPlace cs offset m.place = record { index = m.index; inside = h.inside; offset_is = sym e ∙ h.offset_is; place_is = h.place_is } in
    (λ q. let same : m.place ≡ p = cc in subst (λ (r : Place). IsPlace cs offset r) same here, λ b. ap Some (one_place cs offset m.place p here b))

pub boundary_found : (cs : List ℕ) (m : Mark) (offset : ℕ) → IsMark cs m → m.offset ≡ offset → IsBoundary cs offset
boundary_found cs m offset h e = (m.index, h.inside, sym e ∙ h.offset_is)

-- no character begins at the offset
pub IsNoOffset : List ℕ → ℕ → Type 0
IsNoOffset cs offset = (k : ℕ) → k ≤ length cs → offset ≡ offset_at cs k → ⊥

-- all characters before the mark begin before the offset
pub AreBefore : List ℕ → Mark → ℕ → Type 0
AreBefore cs m offset = (k : ℕ) → k < m.index → offset_at cs k < offset

pub before_first : (cs : List ℕ) (m : Mark) (offset : ℕ) → IsMark cs m → m.offset ≤ offset → AreBefore cs m offset
unfolding AreBefore
before_first cs m offset h low = λ k less. omega (arith, offset_less cs k m.index less h.inside, h.offset_is)

pub before_next : (cs : List ℕ) (m n : Mark) (offset : ℕ) → IsMark cs m → m.offset < offset → n.index ≡ m.index + 1 → AreBefore cs m offset → AreBefore cs n offset
unfolding AreBefore
before_next cs m n offset h low e before = λ k less.
    elim (cases_order k m.index) [
      | inl same ↦ omega (arith, h.offset_is, ap (offset_at cs) same)
      | inr (inl lt) ↦ before k lt
      | inr (inr gt) ↦ absurd (omega arith)
    ]

pub none_past : (cs : List ℕ) (m : Mark) (offset : ℕ) → IsMark cs m → AreBefore cs m offset → offset < m.offset → IsNoOffset cs offset
unfolding AreBefore IsNoOffset
none_past cs m offset h before high = λ k inside e.
    elim (cases_order k m.index) [
      | inl same ↦ omega (arith, h.offset_is, ap (offset_at cs) same)
      | inr (inl lt) ↦ omega (arith, before k lt)
      | inr (inr gt) ↦ omega (arith, h.offset_is, offset_less cs m.index k gt inside)
    ]

pub none_after_end : (cs : List ℕ) (m : Mark) (offset : ℕ) → IsMark cs m → m.index ≡ length cs → m.offset < offset → IsNoOffset cs offset
unfolding IsNoOffset
none_after_end cs m offset h end low = λ k inside e.
    elim (cases_order k m.index) [
      | inl same ↦ omega (arith, h.offset_is, ap (offset_at cs) same)
      | inr (inl lt) ↦ omega (arith, h.offset_is, offset_less cs k m.index lt h.inside)
      | inr (inr gt) ↦ omega arith
    ]

pub place_missing : (cs : List ℕ) (offset : ℕ) → IsNoOffset cs offset → (p : Place) → (None ≡ Some p) ↔ IsPlace cs offset p
unfolding IsNoOffset
place_missing cs offset none p = (λ q. cc, λ b. absurd (none b.index b.inside b.offset_is))

pub boundary_missing : (cs : List ℕ) (offset : ℕ) → IsNoOffset cs offset → IsBoundary cs offset → ⊥
unfolding IsNoOffset
boundary_missing cs offset none b = none b.0 b.1 b.2

-- the same for places
pub offset_found : (cs : List ℕ) (m : Mark) (place : Place) → IsMark cs m → m.place ≡ place → (offset : ℕ) → (Some m.offset ≡ Some offset) ↔ IsPlace cs offset place
offset_found cs m place h e offset =
    let here : IsPlace cs m.offset place = record { index = m.index; inside = h.inside; offset_is = h.offset_is; place_is = sym e ∙ h.place_is } in
    (λ q. let same : m.offset ≡ offset = cc in subst (λ (r : ℕ). IsPlace cs r place) same here, λ b. ap Some (one_offset cs m.offset offset place here b))

pub IsNoPlace : List ℕ → Place → Type 0
IsNoPlace cs place = (k : ℕ) → k ≤ length cs → place ≡ place_at cs k → ⊥

pub ArePlacedBefore : List ℕ → Mark → Place → Type 0
ArePlacedBefore cs m place = (k : ℕ) → k < m.index → IsBefore (place_at cs k) place

same_fields : (p q : Place) → p.line ≡ q.line → p.column ≡ q.column → p ≡ q
same_fields p q l k = ap (λ (n : ℕ). let r : Place = record { line = n; column = p.column } in r) l ∙ ap (λ (n : ℕ). let r : Place = record { line = q.line; column = n } in r) k

-- one of two places comes before the other, or they are one
pub places_in_order : (p q : Place) → IsBefore p q ⊎ ((p ≡ q) ⊎ IsBefore q p)
places_in_order p q =
    elim (cases_order p.line q.line) [
      | inl l ↦ elim (cases_order p.column q.column) [
        | inl k ↦ inr (inl (same_fields p q l k))
        | inr (inl lt) ↦ inl (inr (l, lt))
        | inr (inr gt) ↦ inr (inr (inr (sym l, gt)))
      ]
      | inr (inl lt) ↦ inl (inl lt)
      | inr (inr gt) ↦ inr (inr (inl gt))
    ]

pub placed_first : (cs : List ℕ) (m : Mark) (place : Place) → IsMark cs m → ¬ (IsBefore place m.place) → ArePlacedBefore cs m place
unfolding ArePlacedBefore
placed_first cs m place h low = λ k less.
    let now : IsBefore (place_at cs k) m.place = rw (h.place_is) (place_less cs k m.index less h.inside) in
    elim (places_in_order place m.place) [
      | inl before ↦ absurd (low before)
      | inr (inl same) ↦ rw same now
      | inr (inr after) ↦ before_trans _ _ _ now after
    ]

pub placed_next : (cs : List ℕ) (m n : Mark) (place : Place) → IsMark cs m → IsBefore m.place place → n.index ≡ m.index + 1 → ArePlacedBefore cs m place → ArePlacedBefore cs n place
unfolding ArePlacedBefore
placed_next cs m n place h low e before = λ k less.
    elim (cases_order k m.index) [
      | inl same ↦ rw (same, ← h.place_is) low
      | inr (inl lt) ↦ before k lt
      | inr (inr gt) ↦ absurd (omega arith)
    ]

pub none_placed : (cs : List ℕ) (m : Mark) (place : Place) → IsMark cs m → ArePlacedBefore cs m place → ¬ (IsBefore m.place place) → ¬ (m.place ≡ place) → IsNoPlace cs place
unfolding ArePlacedBefore IsNoPlace
none_placed cs m place h before low ne = λ k inside e.
    elim (cases_order k m.index) [
      | inl same ↦ ne (h.place_is ∙ ap (place_at cs) (sym same) ∙ sym e)
      | inr (inl lt) ↦ not_before_self place (subst (λ (p : Place). IsBefore p place) (sym e) (before k lt))
      | inr (inr gt) ↦ elim (places_in_order m.place place) [
        | inl b ↦ low b
        | inr (inl s) ↦ ne s
        | inr (inr a) ↦ not_before_self place (before_trans _ _ _ a (let P : Place → Type 0 = λ p. IsBefore m.place p in subst P (sym e) (rw h.place_is (place_less cs m.index k gt inside))))
      ]
    ]

pub none_placed_at_end : (cs : List ℕ) (m : Mark) (place : Place) → IsMark cs m → m.index ≡ length cs → IsBefore m.place place → IsNoPlace cs place
unfolding IsNoPlace
none_placed_at_end cs m place h end low = λ k inside e.
    elim (cases_order k m.index) [
      | inl same ↦ not_before_self place (subst (λ (p : Place). IsBefore p place) (h.place_is ∙ ap (place_at cs) (sym same) ∙ sym e) low)
      | inr (inl lt) ↦ not_before_self place (before_trans place m.place place (subst (λ (p : Place). IsBefore p m.place) (sym e) (rw h.place_is (place_less cs k m.index lt h.inside))) low)
      | inr (inr gt) ↦ omega arith
    ]

pub offset_missing : (cs : List ℕ) (place : Place) → IsNoPlace cs place → (offset : ℕ) → (None ≡ Some offset) ↔ IsPlace cs offset place
unfolding IsNoPlace
offset_missing cs place none offset = (λ q. cc, λ b. absurd (none b.index b.inside b.place_is))

-- what the comparison of two places tells
pub same_by_test : (p q : Place) → (eqb p.line q.line && eqb p.column q.column) ≡ true → p ≡ q
same_by_test p q h = let l : p.line ≡ q.line = grind (arith, nat_tests) in let k : p.column ≡ q.column = grind (arith, nat_tests) in same_fields p q l k

pub differ_by_test : (p q : Place) → (eqb p.line q.line && eqb p.column q.column) ≡ false → p ≡ q → ⊥
differ_by_test p q h e =
    let l : p.line ≡ q.line = ap (λ (r : Place). r.line) e in
    let k : p.column ≡ q.column = ap (λ (r : Place). r.column) e in
    grind (arith, nat_tests)

pub not_true : (b : Bool) → b ≡ false → b ≡ true → ⊥
not_true b f t = cc
