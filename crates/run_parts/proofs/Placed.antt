-- The place that is sought is the one that the offset has.
use Rattle.std.proofs.Common.{◌≡◌, ℕ, zero, suc, ◌≤◌, ◌⊎◌, inl, inr, List, length, sym, ap, ◌∙◌, arith}
use Rattle.std.proofs.lemmas.Bool.{cases_lt}
use Rattle.std.proofs.lemmas.Bool.Decides.{eqb_tells}
use Rattle.std.specs.Prelude.{if◌then◌else◌}
use Rattle.es_text.specs.declared.Place.{Place}
use Rattle.es_text.specs.Places.{IsBoundary, IsPlace, offset_at, place_at}
use Rattle.es_text.proofs.Walk.{one_place}
use Rattle.run_parts.specs.Places.{first_place, place_in, sought}

-- a character up to this one, or the end, begins at the offset
record Begins (text : List ℕ) (offset bound : ℕ) (place : Place) : Type 0 where
  index : ℕ
  within : index ≤ bound
  here : offset ≡ offset_at text index
  place_is : place ≡ place_at text index

-- none does, and so the first place is told
record NoneBegins (text : List ℕ) (offset bound : ℕ) (place : Place) : Type 0 where
  none : (i : ℕ) → i ≤ bound → offset ≡ offset_at text i → ⊥
  place_is : place ≡ first_place

told : (text : List ℕ) (offset bound : ℕ) → Begins text offset bound (sought text offset bound) ⊎ NoneBegins text offset bound (sought text offset bound)
told text offset zero =
    elim (eqb_tells (offset_at text zero) offset) [
      | inl same ↦ inl (record { index = zero; within = omega arith; here = sym same.1; place_is = ap (λ b. if b then place_at text zero else first_place) same.0 })
      | inr differs ↦ inr (record {
        none = λ i w e. (let only : i ≡ zero = omega (arith, w) in differs.1 (sym (e ∙ ap (offset_at text) only)));
        place_is = ap (λ b. if b then place_at text zero else first_place) differs.0;
      })
    ]
told text offset (suc bound) =
    elim (eqb_tells (offset_at text (suc bound)) offset) [
      | inl same ↦ inl (record { index = suc bound; within = omega arith; here = sym same.1; place_is = ap (λ b. if b then place_at text (suc bound) else sought text offset bound) same.0 })
      | inr differs ↦
          let skips = ap (λ b. if b then place_at text (suc bound) else sought text offset bound) differs.0 in
          elim (told text offset bound) [
            | inl it ↦ inl (record { index = it.index; within = omega (arith, it.within); here = it.here; place_is = skips ∙ it.place_is })
            | inr it ↦ inr (record {
              none = λ i w e. elim (cases_lt i (suc bound)) [
                | inl less ↦ it.none i (omega (arith, less)) e
                | inr more ↦ let only : i ≡ suc bound = omega (arith, w, more) in differs.1 (sym (e ∙ ap (offset_at text) only))
              ];
              place_is = skips ∙ it.place_is;
            })
          ]
    ]

-- an offset that has a place is told it
pub of_place : (text : List ℕ) (offset : ℕ) (place : Place) → IsPlace text offset place → place ≡ place_in text offset
of_place text offset place is =
    elim (told text offset (length text)) [
      | inl it ↦ one_place text offset place _ is (record { index = it.index; inside = it.within; offset_is = it.here; place_is = it.place_is })
      | inr it ↦ absurd (it.none is.index is.inside is.offset_is)
    ]

-- where no character begins and the text doesn't end, the first place is told
pub of_none : (text : List ℕ) (offset : ℕ) → (IsBoundary text offset → ⊥) → first_place ≡ place_in text offset
of_none text offset unbound =
    elim (told text offset (length text)) [
      | inl it ↦ absurd (unbound (it.index, it.within, it.here))
      | inr it ↦ sym it.place_is
    ]
