-- A place is given its number.
use Rattle.std.proofs.Common.{◌≡◌, ℕ, ◌+◌, Bool, true, false, not, List, [], ◌∷◌, ◌++◌, length, Some, if◌then◌else◌, refl, sym, ap, ◌∙◌, subst, inl, inr, arith, length-append}
use Rattle.std.specs.Prelude.{slice_get}
use Rattle.std.specs.List.{list_any}
use Rattle.std.proofs.lemmas.Option.{slice_get_within}
use Rattle.module_flows.specs.Flows.{users_of}
use Rattle.module_endings.specs.declared.place.Place.{Place}
use Rattle.module_endings.specs.declared.web.Web.{Web}
use Rattle.module_endings.specs.declared.wanted.Wanted.{Wanted}
use Rattle.module_endings.specs.Places.{same_place, same_place-Decides}
use Rattle.module_endings.specs.Webs.{AreWanted, IsEmpty, IsSized, Placed}
use Rattle.module_endings.proofs.Gets.{get-left, get-push_cases, users-push}

-- the place at which one that is the same was found
stored-there : (p : Place) (keys : List Place) (at : ℕ) → (q : Place) × (slice_get keys at ≡ Some q) × (same_place p q ≡ true) → slice_get keys at ≡ Some p
stored-there p keys at found = found.1 ∙ ap (λ z. Some z) (sym ((same_place-Decides p found.0).0 found.2))

pub not-true : (b : Bool) → true ≡ not b → b ≡ false
not-true true e = absurd (cc)
not-true false e = refl

abbrev pub inserted : List Place → Place → List Place
inserted keys p = if list_any (same_place p) keys then keys else keys ++ p ∷ []

-- the place was there
pub placed-there : (p : Place) (at : ℕ) (old new : Web) → IsSized old → list_any (same_place p) old.places.keys ≡ true → new.places.keys ≡ inserted old.places.keys p
    → (q : Place) × (slice_get new.places.keys at ≡ Some q) × (same_place p q ≡ true) → new.users.items ≡ old.users.items → new.ends ≡ old.ends → Placed p at old new
placed-there p at old new sized there is found users ends =
    let same : new.places.keys ≡ old.places.keys = is ∙ ap (λ b. if b then old.places.keys else old.places.keys ++ p ∷ []) there in
    record {
      size = ap length users ∙ sized ∙ sym (ap length same);
      there = stored-there p new.places.keys at found;
      kept = λ k x e. ap (λ z. slice_get z k) same ∙ e;
      users = λ k. ap (λ z. users_of z k) users;
      ends = ends;
    }

-- the place is new
pub placed-new : (p : Place) (at : ℕ) (old new : Web) → IsSized old → list_any (same_place p) old.places.keys ≡ false → new.places.keys ≡ inserted old.places.keys p
    → (q : Place) × (slice_get new.places.keys at ≡ Some q) × (same_place p q ≡ true) → new.users.items ≡ old.users.items ++ [] ∷ [] → new.ends ≡ old.ends → Placed p at old new
placed-new p at old new sized absent is found users ends =
    let same : new.places.keys ≡ old.places.keys ++ p ∷ [] = is ∙ ap (λ b. if b then old.places.keys else old.places.keys ++ p ∷ []) absent in
    record {
      size = ap length users ∙ length-append old.users.items ([] ∷ []) ∙ ap (λ n. n + 1) sized ∙ sym (length-append old.places.keys (p ∷ [])) ∙ sym (ap length same);
      there = stored-there p new.places.keys at found;
      kept = λ k x e. ap (λ z. slice_get z k) same ∙ get-left old.places.keys (p ∷ []) k x e;
      users = λ k. ap (λ z. users_of z k) users ∙ users-push old.users.items k;
      ends = ends;
    }

-- nothing is wanted at first
pub wanted-nil : (wanted : Wanted) → IsEmpty wanted.web → wanted.numbers ≡ [] → AreWanted [] wanted
wanted-nil wanted empty none = record {
  size = ap length empty.users ∙ sym (ap length empty.places);
  users = λ k. ap (λ z. users_of z k) empty.users ∙ no_users k;
  ends = empty.ends;
  count = ap length none;
  each = λ k p n e f. absurd (nothing-at k p e);
}
  where
    no_users : (k : ℕ) → users_of [] k ≡ []
    no_users k = refl

    nothing-at : (k : ℕ) (p : Place) → slice_get [] k ≡ Some p → ⊥
    nothing-at k p e = absurd (cc)

-- one place more is wanted
pub wanted-more : (ps : List Place) (p : Place) (at : ℕ) (old new : Wanted) → AreWanted ps old → Placed p at old.web new.web → new.numbers ≡ old.numbers ++ at ∷ [] → AreWanted (ps ++ p ∷ []) new
wanted-more ps p at old new wanted placed numbers = record {
  size = placed.size;
  users = λ k. placed.users k ∙ wanted.users k;
  ends = placed.ends ∙ wanted.ends;
  count = ap length numbers ∙ length-append old.numbers (at ∷ []) ∙ ap (λ n. n + 1) wanted.count ∙ sym (length-append ps (p ∷ []));
  each = λ k q n e f. elim (get-push_cases ps p k q e) [
    | inl old_place ↦ elim (get-push_cases old.numbers at k n (ap (λ z. slice_get z k) (sym numbers) ∙ f)) [
      | inl old_number ↦ placed.kept n q (wanted.each k q n old_place old_number)
      | inr end ↦ absurd (omega (arith, slice_get_within ps k q old_place, wanted.count, end.0))
    ]
    | inr end ↦ elim (get-push_cases old.numbers at k n (ap (λ z. slice_get z k) (sym numbers) ∙ f)) [
      | inl old_number ↦ absurd (omega (arith, slice_get_within old.numbers k n old_number, wanted.count, end.0))
      | inr last ↦ (let P : ℕ → Type 0 = λ z. slice_get new.web.places.keys z ≡ Some q in subst P (sym last.1) (placed.there ∙ ap (λ z. Some z) (sym end.1)))
    ]
  ];
}
