-- Walks up a chain of prototypes.
use Rattle.std.proofs.Common.{◌≡◌, ◌≤◌, Bool, true, false, nat_lt, length, true≢false, subst, ◌<◌, ◌-◌, ℕ, zero, suc, Option, None, Some, refl, sym, ap, ◌∙◌, arith}
use Rattle.std.proofs.Math.ListN.{get_or-eq_default}
use Rattle.std.proofs.lemmas.Bool.Decides.{nat_tests}
use Rattle.es_value.specs.declared.value.ObjId.{ObjId}
use Rattle.es_heap.specs.declared.key.Key.{Key}
use Rattle.es_heap.specs.declared.prop.Prop.{Prop}
use Rattle.es_heap.specs.declared.class.Class.TheVariants.{Object as OrdinaryClass}
use Rattle.es_heap.specs.Classes.{is_array}
use Rattle.es_heap.specs.Objects.{Object, own, new_object}
use Rattle.es_heap.specs.Heaps.{Heap, ChainsEnd, IsBelow, object_at, find, find_within, found_or, above_of}

module _ (heap : Heap) (id : ObjId) (k : Key) where
  pub find_within_found : (n : ℕ) (p : Prop) → 0 < n → own (object_at heap id) k ≡ Some p → find_within n heap id k ≡ Some (id, p)
  find_within_found zero p h e = absurd (omega arith)
  find_within_found (suc n) p h e = ap (λ o. found_or o id (above_of (object_at heap id).proto (λ up. find_within n heap up k))) e

  pub find_within_up : (n : ℕ) (up : ObjId) → 0 < n → own (object_at heap id) k ≡ None → (object_at heap id).proto ≡ Some up
      → find_within n heap id k ≡ find_within (n - 1) heap up k
  find_within_up zero up h e q = absurd (omega arith)
  find_within_up (suc n) up h e q =
      let less : suc n - 1 ≡ n = omega arith in
      ap (λ o. found_or o id (above_of (object_at heap id).proto (λ up. find_within n heap up k))) e
      ∙ ap (λ o. above_of o (λ up. find_within n heap up k)) q ∙ ap (λ m. find_within m heap up k) (sym less)

-- an array is an object that the heap made
pub array_is_made : (heap : Heap) (id : ObjId) → is_array (object_at heap id).class ≡ true → id.0 < length heap
array_is_made heap id array = by (nat_lt id.0 (length heap)) refl
  where
    by : (b : Bool) → nat_lt id.0 (length heap) ≡ b → id.0 < length heap
    by true e = grind (arith, nat_tests)
    by false e =
        let past : length heap ≤ id.0 = grind (arith, nat_tests) in
        absurd (true≢false (sym array ∙ ap (λ (o : Object). is_array o.class) (get_or-eq_default heap (new_object None OrdinaryClass) past)))

-- a prototype was made before its object
pub proto_below : (heap : Heap) → ChainsEnd heap → (id up : ObjId) → (object_at heap id).proto ≡ Some up → up.0 < id.0
proto_below heap chains id up e = by (nat_lt id.0 (length heap)) refl
  where
    by : (b : Bool) → nat_lt id.0 (length heap) ≡ b → up.0 < id.0
    by true q =
        let there : id.0 < length heap = grind (arith, nat_tests) in
        subst (IsBelow id.0) e (chains id.0 there)
    by false q =
        let past : length heap ≤ id.0 = grind (arith, nat_tests) in
        let none : Some up ≡ None = sym e ∙ ap (λ (o : Object). o.proto) (get_or-eq_default heap (new_object None OrdinaryClass) past) in
        absurd (cc none)

-- a walk that may look at more objects than were made before its first one finds no more
pub find_within_enough : (heap : Heap) → ChainsEnd heap → (n : ℕ) (id : ObjId) (k : Key) → id.0 < n → find_within (suc n) heap id k ≡ find_within n heap id k
find_within_enough heap chains zero id k h = absurd (omega arith)
find_within_enough heap chains (suc n) id k h =
    ap (λ above. found_or (own (object_at heap id) k) id above) (by (object_at heap id).proto refl (λ up b. find_within_enough heap chains n up k b))
  where
    by : (p : Option ObjId) → (object_at heap id).proto ≡ p → ((up : ObjId) → up.0 < n → find_within (suc n) heap up k ≡ find_within n heap up k)
        → above_of p (λ up. find_within (suc n) heap up k) ≡ above_of p (λ up. find_within n heap up k)
    by None e rest = refl
    by (Some up) e rest =
        let below : up.0 < id.0 = proto_below heap chains id up e in
        rest up (omega arith)

-- the walk as the standard has it (9.1.8.1): the own property, or else what the prototype finds
pub find_unfolds : (heap : Heap) → ChainsEnd heap → (id : ObjId) (k : Key)
    → find heap id k ≡ found_or (own (object_at heap id) k) id (above_of (object_at heap id).proto (λ up. find heap up k))
find_unfolds heap chains id k = by (nat_lt id.0 (length heap)) refl
  where
    missing : (n : ℕ) (o : Object) → o ≡ new_object None OrdinaryClass → found_or (own o k) id (above_of o.proto (λ up. find_within n heap up k)) ≡ None
    missing n o e = ap (λ (b : Object). found_or (own b k) id (above_of b.proto (λ up. find_within n heap up k))) e

    nothing : (n : ℕ) → object_at heap id ≡ new_object None OrdinaryClass → find_within n heap id k ≡ None
    nothing zero e = refl
    nothing (suc n) e = missing n (object_at heap id) e

    by : (b : Bool) → nat_lt id.0 (length heap) ≡ b → find heap id k ≡ found_or (own (object_at heap id) k) id (above_of (object_at heap id).proto (λ up. find heap up k))
    by true q = sym (find_within_enough heap chains (length heap) id k (grind (arith, nat_tests)))
    by false q =
        let past : length heap ≤ id.0 = grind (arith, nat_tests) in
        let blank : object_at heap id ≡ new_object None OrdinaryClass = get_or-eq_default heap (new_object None OrdinaryClass) past in
        nothing (length heap) blank ∙ sym (missing (length heap) (object_at heap id) blank)
