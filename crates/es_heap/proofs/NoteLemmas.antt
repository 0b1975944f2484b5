-- The notes of keys that are recorded below an object.
use Rattle.std.proofs.Common.{◌≡◌, ◌++◌, ◌&&◌, ◌||◌, ◌⊎◌, inl, inr, ℕ, zero, suc, Bool, true, false, true≢false, nat_eq, if◌then◌else◌, cond, List, [], ◌∷◌, Option, None, Some, slice_set, slice_index_or, length, Result, Ok, Err, OnOk, OnErr, ◌<◌, arith, refl, sym, ap, ◌∙◌, subst}
use Rattle.std.proofs.lemmas.Bool.Decides.{nat_tests}
use Rattle.std.proofs.lemmas.List.{get_or_default, length-set}
use Rattle.std.proofs.lemmas.List.Folds.{list_any-append}
use Rattle.std.specs.List.{list_any}
use Rattle.indexmap.specs.IndexSet.{insert_key}
use Rattle.es_value.specs.declared.value.ObjId.{ObjId}
use Rattle.es_heap.specs.declared.class.Class.{Class}
use Rattle.es_heap.specs.declared.class.Class.TheVariants.{Object as OrdinaryClass}
use Rattle.es_heap.specs.declared.key.Key.{Key}
use Rattle.es_heap.specs.Keys.{same_key, same_key-Decides}
use Rattle.es_heap.specs.Objects.{Object, new_object, recorded_after}
use Rattle.es_heap.specs.Heaps.{Heap, object_at, with_object, records_from, is_up, is_recorded_below, same_note, AreNoted, KeepsNotes, IsNotedAt, ChainsEnd, IsBelow}

-- an object in another's place that has its prototype and its recorded keys
records_set : (id : ObjId) (k : Key) (heap : Heap) (i : ℕ) (o : Object) → records_from id k o ≡ records_from id k (slice_index_or heap i (new_object None OrdinaryClass))
    → list_any (records_from id k) (slice_set heap i o) ≡ list_any (records_from id k) heap
records_set id k [] i o e = refl
records_set id k (x ∷ xs) zero o e = ap (λ b. b || list_any (records_from id k) xs) e
records_set id k (x ∷ xs) (suc i) o e = ap (λ b. records_from id k x || b) (records_set id k xs i o e)

pub AreNoted-set : (notes : List (ℕ × Key)) (heap : Heap) (id : ObjId) (o : Object) → AreNoted notes heap → o.proto ≡ (object_at heap id).proto → o.recorded ≡ (object_at heap id).recorded
    → AreNoted notes (slice_set heap id.0 o)
AreNoted-set notes heap id o noted proto recorded =
    λ up k h. noted up k (sym (records_set up k heap id.0 o (λ j. is_up (proto j) up && list_any (same_key k) (recorded j))) ∙ h)

none_recorded : (b : Bool) → b && false ≡ false
none_recorded true = refl
none_recorded false = refl

-- a new object records nothing
pub AreNoted-make : (notes : List (ℕ × Key)) (heap : Heap) (proto : Option ObjId) (class : Class) → AreNoted notes heap → AreNoted notes (heap ++ new_object proto class ∷ [])
AreNoted-make notes heap proto class noted =
    λ up k h. noted up k (by _ (sym (list_any-append (records_from up k) heap (new_object proto class ∷ []) ∙ ap (λ b. is_recorded_below heap up k || (b || false)) (none_recorded (is_up proto up))) ∙ h))
  where
    by : (b : Bool) → b || (false || false) ≡ true → b ≡ true
    by true h = refl
    by false h = h

pub AreNoted-more : (old new : List (ℕ × Key)) (heap : Heap) → KeepsNotes old new → AreNoted old heap → AreNoted new heap
AreNoted-more old new heap keeps noted = λ up k h. keeps (up.0, k) (noted up k h)

either : (a b : Bool) → a || b ≡ true → (a ≡ true) ⊎ (b ≡ true)
either true b h = inl refl
either false b h = inr h

both : (a b : Bool) → a && b ≡ true → (a ≡ true) × (b ≡ true)
both true b h = (refl, h)
both false b h = absurd (true≢false (sym h))

any_set : (p : Object → Bool) (heap : Heap) (i : ℕ) (o : Object) → list_any p (slice_set heap i o) ≡ true → (p o ≡ true) ⊎ (list_any p heap ≡ true)
any_set p [] i o h = inr h
any_set p (x ∷ xs) zero o h = elim (either (p o) (list_any p xs) h) [
  | inl a ↦ inl a
  | inr b ↦ inr (later (p x) (list_any p xs) b)
]
  where
    later : (a b : Bool) → b ≡ true → a || b ≡ true
    later true b e = refl
    later false b e = e
any_set p (x ∷ xs) (suc i) o h = elim (either (p x) (list_any p (slice_set xs i o)) h) [
  | inl a ↦ inr (ap (λ b. b || list_any p xs) a)
  | inr b ↦ elim (any_set p xs i o b) [
    | inl c ↦ inl c
    | inr c ↦ inr (later (p x) (list_any p xs) c)
  ]
]
  where
    later : (a b : Bool) → b ≡ true → a || b ≡ true
    later true b e = refl
    later false b e = e

-- what an object that stands in the heap records is found there; one that doesn't stand there records nothing
any_at : (up : ObjId) (k : Key) (heap : Heap) (i : ℕ) → records_from up k (slice_index_or heap i (new_object None OrdinaryClass)) ≡ true → list_any (records_from up k) heap ≡ true
any_at up k [] i h = h
any_at up k (x ∷ xs) zero h = ap (λ b. b || list_any (records_from up k) xs) h
any_at up k (x ∷ xs) (suc i) h = later (records_from up k x) (list_any (records_from up k) xs) (any_at up k xs i h)
  where
    later : (a b : Bool) → b ≡ true → a || b ≡ true
    later true b e = refl
    later false b e = e

-- a key that is recorded was recorded before, or is the one that is added
added : (k key : Key) (ks : List Key) → list_any (same_key k) (insert_key same_key ks key) ≡ true → (list_any (same_key k) ks ≡ true) ⊎ (same_key k key ≡ true)
added k key ks h = by (list_any (same_key key) ks) h
  where
    by : (b : Bool) → list_any (same_key k) (if b then ks else ks ++ key ∷ []) ≡ true → (list_any (same_key k) ks ≡ true) ⊎ (same_key k key ≡ true)
    by true h = inl h
    by false h = elim (either (list_any (same_key k) ks) (same_key k key || false) (sym (list_any-append (same_key k) ks (key ∷ [])) ∙ h)) [
      | inl a ↦ inl a
      | inr b ↦ elim (either (same_key k key) false b) [
        | inl c ↦ inr c
        | inr c ↦ absurd (true≢false (sym c))
      ]
    ]

-- the heap after a key was recorded that is noted
pub AreNoted-record : (notes : List (ℕ × Key)) (heap : Heap) (id : ObjId) (key : Key) → AreNoted notes heap → IsNotedAt (object_at heap id).proto key notes
    → AreNoted notes (with_object heap id (recorded_after (object_at heap id) key))
AreNoted-record notes heap id key noted at = λ up k h. elim (any_set (records_from up k) heap id.0 _ h) [
  | inr before ↦ noted up k before
  | inl now ↦ (
      let parts = both (is_up (object_at heap id).proto up) (list_any (same_key k) (insert_key same_key (object_at heap id).recorded key)) now in
      elim (added k key (object_at heap id).recorded parts.1) [
        | inl old ↦ noted up k (any_at up k heap id.0 ((λ j. parts.0 j && old j)))
        | inr new ↦ by up k (object_at heap id).proto at parts.0 ((same_key-Decides k key).0 new)
      ])
]
  where
    by : (up : ObjId) (k : Key) (proto : Option ObjId) → IsNotedAt proto key notes → is_up proto up ≡ true → k ≡ key → list_any (same_note (up.0, k)) notes ≡ true
    by up k None at is e = absurd (true≢false (sym is))
    by up k (Some parent) at is e =
        let n : parent.0 ≡ up.0 = grind (arith, nat_tests) in
        subst (λ (m : ℕ). list_any (same_note (m, k)) notes ≡ true) n (subst (λ (q : Key). list_any (same_note (parent.0, q)) notes ≡ true) (sym e) at)

same_note-refl : (n : ℕ × Key) → same_note n n ≡ true
same_note-refl n =
    let first : nat_eq n.0 n.0 ≡ true = grind (arith, nat_tests) in
    λ j. first j && (same_key-Decides n.1 n.1).1 refl j

-- a note that is put in is there
pub noted_insert : (notes : List (ℕ × Key)) (n : ℕ × Key) → list_any (same_note n) (insert_key same_note notes n) ≡ true
noted_insert notes n = by (list_any (same_note n) notes) refl
  where
    by : (b : Bool) → list_any (same_note n) notes ≡ b → list_any (same_note n) (if b then notes else notes ++ n ∷ []) ≡ true
    by true e = e
    by false e = list_any-append (same_note n) notes (n ∷ []) ∙ (λ j. e j || (same_note-refl n j || false))

-- chains end where an object is put in another's place that has its prototype
protos_set : (heap : List Object) (i n : ℕ) (o : Object) → o.proto ≡ (slice_index_or heap i (new_object None OrdinaryClass)).proto
    → (slice_index_or (slice_set heap i o) n (new_object None OrdinaryClass)).proto ≡ (slice_index_or heap n (new_object None OrdinaryClass)).proto
protos_set [] i n o e = refl
protos_set (x ∷ xs) zero zero o e = e
protos_set (x ∷ xs) zero (suc n) o e = refl
protos_set (x ∷ xs) (suc i) zero o e = refl
protos_set (x ∷ xs) (suc i) (suc n) o e = protos_set xs i n o e

ChainsEnd-set : (heap : Heap) (id : ObjId) (o : Object) → ChainsEnd heap → o.proto ≡ (object_at heap id).proto → ChainsEnd (slice_set heap id.0 o)
ChainsEnd-set heap id o chains e =
    λ n h. subst (IsBelow n) (sym (protos_set heap id.0 n o e)) (chains n (subst (λ m. n < m) (length-set heap id.0 o) h))

-- what a heap keeps where an object has its prototype and its recorded keys still
pub kept : {C : Type 0} (notes : List (ℕ × Key)) (heap : Heap) (id : ObjId) (old new d : Object) → id.0 < length heap → old ≡ slice_index_or heap id.0 d → new.proto ≡ old.proto → new.recorded ≡ old.recorded
    → ChainsEnd heap × C × AreNoted notes heap → ChainsEnd (slice_set heap id.0 new) × C × AreNoted notes (slice_set heap id.0 new)
kept notes heap id old new d there at proto recorded inv =
    let here : old ≡ object_at heap id = at ∙ get_or_default heap id.0 d (new_object None OrdinaryClass) there in
    let p : new.proto ≡ (object_at heap id).proto = proto ∙ ap (λ (o : Object). o.proto) here in
    (ChainsEnd-set heap id new inv.0 p, inv.1, AreNoted-set notes heap id new inv.2 p (recorded ∙ ap (λ (o : Object). o.recorded) here))

-- and where a key was recorded that is noted, or was not for want of memory
pub kept_record : {C A E : Type 0} (before notes : List (ℕ × Key)) (heap : Heap) (id : ObjId) (key : Key) (old new d : Object) (proto : Option ObjId) (r : Result A E) → id.0 < length heap → old ≡ slice_index_or heap id.0 d
    → proto ≡ old.proto → KeepsNotes before notes → IsNotedAt proto key notes → OnOk r (new ≡ recorded_after old key) → OnErr r (new ≡ old)
    → ChainsEnd heap × C × AreNoted before heap → ChainsEnd (slice_set heap id.0 new) × C × AreNoted notes (slice_set heap id.0 new)
kept_record before notes heap id key old new d proto (Err e) there at up keeps noted ok err inv =
    kept notes heap id old new d there at (ap (λ (o : Object). o.proto) err) (ap (λ (o : Object). o.recorded) err) (inv.0, inv.1, AreNoted-more before notes heap keeps inv.2)
kept_record before notes heap id key old new d proto (Ok u) there at up keeps noted ok err inv =
    let here : old ≡ object_at heap id = at ∙ get_or_default heap id.0 d (new_object None OrdinaryClass) there in
    let p : new.proto ≡ (object_at heap id).proto = ap (λ (o : Object). o.proto) ok ∙ ap (λ (o : Object). o.proto) here in
    let is : recorded_after (object_at heap id) key ≡ new = sym (ok ∙ ap (λ (o : Object). recorded_after o key) here) in
    let at_up : IsNotedAt (object_at heap id).proto key notes = subst (λ q. IsNotedAt q key notes) (up ∙ ap (λ (o : Object). o.proto) here) noted in
    (ChainsEnd-set heap id new inv.0 p, inv.1, subst (λ o. AreNoted notes (slice_set heap id.0 o)) is (AreNoted-record notes heap id key (AreNoted-more before notes heap keeps inv.2) at_up))
