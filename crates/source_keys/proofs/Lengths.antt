-- A length past those of arrays is refused as the next one is.
use Rattle.std.proofs.Common.{◌≡◌, ℕ, ◌+◌, Bool, true, false, refl, suc, nat_lt, pos, if◌then◌else◌, arith, ap, add-one}
use Rattle.std.proofs.lemmas.Bool.Decides.{nat_tests}
use Rattle.es_value.specs.declared.value.ObjId.{ObjId}
use Rattle.es_heap.specs.Heaps.{Heap, at, object_at, set_length}
use Rattle.es_heap.specs.Objects as object
use Rattle.source_keys.specs.Elements.{next_length}

past : (o : object.Object) (n : ℕ) → nat_lt 4294967295 (suc n) ≡ true → object.set_length o (pos 4294967296) ≡ object.set_length o (pos (suc n))
past o n h = rw h refl

next_by : (o : object.Object) (n : ℕ) (b : Bool) → nat_lt n 4294967296 ≡ b → object.set_length o (pos (if b then n + 1 else 4294967296)) ≡ object.set_length o (pos (suc n))
next_by o n true h = rw add-one refl
next_by o n false h = past o n (grind (arith, nat_tests, h))

pub hole_added : (heap : Heap) (id : ObjId) (n : ℕ) → (set_length heap id (pos (next_length n))).after ≡ (set_length heap id (pos (suc n))).after
hole_added heap id n = ap (λ o. (at heap id o).after) (next_by (object_at heap id) n (nat_lt n 4294967296) refl)
