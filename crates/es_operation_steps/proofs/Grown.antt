-- A function is one object more, so the name of what is made behind it is the next but one.
use Rattle.std.proofs.Common.{◌≡◌, ◌∙◌, ◌+◌, ℕ, suc, ap, length, arith}
use Rattle.std.proofs.lemmas.List.{length-set, length_push}
use Rattle.es_value.specs.declared.value.ObjId.{ObjId}
use Rattle.es_heap.specs.Heaps.{Heap, next_id}
use Rattle.es_realm.specs.declared.edition.Edition.{Edition}
use Rattle.es_operations.specs.Making.{bare_function, class_prototype}

pub bare_length : (edition : Edition) (heap : Heap) (n : ℕ) (proto : ObjId) (count : ℕ) → length (bare_function edition heap n proto count) ≡ suc (length heap)
unfolding bare_function
bare_length edition heap n proto count =
    let grown : length heap + 1 ≡ suc (length heap) = omega arith in
    length-set _ _ _ ∙ length_push heap _ ∙ grown

pub behind_function : (edition : Edition) (heap : Heap) (n : ℕ) (proto : ObjId) (count : ℕ) → next_id (bare_function edition heap n proto count) ≡ class_prototype heap
behind_function edition heap n proto count = ap (λ k. record { 0 = k }) (bare_length edition heap n proto count)
