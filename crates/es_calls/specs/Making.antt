-- Objects that the steps of a program make: lists, arguments objects and results of iterators.
use Rattle.std.specs.Prelude.{ℕ, pos, suc, ◌+◌, Bool, true, List, [], ◌∷◌, length, Some, codes}
use Rattle.es_value.specs.declared.value.ObjId.{ObjId}
use Rattle.es_value.specs.declared.value.Value.{Value}
use Rattle.es_value.specs.declared.value.Value.TheVariants as value
use Rattle.es_heap.specs.declared.class.Class.TheVariants as class
use Rattle.es_heap.specs.declared.key.Key.{Key}
use Rattle.es_heap.specs.declared.key.Key.TheVariants.{Text, Iterator}
use Rattle.es_heap.specs.declared.prop.Prop.TheVariants.{Plain}
use Rattle.es_heap.specs.Heaps.{Heap, made, next_id, define_own}
use Rattle.es_realm.specs.declared.edition.Edition.{Edition}
use Rattle.es_realm.specs.declared.edition.Edition.TheVariants.{Sixth, Fifth}
use Rattle.es_realm.specs.Names.{object_prototype, array_prototype, array_iterator}
use Rattle.es_calls.specs.Calls.{index_key}
use Rattle.es_calls.specs.Properties.{with_property}

-- the result of a step of an iterator (7.4.7)
abbrev pub result_heap : Heap → Value → Bool → Heap
result_heap heap v over =
    with_property (with_property (made heap (Some object_prototype) class.Object) (next_id heap) (codes "value") v) (next_id heap) (codes "done") (value.Bool over)

-- a plain property, writable and configurable
abbrev pub added : Heap → ObjId → Key → Value → Heap
added heap id k v = (define_own heap id k (Plain v true true)).after

-- an element of a list, as an assignment to a new one makes it (7.3.4)
unfoldable pub with_element : Heap → ObjId → ℕ → Value → Heap
with_element heap id n v = added heap id (index_key (pos n)) v

-- these values as the elements from n on
abbrev pub with_elements : Heap → ObjId → ℕ → List Value → Heap
with_elements heap id n [] = heap
with_elements heap id n (v ∷ vs) = with_elements (with_element heap id n v) id (suc n) vs

-- an array of these values (7.3.16)
abbrev pub list_heap : Heap → List Value → Heap
list_heap heap vs = with_elements (made heap (Some array_prototype) class.Array) (next_id heap) 0 vs

-- in the 6th edition an arguments object has the iterator key (9.4.4.6, 7)
unfoldable pub with_iterator : Edition → Heap → ObjId → Heap
with_iterator Sixth heap id = added heap id Iterator (value.Object array_iterator)
with_iterator Fifth heap id = heap

-- an arguments object of these values (9.4.4.6; 5.1 edition, 10.6); its `callee` and `caller` can't be met
abbrev pub arguments_heap : Edition → Heap → List Value → Heap
arguments_heap edition heap vs =
    with_iterator edition (with_property (with_elements (made heap (Some object_prototype) class.Arguments) (next_id heap) 0 vs)
    (next_id heap) (codes "length") (value.Number (pos (length vs)))) (next_id heap)
