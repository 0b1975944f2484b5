-- Writing of properties (ECMA-262, 6th edition, 9.1.9), up to the function that is to be called, and the walk of `instanceof`.
use Rattle.std.specs.Prelude.{ℕ, zero, suc, Bool, true, false, ◌||◌, nat_eq, if◌then◌else◌, length, Option, None, Some}
use Rattle.es_value.specs.declared.value.ObjId.{ObjId}
use Rattle.es_value.specs.declared.value.Value.{Value}
use Rattle.es_heap.specs.declared.key.Key.{Key}
use Rattle.es_heap.specs.declared.prop.Prop.{Prop}
use Rattle.es_heap.specs.declared.prop.Prop.TheVariants.{Plain, Accessor}
use Rattle.es_heap.specs.declared.prop.HeapFault.{HeapFault}
use Rattle.es_heap.specs.declared.prop.HeapFault.TheVariants.{NotWritable, NotConfigurable, NotExtensible, BadLength, OutOfMemory}
use Rattle.es_heap.specs.Objects.{Outcome, own}
use Rattle.es_heap.specs.Heaps.{Heap, object_at, define_own, find}
use Rattle.es_access.specs.declared.access.PutAnswer.{PutAnswer}
use Rattle.es_access.specs.declared.access.PutAnswer.TheVariants.{Done, Setter, Refused, OutOfRange}

-- what a write leaves, and what it answers
pub record Written : Type 0 where
  pub after : Heap
  pub answer : PutAnswer

abbrev pub refused : Heap → Written
refused heap = record { after = heap; answer = Refused }

abbrev pub answer_of : Option HeapFault → PutAnswer
answer_of None = Done
answer_of (Some BadLength) = OutOfRange
answer_of (Some NotWritable) = Refused
answer_of (Some NotConfigurable) = Refused
answer_of (Some NotExtensible) = Refused
answer_of (Some OutOfMemory) = Refused

abbrev pub stored : Outcome Heap → Written
stored outcome = record { after = outcome.after; answer = answer_of outcome.fault }

-- the receiver's own plain property gets the value, or it gets a new one
abbrev pub store : Heap → ObjId → Key → Value → Option Prop → Written
store heap r k v None = stored (define_own heap r k (Plain v true true))
store heap r k v (Some (Plain old w c)) = if w then stored (define_own heap r k (Plain v true c)) else refused heap
store heap r k v (Some (Accessor g s c)) = refused heap

-- a receiver that is no object refuses
abbrev pub store_at : Heap → Option ObjId → Key → Value → Written
store_at heap None k v = refused heap
store_at heap (Some r) k v = store heap r k v (own (object_at heap r) k)

abbrev pub put_over : Heap → Option ObjId → Key → Value → Option (ObjId × Prop) → Written
put_over heap receiver k v None = store_at heap receiver k v
put_over heap receiver k v (Some found) = by found.1
  where
    by : Prop → Written
    by (Plain old w c) = if w then store_at heap receiver k v else refused heap
    by (Accessor g None c) = refused heap
    by (Accessor g (Some s) c) = record { after = heap; answer = Setter s }

-- [[Set]] (9.1.9), where the receiver is an object or a primitive
abbrev pub put : Heap → ObjId → Key → Value → Option ObjId → Written
put heap id k v receiver = put_over heap receiver k v (find heap id k)

-- whether the target is among this many objects of a chain
abbrev pub on_chain : ℕ → Heap → Option ObjId → ObjId → Bool
on_chain zero heap at target = false
on_chain (suc n) heap None target = false
on_chain (suc n) heap (Some up) target = nat_eq up.0 target.0 || on_chain n heap (object_at heap up).proto target

-- the walk of `instanceof` (7.3.19, 7)
abbrev pub is_above : Heap → ObjId → ObjId → Bool
is_above heap id target = on_chain (length heap) heap (object_at heap id).proto target
