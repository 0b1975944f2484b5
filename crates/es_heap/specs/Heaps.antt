-- The heap: a list of objects, where an object is named by its place.
use Rattle.std.specs.Prelude.{◌≡◌, ℕ, ℤ, ◌<◌, ◌++◌, zero, suc, Bool, true, false, ◌&&◌, nat_eq, nat_lt, if◌then◌else◌, List, [], ◌∷◌, length, slice_index_or, slice_set, Option, None, Some}
use Rattle.std.specs.List.{list_any}
use Rattle.es_value.specs.declared.value.ObjId.{ObjId}
use Rattle.es_value.specs.Equality.{same_truth}
use Rattle.es_heap.specs.declared.class.Class.{Class}
use Rattle.es_heap.specs.declared.class.Class.TheVariants.{Object as OrdinaryClass}
use Rattle.es_heap.specs.declared.key.Key.{Key}
use Rattle.es_heap.specs.declared.prop.Prop.{Prop}
use Rattle.es_heap.specs.Classes.{is_array}
use Rattle.es_heap.specs.Keys.{same_key}
use Rattle.es_heap.specs.Objects.{Object, Outcome, own, new_object}
use Rattle.es_heap.specs.Objects as object

abbrev pub Heap : Type 0
Heap = List Object

-- the object of this name; a name that the heap didn't give stands for an empty one, which nothing changes
abbrev pub object_at : Heap → ObjId → Object
object_at heap id = slice_index_or heap id.0 (new_object None OrdinaryClass)

abbrev pub with_object : Heap → ObjId → Object → Heap
with_object heap id o = slice_set heap id.0 o

abbrev pub IsBelow : ℕ → Option ObjId → Type 0
IsBelow n None = Unit {0}
IsBelow n (Some id) = id.0 < n

-- each prototype was made before its object, so chains end
abbrev pub ChainsEnd : Heap → Type 0
ChainsEnd heap = (n : ℕ) → n < length heap → IsBelow n (object_at heap (record { 0 = n })).proto

-- the name of the next object that is made
abbrev pub next_id : Heap → ObjId
next_id heap = record { 0 = length heap }

-- a prototype that the heap made, or none
abbrev pub proto_in : Heap → Option ObjId → Option ObjId
proto_in heap None = None
proto_in heap (Some up) = if nat_lt up.0 (length heap) then Some up else None

-- the heap with a new object
abbrev pub made : Heap → Option ObjId → Class → Heap
made heap proto class = heap ++ new_object (proto_in heap proto) class ∷ []

-- an object with another class: an array stays one, and no other object becomes one
abbrev pub with_class : Heap → ObjId → Class → Heap
with_class heap id class =
    if same_truth (is_array class) (is_array (object_at heap id).class)
    then with_object heap id (record (object_at heap id) { class = class })
    else heap

-- an object whose prototype this is has the key recorded
abbrev pub is_up : Option ObjId → ObjId → Bool
is_up None id = false
is_up (Some up) id = nat_eq up.0 id.0

abbrev pub records_from : ObjId → Key → Object → Bool
records_from id k o = is_up o.proto id && list_any (same_key k) o.recorded

abbrev pub is_recorded_below : Heap → ObjId → Key → Bool
is_recorded_below heap id k = list_any (records_from id k) heap

-- pairs of a prototype and a key
abbrev pub same_note : ℕ × Key → ℕ × Key → Bool
same_note a b = nat_eq a.0 b.0 && same_key a.1 b.1

-- each key that is recorded below an object is noted with it
abbrev pub AreNoted : List (ℕ × Key) → Heap → Type 0
AreNoted notes heap = (id : ObjId) (k : Key) → is_recorded_below heap id k ≡ true → list_any (same_note (id.0, k)) notes ≡ true

-- no note is lost
abbrev pub KeepsNotes : List (ℕ × Key) → List (ℕ × Key) → Type 0
KeepsNotes old new = (n : ℕ × Key) → list_any (same_note n) old ≡ true → list_any (same_note n) new ≡ true

-- the key is noted with the prototype, if there is one
abbrev pub IsNotedAt : Option ObjId → Key → List (ℕ × Key) → Type 0
IsNotedAt None k notes = Unit {0}
IsNotedAt (Some up) k notes = list_any (same_note (up.0, k)) notes ≡ true

-- an object's outcome, as one of the heap
abbrev pub at : Heap → ObjId → Outcome Object → Outcome Heap
at heap id outcome = record { after = with_object heap id outcome.after; fault = outcome.fault }

abbrev pub define_own : Heap → ObjId → Key → Prop → Outcome Heap
define_own heap id k next = at heap id (object.define_own (object_at heap id) k next)

abbrev pub set_length : Heap → ObjId → ℤ → Outcome Heap
set_length heap id z = at heap id (object.set_length (object_at heap id) z)

-- what a walk up the chain finds, once an object was looked at
abbrev pub found_or : Option Prop → ObjId → Option (ObjId × Prop) → Option (ObjId × Prop)
found_or (Some p) id above = Some (id, p)
found_or None id above = above

abbrev pub above_of : Option ObjId → (ObjId → Option (ObjId × Prop)) → Option (ObjId × Prop)
above_of None walk = None
above_of (Some up) walk = walk up

-- the nearest property on the chain within this many objects
abbrev pub find_within : ℕ → Heap → ObjId → Key → Option (ObjId × Prop)
find_within zero heap id k = None
find_within (suc n) heap id k = found_or (own (object_at heap id) k) id (above_of (object_at heap id).proto (λ up. find_within n heap up k))

-- the nearest property on the chain, as OrdinaryGet (9.1.8.1) finds it; no chain is longer than the heap
abbrev pub find : Heap → ObjId → Key → Option (ObjId × Prop)
find heap id k = find_within (length heap) heap id k
