-- What is seen of a thrown value outside: a primitive itself, and of an object the nearest kind of error on its chain of prototypes.
use Rattle.std.specs.Prelude.{ℕ, zero, suc, nat_eq, if◌then◌else◌, length, Option, None, Some}
use Rattle.es_value.specs.declared.value.ObjId.{ObjId}
use Rattle.es_value.specs.declared.value.Value.{Value}
use Rattle.es_value.specs.declared.value.Value.TheVariants as value
use Rattle.es_outside.specs.declared.primitive.Primitive.TheVariants as primitive
use Rattle.es_outside.specs.declared.events.Seen.{Seen}
use Rattle.es_outside.specs.declared.events.Seen.TheVariants as seen
use Rattle.es_heap.specs.Heaps.{Heap, object_at}
use Rattle.es_realm.specs.Names.{error_prototype, type_error_prototype, reference_error_prototype, range_error_prototype}

-- the kind of error whose prototype an object is
abbrev pub kind_at : ObjId → Option Seen
kind_at id =
    if nat_eq id.0 error_prototype.0 then Some seen.Error
    else if nat_eq id.0 type_error_prototype.0 then Some seen.TypeError
    else if nat_eq id.0 reference_error_prototype.0 then Some seen.ReferenceError
    else if nat_eq id.0 range_error_prototype.0 then Some seen.RangeError
    else None

abbrev pub seen_or : Option Seen → Seen → Seen
seen_or (Some kind) above = kind
seen_or None above = above

-- the nearest kind among this many objects of a chain
abbrev pub seen_within : ℕ → Heap → Option ObjId → Seen
seen_within zero heap at = seen.Object
seen_within (suc n) heap None = seen.Object
seen_within (suc n) heap (Some up) = seen_or (kind_at up) (seen_within n heap (object_at heap up).proto)

-- no chain is longer than the heap
abbrev pub seen_object : Heap → ObjId → Seen
seen_object heap id = seen_within (length heap) heap (object_at heap id).proto

abbrev pub seen_of : Heap → Value → Seen
seen_of heap value.Undefined = seen.Prim primitive.Undefined
seen_of heap value.Null = seen.Prim primitive.Null
seen_of heap (value.Bool b) = seen.Prim (primitive.Bool b)
seen_of heap (value.Number n) = seen.Prim (primitive.Number n)
seen_of heap (value.Text us) = seen.Prim (primitive.Text us)
seen_of heap (value.Object id) = seen_object heap id
