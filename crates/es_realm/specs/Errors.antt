-- The errors that a step throws (ECMA-262, 6th edition, 19.5).
use Rattle.std.specs.Prelude.{Some}
use Rattle.es_value.specs.declared.value.ObjId.{ObjId}
use Rattle.es_heap.specs.declared.class.Class.TheVariants as class
use Rattle.es_heap.specs.Heaps.{Heap, made}
use Rattle.es_realm.specs.declared.errors.ErrorKind.{ErrorKind}
use Rattle.es_realm.specs.declared.errors.ErrorKind.TheVariants as kind
use Rattle.es_realm.specs.Names.{error_prototype, type_error_prototype, reference_error_prototype, range_error_prototype}

-- the prototype of the errors of a kind
abbrev pub prototype_of : ErrorKind → ObjId
prototype_of kind.Error = error_prototype
prototype_of kind.TypeError = type_error_prototype
prototype_of kind.ReferenceError = reference_error_prototype
prototype_of kind.RangeError = range_error_prototype

-- a new error, which has no message of its own
abbrev pub with_error : Heap → ErrorKind → Heap
with_error heap e = made heap (Some (prototype_of e)) class.Error
