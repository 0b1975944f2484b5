-- The prototypes of what `new`, generators and classes make (ECMA-262, 6th edition, 9.1.15 and 14.5.14; 5.1 edition, 13.2.2).
use Rattle.std.specs.Prelude.{if◌then◌else◌, codes}
use Rattle.es_value.specs.declared.value.Value.{Value}
use Rattle.es_value.specs.declared.value.Value.TheVariants as value
use Rattle.es_heap.specs.Heaps.{Heap, object_at}
use Rattle.es_heap.specs.declared.key.Key.{Key}
use Rattle.es_heap.specs.declared.key.Key.TheVariants.{Text}
use Rattle.es_realm.specs.declared.errors.ErrorKind.TheVariants.{TypeError}
use Rattle.es_realm.specs.Look.{is_namespace}
use Rattle.es_operators.specs.declared.functions.Constructor.{Constructor}
use Rattle.es_operators.specs.declared.functions.Constructor.TheVariants as constructor
use Rattle.es_operators.specs.declared.functions.Prototype.{Prototype}
use Rattle.es_operators.specs.declared.functions.Prototype.TheVariants as prototype
use Rattle.es_operators.specs.Functions.{heritage_of, prototype_for}
use Rattle.es_calls.specs.declared.call.BuiltinCall.{BuiltinCall}
use Rattle.es_calls.specs.declared.call.Place.{Place}
use Rattle.es_calls.specs.declared.call.Place.TheVariants as place
use Rattle.es_calls.specs.declared.call.Want.TheVariants as want
use Rattle.es_calls.specs.Calls.{arg, object_in}
use Rattle.es_operations.specs.Turning.{Act, ends, gives, throws, wants}

abbrev pub prototype_key : Key
prototype_key = Text (codes "prototype")

-- GetPrototypeFromConstructor (9.1.15): the receiver is the constructor, the operand the default
abbrev pub prototype_given : Heap → BuiltinCall → Prototype → Act
prototype_given heap c (prototype.Is id) = gives heap c (value.Object id)
prototype_given heap c (prototype.Leaves x) = ends heap c (want.Leaves x)

abbrev pub prototype_of : Heap → BuiltinCall → Place → Act
prototype_of heap c place.Begin = wants heap c place.End (want.Get c.this_value prototype_key)
prototype_of heap c _ = prototype_given heap c (prototype_for heap c.input (object_in (arg c 0)))

-- the prototype of the prototype of a class with a heritage (14.5.14, step 6): the receiver is the heritage
abbrev pub heritage_begun : Heap → BuiltinCall → Constructor → Act
heritage_begun heap c (constructor.Runs id) = wants heap c place.End (want.Get c.this_value prototype_key)
heritage_begun heap c (constructor.Leaves x) = ends heap c (want.Leaves x)
heritage_begun heap c _ = throws heap c TypeError

abbrev pub heritage_given : Heap → BuiltinCall → Value → Act
heritage_given heap c value.Null = gives heap c value.Null
heritage_given heap c (value.Object id) =
    if is_namespace (object_at heap id).class then ends heap c (want.Leaves 12) else gives heap c (value.Object id)
heritage_given heap c _ = throws heap c TypeError

abbrev pub heritage_prototype : Heap → BuiltinCall → Place → Act
heritage_prototype heap c place.Begin = heritage_begun heap c (heritage_of heap c.this_value)
heritage_prototype heap c _ = heritage_given heap c c.input
