-- Which functions can be constructed and inherited from, and the walk of `instanceof` (ECMA-262, 6th edition, 7.3.19, 12.3.3,
-- 12.9.4 and 14.5.14).
use Rattle.std.specs.Prelude.{ℕ, zero, suc, Bool, true, false, ◌&&◌, ◌||◌, nat_eq, nat_le, if◌then◌else◌, length, Option, None, Some}
use Rattle.es_value.specs.declared.value.ObjId.{ObjId}
use Rattle.es_value.specs.declared.value.Value.{Value}
use Rattle.es_value.specs.declared.value.Value.TheVariants as value
use Rattle.es_heap.specs.declared.class.Class.{Class}
use Rattle.es_heap.specs.declared.class.Class.TheVariants as class
use Rattle.es_heap.specs.Heaps.{Heap, object_at}
use Rattle.es_access.specs.Access.{is_above}
use Rattle.es_realm.specs.declared.edition.Edition.{Edition}
use Rattle.es_realm.specs.declared.edition.Edition.TheVariants.{Sixth, Fifth}
use Rattle.es_realm.specs.Names.{function_prototype, generator_function_prototype, error, type_error, reference_error, range_error}
use Rattle.es_realm.specs.Look.{is_closure, is_method, is_namespace}
use Rattle.es_operators.specs.declared.functions.Constructor.{Constructor}
use Rattle.es_operators.specs.declared.functions.Constructor.TheVariants as constructor
use Rattle.es_operators.specs.declared.functions.Prototype.{Prototype}
use Rattle.es_operators.specs.declared.functions.Prototype.TheVariants as prototype
use Rattle.es_operators.specs.declared.functions.Instance.{Instance}
use Rattle.es_operators.specs.declared.functions.Instance.TheVariants as instance
use Rattle.es_operators.specs.Primitives.{is_callable, is_object}

abbrev pub is_id : Option ObjId → ObjId → Bool
is_id None id = false
is_id (Some other) id = nat_eq other.0 id.0

-- generator functions have a prototype of their own (25.2.3)
abbrev pub is_generator_function : Heap → ObjId → Bool
is_generator_function heap id = is_id (object_at heap id).proto generator_function_prototype

-- X5 and X10: a function of the program that can't be constructed, or only in one edition
abbrev pub is_no_constructor : Edition → Heap → ObjId → Bool
is_no_constructor Sixth heap id = is_method heap id || is_generator_function heap id
is_no_constructor Fifth heap id = false

-- `new` (12.3.3): of a function of the program, of an error constructor, or X5
abbrev pub constructor_of_class : Edition → Heap → ObjId → Class → Constructor
constructor_of_class edition heap id (class.Function n) = if is_no_constructor edition heap id then constructor.Leaves 5 else constructor.Runs id
constructor_of_class edition heap id (class.Builtin n) = if nat_le 3 n && nat_le n 6 then constructor.MakesError n else constructor.Leaves 5
constructor_of_class edition heap id _ = constructor.Fails

abbrev pub constructor_of : Edition → Heap → Value → Constructor
constructor_of edition heap (value.Object id) = constructor_of_class edition heap id (object_at heap id).class
constructor_of edition heap _ = constructor.Fails

-- the prototype of what a function makes, whose property `prototype` has this value (9.1.15): another value than an object counts for
-- the default. X12 of a namespace object
abbrev pub prototype_for : Heap → Value → ObjId → Prototype
prototype_for heap (value.Object id) default = if is_namespace (object_at heap id).class then prototype.Leaves 12 else prototype.Is id
prototype_for heap _ default = prototype.Is default

-- the heritage of a class (14.5.14): a function of the program, or X10
abbrev pub heritage_of_class : Heap → ObjId → Class → Constructor
heritage_of_class heap id (class.Function n) = if is_no_constructor Sixth heap id then constructor.Leaves 10 else constructor.Runs id
heritage_of_class heap id (class.Builtin n) = constructor.Leaves 10
heritage_of_class heap id _ = constructor.Fails

abbrev pub heritage_of : Heap → Value → Constructor
heritage_of heap value.Null = constructor.Leaves 10
heritage_of heap (value.Object id) = heritage_of_class heap id (object_at heap id).class
heritage_of heap _ = constructor.Fails

-- X9: in the 6th edition what isn't callable inherits a test from Function.prototype (19.2.3.6)
abbrev pub not_callable : Edition → Heap → ObjId → Instance
not_callable Sixth heap id = if is_above heap id function_prototype then instance.Leaves 9 else instance.Fails
not_callable Fifth heap id = instance.Fails

-- `instanceof` (12.9.4), up to the read of the right side's `prototype`
abbrev pub instance_of : Edition → Heap → Value → Value → Instance
instance_of edition heap left (value.Object right) =
    if is_callable heap (value.Object right)
    then (if is_object left then instance.ReadPrototype right else instance.Is false)
    else not_callable edition heap right
instance_of edition heap left _ = instance.Fails

abbrev pub is_error_kind : ObjId → Bool
is_error_kind id = nat_le 14 id.0 && nat_le id.0 16

abbrev pub met : Bool → Instance
met past = if past then instance.Leaves 6 else instance.Is true

-- what a step of the walk ends with: X9 from a kind of Error to Error, X6 where the object is met past a step from a class to its
-- parent
abbrev pub met_at : ObjId → ObjId → ObjId → Bool → Option Instance
met_at at up target past =
    if is_error_kind at && nat_eq up.0 error.0 then Some (instance.Leaves 9)
    else if nat_eq up.0 target.0 then Some (met past)
    else None

abbrev pub unless_met : Option Instance → Instance → Instance
unless_met (Some found) above = found
unless_met None above = above

abbrev pub is_parent_step : Heap → ObjId → ObjId → Bool
is_parent_step heap id up = is_closure (object_at heap id).class && is_closure (object_at heap up).class

abbrev pub instance_above : Heap → ObjId → ObjId → Bool → Option ObjId → (ObjId → Bool → Instance) → Instance
instance_above heap at target past None walk = instance.Is false
instance_above heap at target past (Some up) walk =
    unless_met (met_at at up target (past || is_parent_step heap at up)) (walk up (past || is_parent_step heap at up))

abbrev pub instance_within : ℕ → Heap → ObjId → ObjId → Bool → Instance
instance_within zero heap at target past = instance.Is false
instance_within (suc n) heap at target past =
    instance_above heap at target past (object_at heap at).proto (λ up past. instance_within n heap up target past)

-- whether the target is on the chain of prototypes (7.3.19, 7)
abbrev pub instance_walk : Heap → ObjId → ObjId → Instance
instance_walk heap id target = instance_within (length heap) heap id target false
