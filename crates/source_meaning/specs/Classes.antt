-- Classes (ECMA-262, 6th edition, 14.5.14).
use Rattle.std.specs.List.{filter_map}
use Rattle.std.specs.Prelude.{Bool, List, None, Option, Some, [], false, if◌then◌else◌, is_some, length, nat_eq, true, ℕ, ◌&&◌, ◌++◌, ◌∷◌}
use Rattle.es_value.specs.declared.value.ObjId.{ObjId}
use Rattle.es_value.specs.declared.value.Value.{Value}
use Rattle.es_value.specs.declared.value.Value.TheVariants as value
use Rattle.es_heap.specs.Heaps.{Heap, next_id, object_at}
use Rattle.es_heap.specs.Objects.{own}
use Rattle.es_heap.specs.declared.key.Key.{Key as PropertyKey}
use Rattle.es_realm.specs.Names.{function_prototype, object_prototype}
use Rattle.es_realm.specs.declared.edition.Edition.TheVariants.{Sixth}
use Rattle.es_operations.specs.Making.{class_function, class_prototype, with_recorded}
use Rattle.es_operations.specs.Numbers as number
use Rattle.es6_ast.specs.declared.tree.Class.{Class, out-Class}
use Rattle.es6_ast.specs.declared.tree.ClassMember.{ClassMember, out-ClassMember}
use Rattle.es6_ast.specs.declared.tree.Expression.{Expression}
use Rattle.es6_ast.specs.declared.tree.Identifier.{Identifier}
use Rattle.es6_ast.specs.declared.tree.Method.{out-Method}
use Rattle.source_state.specs.Members.{other_members}
use Rattle.source_meaning.specs.Environments.{initialized, with_bindings}
use Rattle.source_meaning.specs.Functions.{closure_in, function_parameters, with_closure}
use Rattle.source_meaning.specs.Objects.{define_method}
use Rattle.source_meaning.specs.References.{with_key}
use Rattle.source_meaning.specs.State.{ConstructorCode, Defining, Heritage, HeritagePrototype, OfMember, Restore, State, Static, Uninitialized}
use Rattle.source_meaning.specs.Steps.{Next, begins, gives, impossible, operates, pushed, with_heap}
use Rattle.source_meaning.specs.Trees.{constructor_in, expected_count, optional_name}

-- ---- the static members that a class inherits are fixed when it is defined: those that the parent's definition made and the parent
-- still has, and those that were recorded for the parent

abbrev pub still_there : Heap → ObjId → Static → Option PropertyKey
still_there heap parent m =
    if nat_eq m.class.0 parent.0 && is_some (own (object_at heap parent) m.key) then Some m.key else None

abbrev pub recorded_for : State → Value → List PropertyKey
recorded_for st (value.Object parent) =
    filter_map (still_there st.heap parent) st.statics ++ (object_at st.heap parent).recorded
recorded_for st v = []

abbrev pub noted : ObjId → PropertyKey → State → State
noted id k st = record st { statics = st.statics ++ record { class = id; key = k } ∷ [] }

-- ---- members in order: the name, and then the method, on the class or on its prototype (steps 20 to 22)

abbrev pub noted_by : Bool → ObjId → PropertyKey → State → State
noted_by is_static id k st = if is_static then noted id k st else st

abbrev pub holder_of : Bool → Defining → ObjId
holder_of is_static d = if is_static then d.function else d.prototype

abbrev pub member_defined : Defining → ClassMember → PropertyKey → State → (State → Next) → Next
member_defined d m k st next =
    let is_static = (out-ClassMember m).is_static in
    let id = holder_of is_static d in
    define_method (out-ClassMember m).method id k st (λ after. next (noted_by is_static id k after))

-- at the end the inner name of the class gets its value (step 23)
abbrev pub class_named : Option (List ℕ) → Value → State → State
class_named None v st = st
class_named (Some x) v st = initialized x v st

abbrev pub class_over : Defining → State → Next
class_over d st = gives (value.Object d.function) (class_named d.name (value.Object d.function) st)

abbrev pub members_on : Defining → List ClassMember → State → Next
members_on d [] st = class_over d st
members_on d (m ∷ ms) st =
    with_key (out-Method (out-ClassMember m).method).key (OfMember d m ms) st
    (λ k named. member_defined d m k named (members_on d ms))

abbrev pub member_named : Defining → ClassMember → List ClassMember → PropertyKey → State → Next
member_named d m ms k st = member_defined d m k st (members_on d ms)

-- ---- the function and its prototype object (steps 7 to 18)

abbrev pub class_begun : Class → Bool → Value → ObjId → Option ObjId → State → State
class_begun c derived heritage parent above st =
    let f = constructor_in (out-Class c).members in
    let code = ConstructorCode derived f in
    let home = value.Object (class_prototype st.heap) in
    let made = class_function Sixth st.heap (length st.closures) (expected_count (function_parameters f)) parent above in
    with_closure (closure_in st.context.environment code home st)
    (with_heap (with_recorded made (next_id st.heap) (recorded_for st heritage)) st)

abbrev pub class_made : Class → Bool → Value → ObjId → Option ObjId → State → Next
class_made c derived heritage parent above st =
    members_on (record {
      name = optional_name (out-Class c).name;
      function = next_id st.heap;
      prototype = class_prototype st.heap;
    }) (other_members (out-Class c).members) (class_begun c derived heritage parent above st)

-- ---- the heritage (steps 5 and 6)

abbrev pub heritage_valued : Class → State → Value → Next
heritage_valued c st v = operates (HeritagePrototype c v) number.heritage_prototype_number v [] st

abbrev pub heritage_given : Class → Value → State → Value → Next
heritage_given c (value.Object parent) st (value.Object above) =
    class_made c true (value.Object parent) parent (Some above) st
heritage_given c (value.Object parent) st value.Null = class_made c true (value.Object parent) parent None st
heritage_given c heritage st v = impossible st

abbrev pub class_by : Class → State → Option Expression → Next
class_by c st None = class_made c false value.Undefined function_prototype (Some object_prototype) st
class_by c st (Some x) = begins (Heritage c) x st

-- a class with a name has a record with it, which can't be written (steps 2 to 4)
abbrev pub class_entered : Option Identifier → State → State
class_entered None st = st
class_entered (Some x) st =
    with_bindings (record { name = x.name; mutable = false; held = Uninitialized } ∷ [])
    (pushed (Restore st.context.environment) st)

abbrev pub begin_class : Class → State → Next
begin_class c st = class_by c (class_entered (out-Class c).name st) (out-Class c).heritage
