-- Classes, `super`, `new.target` and members (ECMA-262, 6th edition, 9.2.2, 12.2.6, 12.3.3, 12.3.5 and 14.5).
use Rattle.std.specs.Cmp.Lexicographic.{pointwise}
use Rattle.std.specs.List.{filter_map}
use Rattle.std.specs.Prelude.{Bool, List, None, Option, Some, [], codes, false, if◌then◌else◌, is_some, length, nat_eq, slice_get, slice_index_or, slice_set, true, ℕ, ◌&&◌, ◌++◌, ◌∷◌}
use Rattle.es_value.specs.declared.value.ObjId.{ObjId}
use Rattle.es_value.specs.declared.value.Value.{Value}
use Rattle.es_value.specs.declared.value.Value.TheVariants as value
use Rattle.es_heap.specs.Heaps.{Heap, next_id, object_at}
use Rattle.es_heap.specs.Objects.{own}
use Rattle.es_heap.specs.declared.class.Class.{Class}
use Rattle.es_heap.specs.declared.class.Class.TheVariants as class
use Rattle.es_heap.specs.declared.key.Key.{Key}
use Rattle.es_heap.specs.declared.key.Key.TheVariants.{Iterator, Text}
use Rattle.es_heap.specs.declared.prop.Prop.TheVariants.{Plain}
use Rattle.es_realm.specs.Access.{define_key}
use Rattle.es_realm.specs.Look.{is_closure}
use Rattle.es_realm.specs.Names.{function_prototype, object_prototype}
use Rattle.es_realm.specs.declared.edition.Edition.TheVariants.{Sixth}
use Rattle.es_realm.specs.declared.errors.ErrorKind.TheVariants.{ReferenceError, TypeError}
use Rattle.es_operators.specs.Functions.{constructor_of}
use Rattle.es_operators.specs.declared.functions.Constructor.{Constructor}
use Rattle.es_operators.specs.declared.functions.Constructor.TheVariants as constructor
use Rattle.es_calls.specs.Calls.{is_undefined}
use Rattle.es_calls.specs.Calls.{begun}
use Rattle.es_operations.specs.Making.{class_function, class_prototype, with_half, with_recorded}
use Rattle.es_operations.specs.Numbers as number
use Rattle.es_operations.specs.Turning.{key_operand}
use Rattle.core_ast.specs.declared.parts.FunctionId.{FunctionId}
use Rattle.core_ast.specs.declared.tree.CoreLink.{CoreLink}
use Rattle.core_ast.specs.declared.whole.Core.{Core}
use Rattle.core_ast.specs.declared.whole.CoreFunction.{CoreFunction}
use Rattle.core_ast.specs.declared.whole.CoreKind.{CoreKind}
use Rattle.core_ast.specs.declared.whole.CoreKind.TheVariants as kind
use Rattle.core_meaning.specs.Calls.{constructs}
use Rattle.core_meaning.specs.Expressions.{function_at, has_given, with_current, with_two}
use Rattle.core_meaning.specs.Functions.{kept_cells, no_own, with_arguments_in, with_closure}
use Rattle.core_meaning.specs.Marks.{CoreNext, CoreState, CoreStore, CoreStrict, Derived, Heritage, Static, Unmade, sorts, with_store, Mark, Own}
use Rattle.core_meaning.specs.Properties.{defined, with_object}
use Rattle.core_meaning.specs.Rows.{Given, calls, controls, hands, has, leaves, operates, pushed, raises, unlawful, with_heap, with_option}
use Rattle.core_meaning.specs.State.{After, Closure, CoreValue, Current, Extra, Gives, Has, Reference, Turn, User, Work}

-- ---- keys as texts: the text of [Symbol.iterator] is that of no key of a program

abbrev pub iterator_text : List ℕ
iterator_text = codes "@@iterator"

abbrev pub key_of_units : List ℕ → Key
key_of_units units = if pointwise nat_eq units iterator_text then Iterator else Text units

abbrev pub with_key : Value → CoreState → (Key → CoreNext) → CoreNext
with_key (value.Text units) st f = f (key_of_units units)
with_key v st f = unlawful st

-- the name @@base is that of no property: behind the check of the base it gives undefined
abbrev pub named : Value → List ℕ → Current Mark
named v units =
    if pointwise nat_eq units (codes "@@base") then Has (User value.Undefined) else Reference v (key_of_units units)

-- ---- constructions (9.2.2, 12.3.3.1.1)

abbrev pub closure_in : CoreState → Class → Option (Closure Own)
closure_in st (class.Function n) = slice_get st.closures n
closure_in st k = None

abbrev pub closure_at : CoreState → Value → Option (Closure Own)
closure_at st (value.Object id) = closure_in st (object_at st.heap id).class
closure_at st v = None

abbrev pub function_of : Core → Option (Closure Own) → Option CoreFunction
function_of core None = None
function_of core (Some c) = function_at core c.function

abbrev pub is_derived_kind : CoreKind → Bool
is_derived_kind (kind.Class derived) = derived
is_derived_kind k = false

abbrev pub is_derived_function : Option CoreFunction → Bool
is_derived_function None = false
is_derived_function (Some f) = is_derived_kind f.kind

abbrev pub is_derived : Core → CoreState → Value → Bool
is_derived core st f = is_derived_function (function_of core (closure_at st f))

-- the parent makes the object of a derived constructor; else it is made here
abbrev pub constructs_as : Core → Value → List Value → Value → CoreState → CoreNext
constructs_as core f args target st =
    if is_derived core st f
    then calls (Work (Derived (length st.store.this_values)))
    (record { function = f; receiver = value.Undefined; args = args; target = Some target; site = None }) st
    else constructs f args target st

abbrev pub construct_as : Core → Value → List Value → Value → CoreState → Constructor → CoreNext
construct_as core f args target st (constructor.Runs id) = constructs_as core f args target st
construct_as core f args target st (constructor.MakesError n) = controls (Turn None (begun n value.Undefined args)) st
construct_as core f args target st (constructor.Leaves x) = leaves x st
construct_as core f args target st constructor.Fails = raises TypeError st

abbrev pub construct_list : Core → CoreStrict → CoreState → CoreNext
construct_list core p st = with_current p.current st (λ f. with_arguments_in p.values st (λ args.
    construct_as core f args f (pushed (After p.links) st) (constructor_of Sixth st.heap f)))

-- what a derived constructor gives (9.2.2, steps 13 and 15): an object that it returns, or its `this` for undefined
abbrev pub own_this : CoreState → Option Value → CoreNext
own_this st None = raises ReferenceError st
own_this st (Some v) = hands (Gives (User v)) st

abbrev pub derived_given : ℕ → CoreState → Value → CoreNext
derived_given n st (value.Object id) = hands (Gives (User (value.Object id))) st
derived_given n st value.Undefined = own_this st (slice_index_or st.store.this_values n None)
derived_given n st v = raises TypeError st

-- ---- `super` (12.3.5)

abbrev pub object_or_null : Option ObjId → Value
object_or_null None = value.Null
object_or_null (Some id) = value.Object id

abbrev pub parent_of : Heap → Value → Value
parent_of heap (value.Object id) = object_or_null (object_at heap id).proto
parent_of heap v = value.Undefined

abbrev pub has_value : Current Mark → List (CoreValue Mark)
has_value (Has v) = v ∷ []
has_value c = []

-- the parent is called with the present new.target
abbrev pub super_construct : Core → CoreStrict → CoreState → CoreNext
super_construct core p st = with_arguments_in (has_value p.current) st (λ args.
    let f = parent_of st.heap st.context.own.callee in
    construct_as core f args st.context.own.target (pushed (After p.links) st) (constructor_of Sixth st.heap f))

-- BindThisValue (8.1.1.3.1): once
abbrev pub with_this_value : ℕ → Value → CoreState → CoreState
with_this_value n v st = with_store (record st.store { this_values = slice_set st.store.this_values n (Some v) }) st

abbrev pub bind_this : CoreStrict → CoreState → Value → Option Value → CoreNext
bind_this p st v None = has v p.links (with_this_value st.context.own.this_record v st)
bind_this p st v (Some w) = raises ReferenceError st

abbrev pub this_bind : CoreStrict → CoreState → CoreNext
this_bind p st = with_current p.current st
    (λ v. bind_this p st v (slice_index_or st.store.this_values st.context.own.this_record None))

abbrev pub super_get : CoreStrict → CoreState → CoreNext
super_get p st = with_two p st (λ key receiver. with_key key st (λ k.
    operates (After p.links) number.super_get_number receiver (st.context.own.home ∷ key_operand k ∷ []) st))

-- ---- `new.target` (12.3.8), and the guard of a class (9.2.1, step 2)

abbrev pub new_target : List CoreLink → CoreState → CoreNext
new_target links st = has st.context.own.target links st

abbrev pub class_guard : List CoreLink → CoreState → CoreNext
class_guard links st = if is_undefined st.context.own.target then raises TypeError st else has value.Undefined links st

-- ---- members (12.2.6.8, 14.3.9). A method has its object as home object, and a static one is noted for the class

abbrev pub with_home : Value → ℕ → CoreState → Option (Closure Own) → CoreState
with_home home n st None = st
with_home home n st (Some c) =
    record st { closures = slice_set st.closures n (record c { own = record c.own { home = home } }) }

abbrev pub homed_class : Value → CoreState → Class → CoreState
homed_class home st (class.Function n) = with_home home n st (slice_get st.closures n)
homed_class home st k = st

abbrev pub homed : Value → Value → CoreState → CoreState
homed home (value.Object f) st = homed_class home st (object_at st.heap f).class
homed home v st = st

-- only a class is a function with members
abbrev pub noted : ObjId → Key → CoreState → CoreState
noted id k st =
    if is_closure (object_at st.heap id).class
    then with_store (record st.store { statics = st.store.statics ++ record { class = id; key = k } ∷ [] }) st
    else st

abbrev pub method_noted : Bool → ObjId → Key → Value → CoreState → CoreState
method_noted is_method id k v st = if is_method then noted id k (homed (value.Object id) v st) else st

abbrev pub put_member : ObjId → Key → Value → Bool → CoreStrict → CoreState → CoreNext
put_member id k v is_method p st =
    let w = define_key Sixth st.heap id k (Plain v true true) in
    defined p.current p.links (method_noted is_method id k v (with_heap w.after st)) w.answer

abbrev pub method_put : CoreStrict → CoreState → List (CoreValue Mark) → CoreNext
method_put p st (User key ∷ User v ∷ User (value.Bool is_method) ∷ []) =
    with_object p.current st (λ id. with_key key st (λ k. put_member id k v is_method p st))
method_put p st vs = unlawful st

abbrev pub put_accessor : ObjId → Key → ObjId → Bool → CoreStrict → CoreState → CoreNext
put_accessor id k f is_setter p st =
    let w = define_key Sixth st.heap id k (with_half st.heap id k f is_setter) in
    defined p.current p.links (method_noted true id k (value.Object f) (with_heap w.after st)) w.answer

abbrev pub accessor_put : CoreStrict → CoreState → List (CoreValue Mark) → CoreNext
accessor_put p st (User key ∷ User (value.Object f) ∷ User (value.Bool is_setter) ∷ []) =
    with_object p.current st (λ id. with_key key st (λ k. put_accessor id k f is_setter p st))
accessor_put p st vs = unlawful st

-- ---- the class itself (14.5.14): the heritage's prototype, then the function and its prototype object

-- The static members that a class inherits, fixed when it is defined: those that the parent's definition made and the parent
-- still has, and those that were recorded for the parent.
abbrev pub still_there : Heap → ObjId → Static → Option Key
still_there heap parent m =
    if nat_eq m.class.0 parent.0 && is_some (own (object_at heap parent) m.key) then Some m.key else None

abbrev pub recorded_for : CoreState → Value → List Key
recorded_for st (value.Object parent) =
    filter_map (still_there st.heap parent) st.store.statics ++ (object_at st.heap parent).recorded
recorded_for st v = []

abbrev pub class_closure : FunctionId → CoreFunction → Value → CoreState → Closure Own
class_closure f function home st = record {
  function = f;
  environment = st.context.environment;
  own = record no_own { home = home; cells = kept_cells function st };
}

abbrev pub class_made : FunctionId → CoreFunction → Value → ObjId → Option ObjId → CoreState → Given sorts CoreStore
class_made f function heritage parent above st =
    let id = next_id st.heap in
    let home = value.Object (class_prototype st.heap) in
    let made = class_function Sixth st.heap (length st.closures) function.length parent above in
    record {
      value = User (value.Object id);
      state = with_closure (class_closure f function home st)
          (with_heap (with_recorded made id (recorded_for st heritage)) st);
    }

abbrev pub make_class : Core → FunctionId → Value → ObjId → Option ObjId → List CoreLink → CoreState → CoreNext
make_class core f heritage parent above links st = with_option (function_at core f) st
    (λ function. has_given links (class_made f function heritage parent above st))

abbrev pub heritage_given : Core → FunctionId → Value → List CoreLink → CoreState → Value → CoreNext
heritage_given core f (value.Object parent) links st (value.Object above) =
    make_class core f (value.Object parent) parent (Some above) links st
heritage_given core f (value.Object parent) links st value.Null =
    make_class core f (value.Object parent) parent None links st
heritage_given core f heritage links st v = unlawful st

abbrev pub class_by : Core → Bool → Value → FunctionId → CoreStrict → CoreState → CoreNext
class_by core true heritage f p st =
    operates (Work (Heritage f heritage p.links)) number.heritage_prototype_number heritage [] st
class_by core false heritage f p st =
    make_class core f value.Undefined function_prototype (Some object_prototype) p.links st

abbrev pub class_make : Core → CoreStrict → CoreState → Current Mark → List (CoreValue Mark) → CoreNext
class_make core p st (Has (User (value.Bool has_heritage))) (User heritage ∷ Extra (Unmade f) ∷ []) =
    class_by core has_heritage heritage f p st
class_make core p st c vs = unlawful st
