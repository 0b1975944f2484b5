-- Calls and constructions (ECMA-262, 6th edition, 7.3.12, 7.3.13, 9.2.1, 9.2.2, 12.3.3, 12.3.4).
use Rattle.std.specs.Prelude.{Bool, List, None, Option, Some, [], false, if◌then◌else◌, is_none, length, slice_get, true, ℕ, ◌&&◌, ◌∷◌}
use Rattle.runs.specs.Run.{Asks}
use Rattle.es_outside.specs.declared.host.Reply.{Reply}
use Rattle.es_outside.specs.declared.host.Reply.TheVariants as reply
use Rattle.es_outside.specs.declared.primitive.Primitive.{Primitive}
use Rattle.es_value.specs.declared.value.ObjId.{ObjId}
use Rattle.es_value.specs.declared.value.Value.{Value}
use Rattle.es_value.specs.declared.value.Value.TheVariants as value
use Rattle.es_heap.specs.Heaps.{Heap, made, next_id, object_at}
use Rattle.es_heap.specs.declared.class.Class.{Class as ObjectClass}
use Rattle.es_heap.specs.declared.class.Class.TheVariants as class
use Rattle.es_realm.specs.Names.{generator_prototype, object_prototype}
use Rattle.es_realm.specs.declared.edition.Edition.TheVariants.{Sixth}
use Rattle.es_realm.specs.declared.errors.ErrorKind.TheVariants.{ReferenceError, TypeError}
use Rattle.es_operators.specs.Functions.{constructor_of}
use Rattle.es_operators.specs.Primitives.{of_prim, to_prims}
use Rattle.es_operators.specs.declared.functions.Constructor.{Constructor}
use Rattle.es_operators.specs.declared.functions.Constructor.TheVariants as constructor
use Rattle.es_calls.specs.Calls.{begun}
use Rattle.es_calls.specs.Making.{list_heap}
use Rattle.es_operations.specs.Numbers as number
use Rattle.es6_ast.specs.declared.tree.Parameter.{Parameter, out-Parameter}
use Rattle.source_meaning.specs.Environments.{record_at, with_record}
use Rattle.source_meaning.specs.Functions.{body_instantiated, first_bindings, is_arrow, is_class, is_derived, is_generator, one_parameter, parameters_of, run_code, statements_of, with_arguments}
use Rattle.source_meaning.specs.State.{Call, Closure, Code, Completion, ConstructorCode, Context, Derived, Done, EnvironmentRecord, ForSuper, GeneratorPrototype, Gives, Hand, Listing, Made, Making, OfArguments, Own, ParametersBound, SpreadIterator, State, SuperMade, Throws, Turn}
use Rattle.source_meaning.specs.Steps.{Next, calls, controls, due, gives, hands, impossible, leaves, operates, pushed, raises, with_control, with_heap, with_some}
use Rattle.source_meaning.specs.Trees.{are_simple}

-- ---- hosts: an object among the arguments is a TypeError, and no event. The place is that of the call expression

abbrev pub reply_of : Reply → Completion
reply_of (reply.Give p) = Gives (of_prim p)
reply_of (reply.Throw p) = Throws (of_prim p)

abbrev pub asks_host : ℕ → State → Option (List Primitive) → Next
asks_host n st None = raises TypeError st
asks_host n st (Some args) =
    Asks (record { host = n; args = args; site = st.context.place }) (λ reply. with_control (Hand (reply_of reply)) st)

abbrev pub call_host : ℕ → List Value → State → Next
call_host n args st = asks_host n st (to_prims args)

-- ---- [[Call]] of a function of the program (9.2.1): a new context, above the present one

abbrev pub value_of_target : Option Value → Value
value_of_target None = value.Undefined
value_of_target (Some f) = f

abbrev pub own_of : Closure → Call → State → Own
own_of closure c st =
    if is_arrow closure.code then closure.own
    else record {
      this_record = length st.records;
      callee = c.function;
      home = closure.own.home;
      target = value_of_target c.target;
    }

-- that of a derived constructor isn't there yet, and an arrow has none of its own (9.2.1.2, 9.2.2)
abbrev pub this_begun : Code → Value → Option Value
this_begun code v = if is_arrow code then None else if is_derived code then None else Some v

abbrev pub first_record : Closure → Call → State → EnvironmentRecord
first_record closure c st =
    record { bindings = first_bindings closure.code c.args st.heap; this = this_begun closure.code c.receiver }

abbrev pub context_of : Closure → Call → State → Context
context_of closure c st = record {
  environment = closure.environment;
  home = closure.home;
  own = own_of closure c st;
  place = st.context.place;
  frames = [];
}

abbrev pub with_context : Context → State → State
with_context context st = record st { callers = st.context ∷ st.callers; context = context }

abbrev pub within_call : Closure → Call → State → State
within_call closure c st =
    with_arguments closure.code c.args
    (with_record (first_record closure c st) (with_context (context_of closure c st) st))

-- the prototype of a generator is read behind the parameters (14.4.11)
abbrev pub code_bound : Code → State → Next
code_bound code st =
    if is_generator code
    then operates (GeneratorPrototype (statements_of code)) number.prototype_of_number st.context.own.callee
    (value.Object generator_prototype ∷ []) st
    else run_code code st

abbrev pub parameters_bound : Code → State → Next
parameters_bound code st = code_bound code (body_instantiated code st)

abbrev pub parameters_rest : List Parameter → List Value → State → Next
parameters_rest [] vs st = hands Done st
parameters_rest (p ∷ ps) vs st = one_parameter ps vs st (out-Parameter p)

abbrev pub bind_parameters : Code → List Value → State → Next
bind_parameters code args st =
    if are_simple (parameters_of code) then parameters_bound code st
    else parameters_rest (parameters_of code) args (pushed (ParametersBound code) st)

-- ---- constructions (9.2.2): the parent makes the object of a derived constructor; else its prototype is read, and it is made here

abbrev pub closure_of_class : State → ObjectClass → Option Closure
closure_of_class st (class.Function n) = slice_get st.closures n
closure_of_class st k = None

abbrev pub closure_at : State → Value → Option Closure
closure_at st (value.Object id) = closure_of_class st (object_at st.heap id).class
closure_at st v = None

abbrev pub is_derived_closure : Option Closure → Bool
is_derived_closure None = false
is_derived_closure (Some c) = is_derived c.code

abbrev pub constructs_as : Value → List Value → Value → State → Next
constructs_as f args target st =
    if is_derived_closure (closure_at st f)
    then calls (Derived (length st.records)) (due f value.Undefined args (Some target)) st
    else operates (Making f args target) number.prototype_of_number target (value.Object object_prototype ∷ []) st

-- the call is made once the prototype is there
abbrev pub making : Value → List Value → Value → State → Value → Next
making f args target st (value.Object proto) =
    let o = value.Object (next_id st.heap) in
    calls (Made o) (due f o args (Some target)) (with_heap (made st.heap (Some proto) class.Object) st)
making f args target st v = impossible st

-- an object that is returned is the result (steps 13 and 15); a derived constructor returns no other value but undefined
abbrev pub constructed : Value → Value → Value
constructed o (value.Object id) = value.Object id
constructed o v = o

abbrev pub own_this : State → Option Value → Next
own_this st None = raises ReferenceError st
own_this st (Some v) = gives v st

abbrev pub derived_given : ℕ → State → Value → Next
derived_given n st (value.Object id) = gives (value.Object id) st
derived_given n st value.Undefined = own_this st (record_at st.records n).this
derived_given n st v = raises TypeError st

-- an error constructor is called as a function
abbrev pub construct_by : Value → List Value → Value → State → Constructor → Next
construct_by f args target st (constructor.Runs id) = constructs_as f args target st
construct_by f args target st (constructor.MakesError n) = controls (Turn (begun n value.Undefined args)) st
construct_by f args target st (constructor.Leaves x) = leaves x st
construct_by f args target st constructor.Fails = raises TypeError st

abbrev pub construct : Value → List Value → Value → State → Next
construct f args target st = construct_by f args target st (constructor_of Sixth st.heap f)

-- ---- `super(..)` (12.3.5.1): the parent is constructed with the present `new.target`

abbrev pub object_or_null : Option ObjId → Value
object_or_null None = value.Null
object_or_null (Some id) = value.Object id

abbrev pub parent_of : Heap → Value → Value
parent_of heap (value.Object id) = object_or_null (object_at heap id).proto
parent_of heap v = value.Undefined

abbrev pub construct_parent : List Value → State → Next
construct_parent args st =
    construct (parent_of st.heap st.context.own.callee) args st.context.own.target (pushed SuperMade st)

-- ---- what is called

-- a derived class without a constructor has `constructor(...args) { super(...args); }` (14.5.14, step 10)
abbrev pub passes_all : Listing
passes_all = record { collected = OfArguments ForSuper []; rest = [] }

abbrev pub begin_code : Code → List Value → State → Next
begin_code (ConstructorCode true None) args st =
    operates (SpreadIterator passes_all) number.get_iterator_number (value.Object (next_id st.heap)) []
    (with_heap (list_heap st.heap args) st)
begin_code code args st = bind_parameters code args st

-- a class isn't called (9.2.1, step 2)
abbrev pub enter : Closure → Call → State → Next
enter closure c st =
    if is_class closure.code && is_none c.target then raises TypeError st
    else begin_code closure.code c.args (within_call closure c st)

unfoldable pub call_class : Call → State → ObjectClass → Next
call_class c st (class.Function n) = with_some (slice_get st.closures n) st (λ closure. enter closure c st)
call_class c st (class.Builtin n) = controls (Turn (begun n c.receiver c.args)) st
call_class c st (class.Host n) = call_host n c.args st
call_class c st k = raises TypeError st

abbrev pub call_value : Call → State → Value → Next
call_value c st (value.Object id) = call_class c st (object_at st.heap id).class
call_value c st v = raises TypeError st
