-- Calls and constructions (ECMA-262, 6th edition, 9.2, 12.3.3 and 12.3.4; 5.1 edition, 10.4.3, 10.5, 11.2.2, 11.2.3 and 13.2).
use Rattle.std.specs.Prelude.{List, None, Option, Some, [], false, fold, map, slice_get, true, ℕ, ◌++◌, ◌∷◌}
use Rattle.runs.specs.Run.{Asks}
use Rattle.es_outside.specs.declared.events.Site.{Site}
use Rattle.es_outside.specs.declared.host.Reply.{Reply}
use Rattle.es_outside.specs.declared.host.Reply.TheVariants as reply
use Rattle.es_outside.specs.declared.primitive.Primitive.{Primitive}
use Rattle.es_value.specs.declared.value.Value.{Value}
use Rattle.es_value.specs.declared.value.Value.TheVariants as value
use Rattle.es_heap.specs.Heaps.{made, next_id, object_at}
use Rattle.es_heap.specs.declared.class.Class.{Class}
use Rattle.es_heap.specs.declared.class.Class.TheVariants as class
use Rattle.es_realm.specs.Names.{object_prototype}
use Rattle.es_realm.specs.declared.edition.Edition.{Edition}
use Rattle.es_realm.specs.declared.errors.ErrorKind.TheVariants.{TypeError}
use Rattle.es_operators.specs.Functions.{constructor_of}
use Rattle.es_operators.specs.Primitives.{of_prim, to_prims}
use Rattle.es_operators.specs.declared.functions.Constructor.{Constructor}
use Rattle.es_operators.specs.declared.functions.Constructor.TheVariants as constructor
use Rattle.es_calls.specs.Calls.{begun}
use Rattle.es_calls.specs.Making.{arguments_heap}
use Rattle.es_operations.specs.Numbers as number
use Rattle.core_ast.specs.declared.parts.Var.{Var}
use Rattle.core_ast.specs.declared.whole.Core.{Core}
use Rattle.core_ast.specs.declared.whole.CoreFunction.{CoreFunction}
use Rattle.core_ast.specs.declared.whole.Declared.{Declared}
use Rattle.core_meaning.specs.Expressions.{function_at, with_all, with_current}
use Rattle.core_meaning.specs.Names.{initialized}
use Rattle.core_meaning.specs.Rows.{Entered, Given, Next, Rows, calls, controls, leaves, operates, or_else, place_of, pushed, raises, unlawful, with_control, with_heap, with_option, with_record}
use Rattle.core_meaning.specs.State.{After, Binding, Call, Closure, Completion, CoreValue, Current, Environment, Gives, Hand, Has, Hosted, Made, Making, Method, Sorts, State, Strict, Throws, Turn, User}

-- ---- hosts: an object among the arguments is a TypeError, and no event

abbrev pub reply_of : {M : Type 0} → Reply → Completion M
reply_of (reply.Give p) = Gives (User (of_prim p))
reply_of (reply.Throw p) = Throws (of_prim p)

abbrev pub asks_host : {s : Sorts} {S : Type 0} → ℕ → Site → State s S → Option (List Primitive) → Next s S
asks_host n site st None = raises TypeError st
asks_host n site st (Some args) =
    Asks (record { host = n; args = args; site = site }) (λ reply. with_control (Hand (reply_of reply)) st)

abbrev pub call_host : {s : Sorts} {S : Type 0} → ℕ → List Value → Option Site → State s S → Next s S
call_host n args site st = asks_host n (or_else site (place_of st)) st (to_prims args)

-- ---- what a call begins with: a record with all names of the function

abbrev pub binding : {M : Type 0} → Var → CoreValue M → Binding M
binding x v = record { var = x; value = v; mutable = true }

abbrev pub undefined_binding : {M : Type 0} → Var → Binding M
undefined_binding x = binding x (User value.Undefined)

-- a parameter without an argument is undefined, and further arguments have no name
abbrev pub passed : {M : Type 0} → List Var → List Value → List (Binding M)
passed [] vs = []
passed (x ∷ xs) [] = undefined_binding x ∷ passed xs []
passed (x ∷ xs) (v ∷ vs) = binding x (User v) ∷ passed xs vs

abbrev pub name_bound : {M : Type 0} → Option Var → List (Binding M)
name_bound None = []
name_bound (Some x) = undefined_binding x ∷ []

-- the function's own name can't be written
abbrev pub own_name : {M : Type 0} → Option Var → Value → List (Binding M)
own_name None f = []
own_name (Some x) f = record { var = x; value = User f; mutable = false } ∷ []

-- of equal names the first counts
abbrev pub names_of_call : {M : Type 0} → CoreFunction → List (Binding M) → Call → List (Binding M)
names_of_call f besides c =
    passed f.parameters c.args ++ map (λ d. undefined_binding d.var) f.declared ++ name_bound f.arguments
    ++ map (λ x. undefined_binding x) f.locals ++ besides ++ own_name f.own c.function

-- then its functions are made, and its arguments object (5.1 edition, 10.5, steps 5 to 7)
abbrev pub with_given : {s : Sorts} {S : Type 0} → Var → Given s S → State s S
with_given x g = initialized x g.value g.state

abbrev pub with_function : {s : Sorts} {S : Type 0} → Rows s S → Declared → State s S → Option CoreFunction → State s S
with_function rows d st None = st
with_function rows d st (Some f) = with_given d.var (rows.closure d.function f st)

abbrev pub declare_one : {s : Sorts} {S : Type 0} → Rows s S → Core → State s S → Declared → State s S
declare_one rows core st d = with_function rows d st (function_at core d.function)

abbrev pub with_arguments : {s : Sorts} {S : Type 0} → Edition → Option Var → List Value → State s S → State s S
with_arguments edition None args st = st
with_arguments edition (Some x) args st =
    initialized x (User (value.Object (next_id st.heap))) (with_heap (arguments_heap edition st.heap args) st)

-- a new context, above the present one
abbrev pub with_context : {s : Sorts} {S : Type 0} → Environment → Call → Entered s S → State s S
with_context e c entered = record entered.state {
  callers = entered.state.context ∷ entered.state.callers;
  context = record {
    environment = e;
    receiver = c.receiver;
    site = or_else c.site (place_of entered.state);
    own = entered.own;
    frames = [];
  };
}

abbrev pub begin_call : {s : Sorts} {S : Type 0} → Rows s S → Core → CoreFunction → Environment → Call → Entered s S → State s S
begin_call rows core f e c entered =
    let inside = with_record (names_of_call f entered.names c) (with_context e c entered) in
    with_arguments rows.edition f.arguments c.args (fold (declare_one rows core) inside f.declared)

abbrev pub within_call : {s : Sorts} {S : Type 0} → Rows s S → Core → CoreFunction → Closure s.Own → Call → State s S → State s S
within_call rows core f closure c st = begin_call rows core f closure.environment c (rows.entered closure f c st)

-- [[Call]] of a function of the program (9.2.1; 5.1 edition, 13.2.1)
abbrev pub enter : {s : Sorts} {S : Type 0} → Rows s S → Core → Closure s.Own → Call → State s S → Next s S
enter rows core closure c st =
    with_option (function_at core closure.function) st (λ f. rows.body f (within_call rows core f closure c st))

unfoldable pub call_class : {s : Sorts} {S : Type 0} → Rows s S → Core → Call → State s S → Class → Next s S
call_class rows core c st (class.Function n) = with_option (slice_get st.closures n) st (λ closure. enter rows core closure c st)
call_class rows core c st (class.Builtin n) = controls (Turn c.site (begun n c.receiver c.args)) st
call_class rows core c st (class.Host n) = call_host n c.args c.site st
call_class rows core c st k = raises TypeError st

abbrev pub call_value : {s : Sorts} {S : Type 0} → Rows s S → Core → Call → State s S → Value → Next s S
call_value rows core c st (value.Object id) = call_class rows core c st (object_at st.heap id).class
call_value rows core c st v = raises TypeError st

-- ---- calls in expressions (12.3.4): of a method the receiver is the base

abbrev pub due : Value → Value → List Value → Option Site → Call
due f receiver args site = record { function = f; receiver = receiver; args = args; target = None; site = site }

abbrev pub call_current : {s : Sorts} {S : Type 0} → Strict s.Mark → State s S → List Value → Current s.Mark → Next s S
call_current p st args (Has (User f)) = calls (After p.links) (due f value.Undefined args p.site) st
call_current p st args (Method f receiver) = calls (After p.links) (due f receiver args p.site) st
call_current p st args (Hosted n) = call_host n args p.site (pushed (After p.links) st)
call_current p st args c = unlawful st

abbrev pub call : {s : Sorts} {S : Type 0} → Strict s.Mark → State s S → Next s S
call p st = with_all p st (λ args. call_current p st args p.current)

-- the first part is the receiver
abbrev pub call_with : {s : Sorts} {S : Type 0} → Strict s.Mark → State s S → List Value → Next s S
call_with p st [] = unlawful st
call_with p st (receiver ∷ args) =
    with_current p.current st (λ f. calls (After p.links) (due f receiver args p.site) st)

-- ---- [[Construct]] of a function that makes its object (9.2.2; 5.1 edition, 13.2.2): the prototype is read, the object is
-- made, and the function is called; what it gives goes to the frames below

abbrev pub constructs : {s : Sorts} {S : Type 0} → Value → List Value → Value → State s S → Next s S
constructs f args target st = operates (Making f args target) number.prototype_of_number target (value.Object object_prototype ∷ []) st

abbrev pub making : {s : Sorts} {S : Type 0} → Value → List Value → Value → State s S → Value → Next s S
making f args target st (value.Object proto) =
    let o = value.Object (next_id st.heap) in
    calls (Made o) (record { function = f; receiver = o; args = args; target = Some target; site = None })
    (with_heap (made st.heap (Some proto) class.Object) st)
making f args target st v = unlawful st

-- an object that is returned is the result
abbrev pub constructed : Value → Value → Value
constructed o (value.Object id) = value.Object id
constructed o v = o

-- `new` (12.3.3.1.1; 5.1 edition, 11.2.2): an error constructor is called as a function
unfoldable pub construct_by : {s : Sorts} {S : Type 0} → Value → List Value → Option Site → State s S → Constructor → Next s S
construct_by f args site st (constructor.Runs id) = constructs f args f st
construct_by f args site st (constructor.MakesError n) = controls (Turn site (begun n value.Undefined args)) st
construct_by f args site st (constructor.Leaves x) = leaves x st
construct_by f args site st constructor.Fails = raises TypeError st

abbrev pub construct : {s : Sorts} {S : Type 0} → Rows s S → Strict s.Mark → State s S → Next s S
construct rows p st = with_current p.current st (λ f. with_all p st (λ args.
    construct_by f args p.site (pushed (After p.links) st) (constructor_of rows.edition st.heap f)))
