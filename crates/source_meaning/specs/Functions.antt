-- Functions: how they are made (ECMA-262, 6th edition, 9.2.3 to 9.2.8, 14.1.19, 14.2.16, 14.4.11), and what a call of one begins with
-- (9.2.1, 9.2.12).
use Rattle.std.specs.List.{filter}
use Rattle.std.specs.Prelude.{Bool, List, None, Option, Some, [], codes, false, fold, if◌then◌else◌, length, map, not, true, ℕ, ◌&&◌, ◌++◌, ◌∷◌}
use Rattle.es_value.specs.declared.value.Value.{Value}
use Rattle.es_value.specs.declared.value.Value.TheVariants as value
use Rattle.es_heap.specs.Heaps.{Heap, next_id}
use Rattle.es_realm.specs.declared.edition.Edition.TheVariants.{Sixth}
use Rattle.es_calls.specs.Making.{arguments_heap, list_heap}
use Rattle.es_operations.specs.Making.{generator_function, method_function, plain_function}
use Rattle.es6_ast.specs.Spans.{Open}
use Rattle.es6_ast.specs.declared.tree.Argument.TheOpen as layer
use Rattle.es6_ast.specs.declared.tree.Argument.TheOpen.{ArrowBody-F, Parameter-F}
use Rattle.es6_ast.specs.declared.tree.Arrow.{out-Arrow}
use Rattle.es6_ast.specs.declared.tree.ArrowBody.{out-ArrowBody}
use Rattle.es6_ast.specs.declared.tree.Block.{out-Block}
use Rattle.es6_ast.specs.declared.tree.Expression.{Expression}
use Rattle.es6_ast.specs.declared.tree.Function.{Function, out-Function}
use Rattle.es6_ast.specs.declared.tree.Identifier.{Identifier}
use Rattle.es6_ast.specs.declared.tree.Parameter.{Parameter}
use Rattle.es6_ast.specs.declared.tree.Part.{out-Part}
use Rattle.es6_ast.specs.declared.tree.Pattern.{Pattern}
use Rattle.es6_ast.specs.declared.tree.Statement.{Statement}
use Rattle.source_meaning.specs.Environments.{bound, binding_in, held_in, innermost, initialized, unbound, with_bindings}
use Rattle.source_meaning.specs.State.{ArrowCode, Binding, Closure, Code, ConstructorCode, Destructure, Environment, Held, Holds, Initializes, MethodCode, Own, ParameterDefault, ParametersRest, PlainCode, Returning, Run, State, Uninitialized}
use Rattle.source_meaning.specs.Steps.{Next, begins, controls, pushed, with_heap, within}
use Rattle.source_meaning.specs.Trees.{are_simple, expected_count, function_names, functions_in, has_name, have_expression, last_ones, lexicals_in, mentions_arguments, parameters_names, variables_in}

-- ---- what a code is made of

abbrev pub function_parameters : Option Function → List Parameter
function_parameters None = []
function_parameters (Some f) = (out-Function f).parameters

abbrev pub parameters_of : Code → List Parameter
parameters_of (PlainCode f) = (out-Function f).parameters
parameters_of (MethodCode f) = (out-Function f).parameters
parameters_of (ArrowCode a) = (out-Arrow a).parameters
parameters_of (ConstructorCode derived f) = function_parameters f

abbrev pub block_statements : Open ArrowBody-F → List Statement
block_statements (layer.ValueBody x) = []
block_statements (layer.BlockBody b) = (out-Block b).statements

abbrev pub function_statements : Option Function → List Statement
function_statements None = []
function_statements (Some f) = (out-Function f).body

abbrev pub statements_of : Code → List Statement
statements_of (PlainCode f) = (out-Function f).body
statements_of (MethodCode f) = (out-Function f).body
statements_of (ArrowCode a) = block_statements (out-ArrowBody (out-Arrow a).body)
statements_of (ConstructorCode derived f) = function_statements f

abbrev pub is_generator : Code → Bool
is_generator (PlainCode f) = (out-Function f).is_generator
is_generator (MethodCode f) = (out-Function f).is_generator
is_generator code = false

abbrev pub is_arrow : Code → Bool
is_arrow (ArrowCode a) = true
is_arrow code = false

abbrev pub is_class : Code → Bool
is_class (ConstructorCode derived f) = true
is_class code = false

abbrev pub is_derived : Code → Bool
is_derived (ConstructorCode derived f) = derived
is_derived code = false

-- ---- closures

abbrev pub with_closure : Closure → State → State
with_closure closure st = record st { closures = st.closures ++ closure ∷ [] }

abbrev pub no_own : Value → Own
no_own home = record { this_record = 0; callee = value.Undefined; home = home; target = value.Undefined }

-- an arrow keeps what the context has that makes it (14.2.16)
abbrev pub own_by : Code → Value → State → Own
own_by code home st = if is_arrow code then st.context.own else no_own home

-- in this environment, and with this home object (9.2.8)
abbrev pub closure_in : Environment → Code → Value → State → Closure
closure_in e code home st = record { code = code; environment = e; own = own_by code home st; home = st.context.home }

-- the object (9.2.3 to 9.2.5): an arrow, a method or an accessor can't be constructed, and a generator has a prototype of its own
abbrev pub is_plain : Code → Bool
is_plain (PlainCode f) = true
is_plain code = false

abbrev pub function_heap : Code → Heap → ℕ → Heap
function_heap code heap n =
    let count = expected_count (parameters_of code) in
    if is_generator code then generator_function Sixth heap n count
    else if is_plain code then plain_function Sixth heap n count
    else method_function Sixth heap n count

pub record Given : Type 0 where
  pub value : Value
  pub state : State

abbrev pub closed_in : Environment → Code → Value → State → Given
closed_in e code home st = record {
  value = value.Object (next_id st.heap);
  state = with_closure (closure_in e code home st) (with_heap (function_heap code st.heap (length st.closures)) st);
}

abbrev pub closed : Code → Value → State → Given
closed code home st = closed_in st.context.environment code home st

-- ---- functions that are declared (9.2.12, step 36; 13.2.14, step 4; 15.2.1.16.4, step 16)

abbrev pub named_given : List (List ℕ) → Given → State
named_given [] g = g.state
named_given (x ∷ xs) g = initialized x g.value g.state

abbrev pub with_function : State → Function → State
with_function st f = named_given (function_names (f ∷ [])) (closed (PlainCode f) value.Undefined st)

abbrev pub with_functions : List Function → State → State
with_functions fs st = fold with_function st fs

-- ---- a function expression with a name (14.1.20): a record has the name, which can't be written

abbrev pub named_in_own : List ℕ → Environment → Function → State → Given
named_in_own x outside f st =
    let inside = with_bindings (record { name = x; mutable = false; held = Uninitialized } ∷ []) st in
    let g = closed (PlainCode f) value.Undefined inside in
    record { value = g.value; state = within outside (initialized x g.value g.state) }

abbrev pub function_by : Option Identifier → Function → State → Given
function_by None f st = closed (PlainCode f) value.Undefined st
function_by (Some x) f st = named_in_own x.name st.context.environment f st

abbrev pub function_expression : Function → State → Given
function_expression f st = function_by (out-Function f).name f st

-- ---- the names of a call (9.2.12)

abbrev pub first_of : List Value → Value
first_of [] = value.Undefined
first_of (v ∷ vs) = v

abbrev pub behind_first : List Value → List Value
behind_first [] = []
behind_first (v ∷ vs) = vs

-- parameters that are names alone have their values at once (steps 24 to 26)
abbrev pub passed : List (List ℕ) → List Value → List Binding
passed [] vs = []
passed (x ∷ xs) vs = bound true x (first_of vs) ∷ passed xs (behind_first vs)

abbrev pub parameter_bindings : List Parameter → List Value → List Binding
parameter_bindings ps args =
    if are_simple ps then passed (parameters_names ps) args
    else map (λ x. unbound (record { name = x; mutable = true })) (parameters_names ps)

abbrev pub undefined_binding : List ℕ → Binding
undefined_binding x = bound true x value.Undefined

-- VarNames (14.1.17): functions of the body are among them
abbrev pub body_variables : List Statement → List (List ℕ)
body_variables ss = variables_in ss ++ function_names (functions_in ss)

-- in strict code the names of the body stand in one record (steps 27 to 34), those that are parameters aside
abbrev pub body_bindings : List (List ℕ) → List Statement → List Binding
body_bindings parameters ss =
    map undefined_binding (filter (λ x. not (has_name parameters x)) (body_variables ss)) ++ map unbound (lexicals_in ss)

-- every function but an arrow has `arguments` (steps 15 to 22); it is made where it is mentioned, since nothing else can tell
abbrev pub has_arguments : Code → Bool
has_arguments code = not (is_arrow code) && mentions_arguments (parameters_of code) (statements_of code)

abbrev pub arguments_binding : Code → Heap → List Binding
arguments_binding code heap =
    if has_arguments code then bound false (codes "arguments") (value.Object (next_id heap)) ∷ [] else []

abbrev pub with_arguments : Code → List Value → State → State
with_arguments code args st =
    if has_arguments code then with_heap (arguments_heap Sixth st.heap args) st else st

-- where an expression stands among the parameters, the names of the body have a record of their own (step 28)
abbrev pub first_bindings : Code → List Value → Heap → List Binding
first_bindings code args heap =
    let ps = parameters_of code in
    let ss = statements_of code in
    parameter_bindings ps args ++ arguments_binding code heap
    ++ (if have_expression ps then [] else body_bindings (parameters_names ps) ss)

-- ---- behind the parameters: the functions of the body are made, and then it runs

-- a name of the body that is a parameter's too begins with its value, unless it is a function (28.f)
abbrev pub value_held : Held → Value
value_held (Holds v) = v
value_held h = value.Undefined

abbrev pub copied_binding : State → List (List ℕ) → List ℕ → Binding
copied_binding st functions x =
    if has_name functions x then undefined_binding x
    else bound true x (value_held (held_in (binding_in (innermost st st.context.environment).bindings x)))

abbrev pub with_body_record : Code → State → State
with_body_record code st =
    let ss = statements_of code in
    if have_expression (parameters_of code)
    then with_bindings (map (copied_binding st (function_names (functions_in ss))) (body_variables ss) ++ map unbound (lexicals_in ss)) st
    else st

abbrev pub body_instantiated : Code → State → State
body_instantiated code st = with_functions (last_ones (functions_in (statements_of code))) (with_body_record code st)

-- an arrow's body may be an expression (14.2.15)
abbrev pub run_arrow : Open ArrowBody-F → State → Next
run_arrow (layer.ValueBody x) st = begins Returning x st
run_arrow (layer.BlockBody b) st = controls (Run (out-Block b).statements) st

abbrev pub run_code : Code → State → Next
run_code (ArrowCode a) st = run_arrow (out-ArrowBody (out-Arrow a).body) st
run_code code st = controls (Run (statements_of code)) st

-- ---- parameters one by one (9.2.12, step 25; 14.1.18)

-- 13.3.3.6: undefined stands for the default
abbrev pub is_undefined : Value → Bool
is_undefined value.Undefined = true
is_undefined v = false

abbrev pub parameter_matched : Pattern → Value → List Parameter → List Value → State → Next
parameter_matched p v ps vs st = controls (Destructure Initializes p v) (pushed (ParametersRest ps vs) st)

abbrev pub default_taken : Pattern → Option Expression → Value → List Parameter → List Value → State → Next
default_taken p None v ps vs st = parameter_matched p v ps vs st
default_taken p (Some x) v ps vs st =
    if is_undefined v then begins (ParameterDefault p ps vs) x st else parameter_matched p v ps vs st

abbrev pub one_parameter : List Parameter → List Value → State → Open Parameter-F → Next
one_parameter ps vs st (layer.SingleParameter p) =
    default_taken (out-Part p).pattern (out-Part p).default (first_of vs) ps (behind_first vs) st
one_parameter ps vs st (layer.RestParameter span p) =
    parameter_matched p (value.Object (next_id st.heap)) ps [] (with_heap (list_heap st.heap vs) st)
