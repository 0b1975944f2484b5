-- Functions of modules: closures of all kinds, what a call keeps, lists of arguments (ECMA-262, 6th edition, 9.2, 12.3 and 14).
use Rattle.std.specs.List.{flat_map}
use Rattle.std.specs.Prelude.{List, None, Option, Some, [], drop, length, map, slice_index_or, true, unsigned_abs, ℕ, ◌++◌, ◌∷◌}
use Rattle.es_value.specs.declared.value.Value.{Value}
use Rattle.es_value.specs.declared.value.Value.TheVariants as value
use Rattle.es_heap.specs.Heaps.{Heap, next_id}
use Rattle.es_realm.specs.declared.edition.Edition.TheVariants.{Sixth}
use Rattle.es_calls.specs.Calls.{number_in}
use Rattle.es_calls.specs.Making.{arguments_heap, list_heap}
use Rattle.es_operations.specs.Making.{generator_function, method_function, plain_function}
use Rattle.core_ast.specs.declared.parts.FunctionId.{FunctionId}
use Rattle.core_ast.specs.declared.parts.Var.{Var}
use Rattle.core_ast.specs.declared.tree.CoreLink.{CoreLink}
use Rattle.core_ast.specs.declared.whole.CoreFunction.{CoreFunction}
use Rattle.core_ast.specs.declared.whole.CoreKind.{CoreKind}
use Rattle.core_ast.specs.declared.whole.CoreKind.TheVariants as kind
use Rattle.core_meaning.specs.Calls.{binding, call_current, due}
use Rattle.core_meaning.specs.Expressions.{with_current}
use Rattle.core_meaning.specs.Marks.{Cell, KeptCell, Arguments, CoreList, CoreNext, CoreState, CoreStore, CoreStrict, OfArguments, OfArray, Own, Unmade, sorts, value_or_empty, with_store, Mark}
use Rattle.core_meaning.specs.Names.{Resolved, resolve}
use Rattle.core_meaning.specs.Properties.{add_element, add_hole}
use Rattle.core_meaning.specs.Rows.{Entered, Given, calls, goes, has, unlawful, with_heap}
use Rattle.core_meaning.specs.State.{After, Binding, Call, Closure, CoreValue, Current, Extra, Has, User}

-- ---- closures

abbrev pub no_own : Own
no_own = record {
  this_record = 0;
  callee = value.Undefined;
  target = value.Undefined;
  home = value.Undefined;
  passed = [];
  cells = [];
}

-- an arrow keeps what the context has that makes it (14.2.16)
abbrev pub kept_by : CoreKind → Own → Own
kept_by kind.Arrow own = own
kept_by k own = no_own

-- the names that are kept apart hold the cells of now
abbrev pub cell_in : Var → CoreValue Mark → List KeptCell
cell_in x (Extra (Cell n)) = record { var = x; cell = n } ∷ []
cell_in x v = []

abbrev pub cell_found : Var → Option (Resolved Mark) → List KeptCell
cell_found x None = []
cell_found x (Some r) = cell_in x r.binding.value

abbrev pub kept_cells : CoreFunction → CoreState → List KeptCell
kept_cells function st = flat_map (λ x. cell_found x (resolve st x)) function.cells

abbrev pub closure_of : FunctionId → CoreFunction → CoreState → Closure Own
closure_of f function st = record {
  function = f;
  environment = st.context.environment;
  own = record (kept_by function.kind st.context.own) { cells = kept_cells function st };
}

abbrev pub with_closure : Closure Own → CoreState → CoreState
with_closure closure st = record st { closures = st.closures ++ closure ∷ [] }

-- the object of a closure with this number (9.2.3 to 9.2.8, 14.4.11)
abbrev pub function_heap : CoreKind → Heap → ℕ → ℕ → Heap
function_heap kind.Plain heap n count = plain_function Sixth heap n count
function_heap kind.Generator heap n count = generator_function Sixth heap n count
function_heap k heap n count = method_function Sixth heap n count

abbrev pub made_closure : FunctionId → CoreFunction → CoreState → Given sorts CoreStore
made_closure f function st = record {
  value = User (value.Object (next_id st.heap));
  state = with_closure (closure_of f function st)
      (with_heap (function_heap function.kind st.heap (length st.closures) function.length) st);
}

-- the function of a class is made with the class
abbrev pub closure_by : FunctionId → CoreFunction → CoreState → CoreKind → Given sorts CoreStore
closure_by f function st (kind.Class derived) = record { value = Extra (Unmade f); state = st }
closure_by f function st k = made_closure f function st

abbrev pub closure : FunctionId → CoreFunction → CoreState → Given sorts CoreStore
closure f function st = closure_by f function st function.kind

-- ---- calls: what the context keeps (9.2.1.1, 9.2.1.2). An arrow has the `this` of its closure; that of a derived constructor
-- isn't there yet

abbrev pub this_begun : CoreKind → Value → Option Value
this_begun (kind.Class true) v = None
this_begun k v = Some v

abbrev pub target_of : Option Value → Value
target_of None = value.Undefined
target_of (Some f) = f

abbrev pub with_this : Option Value → CoreState → CoreState
with_this v st = with_store (record st.store { this_values = st.store.this_values ++ v ∷ [] }) st

abbrev pub own_of : Closure Own → Call → CoreState → Own
own_of c now st = record {
  this_record = length st.store.this_values;
  callee = now.function;
  target = target_of now.target;
  home = c.own.home;
  passed = now.args;
  cells = [];
}

abbrev pub cell_names : Own → List (Binding Mark)
cell_names own = map (λ k. binding k.var (Extra (Cell k.cell))) own.cells

abbrev pub entered_by : Closure Own → Call → CoreState → CoreKind → Entered sorts CoreStore
entered_by c now st kind.Arrow =
    record { own = record c.own { passed = now.args }; names = cell_names c.own; state = st }
entered_by c now st k =
    record { own = own_of c now st; names = cell_names c.own; state = with_this (this_begun k now.receiver) st }

abbrev pub entered : Closure Own → CoreFunction → Call → CoreState → Entered sorts CoreStore
entered c f now st = entered_by c now st f.kind

-- the `this` of the context (8.1.1.3.4)
abbrev pub this_at : List (Option Value) → ℕ → CoreValue Mark
this_at values n = value_or_empty (slice_index_or values n None)

abbrev pub this : CoreState → CoreValue Mark
this st = this_at st.store.this_values st.context.own.this_record

-- ---- lists of arguments (12.3.6), and arrays to which they are added

abbrev pub with_arguments_in : List (CoreValue Mark) → CoreState → (List Value → CoreNext) → CoreNext
with_arguments_in (Extra (Arguments vs) ∷ []) st f = f vs
with_arguments_in vs st f = unlawful st

abbrev pub list_in : CoreValue Mark → Option CoreList
list_in (User (value.Object id)) = Some (OfArray id)
list_in (Extra (Arguments vs)) = Some (OfArguments vs)
list_in v = None

abbrev pub list_current : Current Mark → Option CoreList
list_current (Has v) = list_in v
list_current c = None

-- the list with an element more goes on
abbrev pub grown : CoreList → Value → List CoreLink → CoreState → CoreNext
grown (OfArray id) v links st = has (value.Object id) links (with_heap (add_element st.heap id v) st)
grown (OfArguments vs) v links st = goes (Has (Extra (Arguments (vs ++ v ∷ [])))) links st

abbrev pub with_hole : CoreList → List CoreLink → CoreState → CoreNext
with_hole (OfArray id) links st = has (value.Object id) links (with_heap (add_hole st.heap id) st)
with_hole (OfArguments vs) links st = unlawful st

abbrev pub whole : CoreList → List CoreLink → CoreState → CoreNext
whole (OfArray id) links st = has (value.Object id) links st
whole (OfArguments vs) links st = goes (Has (Extra (Arguments vs))) links st

-- ---- calls with a list (12.3.4.1)

abbrev pub call_list : CoreStrict → CoreState → CoreNext
call_list p st = with_arguments_in p.values st (λ args. call_current p st args p.current)

abbrev pub call_list_with : CoreStrict → CoreState → List (CoreValue Mark) → CoreNext
call_list_with p st (User receiver ∷ Extra (Arguments args) ∷ []) =
    with_current p.current st (λ f. calls (After p.links) (due f receiver args p.site) st)
call_list_with p st vs = unlawful st

-- ---- what a function asks its context for

-- CreateRestArray (14.1.18): the arguments from an index on
abbrev pub rest_list : CoreStrict → CoreState → CoreNext
rest_list p st = with_current p.current st (λ n.
    has (value.Object (next_id st.heap)) p.links (with_heap (list_heap st.heap (drop (unsigned_abs (number_in n)) st.context.own.passed)) st))

abbrev pub arguments_put : List CoreLink → CoreState → CoreNext
arguments_put links st =
    has (value.Object (next_id st.heap)) links (with_heap (arguments_heap Sixth st.heap st.context.own.passed) st)
