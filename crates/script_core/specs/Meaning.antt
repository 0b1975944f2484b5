-- The meaning of scripts: the machine of the small tree with nothing besides, in the realm of the 5.1 edition.
use Rattle.std.specs.List.{flat_map}
use Rattle.std.specs.Prelude.{Bool, List, None, Option, Some, [], false, if◌then◌else◌, length, map, slice_get, suc, true, ℕ, ◌++◌, ◌∷◌}
use Rattle.std.specs.Str.{bytes_eq}
use Rattle.runs.specs.Run.{run}
use Rattle.shared_meaning.specs.Ending.{ProgramBehaviour}
use Rattle.es_value.specs.declared.value.ObjId.{ObjId}
use Rattle.es_value.specs.declared.value.Value.{Value}
use Rattle.es_value.specs.declared.value.Value.TheVariants as value
use Rattle.es5_ast.specs.declared.tree.Script.{Script}
use Rattle.es_heap.specs.Heaps.{next_id}
use Rattle.es_heap.specs.declared.key.Key.TheVariants.{Text}
use Rattle.script_core.specs.declared.nothing.Nothing.{Nothing}
use Rattle.script_lowering.specs.declared.sites.Sites.{Sites}
use Rattle.script_lowering.specs.Scripts.{core_of}
use Rattle.es_realm.specs.Globals.{global_of}
use Rattle.es_realm.specs.Realms.{fresh5, host_functions}
use Rattle.es_realm.specs.declared.edition.Edition.TheVariants.{Fifth}
use Rattle.es_realm.specs.declared.globals.Global.{Global}
use Rattle.es_realm.specs.declared.globals.Global.TheVariants as global
use Rattle.es_operations.specs.Functions as function
use Rattle.es_operations.specs.Making.{plain_function}
use Rattle.core_ast.specs.declared.parts.FunctionId.{FunctionId}
use Rattle.core_ast.specs.declared.parts.Var.{Var}
use Rattle.core_ast.specs.declared.tree.CoreStat.{CoreStat}
use Rattle.core_ast.specs.declared.whole.Core.{Core}
use Rattle.core_ast.specs.declared.whole.CoreFunction.{CoreFunction}
use Rattle.core_ast.specs.declared.whole.CorePart.{CorePart}
use Rattle.core_meaning.specs.Rows.{Entered, Given, Next, Rows, controls, unlawful}
use Rattle.core_meaning.specs.State.{Run}
use Rattle.core_meaning.specs.State.{Binding, Call, Closure, Configuration, Context, CoreValue, Current, Done, EnvironmentRecord, Hand, Reference, Sorts, State, User}
use Rattle.core_meaning.specs.Step.{step}

abbrev pub script_sorts : Sorts
script_sorts = record { Mark = Nothing; Own = Unit {0}; Work = Nothing }

abbrev pub ScriptState : Type 0
ScriptState = State script_sorts (Unit {0})

abbrev pub ScriptNext : Type 0
ScriptNext = Next script_sorts (Unit {0})

-- ---- the rows

-- 10.4.3: the receiver, as strict code has it
abbrev pub this_value : ScriptState → CoreValue Nothing
this_value st = User st.context.receiver

abbrev pub property_named : Value → List ℕ → Current Nothing
property_named v units = Reference v (Text units)

-- 13.2
abbrev pub script_closure : FunctionId → CoreFunction → ScriptState → Given script_sorts (Unit {0})
script_closure f function st = record {
  value = User (value.Object (next_id st.heap));
  state = record st {
    heap = plain_function Fifth st.heap (length st.closures) function.length;
    closures = st.closures ++ record { function = f; environment = st.context.environment; own = tt } ∷ [];
  };
}

abbrev pub enters : Closure (Unit {0}) → CoreFunction → Call → ScriptState → Entered script_sorts (Unit {0})
enters closure f call st = record { own = tt; names = []; state = st }

abbrev pub runs_body : CoreFunction → ScriptState → ScriptNext
runs_body f st = controls (Run f.body) st

-- exit 7 at a global that is left out
abbrev pub exit_of : Global → Option ℕ
exit_of global.LeftOut = Some 7
exit_of g = None

abbrev pub unbound_by : Option (Option (List ℕ)) → Option ℕ
unbound_by (Some (Some name)) = exit_of (global_of name)
unbound_by other = None

abbrev pub script_rows : Core → Rows script_sorts (Unit {0})
script_rows core = record {
  edition = Fifth;
  this = this_value;
  named = property_named;
  closure = script_closure;
  entered = enters;
  body = runs_body;
  scoped = λ names. [];
  unbound = λ x. unbound_by (slice_get core.fresh.hints x.0);
  head = λ h links st. unlawful st;
  act = λ p st. unlawful st;
  stat = λ s st. unlawful st;
  work = λ w completion st. unlawful st;
  resume = λ kind receiver v st. unlawful st;
  read_out = λ presence id k st. unlawful st;
}

-- ---- the start (10.2.3, 15.1): the global record has the names of the library and of the hosts, and the script's own are before it

abbrev pub user_binding : Var → Value → Bool → Binding Nothing
user_binding x v mutable = record { var = x; value = User v; mutable = mutable }

abbrev pub global_binding : Var → Global → List (Binding Nothing)
global_binding x global.Undefined = user_binding x value.Undefined false ∷ []
global_binding x (global.Object id) = user_binding x (value.Object id) true ∷ []
global_binding x g = []

abbrev pub host_binding : Var → List ℕ → List (List ℕ) → List ObjId → List (Binding Nothing)
host_binding x name [] ids = []
host_binding x name (h ∷ hs) [] = []
host_binding x name (h ∷ hs) (id ∷ ids) =
    if bytes_eq name h then user_binding x (value.Object id) true ∷ [] else host_binding x name hs ids

abbrev pub bound_at_start : List (List ℕ) → Var → Option (List ℕ) → List (Binding Nothing)
bound_at_start hosts x None = []
bound_at_start hosts x (Some name) =
    global_binding x (global_of name) ++ host_binding x name hosts (host_functions (length hosts))

abbrev pub global_record : List (List ℕ) → ℕ → List (Option (List ℕ)) → EnvironmentRecord Nothing
global_record hosts n [] = []
global_record hosts n (name ∷ names) =
    bound_at_start hosts (record { 0 = n }) name ++ global_record hosts (suc n) names

abbrev pub own_record : CorePart → EnvironmentRecord Nothing
own_record p = map (λ n. user_binding n.var value.Undefined n.mutable) p.names

abbrev pub instantiated : CorePart → List CoreStat
instantiated p = p.instantiate ++ p.body

abbrev pub start_context : Context Nothing (Unit {0}) Nothing
start_context = record {
  environment = 1 ∷ 0 ∷ [];
  receiver = value.Undefined;
  site = record { «module» = 0; at = 0 };
  own = tt;
  frames = [];
}

abbrev pub script_state : List (List ℕ) → Core → ScriptState
script_state hosts core = record {
  heap = fresh5 (length hosts);
  records = global_record hosts 0 core.fresh.hints ∷ flat_map own_record core.parts ∷ [];
  closures = [];
  context = start_context;
  callers = [];
  ahead = map instantiated core.parts;
  store = tt;
}

abbrev pub script_start : List (List ℕ) → Core → Configuration script_sorts (Unit {0})
script_start hosts core = record { state = script_state hosts core; control = Hand Done }

abbrev pub script_step : Core → Configuration script_sorts (Unit {0}) → ScriptNext
script_step core now = step (script_rows core) core now

-- what a script does, of hosts with these names, under their answers; the names that it declares are none of the library's and the
-- hosts'
abbrev pub run5 : Sites → List (List ℕ) → Script → ProgramBehaviour
run5 sites hosts script = run (script_step (core_of sites script)) (script_start hosts (core_of sites script))
