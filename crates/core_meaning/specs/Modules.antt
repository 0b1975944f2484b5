-- The meaning of cores of modules: the rows of what scripts don't have, and where a run starts (ECMA-262, 6th edition, 9.4.6,
-- 12.2.9.3 and 15.2.1.16).
use Rattle.std.specs.Cmp.Lexicographic.{pointwise}
use Rattle.std.specs.Prelude.{Bool, List, None, Option, Some, [], false, if◌then◌else◌, is_some, length, map, nat_eq, slice_get, slice_index_or, suc, true, ℕ, ◌++◌, ◌∷◌}
use Rattle.runs.specs.Run.{run}
use Rattle.shared_meaning.specs.Ending.{ProgramBehaviour}
use Rattle.es_outside.specs.declared.events.Site.{Site}
use Rattle.es_value.specs.Equality.{same_value}
use Rattle.es_value.specs.declared.value.ObjId.{ObjId}
use Rattle.es_value.specs.declared.value.Value.{Value}
use Rattle.es_value.specs.declared.value.Value.TheVariants as value
use Rattle.es_heap.specs.Heaps.{next_id, object_at}
use Rattle.es_heap.specs.declared.class.Class.{Class}
use Rattle.es_heap.specs.declared.class.Class.TheVariants as class
use Rattle.es_heap.specs.declared.key.Key.{Key}
use Rattle.es_heap.specs.declared.key.Key.TheVariants.{Iterator, Text}
use Rattle.es_realm.specs.Realms.{fresh6}
use Rattle.es_realm.specs.declared.edition.Edition.TheVariants.{Sixth}
use Rattle.es_realm.specs.declared.errors.ErrorKind.TheVariants.{TypeError}
use Rattle.es_calls.specs.declared.call.Resumption.TheVariants as resumption
use Rattle.es_operations.specs.Making.{made_namespace, made_template}
use Rattle.es_operations.specs.Numbers as number
use Rattle.core_ast.specs.declared.parts.CoreHead.{CoreHead}
use Rattle.core_ast.specs.declared.parts.CoreHead.TheVariants as head
use Rattle.core_ast.specs.declared.parts.CoreOp.{CoreOp}
use Rattle.core_ast.specs.declared.parts.CoreOp.TheVariants as op
use Rattle.core_ast.specs.declared.parts.Primitive.{Primitive}
use Rattle.core_ast.specs.declared.parts.Primitive.TheVariants as primitive
use Rattle.core_ast.specs.declared.tree.CoreCase.{CoreCase}
use Rattle.core_ast.specs.declared.tree.CoreExpr.{CoreExpr}
use Rattle.core_ast.specs.declared.tree.CoreLink.{CoreLink}
use Rattle.core_ast.specs.declared.tree.CoreLink.TheOpen as layer
use Rattle.core_ast.specs.declared.tree.CoreLink.TheOpen.{CoreStat-F}
use Rattle.core_ast.specs.declared.tree.CoreStat.{CoreStat, out-CoreStat}
use Rattle.core_ast.specs.declared.whole.Core.{Core}
use Rattle.core_ast.specs.declared.whole.CorePart.{CorePart}
use Rattle.core_meaning.specs.Calls.{due}
use Rattle.core_meaning.specs.Cells.{cell_make, check_ready, content, copy, enter_scope, set_content, uninitialized}
use Rattle.core_meaning.specs.Classes.{accessor_put, class_guard, class_make, construct_list, derived_given, has_value, heritage_given, method_put, named, new_target, super_construct, super_get, this_bind}
use Rattle.core_meaning.specs.Expressions.{with_part, with_two}
use Rattle.core_meaning.specs.Functions.{arguments_put, call_list, call_list_with, closure, entered, grown, list_current, no_own, rest_list, this, with_arguments_in}
use Rattle.core_meaning.specs.Generators.{arrives, delegate, delegate_done, delegate_step, delegate_turn, delegate_turned, delegate_value, generator_made, reads_prototype, resume, resumed, run_body, starts, step_made, step_turn, stepped_out, with_resumed, yield, yield_given, yield_resumed, yield_stat}
use Rattle.core_meaning.specs.Iteration.{iter_close, iter_start, operate_on, spread_list, spread_step, spread_stepped, spread_value}
use Rattle.core_meaning.specs.Marks.{Arguments, CoreNext, CoreState, CoreStore, CoreStrict, CoreWork, DelegateDone, DelegateStart, DelegateTurn, DelegateValue, Delegates, Derived, Exported, Heritage, Instantiates, Prototype, PrototypeFor, Resumes, SpreadStart, SpreadStep, SpreadValue, Starts, Stepping, Steps, Template, YieldValue, YieldsAt, YieldsIn, empty, sorts, with_store, Mark}
use Rattle.core_meaning.specs.Rows.{Rows, controls, goes, hands, has, operates, raises, unlawful, with_heap, with_option, with_user}
use Rattle.core_meaning.specs.State.{After, Calls, Completion, Configuration, CoreValue, Done, EnvironmentRecord, Extra, Gives, Hand, Has, User}
use Rattle.core_meaning.specs.Step.{step}

-- ---- namespace objects (9.4.6): names, each with the function that reads its binding

abbrev pub exported : List Value → List Exported
exported (value.Text name ∷ getter ∷ vs) = record { name = name; getter = getter } ∷ exported vs
exported vs = []

abbrev pub namespace_make : CoreStrict → CoreState → CoreNext
namespace_make p st = with_arguments_in (has_value p.current) st (λ vs.
    has (value.Object (next_id st.heap)) p.links
    (with_store (record st.store { namespaces = st.store.namespaces ++ exported vs ∷ [] })
    (with_heap (made_namespace st.heap (length st.store.namespaces)) st)))

abbrev pub is_export : List ℕ → Exported → Bool
is_export units e = pointwise nat_eq units e.name

abbrev pub export_in : List Exported → Key → Option Exported
export_in es Iterator = None
export_in [] (Text units) = None
export_in (e ∷ es) (Text units) = if is_export units e then Some e else export_in es (Text units)

abbrev pub exports_at : CoreState → Class → List Exported
exports_at st (class.Namespace n) = slice_index_or st.store.namespaces n []
exports_at st k = []

-- what is handed in is the value, or only whether the name is there
abbrev pub read_export : Bool → CoreState → Option Exported → CoreNext
read_export true st e = hands (Gives (User (value.Bool (is_some e)))) st
read_export false st None = hands (Gives (User value.Undefined)) st
read_export false st (Some e) = controls (Calls (due e.getter value.Undefined [] None)) st

abbrev pub read_out : Bool → ObjId → Key → CoreState → CoreNext
read_out presence id k st = read_export presence st (export_in (exports_at st (object_at st.heap id).class) k)

-- ---- template objects (12.2.9.3): one for all templates with the same raw texts

abbrev pub is_template : List Value → Template → Bool
is_template raw t = pointwise same_value raw t.raw

abbrev pub template_in : List Template → List Value → Option Value
template_in [] raw = None
template_in (t ∷ ts) raw = if is_template raw t then Some t.object else template_in ts raw

abbrev pub new_template : List Value → List Value → List CoreLink → CoreState → CoreNext
new_template cooked raw links st =
    let o = value.Object (next_id st.heap) in
    has o links (with_store (record st.store { templates = st.store.templates ++ record { raw = raw; object = o } ∷ [] })
    (with_heap (made_template st.heap cooked raw) st))

abbrev pub template_by : List Value → List Value → List CoreLink → CoreState → Option Value → CoreNext
template_by cooked raw links st None = new_template cooked raw links st
template_by cooked raw links st (Some o) = has o links st

abbrev pub template_object : CoreStrict → CoreState → CoreNext
template_object p st = with_arguments_in (has_value p.current) st (λ cooked. with_arguments_in p.values st (λ raw.
    template_by cooked raw p.links st (template_in st.store.templates raw)))

-- ---- heads

abbrev pub primitive_head : List CoreLink → CoreState → Primitive → CoreNext
primitive_head links st primitive.RefuseConst = raises TypeError st
primitive_head links st primitive.ClassGuard = class_guard links st
primitive_head links st primitive.NewTarget = new_target links st
primitive_head links st primitive.ArgumentsPut = arguments_put links st
primitive_head links st primitive.GeneratorMake = reads_prototype (PrototypeFor links) st
primitive_head links st primitive.IncludesPut = has value.Undefined links st
primitive_head links st p = unlawful st

abbrev pub head_row : CoreHead → List CoreLink → CoreState → CoreNext
head_row head.Empty links st = goes (Has empty) links st
head_row head.ArgumentList links st = goes (Has (Extra (Arguments []))) links st
head_row (head.Primitive p) links st = primitive_head links st p
head_row (head.Copy xs) links st = copy links st
head_row h links st = unlawful st

-- ---- operations

unfoldable pub primitive_act : Core → CoreStrict → CoreState → Primitive → CoreNext
primitive_act core p st primitive.CheckReady = check_ready p st p.current
primitive_act core p st (primitive.CellMake x) = cell_make p st p.current
primitive_act core p st primitive.ToText = operate_on number.to_text_number p st
primitive_act core p st primitive.IterStart = iter_start p st
primitive_act core p st primitive.IterStep = operate_on number.iterator_step_number p st
primitive_act core p st primitive.IterValue = operate_on number.iterator_value_number p st
primitive_act core p st primitive.IterClose = iter_close p st
primitive_act core p st primitive.RestList = rest_list p st
primitive_act core p st primitive.SpreadList = spread_list p st
primitive_act core p st primitive.Construct = construct_list core p st
primitive_act core p st primitive.NamespaceMake = namespace_make p st
primitive_act core p st primitive.ClassMake = class_make core p st p.current p.values
primitive_act core p st primitive.SuperConstruct = super_construct core p st
primitive_act core p st primitive.ThisBind = this_bind p st
primitive_act core p st primitive.SuperGet = super_get p st
primitive_act core p st primitive.MethodPut = method_put p st p.values
primitive_act core p st primitive.AccessorPut = accessor_put p st p.values
primitive_act core p st primitive.DelegateStep = delegate_step p st p.values
primitive_act core p st primitive.Power = with_two p st (λ v w. operates (After p.links) number.power_number v (w ∷ []) st)
primitive_act core p st primitive.TemplateObject = template_object p st
primitive_act core p st q = unlawful st

abbrev pub element_row : CoreStrict → CoreState → CoreNext
element_row p st = with_option (list_current p.current) st (λ list. with_part p st (λ v. grown list v p.links st))

abbrev pub act_op : Core → CoreStrict → CoreState → CoreOp → CoreNext
act_op core p st op.CallList = call_list p st
act_op core p st op.CallListWith = call_list_with p st p.values
act_op core p st op.NewList = construct_list core p st
act_op core p st op.Element = element_row p st
act_op core p st op.Content = content p st p.current
act_op core p st op.SetContent = set_content p st p.current p.values
act_op core p st (op.Primitive q) = primitive_act core p st q
act_op core p st op.Yield = yield p st
act_op core p st op.Delegate = delegate p st
act_op core p st o = unlawful st

abbrev pub act_row : Core → CoreStrict → CoreState → CoreNext
act_row core p st = act_op core p st p.op

-- ---- statements

abbrev pub stat_of : CoreState → CoreStat-F CoreLink CoreStat CoreCase CoreExpr → CoreNext
stat_of st (layer.Scoped names body) = enter_scope names body st
stat_of st (layer.Yield x kind result) = yield_stat x kind result st
stat_of st s = unlawful st

abbrev pub stat_row : CoreStat → CoreState → CoreNext
stat_row s st = stat_of st (out-CoreStat s)

-- ---- pending work: what is given, the end of statements, and all else

unfoldable pub work_given : Core → CoreState → CoreValue Mark → CoreWork → CoreNext
work_given core st v (SpreadStart list links) = with_user v st (λ it. spread_step list it links st)
work_given core st v (SpreadStep list it links) = with_user v st (spread_stepped list it links st)
work_given core st v (SpreadValue list it links) = with_user v st (spread_value list it links st)
work_given core st v (Derived n) = with_user v st (derived_given n st)
work_given core st v (Heritage f heritage links) = with_user v st (heritage_given core f heritage links st)
work_given core st v (Prototype stats) = with_user v st (generator_made stats st)
work_given core st v (PrototypeFor links) = with_user v st (step_made links st)
work_given core st v (Resumes n) = resumed n st (Gives v)
work_given core st v (Starts stats) = starts stats st
work_given core st v (YieldsIn links) = with_resumed v st (arrives links st)
work_given core st v (Delegates it links) = with_resumed v st (delegate_turn it links st)
work_given core st v (DelegateStart links) = with_user v st (λ it. delegate_turn it links st resumption.Next value.Undefined)
work_given core st v (DelegateTurn it kind given links) = with_user v st (delegate_turned it kind given links st)
work_given core st v (DelegateDone it kind result links) = with_user v st (delegate_done it kind result links st)
work_given core st v (DelegateValue kind links) = with_user v st (delegate_value kind links st)
work_given core st v (YieldValue kind result) = with_user v st (yield_given kind result st)
work_given core st v (YieldsAt kind result) = with_resumed v st (yield_resumed kind result st)
work_given core st v (Steps f e) = with_resumed v st (step_turn core f e st)
work_given core st v w = unlawful st

abbrev pub work_done : CoreState → CoreWork → CoreNext
work_done st (Instantiates stats) = reads_prototype (Prototype stats) st
work_done st w = unlawful st

abbrev pub work_abrupt : CoreState → Completion Mark → CoreWork → CoreNext
work_abrupt st completion (Resumes n) = resumed n st completion
work_abrupt st completion (Stepping f e) = stepped_out f e st completion
work_abrupt st completion w = hands completion st

abbrev pub work_row : Core → CoreWork → Completion Mark → CoreState → CoreNext
work_row core w (Gives v) st = work_given core st v w
work_row core w Done st = work_done st w
work_row core w completion st = work_abrupt st completion w

-- ---- all of it

abbrev pub rows : Core → Rows sorts CoreStore
rows core = record {
  edition = Sixth;
  this = this;
  named = named;
  closure = closure;
  entered = entered;
  body = run_body;
  scoped = uninitialized;
  unbound = λ x. Some 0;
  head = head_row;
  act = act_row core;
  stat = stat_row;
  work = work_row core;
  resume = resume;
  read_out = read_out;
}

-- all modules are instantiated, and then they are evaluated in their order (15.2.1.16.4, 15.2.1.16.5); each has a record with its
-- names, and sees those of all, since imports are the names of the modules that export them
abbrev pub part_record : CorePart → EnvironmentRecord Mark
part_record p = map (λ n. record { var = n.var; value = User value.Undefined; mutable = n.mutable }) p.names

abbrev pub body_in : Option CorePart → List CoreStat
body_in None = []
body_in (Some p) = p.body

abbrev pub part_body : Core → ℕ → List CoreStat
part_body core n = body_in (slice_get core.parts n)

abbrev pub numbers_from : {A : Type 0} → ℕ → List A → List ℕ
numbers_from n [] = []
numbers_from n (x ∷ xs) = n ∷ numbers_from (suc n) xs

abbrev pub bodies_of : Core → List (List CoreStat)
bodies_of core = map (λ p. p.instantiate) core.parts ++ map (part_body core) core.order

abbrev pub nowhere : Site
nowhere = record { «module» = 0; at = 0 }

abbrev pub start_state : Core → CoreState
start_state core = record {
  heap = fresh6;
  records = map part_record core.parts;
  closures = [];
  context = record {
    environment = numbers_from 0 core.parts;
    receiver = value.Undefined;
    site = nowhere;
    own = no_own;
    frames = [];
  };
  callers = [];
  ahead = bodies_of core;
  store = record {
    this_values = Some value.Undefined ∷ [];
    cells = [];
    generators = [];
    namespaces = [];
    templates = [];
    statics = [];
  };
}

abbrev pub start : Core → Configuration sorts CoreStore
start core = record { state = start_state core; control = Hand Done }

abbrev pub core_step : Core → Configuration sorts CoreStore → CoreNext
core_step core now = step (rows core) core now

-- what a core does under the answers of hosts
abbrev pub runc : Core → ProgramBehaviour
runc core = run (core_step core) (start core)
