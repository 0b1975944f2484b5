-- A step that makes no record leaves the bodies of modules that are ahead: links, statements, and what is handed to frames.
use Rattle.std.proofs.Common.{ℕ, Bool, true, false, List, [], ◌∷◌, ◌++◌, Option, None, Some, slice_get, nat_eq, refl, ◌≡◌, subst, sym}
use Rattle.std.specs.Prelude.{ℤ, pos, Result, Ok, Err, not, ◌&&◌, slice_index_or}
use Rattle.es_value.specs.declared.arithmetic.Exit.{Exit}
use Rattle.es_outside.specs.declared.events.Site.{Site}
use Rattle.es_value.specs.Equality.{same_value}
use Rattle.es_value.specs.declared.value.ObjId.{ObjId}
use Rattle.es_value.specs.declared.value.Value.{Value}
use Rattle.es_value.specs.declared.value.Value.TheVariants as value
use Rattle.es_heap.specs.Heaps.{object_at}
use Rattle.es_heap.specs.declared.class.Class.{Class}
use Rattle.es_heap.specs.declared.class.Class.TheVariants as class
use Rattle.es_heap.specs.declared.key.Key.{Key}
use Rattle.es_operators.specs.Primitives.{to_prims, truth_of}
use Rattle.es_calls.specs.declared.call.BuiltinCall.{BuiltinCall}
use Rattle.es_calls.specs.declared.call.BuiltinStep.{BuiltinStep}
use Rattle.es_calls.specs.declared.call.BuiltinStep.TheVariants as answer
use Rattle.es_calls.specs.declared.call.Resumption.{Resumption}
use Rattle.es_calls.specs.declared.call.Resumption.TheVariants as resumption
use Rattle.es_realm.specs.declared.edition.Edition.TheVariants.{Sixth}
use Rattle.es_operations.specs.Steps.{drops_throw, step_operation}
use Rattle.core_ast.specs.declared.parts.FunctionId.{FunctionId}
use Rattle.core_ast.specs.declared.parts.Label.{Label}
use Rattle.core_ast.specs.declared.parts.Update.{Update}
use Rattle.core_ast.specs.declared.parts.Var.{Var}
use Rattle.core_ast.specs.declared.parts.When.{When}
use Rattle.core_ast.specs.declared.parts.When.TheVariants as when
use Rattle.core_ast.specs.declared.tree.CoreCase.{CoreCase, out-CoreCase}
use Rattle.core_ast.specs.declared.tree.CoreExpr.{CoreExpr, out-CoreExpr}
use Rattle.core_ast.specs.declared.tree.CoreLink.{CoreLink, out-CoreLink}
use Rattle.core_ast.specs.declared.tree.CoreLink.TheOpen as layer
use Rattle.core_ast.specs.declared.tree.CoreLink.TheOpen.{CoreLink-F, CoreStat-F}
use Rattle.core_ast.specs.declared.tree.CoreStat.{CoreStat, out-CoreStat}
use Rattle.core_ast.specs.declared.whole.Core.{Core}
use Rattle.core_meaning.specs.Calls.{call_class, call_value, making}
use Rattle.core_meaning.specs.Classes.{closure_at, derived_given, heritage_given, make_class, own_this}
use Rattle.core_meaning.specs.Expressions.{begin_head, function_at, stepped, user_at, with_result, with_step}
use Rattle.core_meaning.specs.Generators.{kind_value, stores, wraps, yield_arrives, yield_resumed, arrives, completed, continues, delegate_done, delegate_turned, delegate_value, from_start, generator_made, step_ended, step_made, stepped_out, resume, resume_by, resume_class, resumed, with_generator, with_resumed}
use Rattle.core_meaning.specs.Functions.{whole}
use Rattle.core_meaning.specs.Iteration.{spread_stepped, spread_value}
use Rattle.core_meaning.specs.Marks.{AtStart, AtYield, Arguments, Completed, CoreList, CoreNext, CoreState, CoreStrict, CoreWork, DelegateDone, DelegateStart, DelegateTurn, DelegateValue, Delegates, Derived, Executing, Exported, Generator, Heritage, Instantiates, Mark, OfArguments, OfArray, Own, Prototype, PrototypeFor, Resumed, Resumes, SpreadStart, SpreadStep, SpreadValue, Starts, Stepping, Steps, YieldValue, YieldsAt, YieldsIn}
use Rattle.core_meaning.specs.Modules.{stat_of, core_step, export_in, read_export, rows, work_abrupt, work_done, work_given}
use Rattle.core_meaning.specs.Rows.{hands, with_frames, with_heap, with_option, within}
use Rattle.core_meaning.specs.Names.{Resolved, initialize_found, initialized, resolve}
use Rattle.core_meaning.specs.State.{After, Begin, Behind, Call, Calls, Catching, Choice, Completion, Context, Control, CoreValue, Current, Done, Environment, Extra, Fetch, Finishing, Frame, Gives, Go, Hand, Has, Hosted, Jumps, Keyed, Loop, LoopBody, LoopTest, LoopUpdate, Made, Making, Matching, Method, Old, Operation, Part, Pending, Reference, Rest, Restore, Returning, Returns, Run, StepAt, StepName, Store, Subject, Target, Throwing, Throws, Turn, User, Work}
use Rattle.core_meaning.specs.Statements.{begin_stat, choose, choose_case, from_default, loop, loop_by, loop_jumped, loop_on, match_case, match_next, matched, run_cases, run_stats, target_jumped, update_by, at_target, is_for}
use Rattle.core_meaning.specs.Step.{AsPlace, AsValue, Taking, WithValue, abrupt, after_turn, done, fetched, given, go, go_end, go_link, go_reference, go_value, hand, keyed, lazy, otherwise, outermost, parts_by, result_of, returned, step, step_by, strict_of, take, taking, thrown_out, turn}
use Rattle.cells_keep_runs.specs.Alike.{Config}
use Rattle.cells_keep_runs.specs.Placing.{HandPlain, HeadPlain, ListPlain, MakesNoRecord, StatPlain}
use Rattle.cells_keep_runs.specs.Turned.{CallsNoClosure, IsNoClosure}
use Rattle.scopes_keep_runs.proofs.AheadActs.{NextKeeps, acts_at, either_at, heads_at, host_at, option_at, value_at, write_at, yields_at}

module _ (a : List (List CoreStat)) where
  abbrev K : CoreState → Type 0
  K st = st.ahead ≡ a

  abbrev M : CoreNext → Type 0
  M next = NextKeeps a next

  -- ---- links

  parts_at : (core : Core) (p : CoreStrict) (st : CoreState) (xs : List CoreExpr) → K st → M (parts_by (rows core) core p st xs)
  parts_at core p st [] b = acts_at a core p st p.op b
  parts_at core p st (x ∷ xs) b = b

  take_at : (core : Core) (base : Value) (k : Key) (p : CoreStrict) (l : CoreLink) (st : CoreState) (how : Taking) → K st → M (take (rows core) core base k p l st how)
  take_at core base k p l st AsPlace b = parts_at core p st p.parts b
  take_at core base k p l st WithValue b = b
  take_at core base k p l st AsValue b = b

  reference_at : (core : Core) (base : Value) (k : Key) (l : CoreLink) (ls : List CoreLink) (st : CoreState) (y : CoreLink-F CoreLink CoreStat CoreCase CoreExpr) → K st → M (go_reference (rows core) core base k l ls st y)
  reference_at core base k l ls st (layer.Strict o xs site) b = take_at core base k (strict_of o site (Reference base k) xs ls) l st (taking o) b
  reference_at core base k l ls st (layer.Lazy w taken other) b = b
  reference_at core base k l ls st (layer.Run body) b = b

  otherwise_at : (other : Option CoreExpr) (links : List CoreLink) (st : CoreState) → K st → M (otherwise other links st)
  otherwise_at None links st b = b
  otherwise_at (Some x) links st b = b

  lazy_at : (taken : CoreExpr) (other : Option CoreExpr) (links : List CoreLink) (st : CoreState) (v : Value) (w : When) → K st → M (lazy taken other links st v w)
  lazy_at taken other links st v when.Truthy b = either_at a (truth_of v) _ _ b b
  lazy_at taken other links st v when.Falsy b = either_at a (truth_of v) _ _ b b
  lazy_at taken other links st v when.Choice b = either_at a (truth_of v) _ _ b (otherwise_at other links st b)

  link_value_at : (core : Core) (c : Current Mark) (ls : List CoreLink) (st : CoreState) (y : CoreLink-F CoreLink CoreStat CoreCase CoreExpr) → K st → M (go_value (rows core) core c ls st y)
  link_value_at core c ls st (layer.Strict o xs site) b = parts_at core (strict_of o site c xs ls) st xs b
  link_value_at core c ls st (layer.Lazy w taken other) b = option_at a (user_at c) st _ (λ v. lazy_at taken other ls st v w b)
  link_value_at core c ls st (layer.Run body) b = b

  link_at : (core : Core) (l : CoreLink) (ls : List CoreLink) (st : CoreState) (c : Current Mark) → K st → M (go_link (rows core) core l ls st c)
  link_at core l ls st (Reference base k) b = reference_at core base k l ls st (out-CoreLink l) b
  link_at core l ls st (Has v) b = link_value_at core (Has v) ls st (out-CoreLink l) b
  link_at core l ls st (Old base k v) b = link_value_at core (Old base k v) ls st (out-CoreLink l) b
  link_at core l ls st (Method f v) b = link_value_at core (Method f v) ls st (out-CoreLink l) b
  link_at core l ls st (Hosted n) b = link_value_at core (Hosted n) ls st (out-CoreLink l) b

  end_at : (st : CoreState) (c : Current Mark) → K st → M (go_end st c)
  end_at st (Has v) b = b
  end_at st (Reference base k) b = b
  end_at st c b = tt

  links_at : (core : Core) (c : Current Mark) (ls : List CoreLink) (st : CoreState) → K st → M (go (rows core) core c ls st)
  unfolding go
  links_at core c [] st b = end_at st c b
  links_at core c (l ∷ ls) st b = link_at core l ls st c b

  -- ---- statements

  case_by : (test : Option CoreExpr) (body : List CoreStat) (cs : List CoreCase) (st : CoreState) → K st → M (choose_case test body cs st)
  case_by None body cs st b = b
  case_by (Some x) body cs st b = b

  choose_at : (cs : List CoreCase) (st : CoreState) → K st → M (choose cs st)
  choose_at [] st b = b
  choose_at (c ∷ cs) st b = case_by (out-CoreCase c).test (out-CoreCase c).body cs st b

  run_at : (cs : List CoreCase) (st : CoreState) → K st → M (run_cases cs st)
  run_at cs st b = b

  match_by : (v : Value) (all : List CoreCase) (c : CoreCase) (cs : List CoreCase) (st : CoreState) (next : CoreNext) (test : Option CoreExpr) → K st → M next → M (match_case v all (c ∷ cs) st next test)
  match_by v all c cs st next None b on = on
  match_by v all c cs st next (Some x) b on = b

  match_at : (v : Value) (all cs : List CoreCase) (st : CoreState) → K st → M (match_next v all cs st)
  match_at v all [] st b = run_at (from_default all) st b
  match_at v all (c ∷ cs) st b = match_by v all c cs st (match_next v all cs st) (out-CoreCase c).test b (match_at v all cs st b)

  matched_at : (v : Value) (cs all : List CoreCase) (st : CoreState) (w : Value) → K st → M (matched v cs all st w)
  matched_at v [] all st w b = tt
  matched_at v (c ∷ cs) all st w b = either_at a (same_value v w) _ _ (run_at (c ∷ cs) st b) (match_at v all cs st b)

  loop_to : (l : Loop) (st : CoreState) (test : Option CoreExpr) → K st → M (loop_by l st test)
  loop_to l st None b = b
  loop_to l st (Some x) b = b

  loop_at : (l : Loop) (st : CoreState) → K st → M (loop l st)
  loop_at l st b = loop_to l st l.test b

  update_to : (l : Loop) (st : CoreState) (update : Option CoreExpr) → K st → M (update_by l st update)
  update_to l st None b = loop_at l st b
  update_to l st (Some x) b = b

  on_at : (l : Loop) (st : CoreState) → K st → M (loop_on l st)
  on_at l st b = update_to l st l.update b

  stat_at : (core : Core) (x : CoreStat) (st : CoreState) (y : CoreStat-F CoreLink CoreStat CoreCase CoreExpr) → StatPlain y → out-CoreStat x ≡ y → K st → M (begin_stat (rows core) x st y)
  unfolding begin_stat
  stat_at core x st (layer.Do e) is same b = b
  stat_at core x st (layer.If cases) is same b = choose_at cases st b
  stat_at core x st (layer.Switch subject cases) is same b = b
  stat_at core x st (layer.Loop labels test update body) is same b = loop_at (record { labels = labels; test = test; update = update; body = body }) st b
  stat_at core x st (layer.Labelled label body) is same b = b
  stat_at core x st (layer.Jump goes_on label) is same b = b
  stat_at core x st (layer.Return e) is same b = b
  stat_at core x st (layer.Throw e) is same b = b
  stat_at core x st (layer.TryCatch block parameter names handler) is same b = b
  stat_at core x st (layer.TryFinally block last) is same b = b
  stat_at core x st (layer.Scoped names body) is same b = absurd is
  stat_at core x st (layer.Yield v kind result) is same b = subst (λ z. M (stat_of st z)) (sym same) b

  list_at : (core : Core) (xs : List CoreStat) (st : CoreState) → ListPlain xs → K st → M (run_stats (rows core) xs st)
  list_at core [] st is b = b
  list_at core (x ∷ xs) st is b = stat_at core x _ (out-CoreStat x) is refl b

  -- ---- generators, namespaces and turns

  generator_at : (gs : List Generator) (n : ℕ) (st : CoreState) (f : Generator → CoreNext) → ((g : Generator) → M (f g)) → M (with_option (slice_get gs n) st f)
  generator_at gs n st f h = option_at a (slice_get gs n) st f h

  set_to : (n : ℕ) (h : Generator) (st : CoreState) → K st → K (with_generator n h st)
  set_to n h st b = b

  completed_at : (kind : Resumption) (v : Value) (st : CoreState) → K st → M (completed kind v st)
  completed_at resumption.Next v st b = b
  completed_at resumption.Return v st b = b
  completed_at resumption.Throw v st b = b

  continues_at : (n : ℕ) (k : Context Mark Own CoreWork) (kind : Resumption) (v : Value) (st : CoreState) → K st → M (continues n k kind v st)
  continues_at n k kind v st b = b

  start_at : (n : ℕ) (k : Context Mark Own CoreWork) (kind : Resumption) (v : Value) (st : CoreState) → K st → M (from_start n k kind v st)
  start_at n k resumption.Next v st b = continues_at n k resumption.Next v st b
  start_at n k resumption.Return v st b = completed_at resumption.Return v (with_generator n Completed st) (set_to n Completed st b)
  start_at n k resumption.Throw v st b = completed_at resumption.Throw v (with_generator n Completed st) (set_to n Completed st b)

  resume_at : (n : ℕ) (kind : Resumption) (v : Value) (st : CoreState) (g : Generator) → K st → M (resume_by n kind v st g)
  resume_at n kind v st (AtStart k) b = start_at n k kind v st b
  resume_at n kind v st (AtYield k) b = continues_at n k kind v st b
  resume_at n kind v st Executing b = b
  resume_at n kind v st Completed b = completed_at kind v st b

  resume_to : (kind : Resumption) (v : Value) (st : CoreState) (k : Class) → K st → M (resume_class kind v st k)
  resume_to kind v st (class.Generator n) b = generator_at st.store.generators n st (resume_by n kind v st) (λ g. resume_at n kind v st g b)
  resume_to kind v st k b = b

  resumes_at : (kind : Resumption) (receiver v : Value) (st : CoreState) → K st → M (resume kind receiver v st)
  resumes_at kind (value.Object id) v st b = resume_to kind v st (object_at st.heap id).class b
  resumes_at kind receiver v st b = b

  export_at : (presence : Bool) (st : CoreState) (x : Option Exported) → K st → M (read_export presence st x)
  export_at true st x b = b
  export_at false st None b = b
  export_at false st (Some x) b = b

  turned_at : (core : Core) (site : Option Site) (c : BuiltinCall) (st : CoreState) (a : BuiltinStep) → K st → M (after_turn (rows core) site c st a)
  turned_at core site c st answer.Running b = b
  turned_at core site c st (answer.CallOut f receiver args) b = b
  turned_at core site c st (answer.ReadOut id k) b = export_at _ _ (export_in _ k) b
  turned_at core site c st (answer.Resume kind) b = resumes_at kind _ _ st b
  turned_at core site c st (answer.Done v) b = b
  turned_at core site c st (answer.Throws e) b = b
  turned_at core site c st (answer.Leaves x) b = tt
  turned_at core site c st a b = tt

  -- ---- calls that enter no closure

  class_to : (core : Core) (c : Call) (st : CoreState) (k : Class) → IsNoClosure k → K st → M (call_class (rows core) core c st k)
  unfolding call_class
  class_to core c st (class.Function n) is b = absurd is
  class_to core c st (class.Builtin n) is b = b
  class_to core c st (class.Host n) is b = host_at a n _ st (to_prims c.args) b
  class_to core c st k is b = b

  call_to : (core : Core) (c : Call) (st : CoreState) (v : Value) → CallsNoClosure st.heap v → K st → M (call_value (rows core) core c st v)
  call_to core c st (value.Object id) is b = class_to core c st (object_at st.heap id).class is b
  call_to core c st v is b = b

  -- ---- what is given to a frame

  keyed_at : (base : Value) (links : List CoreLink) (st : CoreState) (v : Value) → K st → M (keyed base links st v)
  keyed_at base links st (value.Text us) b = b
  keyed_at base links st v b = tt

  result_at : (r : Result ℤ Exit) (st : CoreState) (f : ℤ → CoreNext) → ((n : ℤ) → M (f n)) → M (with_result r st f)
  result_at (Ok n) st f h = h n
  result_at (Err x) st f h = tt

  step_value_at : (u : Update) (v : Value) (st : CoreState) (f : Value → Value → CoreNext) → ((a c : Value) → M (f a c)) → M (with_step u v st f)
  step_value_at u (value.Number n) st f h = result_at (stepped u n) st _ (λ m. h _ _)
  step_value_at u v st f h = tt

  making_at : (f : Value) (args : List Value) (target : Value) (st : CoreState) (v : Value) → K st → M (making f args target st v)
  making_at f args target st (value.Object proto) b = b
  making_at f args target st v b = tt

  whole_at : (list : CoreList) (links : List CoreLink) (st : CoreState) → K st → M (whole list links st)
  whole_at (OfArray id) links st b = b
  whole_at (OfArguments vs) links st b = b

  spread_to : (list : CoreList) (it : Value) (links : List CoreLink) (st : CoreState) (v : Value) → K st → M (spread_stepped list it links st v)
  spread_to list it links st (value.Object r) b = b
  spread_to list it links st v b = whole_at list links st b

  spread_on : (list : CoreList) (it : Value) (links : List CoreLink) (st : CoreState) (v : Value) → K st → M (spread_value list it links st v)
  spread_on (OfArray id) it links st v b = b
  spread_on (OfArguments vs) it links st v b = b

  this_at : (st : CoreState) (o : Option Value) → K st → M (own_this st o)
  this_at st None b = b
  this_at st (Some v) b = b

  derived_at : (n : ℕ) (st : CoreState) (v : Value) → K st → M (derived_given n st v)
  derived_at n st (value.Object id) b = b
  derived_at n st value.Undefined b = this_at st (slice_index_or st.store.this_values n None) b
  derived_at n st v b = b

  class_given : (core : Core) (f : FunctionId) (heritage : Value) (parent : ObjId) (above : Option ObjId) (links : List CoreLink) (st : CoreState) → K st → M (make_class core f heritage parent above links st)
  class_given core f heritage parent above links st b = option_at a (function_at core f) st _ (λ function. b)

  heritage_to : (core : Core) (f : FunctionId) (heritage : Value) (links : List CoreLink) (st : CoreState) (v : Value) → K st → M (heritage_given core f heritage links st v)
  heritage_to core f (value.Object parent) links st (value.Object above) b = class_given core f (value.Object parent) parent (Some above) links st b
  heritage_to core f (value.Object parent) links st value.Null b = class_given core f (value.Object parent) parent None links st b
  heritage_to core f heritage links st v b = tt

  returns : (v : CoreValue Mark) (st : CoreState) → K st → M (hands (Returns v) st)
  returns v st b = b

  generator_to : (stats : List CoreStat) (st : CoreState) (v : Value) → K st → M (generator_made stats st v)
  generator_to stats st (value.Object proto) b = b
  generator_to stats st v b = tt

  step_to : (links : List CoreLink) (st : CoreState) (v : Value) → K st → M (step_made links st v)
  step_to links st (value.Object proto) b = option_at a (closure_at st st.context.own.callee) st _ (λ c. b)
  step_to links st v b = tt

  hands_any : (c : Completion Mark) (st : CoreState) → K st → M (hands c st)
  hands_any c st b = b

  resumed_at : (n : ℕ) (st : CoreState) (c : Completion Mark) → K st → M (resumed n st c)
  resumed_at n st (Gives (User v)) b = b
  resumed_at n st c b = b

  arrives_at : (links : List CoreLink) (st : CoreState) (kind : Resumption) (v : Value) → K st → M (arrives links st kind v)
  arrives_at links st resumption.Next v b = b
  arrives_at links st resumption.Return v b = returns (User v) st b
  arrives_at links st resumption.Throw v b = b

  with_resumed_at : (v : CoreValue Mark) (st : CoreState) (f : Resumption → Value → CoreNext) → ((kind : Resumption) (w : Value) → M (f kind w)) → M (with_resumed v st f)
  with_resumed_at (Extra (Resumed kind w)) st f h = h kind w
  with_resumed_at v st f h = tt

  delegate_to : (it : Value) (kind : Resumption) (v : Value) (links : List CoreLink) (st : CoreState) (r : Value) → K st → M (delegate_turned it kind v links st r)
  delegate_to it kind v links st (value.Object r) b = b
  delegate_to it kind v links st r b = returns (User v) st b

  delegate_on : (it : Value) (kind : Resumption) (r : Value) (links : List CoreLink) (st : CoreState) (v : Value) → K st → M (delegate_done it kind r links st v)
  delegate_on it kind r links st v b = either_at a (truth_of v) _ _ b (yields_at a (Work (Delegates it links)) false r st b)

  delegate_end : (kind : Resumption) (links : List CoreLink) (st : CoreState) (v : Value) → K st → M (delegate_value kind links st v)
  delegate_end resumption.Return links st v b = returns (User v) st b
  delegate_end resumption.Next links st v b = b
  delegate_end resumption.Throw links st v b = b

  -- what a yield statement is resumed with is stored
  stored_by : (x : Var) (v : CoreValue Mark) (st : CoreState) (o : Option (Resolved Mark)) → K st → K (initialize_found x v st o)
  stored_by x v st None b = b
  stored_by x v st (Some r) b = b

  stored_at : (x : Var) (v : Value) (st : CoreState) → K st → K (stores x v st)
  unfolding initialized
  stored_at x v st b = stored_by x (User v) st (resolve st x) b

  yield_arrives_at : (result : Var) (st : CoreState) (kind : Resumption) (v : Value) → K st → M (yield_arrives result st kind v)
  yield_arrives_at result st resumption.Next v b = stored_at result v st b
  yield_arrives_at result st resumption.Return v b = returns (User v) st b
  yield_arrives_at result st resumption.Throw v b = b

  yield_resumed_at : (kind : Option Var) (result : Var) (st : CoreState) (how : Resumption) (v : Value) → K st → M (yield_resumed kind result st how v)
  yield_resumed_at None result st how v b = yield_arrives_at result st how v b
  yield_resumed_at (Some x) result st how v b = stored_at result v (stores x (kind_value how) st) (stored_at x (kind_value how) st b)

  -- ---- work

  work_to : (core : Core) (st : CoreState) (v : CoreValue Mark) (w : CoreWork) → K st → M (work_given core st v w)
  unfolding work_given
  work_to core st v (SpreadStart list links) b = value_at a v st _ (λ it. b)
  work_to core st v (SpreadStep list it links) b = value_at a v st _ (λ w. spread_to list it links st w b)
  work_to core st v (SpreadValue list it links) b = value_at a v st _ (λ w. spread_on list it links st w b)
  work_to core st v (Derived n) b = value_at a v st _ (λ w. derived_at n st w b)
  work_to core st v (Heritage f heritage links) b = value_at a v st _ (λ w. heritage_to core f heritage links st w b)
  work_to core st v (Prototype stats) b = value_at a v st _ (λ w. generator_to stats st w b)
  work_to core st v (PrototypeFor links) b = value_at a v st _ (λ w. step_to links st w b)
  work_to core st v (Resumes n) b = resumed_at n st (Gives v) b
  work_to core st v (Starts stats) b = b
  work_to core st v (YieldsIn links) b = with_resumed_at v st _ (λ kind w. arrives_at links st kind w b)
  work_to core st v (Delegates it links) b = with_resumed_at v st _ (λ kind w. b)
  work_to core st v (DelegateStart links) b = value_at a v st _ (λ it. b)
  work_to core st v (DelegateTurn it kind w links) b = value_at a v st _ (λ r. delegate_to it kind w links st r b)
  work_to core st v (DelegateDone it kind w links) b = value_at a v st _ (λ r. delegate_on it kind w links st r b)
  work_to core st v (DelegateValue kind links) b = value_at a v st _ (λ w. delegate_end kind links st w b)
  work_to core st v (YieldValue kind result) b = value_at a v st _ (λ w. yields_at a (Work (YieldsAt kind result)) (wraps kind) w st b)
  work_to core st v (YieldsAt kind result) b = with_resumed_at v st _ (λ how w. yield_resumed_at kind result st how w b)
  work_to core st v (Steps f e) b = with_resumed_at v st _ (λ how w. option_at a (function_at core f) st _ (λ function. b))
  work_to core st v w b = tt

  given_at : (core : Core) (v : CoreValue Mark) (st : CoreState) (f : Frame Mark CoreWork) → K st → M (given (rows core) core v st f)
  unfolding given
  given_at core v st (Part p) b = parts_at core (record p { values = p.values ++ v ∷ [] }) st p.parts b
  given_at core v st (Fetch base k p) b = value_at a v st _ (λ w. parts_at core (record p { current = fetched base k p.op w }) st p.parts b)
  given_at core v st (After links) b = b
  given_at core v st (Behind w links) b = b
  given_at core v st (Keyed base links) b = value_at a v st _ (λ w. keyed_at base links st w b)
  given_at core v st (Store base k links) b = value_at a v st _ (λ w. b)
  given_at core v st (StepAt u base k links) b = value_at a v st _ (λ w. step_value_at u w st _ (λ n r. b))
  given_at core v st (StepName u x links) b = value_at a v st _ (λ w. step_value_at u w st _ (λ n r. write_at a core x (User n) (User r) links st b))
  given_at core v st (Operation site c) b = value_at a v st _ (λ w. b)
  given_at core v st (Making f args new) b = value_at a v st _ (λ w. making_at f args new st w b)
  given_at core v st (Made o) b = value_at a v st _ (λ w. b)
  given_at core v st (Rest xs) b = b
  given_at core v st (Choice body cases) b = value_at a v st _ (λ w. either_at a (truth_of w) _ _ b (choose_at cases st b))
  given_at core v st (Subject cases) b = value_at a v st _ (λ w. match_at w cases cases st b)
  given_at core v st (Matching w cases all) b = value_at a v st _ (λ x. matched_at w cases all st x b)
  given_at core v st (LoopTest x) b = value_at a v st _ (λ w. either_at a (truth_of w) _ _ b b)
  given_at core v st (LoopUpdate x) b = loop_at x st b
  given_at core v st Returning b = returns v st b
  given_at core v st Throwing b = value_at a v st _ (λ w. b)
  given_at core v st (Work w) b = work_to core st v w b
  given_at core v st f b = tt

  -- ---- the end of statements, and what ends them early

  work_end : (st : CoreState) (w : CoreWork) → K st → M (work_done st w)
  work_end st (Instantiates stats) b = b
  work_end st w b = tt

  done_at : (core : Core) (st : CoreState) (f : Frame Mark CoreWork) → K st → M (done (rows core) st f)
  unfolding done
  done_at core st (After links) b = b
  done_at core st (Rest xs) b = b
  done_at core st (LoopBody x) b = on_at x st b
  done_at core st (Target label) b = b
  done_at core st (Catching x names handler) b = b
  done_at core st (Finishing last) b = b
  done_at core st (Pending c) b = hands_any c st b
  done_at core st (Restore e) b = b
  done_at core st (Work w) b = work_end st w b
  done_at core st f b = tt

  thrown_at : (site : Option Site) (c : BuiltinCall) (v : Value) (st : CoreState) → K st → M (thrown_out site c v st)
  thrown_at site c v st b = either_at a (drops_throw c) _ _ b b

  jumped_at : (l : Loop) (st : CoreState) (goes_on : Bool) (label : Option Label) → K st → M (loop_jumped l st goes_on label)
  jumped_at l st goes_on label b = either_at a (not (is_for l.labels label)) _ _ b (either_at a goes_on _ _ (on_at l st b) b)

  target_to : (t : Option Label) (st : CoreState) (goes_on : Bool) (label : Option Label) → K st → M (target_jumped t st goes_on label)
  target_to t st goes_on label b = either_at a (not goes_on && at_target t label) _ _ b b

  ended_to : (f : FunctionId) (e : Environment) (st : CoreState) (n : ℤ) (v : Value) → K st → M (step_ended f e st n v)
  ended_to f e st (pos n) v b = either_at a (nat_eq n 2) _ _ b (yields_at a (Work (Steps f e)) (nat_eq n 0) v (within e st) b)
  ended_to f e st n v b = tt

  stepped_to : (f : FunctionId) (e : Environment) (st : CoreState) (c : Completion Mark) → K st → M (stepped_out f e st c)
  stepped_to f e st (Returns (Extra (Arguments (value.Number n ∷ v ∷ [])))) b = ended_to f e st n v b
  stepped_to f e st (Throws v) b = b
  stepped_to f e st c b = tt

  work_out : (core : Core) (st : CoreState) (c : Completion Mark) (w : CoreWork) → K st → M (work_abrupt st c w)
  work_out core st c (Resumes n) b = resumed_at n st c b
  work_out core st c (Stepping f e) b = stepped_to f e st c b
  work_out core st c w b = hands_any c st b

  -- a throw that no handler takes here
  throws_at : (core : Core) (st : CoreState) (v : Value) (f : Frame Mark CoreWork) → HandPlain (Throws v) (f ∷ st.context.frames) st.callers → K st → M (abrupt (rows core) st f (Throws v))
  unfolding abrupt
  throws_at core st v (Operation site c) is b = thrown_at site c v st b
  throws_at core st v (Catching x names handler) is b = absurd is
  throws_at core st v (Finishing last) is b = b
  throws_at core st v (Restore e) is b = b
  throws_at core st v (Work w) is b = work_out core st (Throws v) w b
  throws_at core st v f is b = b

  restored : (v : CoreValue Mark) (e : Environment) (st : CoreState) → K st → M (hands (Returns v) (within e st))
  restored v e st b = returns v (within e st) b

  returns_at : (core : Core) (st : CoreState) (v : CoreValue Mark) (f : Frame Mark CoreWork) → K st → M (abrupt (rows core) st f (Returns v))
  unfolding abrupt
  returns_at core st v (Finishing last) b = b
  returns_at core st v (Restore e) b = restored v e st b
  returns_at core st v (Work w) b = work_out core st (Returns v) w b
  returns_at core st v f b = returns v st b

  jumps_at : (core : Core) (st : CoreState) (goes_on : Bool) (label : Option Label) (f : Frame Mark CoreWork) → K st → M (abrupt (rows core) st f (Jumps goes_on label))
  unfolding abrupt
  jumps_at core st goes_on label (LoopBody x) b = jumped_at x st goes_on label b
  jumps_at core st goes_on label (Target t) b = target_to t st goes_on label b
  jumps_at core st goes_on label (Finishing last) b = b
  jumps_at core st goes_on label (Restore e) b = b
  jumps_at core st goes_on label (Work w) b = work_out core st (Jumps goes_on label) w b
  jumps_at core st goes_on label f b = b

  -- ---- the end of a context

  ends_at : (st : CoreState) (c : Completion Mark) → HandPlain c [] [] → M (outermost st c)
  ends_at st (Throws v) is = tt
  ends_at st Done is = absurd is
  ends_at st (Returns v) is = tt
  ends_at st (Jumps goes_on label) is = tt
  ends_at st (Gives v) is = tt

  result_to : (st : CoreState) (c : Completion Mark) → K st → M (result_of st c)
  result_to st (Returns v) b = b
  result_to st (Throws v) b = b
  result_to st (Jumps goes_on label) b = tt
  result_to st (Gives v) b = b
  result_to st Done b = b

  returned_at : (st : CoreState) (c : Completion Mark) (ks : List (Context Mark Own CoreWork)) → HandPlain c [] ks → K st → M (returned st c ks)
  returned_at st c [] is b = ends_at st c is
  returned_at st c (k ∷ ks) is b = result_to (record st { context = k; callers = ks }) c b

  hand_at : (core : Core) (st : CoreState) (c : Completion Mark) (fs : List (Frame Mark CoreWork)) → HandPlain c fs st.callers → K st → M (hand (rows core) core st c fs)
  unfolding hand
  hand_at core st c [] is b = returned_at st c st.callers is b
  hand_at core st (Gives v) (f ∷ fs) is b = given_at core v (with_frames fs st) f b
  hand_at core st Done (f ∷ fs) is b = done_at core (with_frames fs st) f b
  hand_at core st (Throws v) (f ∷ fs) is b = throws_at core (with_frames fs st) v f is b
  hand_at core st (Returns v) (f ∷ fs) is b = returns_at core (with_frames fs st) v f b
  hand_at core st (Jumps goes_on label) (f ∷ fs) is b = jumps_at core (with_frames fs st) goes_on label f b

  -- ---- a step

  begin_at : (core : Core) (x : CoreExpr) (st : CoreState) → HeadPlain (out-CoreExpr x).head → K st → M (begin_head (rows core) core (out-CoreExpr x).head (out-CoreExpr x).links st)
  begin_at core x st is b = heads_at a core (out-CoreExpr x).head (out-CoreExpr x).links st is b

  control_at : (core : Core) (st : CoreState) (c : Control Mark) → MakesNoRecord st c → K st → M (step_by (rows core) core st c)
  unfolding turn
  control_at core st (Begin x) is b = begin_at core x st is b
  control_at core st (Go c links) is b = links_at core c links st b
  control_at core st (Run xs) is b = list_at core xs st is b
  control_at core st (Turn site c) is b =
      let r = step_operation Sixth st.heap c in
      turned_at core site r.call (with_heap r.heap st) r.step b
  control_at core st (Calls c) is b = call_to core c st c.function is b
  control_at core st (Hand c) is b = hand_at core st c st.context.frames is b

  pub ahead_stays : (core : Core) (s : Config) → MakesNoRecord s.state s.control → K s.state → M (core_step core s)
  unfolding step
  ahead_stays core s is b = control_at core s.state s.control is b
