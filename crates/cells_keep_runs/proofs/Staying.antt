-- A step that makes no record leaves code where it may stand: links, statements, and what is handed to frames.
use Rattle.std.proofs.Common.{ℕ, zero, suc, Bool, true, false, List, [], ◌∷◌, ◌++◌, Option, None, Some, slice_get, refl}
use Rattle.std.specs.Prelude.{if◌then◌else◌, ℤ, Result, Ok, Err, is_none, not, ◌&&◌, slice_index_or}
use Rattle.es_value.specs.declared.arithmetic.Exit.{Exit}
use Rattle.es_outside.specs.declared.events.Site.{Site}
use Rattle.es_value.specs.Equality.{same_value}
use Rattle.es_value.specs.declared.value.ObjId.{ObjId}
use Rattle.es_value.specs.declared.value.Value.{Value}
use Rattle.es_value.specs.declared.value.Value.TheVariants as value
use Rattle.es_heap.specs.Heaps.{object_at}
use Rattle.es_heap.specs.declared.class.Class.{Class}
use Rattle.es_heap.specs.declared.class.Class.TheVariants as class
use Rattle.es_heap.specs.declared.key.Key.{Key}
use Rattle.es_operators.specs.Primitives.{to_prims, truth_of}
use Rattle.es_calls.specs.declared.call.BuiltinCall.{BuiltinCall}
use Rattle.es_calls.specs.declared.call.BuiltinStep.{BuiltinStep}
use Rattle.es_calls.specs.declared.call.BuiltinStep.TheVariants as answer
use Rattle.es_calls.specs.declared.call.Resumption.{Resumption}
use Rattle.es_calls.specs.declared.call.Resumption.TheVariants as resumption
use Rattle.es_realm.specs.declared.edition.Edition.TheVariants.{Sixth}
use Rattle.es_operations.specs.Steps.{drops_throw, step_operation}
use Rattle.core_ast.specs.declared.parts.FunctionId.{FunctionId}
use Rattle.core_ast.specs.declared.parts.Label.{Label}
use Rattle.core_ast.specs.declared.parts.Update.{Update}
use Rattle.core_ast.specs.declared.parts.When.{When}
use Rattle.core_ast.specs.declared.parts.When.TheVariants as when
use Rattle.core_ast.specs.declared.tree.CoreCase.{CoreCase, out-CoreCase}
use Rattle.core_ast.specs.declared.tree.CoreExpr.{CoreExpr, out-CoreExpr}
use Rattle.core_ast.specs.declared.tree.CoreLink.{CoreLink, out-CoreLink}
use Rattle.core_ast.specs.declared.tree.CoreLink.TheOpen as layer
use Rattle.core_ast.specs.declared.tree.CoreLink.TheOpen.{CoreLink-F, CoreStat-F}
use Rattle.core_ast.specs.declared.tree.CoreStat.{CoreStat, out-CoreStat}
use Rattle.core_ast.specs.declared.whole.Core.{Core}
use Rattle.core_state.specs.Bodies.{bodies}
use Rattle.core_meaning.specs.Calls.{call_class, call_value, making}
use Rattle.core_meaning.specs.Classes.{derived_given, heritage_given, make_class, own_this}
use Rattle.core_meaning.specs.Expressions.{function_at, stepped, user_at, with_result, with_step}
use Rattle.core_meaning.specs.Generators.{arrives, completed, continues, delegate_done, delegate_turned, delegate_value, from_start, generator_made, resume, resume_by, resume_class, resumed, with_generator, with_resumed}
use Rattle.core_meaning.specs.Functions.{whole}
use Rattle.core_meaning.specs.Iteration.{spread_stepped, spread_value}
use Rattle.core_meaning.specs.Marks.{AtStart, AtYield, Completed, CoreList, CoreNext, CoreState, CoreStrict, CoreWork, DelegateDone, DelegateStart, DelegateTurn, DelegateValue, Delegates, Derived, Executing, Exported, Generator, Heritage, Instantiates, Mark, OfArguments, OfArray, Own, Prototype, PrototypeFor, Resumed, Resumes, SpreadStart, SpreadStep, SpreadValue, Starts, Stepping, Steps, YieldValue, YieldsAt, YieldsIn}
use Rattle.core_meaning.specs.Modules.{core_step, export_in, read_export, rows, work_abrupt, work_done, work_given, work_row}
use Rattle.core_meaning.specs.Rows.{with_frames, with_heap, with_option}
use Rattle.core_meaning.specs.State.{After, Begin, Behind, Call, Calls, Catching, Choice, Completion, Context, Control, CoreValue, Current, Done, Environment, Extra, Fetch, Finishing, Frame, Gives, Go, Hand, Has, Hosted, Jumps, Keyed, Loop, LoopBody, LoopTest, LoopUpdate, Made, Making, Matching, Method, Old, Operation, Part, Pending, Reference, Rest, Restore, Returning, Returns, Run, StepAt, StepName, Store, Subject, Target, Throwing, Throws, Turn, User, Work}
use Rattle.core_meaning.specs.Statements.{begin_stat, choose, choose_case, from_default, loop, loop_by, loop_jumped, loop_on, match_case, match_next, matched, run_cases, run_stats, target_jumped, update_by, at_target, is_for}
use Rattle.core_meaning.specs.Step.{AsPlace, AsValue, Taking, WithValue, abrupt, after_turn, done, fetched, given, go, go_end, go_link, go_reference, go_value, hand, handed, keyed, lazy, otherwise, outermost, parts_by, result_of, returned, step, step_by, strict_of, take, taking, thrown_out, turn}
use Rattle.cells_keep_runs.specs.Alike.{Config}
use Rattle.cells_keep_runs.specs.Placing.{AllAt1, AllContexts, AllGenerators, At, CaseAt, ControlAt, Everywhere, FrameAt, FramesAt, GeneratorAt, HandPlain, Handler, IfAt, LinkAt, ListPlain, LoopAt, MakesNoRecord, NextAt, OpMay, Placing, StatAt, StatPlain, StateAt, WorkAt, below_frame}
use Rattle.cells_keep_runs.specs.Turned.{CallsNoClosure, IsNoClosure}
use Rattle.cells_keep_runs.proofs.Placing.{acts_at, either_at, generator_more, generator_set, heads_at, host_at, option_at, value_at, yields_at}

module _ (S : At (List CoreStat)) (E : At CoreExpr) (L : At (List CoreLink)) (H : At Handler) (place : Placing S E L H) where
  abbrev T : CoreState → Type 0
  T = StateAt S E L H

  abbrev M : CoreNext → Type 0
  M = NextAt S E L H

  abbrev here : CoreState → Environment
  here st = st.context.environment

  abbrev Cases : Environment → List CoreCase → Type 0
  Cases e cs = AllAt1 (CaseAt S E) e cs

  -- ---- links

  parts_at : (core : Core) (p : CoreStrict) (st : CoreState) (xs : List CoreExpr) → OpMay p.op → AllAt1 E (here st) xs → T st → L (here st) p.links → M (parts_by (rows core) core p st xs)
  parts_at core p st [] may xs_at b l = acts_at S E L H core p st p.op may b l
  parts_at core p st (x ∷ xs) may (x_at, xs_at) b l = ((((may, xs_at, l), b.0), b.1, b.2), x_at)

  take_at : (core : Core) (base : Value) (k : Key) (p : CoreStrict) (l : CoreLink) (st : CoreState) (how : Taking) → OpMay p.op → AllAt1 E (here st) p.parts → T st → L (here st) (l ∷ p.links) → L (here st) p.links
      → M (take (rows core) core base k p l st how)
  take_at core base k p l st AsPlace may xs b all further = parts_at core p st p.parts may xs b further
  take_at core base k p l st WithValue may xs b all further = ((((may, xs, further), b.0), b.1, b.2), tt)
  take_at core base k p l st AsValue may xs b all further = (((all, b.0), b.1, b.2), tt)

  reference_at : (core : Core) (base : Value) (k : Key) (l : CoreLink) (ls : List CoreLink) (st : CoreState) (y : CoreLink-F CoreLink CoreStat CoreCase CoreExpr) → LinkAt S E (here st) y → T st → L (here st) (l ∷ ls)
      → M (go_reference (rows core) core base k l ls st y)
  reference_at core base k l ls st (layer.Strict o xs site) (may, xs_at) b all = take_at core base k (strict_of o site (Reference base k) xs ls) l st (taking o) may xs_at b all (place.further (here st) l ls all)
  reference_at core base k l ls st (layer.Lazy w taken other) at b all = (((all, b.0), b.1, b.2), tt)
  reference_at core base k l ls st (layer.Run body) at b all = (((all, b.0), b.1, b.2), tt)

  otherwise_at : (other : Option CoreExpr) (links : List CoreLink) (st : CoreState) → IfAt E (here st) other → T st → L (here st) links → M (otherwise other links st)
  otherwise_at None links st at b l = (b, l)
  otherwise_at (Some x) links st at b l = (((l, b.0), b.1, b.2), at)

  lazy_at : (taken : CoreExpr) (other : Option CoreExpr) (links : List CoreLink) (st : CoreState) (v : Value) (w : When) → E (here st) taken → IfAt E (here st) other → T st → L (here st) links → M (lazy taken other links st v w)
  lazy_at taken other links st v when.Truthy at at2 b l = either_at S E L H (truth_of v) _ _ (((l, b.0), b.1, b.2), at) (b, l)
  lazy_at taken other links st v when.Falsy at at2 b l = either_at S E L H (truth_of v) _ _ (b, l) (((l, b.0), b.1, b.2), at)
  lazy_at taken other links st v when.Choice at at2 b l = either_at S E L H (truth_of v) _ _ (((l, b.0), b.1, b.2), at) (otherwise_at other links st at2 b l)

  link_value_at : (core : Core) (c : Current Mark) (ls : List CoreLink) (st : CoreState) (y : CoreLink-F CoreLink CoreStat CoreCase CoreExpr) → LinkAt S E (here st) y → T st → L (here st) ls → M (go_value (rows core) core c ls st y)
  link_value_at core c ls st (layer.Strict o xs site) (may, xs_at) b l = parts_at core (strict_of o site c xs ls) st xs may xs_at b l
  link_value_at core c ls st (layer.Lazy w taken other) (at, at2) b l = option_at S E L H (user_at c) st _ (λ v. lazy_at taken other ls st v w at at2 b l)
  link_value_at core c ls st (layer.Run body) at b l = (((l, b.0), b.1, b.2), at)

  link_at : (core : Core) (l : CoreLink) (ls : List CoreLink) (st : CoreState) (c : Current Mark) → T st → L (here st) (l ∷ ls) → M (go_link (rows core) core l ls st c)
  link_at core l ls st (Reference base k) b all = reference_at core base k l ls st (out-CoreLink l) (place.link (here st) l ls all) b all
  link_at core l ls st (Has v) b all = link_value_at core (Has v) ls st (out-CoreLink l) (place.link (here st) l ls all) b (place.further (here st) l ls all)
  link_at core l ls st (Old base k v) b all = link_value_at core (Old base k v) ls st (out-CoreLink l) (place.link (here st) l ls all) b (place.further (here st) l ls all)
  link_at core l ls st (Method f v) b all = link_value_at core (Method f v) ls st (out-CoreLink l) (place.link (here st) l ls all) b (place.further (here st) l ls all)
  link_at core l ls st (Hosted n) b all = link_value_at core (Hosted n) ls st (out-CoreLink l) (place.link (here st) l ls all) b (place.further (here st) l ls all)

  end_at : (st : CoreState) (c : Current Mark) → T st → M (go_end st c)
  end_at st (Has v) b = (b, tt)
  end_at st (Reference base k) b = (b, tt)
  end_at st c b = tt

  links_at : (core : Core) (c : Current Mark) (ls : List CoreLink) (st : CoreState) → T st → L (here st) ls → M (go (rows core) core c ls st)
  unfolding go
  links_at core c [] st b l = end_at st c b
  links_at core c (l ∷ ls) st b all = link_at core l ls st c b all

  -- ---- statements

  case_by : (test : Option CoreExpr) (body : List CoreStat) (cs : List CoreCase) (st : CoreState) → IfAt E (here st) test → S (here st) body → Cases (here st) cs → T st → M (choose_case test body cs st)
  case_by None body cs st at at2 at3 b = (b, at2)
  case_by (Some x) body cs st at at2 at3 b = ((((at2, at3), b.0), b.1, b.2), at)

  choose_at : (cs : List CoreCase) (st : CoreState) → Cases (here st) cs → T st → M (choose cs st)
  choose_at [] st at b = (b, tt)
  choose_at (c ∷ cs) st ((at, at2), at3) b = case_by (out-CoreCase c).test (out-CoreCase c).body cs st at at2 at3 b

  bodies_at : (e : Environment) (cs : List CoreCase) → Cases e cs → S e (bodies cs)
  bodies_at e [] at = place.none e
  bodies_at e (c ∷ cs) ((at, at2), at3) = place.joined e (out-CoreCase c).body (bodies cs) at2 (bodies_at e cs at3)

  run_at : (cs : List CoreCase) (st : CoreState) → Cases (here st) cs → T st → M (run_cases cs st)
  run_at cs st at b = (((tt, b.0), b.1, b.2), bodies_at (here st) cs at)

  if_cases : (e : Environment) (is : Bool) (xs ys : List CoreCase) → Cases e xs → Cases e ys → Cases e (if is then xs else ys)
  if_cases e true xs ys at at2 = at
  if_cases e false xs ys at at2 = at2

  default_at : (e : Environment) (cs : List CoreCase) → Cases e cs → Cases e (from_default cs)
  default_at e [] at = tt
  default_at e (c ∷ cs) (at, at2) = if_cases e (is_none (out-CoreCase c).test) (c ∷ cs) (from_default cs) (at, at2) (default_at e cs at2)

  match_by : (v : Value) (all cs : List CoreCase) (st : CoreState) (next : CoreNext) (test : Option CoreExpr) → Cases (here st) all → Cases (here st) cs → IfAt E (here st) test → T st → M next → M (match_case v all cs st next test)
  match_by v all cs st next None at at2 at3 b on = on
  match_by v all cs st next (Some x) at at2 at3 b on = ((((at2, at), b.0), b.1, b.2), at3)

  match_at : (v : Value) (all cs : List CoreCase) (st : CoreState) → Cases (here st) all → Cases (here st) cs → T st → M (match_next v all cs st)
  match_at v all [] st at at2 b = run_at (from_default all) st (default_at (here st) all at) b
  match_at v all (c ∷ cs) st at ((test, body), at3) b = match_by v all (c ∷ cs) st (match_next v all cs st) (out-CoreCase c).test at ((test, body), at3) test b (match_at v all cs st at at3 b)

  matched_at : (v : Value) (cs all : List CoreCase) (st : CoreState) (w : Value) → Cases (here st) cs → Cases (here st) all → T st → M (matched v cs all st w)
  matched_at v [] all st w at at2 b = tt
  matched_at v (c ∷ cs) all st w at at2 b = either_at S E L H (same_value v w) _ _ (run_at (c ∷ cs) st at b) (match_at v all cs st at2 at.1 b)

  loop_to : (l : Loop) (st : CoreState) (test : Option CoreExpr) → LoopAt S E (here st) l → IfAt E (here st) test → T st → M (loop_by l st test)
  loop_to l st None at at2 b = (((at, b.0), b.1, b.2), at.2)
  loop_to l st (Some x) at at2 b = (((at, b.0), b.1, b.2), at2)

  loop_at : (l : Loop) (st : CoreState) → LoopAt S E (here st) l → T st → M (loop l st)
  loop_at l st at b = loop_to l st l.test at at.0 b

  update_to : (l : Loop) (st : CoreState) (update : Option CoreExpr) → LoopAt S E (here st) l → IfAt E (here st) update → T st → M (update_by l st update)
  update_to l st None at at2 b = loop_at l st at b
  update_to l st (Some x) at at2 b = (((at, b.0), b.1, b.2), at2)

  on_at : (l : Loop) (st : CoreState) → LoopAt S E (here st) l → T st → M (loop_on l st)
  on_at l st at b = update_to l st l.update at at.1 b

  stat_at : (core : Core) (x : CoreStat) (st : CoreState) (y : CoreStat-F CoreLink CoreStat CoreCase CoreExpr) → StatPlain y → StatAt S E H (here st) y → T st → M (begin_stat (rows core) x st y)
  unfolding begin_stat
  stat_at core x st (layer.Do e) is at b = (b, at)
  stat_at core x st (layer.If cases) is at b = choose_at cases st at b
  stat_at core x st (layer.Switch subject cases) is at b = (((at.1, b.0), b.1, b.2), at.0)
  stat_at core x st (layer.Loop labels test update body) is at b = loop_at (record { labels = labels; test = test; update = update; body = body }) st at b
  stat_at core x st (layer.Labelled label body) is at b = (((tt, b.0), b.1, b.2), at)
  stat_at core x st (layer.Jump goes_on label) is at b = (b, tt)
  stat_at core x st (layer.Return e) is at b = (((tt, b.0), b.1, b.2), at)
  stat_at core x st (layer.Throw e) is at b = (((tt, b.0), b.1, b.2), at)
  stat_at core x st (layer.TryCatch block parameter names handler) is at b = (((at.1, b.0), b.1, b.2), at.0)
  stat_at core x st (layer.TryFinally block last) is at b = (((at.1, b.0), b.1, b.2), at.0)
  stat_at core x st (layer.Scoped names body) is at b = absurd is
  stat_at core x st (layer.Yield v kind result) is at b = absurd at

  list_at : (core : Core) (xs : List CoreStat) (st : CoreState) → ListPlain xs → S (here st) xs → T st → M (run_stats (rows core) xs st)
  list_at core [] st is at b = (b, tt)
  list_at core (x ∷ xs) st is at b = stat_at core x _ (out-CoreStat x) is (place.stat (here st) x xs at) ((place.rest (here st) x xs at, b.0), b.1, b.2)

  -- ---- generators, namespaces and turns

  generator_at : (gs : List Generator) (n : ℕ) (st : CoreState) (f : Generator → CoreNext) → AllGenerators S E L H gs → ((g : Generator) → GeneratorAt S E L H g → M (f g)) → M (with_option (slice_get gs n) st f)
  generator_at [] n st f all h = tt
  generator_at (g ∷ gs) zero st f (at, all) h = h g at
  generator_at (g ∷ gs) (suc n) st f (at, all) h = generator_at gs n st f all h

  set_to : (n : ℕ) (g : Generator) (st : CoreState) → GeneratorAt S E L H g → T st → T (with_generator n g st)
  set_to n g st at b = (b.0, b.1, generator_set S E L H st.store.generators n g at b.2)

  completed_at : (kind : Resumption) (v : Value) (st : CoreState) → T st → M (completed kind v st)
  completed_at resumption.Next v st b = (b, tt)
  completed_at resumption.Return v st b = (b, tt)
  completed_at resumption.Throw v st b = (b, tt)

  continues_at : (n : ℕ) (k : Context Mark Own CoreWork) (kind : Resumption) (v : Value) (st : CoreState) → FramesAt S E L H k.environment k.frames → T st → M (continues n k kind v st)
  continues_at n k kind v st at b = ((at, ((tt, b.0), b.1), generator_set S E L H st.store.generators n Executing tt b.2), tt)

  start_at : (n : ℕ) (k : Context Mark Own CoreWork) (kind : Resumption) (v : Value) (st : CoreState) → FramesAt S E L H k.environment k.frames → T st → M (from_start n k kind v st)
  start_at n k resumption.Next v st at b = continues_at n k resumption.Next v st at b
  start_at n k resumption.Return v st at b = completed_at resumption.Return v (with_generator n Completed st) (set_to n Completed st tt b)
  start_at n k resumption.Throw v st at b = completed_at resumption.Throw v (with_generator n Completed st) (set_to n Completed st tt b)

  resume_at : (n : ℕ) (kind : Resumption) (v : Value) (st : CoreState) (g : Generator) → GeneratorAt S E L H g → T st → M (resume_by n kind v st g)
  resume_at n kind v st (AtStart k) at b = start_at n k kind v st at b
  resume_at n kind v st (AtYield k) at b = continues_at n k kind v st at b
  resume_at n kind v st Executing at b = (b, tt)
  resume_at n kind v st Completed at b = completed_at kind v st b

  resume_to : (kind : Resumption) (v : Value) (st : CoreState) (k : Class) → T st → M (resume_class kind v st k)
  resume_to kind v st (class.Generator n) b = generator_at st.store.generators n st (resume_by n kind v st) b.2 (λ g at. resume_at n kind v st g at b)
  resume_to kind v st k b = (b, tt)

  resumes_at : (kind : Resumption) (receiver v : Value) (st : CoreState) → T st → M (resume kind receiver v st)
  resumes_at kind (value.Object id) v st b = resume_to kind v st (object_at st.heap id).class b
  resumes_at kind receiver v st b = (b, tt)

  export_at : (presence : Bool) (st : CoreState) (x : Option Exported) → T st → M (read_export presence st x)
  export_at true st x b = (b, tt)
  export_at false st None b = (b, tt)
  export_at false st (Some x) b = (b, tt)

  turned_at : (core : Core) (site : Option Site) (c : BuiltinCall) (st : CoreState) (a : BuiltinStep) → T st → M (after_turn (rows core) site c st a)
  turned_at core site c st answer.Running b = (b, tt)
  turned_at core site c st (answer.CallOut f receiver args) b = (((tt, b.0), b.1, b.2), tt)
  turned_at core site c st (answer.ReadOut id k) b = export_at _ _ (export_in _ k) ((tt, b.0), b.1, b.2)
  turned_at core site c st (answer.Resume kind) b = resumes_at kind _ _ st b
  turned_at core site c st (answer.Done v) b = (b, tt)
  turned_at core site c st (answer.Throws e) b = (b, tt)
  turned_at core site c st (answer.Leaves x) b = tt
  turned_at core site c st a b = tt

  -- ---- calls that enter no closure

  class_to : (core : Core) (c : Call) (st : CoreState) (k : Class) → IsNoClosure k → T st → M (call_class (rows core) core c st k)
  unfolding call_class
  class_to core c st (class.Function n) is b = absurd is
  class_to core c st (class.Builtin n) is b = (b, tt)
  class_to core c st (class.Host n) is b = host_at S E L H n _ st (to_prims c.args) b
  class_to core c st k is b = (b, tt)

  call_to : (core : Core) (c : Call) (st : CoreState) (v : Value) → CallsNoClosure st.heap v → T st → M (call_value (rows core) core c st v)
  call_to core c st (value.Object id) is b = class_to core c st (object_at st.heap id).class is b
  call_to core c st v is b = (b, tt)

  -- ---- what is given to a frame

  keyed_at : (base : Value) (links : List CoreLink) (st : CoreState) (v : Value) → T st → L (here st) links → M (keyed base links st v)
  keyed_at base links st (value.Text us) b l = (b, l)
  keyed_at base links st v b l = tt

  result_at : (r : Result ℤ Exit) (st : CoreState) (f : ℤ → CoreNext) → ((n : ℤ) → M (f n)) → M (with_result r st f)
  result_at (Ok n) st f h = h n
  result_at (Err x) st f h = tt

  step_value_at : (u : Update) (v : Value) (st : CoreState) (f : Value → Value → CoreNext) → ((a c : Value) → M (f a c)) → M (with_step u v st f)
  step_value_at u (value.Number n) st f h = result_at (stepped u n) st _ (λ m. h _ _)
  step_value_at u v st f h = tt

  making_at : (f : Value) (args : List Value) (target : Value) (st : CoreState) (v : Value) → T st → M (making f args target st v)
  making_at f args target st (value.Object proto) b = (((tt, b.0), b.1, b.2), tt)
  making_at f args target st v b = tt

  whole_at : (list : CoreList) (links : List CoreLink) (st : CoreState) → T st → L (here st) links → M (whole list links st)
  whole_at (OfArray id) links st b l = (b, l)
  whole_at (OfArguments vs) links st b l = (b, l)

  spread_to : (list : CoreList) (it : Value) (links : List CoreLink) (st : CoreState) (v : Value) → T st → L (here st) links → M (spread_stepped list it links st v)
  spread_to list it links st (value.Object r) b l = (((l, b.0), b.1, b.2), tt)
  spread_to list it links st v b l = whole_at list links st b l

  spread_on : (list : CoreList) (it : Value) (links : List CoreLink) (st : CoreState) (v : Value) → T st → L (here st) links → M (spread_value list it links st v)
  spread_on (OfArray id) it links st v b l = (((l, b.0), b.1, b.2), tt)
  spread_on (OfArguments vs) it links st v b l = (((l, b.0), b.1, b.2), tt)

  this_at : (st : CoreState) (o : Option Value) → T st → M (own_this st o)
  this_at st None b = (b, tt)
  this_at st (Some v) b = (b, tt)

  derived_at : (n : ℕ) (st : CoreState) (v : Value) → T st → M (derived_given n st v)
  derived_at n st (value.Object id) b = (b, tt)
  derived_at n st value.Undefined b = this_at st (slice_index_or st.store.this_values n None) b
  derived_at n st v b = (b, tt)

  class_given : (core : Core) (f : FunctionId) (heritage : Value) (parent : ObjId) (above : Option ObjId) (links : List CoreLink) (st : CoreState) → T st → L (here st) links → M (make_class core f heritage parent above links st)
  class_given core f heritage parent above links st b l = option_at S E L H (function_at core f) st _ (λ function. (b, l))

  heritage_to : (core : Core) (f : FunctionId) (heritage : Value) (links : List CoreLink) (st : CoreState) (v : Value) → T st → L (here st) links → M (heritage_given core f heritage links st v)
  heritage_to core f (value.Object parent) links st (value.Object above) b l = class_given core f (value.Object parent) parent (Some above) links st b l
  heritage_to core f (value.Object parent) links st value.Null b l = class_given core f (value.Object parent) parent None links st b l
  heritage_to core f heritage links st v b l = tt

  generator_to : (stats : List CoreStat) (st : CoreState) (v : Value) → S (here st) stats → T st → M (generator_made stats st v)
  generator_to stats st (value.Object proto) at b = ((b.0, b.1, generator_more S E L H st.store.generators _ (at, tt) b.2), tt)
  generator_to stats st v at b = tt

  resumed_at : (n : ℕ) (st : CoreState) (c : Completion Mark) → T st → M (resumed n st c)
  resumed_at n st (Gives (User v)) b = (set_to n Completed st tt b, tt)
  resumed_at n st c b = (set_to n Completed st tt b, tt)

  arrives_at : (links : List CoreLink) (st : CoreState) (kind : Resumption) (v : Value) → T st → L (here st) links → M (arrives links st kind v)
  arrives_at links st resumption.Next v b l = (b, l)
  arrives_at links st resumption.Return v b l = (b, tt)
  arrives_at links st resumption.Throw v b l = (b, tt)

  with_resumed_at : (v : CoreValue Mark) (st : CoreState) (f : Resumption → Value → CoreNext) → ((kind : Resumption) (w : Value) → M (f kind w)) → M (with_resumed v st f)
  with_resumed_at (Extra (Resumed kind w)) st f h = h kind w
  with_resumed_at v st f h = tt

  delegate_to : (it : Value) (kind : Resumption) (v : Value) (links : List CoreLink) (st : CoreState) (r : Value) → T st → L (here st) links → M (delegate_turned it kind v links st r)
  delegate_to it kind v links st (value.Object r) b l = (((l, b.0), b.1, b.2), tt)
  delegate_to it kind v links st r b l = (b, tt)

  delegate_on : (it : Value) (kind : Resumption) (r : Value) (links : List CoreLink) (st : CoreState) (v : Value) → T st → L (here st) links → M (delegate_done it kind r links st v)
  delegate_on it kind r links st v b l = either_at S E L H (truth_of v) _ _ (((l, b.0), b.1, b.2), tt) (yields_at S E L H (Work (Delegates it links)) false r st refl l b)

  delegate_end : (kind : Resumption) (links : List CoreLink) (st : CoreState) (v : Value) → T st → L (here st) links → M (delegate_value kind links st v)
  delegate_end resumption.Return links st v b l = (b, tt)
  delegate_end resumption.Next links st v b l = (b, l)
  delegate_end resumption.Throw links st v b l = (b, l)

  work_to : (core : Core) (st : CoreState) (v : CoreValue Mark) (w : CoreWork) → WorkAt S L (here st) w → T st → M (work_given core st v w)
  unfolding work_given
  work_to core st v (SpreadStart list links) l b = value_at S E L H v st _ (λ it. (((l, b.0), b.1, b.2), tt))
  work_to core st v (SpreadStep list it links) l b = value_at S E L H v st _ (λ w. spread_to list it links st w b l)
  work_to core st v (SpreadValue list it links) l b = value_at S E L H v st _ (λ w. spread_on list it links st w b l)
  work_to core st v (Derived n) l b = value_at S E L H v st _ (λ w. derived_at n st w b)
  work_to core st v (Heritage f heritage links) l b = value_at S E L H v st _ (λ w. heritage_to core f heritage links st w b l)
  work_to core st v (Prototype stats) l b = value_at S E L H v st _ (λ w. generator_to stats st w l b)
  work_to core st v (PrototypeFor links) l b = absurd l
  work_to core st v (Resumes n) l b = resumed_at n st (Gives v) b
  work_to core st v (Starts stats) l b = (b, l)
  work_to core st v (YieldsIn links) l b = with_resumed_at v st _ (λ kind w. arrives_at links st kind w b l)
  work_to core st v (Delegates it links) l b = with_resumed_at v st _ (λ kind w. (((l, b.0), b.1, b.2), tt))
  work_to core st v (DelegateStart links) l b = value_at S E L H v st _ (λ it. (((l, b.0), b.1, b.2), tt))
  work_to core st v (DelegateTurn it kind w links) l b = value_at S E L H v st _ (λ r. delegate_to it kind w links st r b l)
  work_to core st v (DelegateDone it kind w links) l b = value_at S E L H v st _ (λ r. delegate_on it kind w links st r b l)
  work_to core st v (DelegateValue kind links) l b = value_at S E L H v st _ (λ w. delegate_end kind links st w b l)
  work_to core st v (YieldValue kind result) l b = absurd l
  work_to core st v (YieldsAt kind result) l b = absurd l
  work_to core st v (Steps f e) l b = absurd l
  work_to core st v w l b = tt

  given_at : (core : Core) (v : CoreValue Mark) (st : CoreState) (f : Frame Mark CoreWork) → FrameAt S E L H (here st) f → T st → M (given (rows core) core v st f)
  unfolding given
  given_at core v st (Part p) (may, xs, l) b = parts_at core (record p { values = p.values ++ v ∷ [] }) st p.parts may xs b l
  given_at core v st (Fetch base k p) (may, xs, l) b = value_at S E L H v st _ (λ w. parts_at core (record p { current = fetched base k p.op w }) st p.parts may xs b l)
  given_at core v st (After links) l b = (b, l)
  given_at core v st (Behind w links) l b = (b, l)
  given_at core v st (Keyed base links) l b = value_at S E L H v st _ (λ w. keyed_at base links st w b l)
  given_at core v st (Store base k links) l b = value_at S E L H v st _ (λ w. (((l, b.0), b.1, b.2), tt))
  given_at core v st (StepAt u base k links) l b = value_at S E L H v st _ (λ w. step_value_at u w st _ (λ n r. (((l, b.0), b.1, b.2), tt)))
  given_at core v st (StepName u x links) l b = absurd l
  given_at core v st (Operation site c) l b = value_at S E L H v st _ (λ w. (b, tt))
  given_at core v st (Making f args new) l b = value_at S E L H v st _ (λ w. making_at f args new st w b)
  given_at core v st (Made o) l b = value_at S E L H v st _ (λ w. (b, tt))
  given_at core v st (Rest xs) l b = (b, l)
  given_at core v st (Choice body cases) l b = value_at S E L H v st _ (λ w. either_at S E L H (truth_of w) _ _ (b, l.0) (choose_at cases st l.1 b))
  given_at core v st (Subject cases) l b = value_at S E L H v st _ (λ w. match_at w cases cases st l l b)
  given_at core v st (Matching w cases all) l b = value_at S E L H v st _ (λ x. matched_at w cases all st x l.0 l.1 b)
  given_at core v st (LoopTest x) l b = value_at S E L H v st _ (λ w. either_at S E L H (truth_of w) _ _ (((l, b.0), b.1, b.2), l.2) (b, tt))
  given_at core v st (LoopUpdate x) l b = loop_at x st l b
  given_at core v st Returning l b = (b, tt)
  given_at core v st Throwing l b = value_at S E L H v st _ (λ w. (b, tt))
  given_at core v st (Work w) l b = work_to core st v w l b
  given_at core v st f l b = tt

  -- ---- the end of statements, and what ends them early

  work_end : (st : CoreState) (w : CoreWork) → WorkAt S L (here st) w → T st → M (work_done st w)
  work_end st (Instantiates stats) l b = (((l, b.0), b.1, b.2), tt)
  work_end st w l b = tt

  done_at : (core : Core) (st : CoreState) (f : Frame Mark CoreWork) → FrameAt S E L H (here st) f → FramesAt S E L H (below_frame (here st) f) st.context.frames → AllContexts S E L H st.callers → AllGenerators S E L H st.store.generators
      → M (done (rows core) st f)
  unfolding done
  done_at core st (After links) l b k g = ((b, k, g), l)
  done_at core st (Rest xs) l b k g = ((b, k, g), l)
  done_at core st (LoopBody x) l b k g = on_at x st l (b, k, g)
  done_at core st (Target label) l b k g = ((b, k, g), tt)
  done_at core st (Catching x names handler) l b k g = ((b, k, g), tt)
  done_at core st (Finishing last) l b k g = (((tt, b), k, g), l)
  done_at core st (Pending w) l b k g = ((b, k, g), tt)
  done_at core st (Restore e) l b k g = ((b, k, g), tt)
  done_at core st (Work w) l b k g = work_end st w l (b, k, g)
  done_at core st f l b k g = tt

  thrown_at : (site : Option Site) (c : BuiltinCall) (v : Value) (st : CoreState) → T st → M (thrown_out site c v st)
  thrown_at site c v st b = either_at S E L H (drops_throw c) _ _ (b, tt) (b, tt)

  jumped_at : (l : Loop) (st : CoreState) (goes_on : Bool) (label : Option Label) → LoopAt S E (here st) l → T st → M (loop_jumped l st goes_on label)
  jumped_at l st goes_on label at b = either_at S E L H (not (is_for l.labels label)) _ _ (b, tt) (either_at S E L H goes_on _ _ (on_at l st at b) (b, tt))

  target_to : (t : Option Label) (st : CoreState) (goes_on : Bool) (label : Option Label) → T st → M (target_jumped t st goes_on label)
  target_to t st goes_on label b = either_at S E L H (not goes_on && at_target t label) _ _ (b, tt) (b, tt)

  work_out : (core : Core) (st : CoreState) (c : Completion Mark) (w : CoreWork) → WorkAt S L (here st) w → T st → M (work_abrupt st c w)
  work_out core st c (Resumes n) l b = resumed_at n st c b
  work_out core st c (Stepping f e) l b = absurd l
  work_out core st c w l b = (b, tt)

  work_thrown : (core : Core) (st : CoreState) (v : Value) (w : CoreWork) → WorkAt S L (here st) w → T st → M (work_row core w (Throws v) st)
  work_thrown core st v w l b = work_out core st (Throws v) w l b

  -- a throw that no handler takes here
  throws_at : (core : Core) (st : CoreState) (v : Value) (f : Frame Mark CoreWork) → (HandPlain (Throws v) (f ∷ st.context.frames) st.callers) → FrameAt S E L H (here st) f → FramesAt S E L H (below_frame (here st) f) st.context.frames
      → AllContexts S E L H st.callers → AllGenerators S E L H st.store.generators → M (abrupt (rows core) st f (Throws v))
  unfolding abrupt
  throws_at core st v (Operation site c) is l b k g = thrown_at site c v st (b, k, g)
  throws_at core st v (Catching x names handler) is l b k g = absurd is
  throws_at core st v (Finishing last) is l b k g = (((tt, b), k, g), l)
  throws_at core st v (Restore e) is l b k g = ((b, k, g), tt)
  throws_at core st v (Work w) is l b k g = work_out core st (Throws v) w l (b, k, g)
  throws_at core st v f is l b k g = ((b, k, g), tt)

  returns_at : (core : Core) (st : CoreState) (v : CoreValue Mark) (f : Frame Mark CoreWork) → FrameAt S E L H (here st) f → FramesAt S E L H (below_frame (here st) f) st.context.frames
      → AllContexts S E L H st.callers → AllGenerators S E L H st.store.generators → M (abrupt (rows core) st f (Returns v))
  unfolding abrupt
  returns_at core st v (Finishing last) l b k g = (((tt, b), k, g), l)
  returns_at core st v (Restore e) l b k g = ((b, k, g), tt)
  returns_at core st v (Work w) l b k g = work_out core st (Returns v) w l (b, k, g)
  returns_at core st v f l b k g = ((b, k, g), tt)

  jumps_at : (core : Core) (st : CoreState) (goes_on : Bool) (label : Option Label) (f : Frame Mark CoreWork) → FrameAt S E L H (here st) f → FramesAt S E L H (below_frame (here st) f) st.context.frames
      → AllContexts S E L H st.callers → AllGenerators S E L H st.store.generators → M (abrupt (rows core) st f (Jumps goes_on label))
  unfolding abrupt
  jumps_at core st goes_on label (LoopBody x) l b k g = jumped_at x st goes_on label l (b, k, g)
  jumps_at core st goes_on label (Target t) l b k g = target_to t st goes_on label (b, k, g)
  jumps_at core st goes_on label (Finishing last) l b k g = (((tt, b), k, g), l)
  jumps_at core st goes_on label (Restore e) l b k g = ((b, k, g), tt)
  jumps_at core st goes_on label (Work w) l b k g = work_out core st (Jumps goes_on label) w l (b, k, g)
  jumps_at core st goes_on label f l b k g = ((b, k, g), tt)

  -- a value, but at the end of a scope
  gives_at : (core : Core) (st : CoreState) (v : CoreValue Mark) (f : Frame Mark CoreWork) → FrameAt S E L H (here st) f → FramesAt S E L H (below_frame (here st) f) st.context.frames
      → AllContexts S E L H st.callers → AllGenerators S E L H st.store.generators → M (given (rows core) core v st f)
  unfolding given
  gives_at core st v (Restore e) l b k g = tt
  gives_at core st v f l b k g = given_at core v st f l (b, k, g)

  handed_at : (core : Core) (st : CoreState) (c : Completion Mark) (f : Frame Mark CoreWork) → HandPlain c (f ∷ st.context.frames) st.callers → FrameAt S E L H (here st) f → FramesAt S E L H (below_frame (here st) f) st.context.frames
      → AllContexts S E L H st.callers → AllGenerators S E L H st.store.generators → M (handed (rows core) core f st c)
  handed_at core st (Gives v) f is l b k g = gives_at core st v f l b k g
  handed_at core st Done f is l b k g = done_at core st f l b k g
  handed_at core st (Throws v) f is l b k g = throws_at core st v f is l b k g
  handed_at core st (Returns v) f is l b k g = returns_at core st v f l b k g
  handed_at core st (Jumps goes_on label) f is l b k g = jumps_at core st goes_on label f l b k g

  ends_at : (st : CoreState) (c : Completion Mark) → HandPlain c [] [] → M (outermost st c)
  ends_at st (Throws v) is = tt
  ends_at st Done is = absurd is
  ends_at st (Returns v) is = tt
  ends_at st (Jumps goes_on label) is = tt
  ends_at st (Gives v) is = tt

  result_to : (st : CoreState) (c : Completion Mark) → T st → M (result_of st c)
  result_to st (Returns v) b = (b, tt)
  result_to st (Throws v) b = (b, tt)
  result_to st (Jumps goes_on label) b = tt
  result_to st (Gives v) b = (b, tt)
  result_to st Done b = (b, tt)

  returned_at : (st : CoreState) (c : Completion Mark) (ks : List (Context Mark Own CoreWork)) → HandPlain c [] ks → AllContexts S E L H ks → AllGenerators S E L H st.store.generators → M (returned st c ks)
  returned_at st c [] is k g = ends_at st c is
  returned_at st c (x ∷ ks) is (at, k) g = result_to (record st { context = x; callers = ks }) c (at, k, g)

  hand_at : (core : Core) (e : Environment) (st : CoreState) (c : Completion Mark) (fs : List (Frame Mark CoreWork)) → HandPlain c fs st.callers → FramesAt S E L H (here st) fs → AllContexts S E L H st.callers → AllGenerators S E L H st.store.generators
      → M (hand (rows core) core st c fs)
  unfolding hand
  hand_at core e st c [] is at k g = returned_at st c st.callers is k g
  hand_at core e st c (f ∷ fs) is (at, below) k g = handed_at core (with_frames fs st) c f is at below k g

  -- ---- a step

  control_at : (core : Core) (st : CoreState) (c : Control Mark) → MakesNoRecord st c → T st → ControlAt S E L (here st) c → M (step_by (rows core) core st c)
  unfolding turn
  control_at core st (Begin x) is b at = heads_at S E L H core (out-CoreExpr x).head (out-CoreExpr x).links st (place.head (here st) x at) is b (place.links (here st) x at)
  control_at core st (Go c links) is b at = links_at core c links st b at
  control_at core st (Run xs) is b at = list_at core xs st is at b
  control_at core st (Turn site c) is b at =
      let r = step_operation Sixth st.heap c in
      turned_at core site r.call (with_heap r.heap st) r.step b
  control_at core st (Calls c) is b at = call_to core c st c.function is b
  control_at core st (Hand c) is b at = hand_at core (here st) st c st.context.frames is b.0 b.1 b.2

  pub steps_stay : (core : Core) (s : Config) → MakesNoRecord s.state s.control → Everywhere S E L H s → M (core_step core s)
  unfolding step
  steps_stay core s is (b, at) = control_at core s.state s.control is b at
