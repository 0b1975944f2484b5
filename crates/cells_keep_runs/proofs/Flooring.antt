-- A step leaves code where it may stand: links, statements, generators, and what is given to frames.
use Rattle.std.proofs.Common.{◌≡◌, ℕ, zero, suc, Bool, true, false, List, [], ◌∷◌, ◌++◌, Option, None, Some, slice_get, refl}
use Rattle.std.specs.Prelude.{if◌then◌else◌, ℤ, Result, Ok, Err, is_none, slice_index_or, slice_set}
use Rattle.es_value.specs.declared.arithmetic.Exit.{Exit}
use Rattle.es_outside.specs.declared.events.Site.{Site}
use Rattle.es_value.specs.Equality.{same_value}
use Rattle.es_value.specs.declared.value.Value.{Value}
use Rattle.es_value.specs.declared.value.Value.TheVariants as value
use Rattle.es_heap.specs.Heaps.{object_at}
use Rattle.es_heap.specs.declared.class.Class.{Class}
use Rattle.es_heap.specs.declared.class.Class.TheVariants as class
use Rattle.es_heap.specs.declared.key.Key.{Key}
use Rattle.es_operators.specs.Primitives.{truth_of}
use Rattle.es_calls.specs.declared.call.BuiltinCall.{BuiltinCall}
use Rattle.es_calls.specs.declared.call.BuiltinStep.{BuiltinStep}
use Rattle.es_calls.specs.declared.call.BuiltinStep.TheVariants as answer
use Rattle.es_calls.specs.declared.call.Resumption.{Resumption}
use Rattle.es_calls.specs.declared.call.Resumption.TheVariants as resumption
use Rattle.core_ast.specs.declared.parts.CoreOp.{CoreOp}
use Rattle.core_ast.specs.declared.parts.CoreOp.TheVariants as op
use Rattle.core_ast.specs.declared.parts.FunctionId.{FunctionId}
use Rattle.core_ast.specs.declared.parts.Primitive.{Primitive}
use Rattle.core_ast.specs.declared.parts.Primitive.TheVariants as primitive
use Rattle.core_ast.specs.declared.parts.Update.{Update}
use Rattle.core_ast.specs.declared.parts.When.{When}
use Rattle.core_ast.specs.declared.parts.When.TheVariants as when
use Rattle.core_ast.specs.declared.tree.CoreCase.{CoreCase, out-CoreCase}
use Rattle.core_ast.specs.declared.tree.CoreExpr.{CoreExpr}
use Rattle.core_ast.specs.declared.tree.CoreLink.{CoreLink, out-CoreLink}
use Rattle.core_ast.specs.declared.tree.CoreLink.TheOpen as layer
use Rattle.core_ast.specs.declared.tree.CoreLink.TheOpen.{CoreLink-F, CoreStat-F}
use Rattle.core_ast.specs.declared.tree.CoreStat.{CoreStat}
use Rattle.core_ast.specs.declared.whole.Core.{Core}
use Rattle.core_state.specs.Bodies.{bodies}
use Rattle.core_meaning.specs.Calls.{making}
use Rattle.core_meaning.specs.Classes.{derived_given, heritage_given, own_this}
use Rattle.core_meaning.specs.Expressions.{stepped, user_at, with_result, with_step}
use Rattle.core_meaning.specs.Functions.{whole}
use Rattle.core_meaning.specs.Generators.{arrives, completed, continues, delegate_done, delegate_turned, delegate_value, from_start, generator_made, resume, resume_by, resume_class, resumed, saved_with, with_generator, with_resumed}
use Rattle.core_meaning.specs.Iteration.{spread_stepped, spread_value}
use Rattle.core_meaning.specs.Marks.{AtStart, AtYield, Completed, CoreList, CoreNext, CoreState, CoreStrict, CoreWork, DelegateDone, DelegateStart, DelegateTurn, DelegateValue, Delegates, Derived, Executing, Exported, Generator, Heritage, Mark, OfArguments, OfArray, Own, Prototype, PrototypeFor, Resumed, Resumes, SpreadStart, SpreadStep, SpreadValue, Starts, Steps, YieldValue, YieldsAt, YieldsIn}
use Rattle.core_meaning.specs.Modules.{export_in, read_export, rows, work_given}
use Rattle.core_meaning.specs.Rows.{pushed, with_option}
use Rattle.core_meaning.specs.State.{After, Behind, Choice, Completion, Context, CoreValue, Current, Done, Environment, Extra, Fetch, Frame, Gives, Has, Hosted, Jumps, Keyed, Loop, LoopTest, LoopUpdate, Made, Making, Matching, Method, Old, Operation, Part, Reference, Rest, Returning, Returns, StepAt, StepName, Store, Subject, Throwing, Throws, User, Work}
use Rattle.core_meaning.specs.Statements.{begin_stat, choose, choose_case, from_default, loop, loop_by, loop_on, match_case, match_next, matched, run_cases, update_by}
use Rattle.core_meaning.specs.Step.{AsPlace, AsValue, Taking, WithValue, after_turn, fetched, given, go, go_end, go_link, go_reference, go_value, keyed, lazy, otherwise, parts_by, strict_of, take, taking}
use Rattle.cells_keep_runs.specs.Floors.{AllOf, CaseAt, CurrentFits, Fetches, Fits, FrameAt, GeneratorAt, HandAt, Holds, LinkAt, ListFits, LoopAt, NotHeld, OpAt, PartOp, Perhaps, Placed, Saved, Standing, StatAt, Stored, ToHold, ToMake, ToUse, Wanted, WorkAt, floor_of, part_wanted, under, wanted_by, wanted_in}
use Rattle.cells_keep_runs.specs.Placing.{StatPlain}
use Rattle.cells_keep_runs.proofs.Floored.{Acting, LastAt, Links, MayAct, N, St, acts_at, all_more, all_set, along, class_at, either_at, fits_held, held_fits, last_fits, option_at, value_at, yields_at}

module _ (core : Core) (K : Standing) (place : Placed core K) where
  abbrev T : CoreState → Type 0
  T = St core K

  abbrev M : CoreNext → Type 0
  M = N core K

  abbrev L : CoreState → List CoreLink → Type 0
  L = Links core K

  abbrev here : CoreState → Environment
  here st = st.context.environment

  abbrev wanted : CoreState → Wanted
  wanted st = (floor_of st.context.frames).wanted

  abbrev own : CoreState → Bool
  own st = (floor_of st.context.frames).own

  abbrev in_scope : CoreState → Bool
  in_scope st = (floor_of st.context.frames).in_scope

  -- no value is given here that a name takes
  abbrev Free : CoreState → Type 0
  Free st = NotHeld (wanted st)

  abbrev Cases : Environment → Bool → List CoreCase → Type 0
  Cases e b cs = AllOf (CaseAt K e b) cs

  -- ---- operations with parts

  part_op : (o : CoreOp) (x : CoreExpr) (xs : List CoreExpr) → OpAt K o (x ∷ xs) → PartOp o
  part_op (op.Set y) x xs (none, fixed) = cc
  part_op (op.Init y) x xs none = cc
  part_op o x xs at = at

  op_at : (o : CoreOp) (xs : List CoreExpr) → PartOp o → OpAt K o xs
  op_at (op.Set y) xs at = absurd at
  op_at (op.Init y) xs at = absurd at
  op_at o xs at = at

  may_act : (o : CoreOp) (xs : List CoreExpr) → OpAt K o xs → MayAct core K o
  may_act (op.Set y) xs at = at.1
  may_act (op.Init y) xs at = tt
  may_act o xs at = at

  last_primitive : (e : Environment) (q : Primitive) (vs : List (CoreValue Mark)) (v : CoreValue Mark) (w : Wanted) → Fits K.unmade e (part_wanted (op.Primitive q) w) v → LastAt core K e (op.Primitive q) w (vs ++ v ∷ [])
  last_primitive e primitive.ClassMake vs v w at = last_fits core K e ToMake vs v at
  last_primitive e q vs v w at = tt

  last_at : (e : Environment) (o : CoreOp) (w : Wanted) (vs : List (CoreValue Mark)) (v : CoreValue Mark) → Fits K.unmade e (part_wanted o w) v → LastAt core K e o w (vs ++ v ∷ [])
  last_at e op.Then w vs v at = last_fits core K e w vs v at
  last_at e (op.Primitive q) w vs v at = last_primitive e q vs v w at
  last_at e o w vs v at = tt

  none_primitive : (e : Environment) (q : Primitive) (w : Wanted) → LastAt core K e (op.Primitive q) w []
  none_primitive e primitive.ClassMake w = tt
  none_primitive e q w = tt

  none_last : (e : Environment) (o : CoreOp) (w : Wanted) → LastAt core K e o w []
  none_last e op.Then w = tt
  none_last e (op.Primitive q) w = none_primitive e q w
  none_last e o w = tt

  fetch_last : (e : Environment) (o : CoreOp) (w : Wanted) (vs : List (CoreValue Mark)) → Fetches o → LastAt core K e o w vs
  fetch_last e op.Call w vs at = tt
  fetch_last e (op.Update u) w vs at = tt
  fetch_last e (op.Step u) w vs at = tt
  fetch_last e o w vs at = absurd at

  fetch_op : (o : CoreOp) → Fetches o → PartOp o
  fetch_op op.Call at = tt
  fetch_op (op.Update u) at = tt
  fetch_op (op.Step u) at = tt
  fetch_op o at = absurd at

  fetch_fits : (e : Environment) (w : Wanted) (base : Value) (k : Key) (o : CoreOp) (v : Value) → CurrentFits K.unmade e w (fetched base k o v)
  fetch_fits e w base k op.Call v = tt
  fetch_fits e w base k o v = tt

  -- the parts that are left
  abbrev Parts : CoreState → CoreStrict → List CoreExpr → Type 0
  Parts st p xs = AllOf (K.expr (here st) (part_wanted p.op (along core K st p.links)) false) xs

  abbrev CurrentAt : CoreState → CoreStrict → Type 0
  CurrentAt st p = CurrentFits K.unmade (here st) (wanted_by p.op (along core K st p.links)) p.current

  parts_at : (p : CoreStrict) (st : CoreState) (xs : List CoreExpr) → OpAt K p.op xs → Parts st p xs → CurrentAt st p → LastAt core K (here st) p.op (along core K st p.links) p.values → T st → L st p.links
      → M (parts_by (rows core) core p st xs)
  parts_at p st [] may xs_at fits last b l =
      let a : Acting core K st p p.op = (may_act p.op [] may, fits, last) in
      acts_at core K (place.uncelled, place.made) p st p.op a a b l
  parts_at p st (x ∷ xs) may xs_at fits last b l = ((((part_op p.op x xs may, (xs_at.1, l), fits), b.0), b.1, b.2), xs_at.0)

  -- ---- links

  fetching : (o : CoreOp) → taking o ≡ WithValue → Fetches o
  fetching op.Call is = tt
  fetching (op.Update u) is = tt
  fetching (op.Step u) is = tt
  fetching op.Put is = cc
  fetching op.Delete is = cc
  fetching o is = cc

  take_at : (base : Value) (k : Key) (p : CoreStrict) (l : CoreLink) (st : CoreState) (how : Taking) → taking p.op ≡ how → OpAt K p.op p.parts → Parts st p p.parts → CurrentAt st p → LastAt core K (here st) p.op (along core K st p.links) p.values
      → T st → L st (l ∷ p.links) → L st p.links → M (take (rows core) core base k p l st how)
  take_at base k p l st AsPlace how may xs fits last b all further = parts_at p st p.parts may xs fits last b further
  take_at base k p l st WithValue how may xs fits last b all further = ((((fetching p.op how, (xs, further)), b.0), b.1, b.2), tt)
  take_at base k p l st AsValue how may xs fits last b all further = (((all, b.0), b.1, b.2), tt)

  reference_at : (base : Value) (k : Key) (l : CoreLink) (ls : List CoreLink) (st : CoreState) (y : CoreLink-F CoreLink CoreStat CoreCase CoreExpr) → LinkAt K (here st) (along core K st ls) y → T st → L st (l ∷ ls)
      → M (go_reference (rows core) core base k l ls st y)
  reference_at base k l ls st (layer.Strict o xs site) (may, xs_at) b all =
      take_at base k (strict_of o site (Reference base k) xs ls) l st (taking o) refl may xs_at tt (none_last (here st) o (along core K st ls)) b all (place.further (here st) (wanted st) l ls all)
  reference_at base k l ls st (layer.Lazy w taken other) at b all = (((all, b.0), b.1, b.2), tt)
  reference_at base k l ls st (layer.Run body) at b all = (((all, b.0), b.1, b.2), tt)

  otherwise_at : (other : Option CoreExpr) (links : List CoreLink) (st : CoreState) → Perhaps (K.expr (here st) (along core K st links) false) other → T st → L st links → M (otherwise other links st)
  otherwise_at None links st at b l = (b, (l, tt))
  otherwise_at (Some x) links st at b l = (((l, b.0), b.1, b.2), at)

  lazy_at : (taken : CoreExpr) (other : Option CoreExpr) (links : List CoreLink) (st : CoreState) (v : Value) (w : When) → K.expr (here st) (along core K st links) false taken → Perhaps (K.expr (here st) (along core K st links) false) other → T st → L st links
      → M (lazy taken other links st v w)
  lazy_at taken other links st v when.Truthy at at2 b l = either_at core K (truth_of v) _ _ (((l, b.0), b.1, b.2), at) (b, (l, tt))
  lazy_at taken other links st v when.Falsy at at2 b l = either_at core K (truth_of v) _ _ (b, (l, tt)) (((l, b.0), b.1, b.2), at)
  lazy_at taken other links st v when.Choice at at2 b l = either_at core K (truth_of v) _ _ (((l, b.0), b.1, b.2), at) (otherwise_at other links st at2 b l)

  abbrev InFits : CoreState → List CoreLink → CoreLink-F CoreLink CoreStat CoreCase CoreExpr → Current Mark → Type 0
  InFits st ls (layer.Strict o xs site) c = CurrentFits K.unmade (here st) (wanted_by o (along core K st ls)) c
  InFits st ls y c = Unit {0}

  in_fits : (st : CoreState) (ls : List CoreLink) (y : CoreLink-F CoreLink CoreStat CoreCase CoreExpr) (c : Current Mark) → CurrentFits K.unmade (here st) (wanted_in y (along core K st ls)) c → InFits st ls y c
  in_fits st ls (layer.Strict o xs site) c at = at
  in_fits st ls (layer.Lazy w taken other) c at = tt
  in_fits st ls (layer.Run body) c at = tt

  link_value_at : (c : Current Mark) (ls : List CoreLink) (st : CoreState) (y : CoreLink-F CoreLink CoreStat CoreCase CoreExpr) → LinkAt K (here st) (along core K st ls) y → InFits st ls y c → T st → L st ls → M (go_value (rows core) core c ls st y)
  link_value_at c ls st (layer.Strict o xs site) (may, xs_at) fits b l = parts_at (strict_of o site c xs ls) st xs may xs_at fits (none_last (here st) o (along core K st ls)) b l
  link_value_at c ls st (layer.Lazy w taken other) (at, at2) fits b l = option_at core K (user_at c) st _ (λ v. lazy_at taken other ls st v w at at2 b l)
  link_value_at c ls st (layer.Run body) (free, at) fits b l = (((l, b.0), b.1, b.2), (free, at))

  link_at : (l : CoreLink) (ls : List CoreLink) (st : CoreState) (c : Current Mark) → T st → L st (l ∷ ls) → CurrentFits K.unmade (here st) (along core K st (l ∷ ls)) c → M (go_link (rows core) core l ls st c)
  link_at l ls st (Reference base k) b all fits = reference_at base k l ls st (out-CoreLink l) (place.link (here st) (wanted st) l ls all) b all
  link_at l ls st (Has v) b all fits = link_value_at (Has v) ls st (out-CoreLink l) (place.link (here st) (wanted st) l ls all) (in_fits st ls (out-CoreLink l) (Has v) fits) b (place.further (here st) (wanted st) l ls all)
  link_at l ls st (Old base k v) b all fits = link_value_at (Old base k v) ls st (out-CoreLink l) (place.link (here st) (wanted st) l ls all) (in_fits st ls (out-CoreLink l) (Old base k v) tt) b (place.further (here st) (wanted st) l ls all)
  link_at l ls st (Method f v) b all fits = link_value_at (Method f v) ls st (out-CoreLink l) (place.link (here st) (wanted st) l ls all) (in_fits st ls (out-CoreLink l) (Method f v) tt) b (place.further (here st) (wanted st) l ls all)
  link_at l ls st (Hosted n) b all fits = link_value_at (Hosted n) ls st (out-CoreLink l) (place.link (here st) (wanted st) l ls all) (in_fits st ls (out-CoreLink l) (Hosted n) tt) b (place.further (here st) (wanted st) l ls all)

  end_at : (st : CoreState) (c : Current Mark) → CurrentFits K.unmade (here st) (wanted st) c → T st → M (go_end st c)
  end_at st (Has v) fits b = (b, fits)
  end_at st (Reference base k) fits b = (b, tt)
  end_at st c fits b = tt

  pub links_at : (c : Current Mark) (ls : List CoreLink) (st : CoreState) → T st → L st ls → CurrentFits K.unmade (here st) (along core K st ls) c → M (go (rows core) core c ls st)
  unfolding go
  links_at c [] st b l fits = end_at st c fits b
  links_at c (l ∷ ls) st b all fits = link_at l ls st c b all fits

  -- ---- statements

  case_by : (test : Option CoreExpr) (body : List CoreStat) (cs : List CoreCase) (st : CoreState) → Free st → Perhaps (K.expr (here st) ToUse false) test → K.stats (here st) (own st) body → Cases (here st) (own st) cs → T st
      → M (choose_case test body cs st)
  case_by None body cs st free at at2 at3 b = (b, (free, at2))
  case_by (Some x) body cs st free at at2 at3 b = ((((free, at2, at3), b.0), b.1, b.2), at)

  choose_at : (cs : List CoreCase) (st : CoreState) → Free st → Cases (here st) (own st) cs → T st → M (choose cs st)
  choose_at [] st free at b = (b, free)
  choose_at (c ∷ cs) st free ((at, at2), at3) b = case_by (out-CoreCase c).test (out-CoreCase c).body cs st free at at2 at3 b

  bodies_at : (e : Environment) (cs : List CoreCase) → Cases e false cs → K.stats e false (bodies cs)
  bodies_at e [] at = place.none e false
  bodies_at e (c ∷ cs) ((at, at2), at3) = place.joined e false (out-CoreCase c).body (bodies cs) at2 (bodies_at e cs at3)

  run_at : (cs : List CoreCase) (st : CoreState) → Free st → Cases (here st) false cs → T st → M (run_cases cs st)
  run_at cs st free at b = (((free, b.0), b.1, b.2), (tt, bodies_at (here st) cs at))

  if_cases : (e : Environment) (is : Bool) (xs ys : List CoreCase) → Cases e false xs → Cases e false ys → Cases e false (if is then xs else ys)
  if_cases e true xs ys at at2 = at
  if_cases e false xs ys at at2 = at2

  default_at : (e : Environment) (cs : List CoreCase) → Cases e false cs → Cases e false (from_default cs)
  default_at e [] at = tt
  default_at e (c ∷ cs) (at, at2) = if_cases e (is_none (out-CoreCase c).test) (c ∷ cs) (from_default cs) (at, at2) (default_at e cs at2)

  match_by : (v : Value) (all cs : List CoreCase) (st : CoreState) (next : CoreNext) (test : Option CoreExpr) → Free st → Cases (here st) false all → Cases (here st) false cs → Perhaps (K.expr (here st) ToUse false) test → T st → M next
      → M (match_case v all cs st next test)
  match_by v all cs st next None free at at2 at3 b on = on
  match_by v all cs st next (Some x) free at at2 at3 b on = ((((free, at2, at), b.0), b.1, b.2), at3)

  match_at : (v : Value) (all cs : List CoreCase) (st : CoreState) → Free st → Cases (here st) false all → Cases (here st) false cs → T st → M (match_next v all cs st)
  match_at v all [] st free at at2 b = run_at (from_default all) st free (default_at (here st) all at) b
  match_at v all (c ∷ cs) st free at ((test, body), at3) b = match_by v all (c ∷ cs) st (match_next v all cs st) (out-CoreCase c).test free at ((test, body), at3) test b (match_at v all cs st free at at3 b)

  matched_at : (v : Value) (cs all : List CoreCase) (st : CoreState) (w : Value) → Free st → Cases (here st) false cs → Cases (here st) false all → T st → M (matched v cs all st w)
  matched_at v [] all st w free at at2 b = tt
  matched_at v (c ∷ cs) all st w free at at2 b = either_at core K (same_value v w) _ _ (run_at (c ∷ cs) st free at b) (match_at v all cs st free at2 at.1 b)

  loop_to : (l : Loop) (st : CoreState) (test : Option CoreExpr) → Free st → LoopAt K (here st) (in_scope st) l → Perhaps (K.expr (here st) ToUse false) test → T st → M (loop_by l st test)
  loop_to l st None free at at2 b = ((((free, at), b.0), b.1, b.2), (tt, at.2))
  loop_to l st (Some x) free at at2 b = ((((free, at), b.0), b.1, b.2), at2)

  pub loop_at : (l : Loop) (st : CoreState) → Free st → LoopAt K (here st) (in_scope st) l → T st → M (loop l st)
  loop_at l st free at b = loop_to l st l.test free at at.0 b

  update_to : (l : Loop) (st : CoreState) (update : Option CoreExpr) → Free st → LoopAt K (here st) (in_scope st) l → Perhaps (K.expr (here st) ToUse (in_scope st)) update → T st → M (update_by l st update)
  update_to l st None free at at2 b = loop_at l st free at b
  update_to l st (Some x) free at at2 b = ((((free, at), b.0), b.1, b.2), at2)

  pub on_at : (l : Loop) (st : CoreState) → Free st → LoopAt K (here st) (in_scope st) l → T st → M (loop_on l st)
  on_at l st free at b = update_to l st l.update free at at.1 b

  -- a statement above those that stand behind it
  pub stat_at : (x : CoreStat) (xs : List CoreStat) (st : CoreState) (y : CoreStat-F CoreLink CoreStat CoreCase CoreExpr) → StatPlain y → StatAt K (here st) (own st) y → T (pushed (Rest xs) st) → M (begin_stat (rows core) x (pushed (Rest xs) st) y)
  unfolding begin_stat
  stat_at x xs st (layer.Do e) is at b = (b, at)
  stat_at x xs st (layer.If cases) is at b = choose_at cases (pushed (Rest xs) st) tt at b
  stat_at x xs st (layer.Switch subject cases) is at b = ((((tt, at.1), b.0), b.1, b.2), at.0)
  stat_at x xs st (layer.Loop labels test update body) is at b = loop_at (record { labels = labels; test = test; update = update; body = body }) (pushed (Rest xs) st) tt at b
  stat_at x xs st (layer.Labelled label body) is at b = (((tt, b.0), b.1, b.2), (tt, at))
  stat_at x xs st (layer.Jump goes_on label) is at b = (b, tt)
  stat_at x xs st (layer.Return e) is at b = (((tt, b.0), b.1, b.2), at)
  stat_at x xs st (layer.Throw e) is at b = (((tt, b.0), b.1, b.2), at)
  stat_at x xs st (layer.TryCatch block parameter names handler) is at b = ((((tt, at.1), b.0), b.1, b.2), (tt, at.0))
  stat_at x xs st (layer.TryFinally block last) is at b = ((((tt, at.1), b.0), b.1, b.2), (tt, at.0))
  stat_at x xs st (layer.Scoped names body) is at b = absurd is
  stat_at x xs st (layer.Yield v kind result) is at b = absurd at

  -- ---- generators, namespaces and turns

  generator_at : (gs : List Generator) (n : ℕ) (st : CoreState) (f : Generator → CoreNext) → AllOf (GeneratorAt K) gs → ((g : Generator) → GeneratorAt K g → M (f g)) → M (with_option (slice_get gs n) st f)
  generator_at [] n st f all h = tt
  generator_at (g ∷ gs) zero st f (at, all) h = h g at
  generator_at (g ∷ gs) (suc n) st f (at, all) h = generator_at gs n st f all h

  -- a state whose generators are others
  abbrev Others : CoreState → Environment → List Generator → Type 0
  Others st e gs = Stored K e gs st.records st.closures st.ahead

  others : (st : CoreState) (e : Environment) (gs : List Generator) → T st → K.inside e → AllOf (GeneratorAt K) gs → Others st e gs
  others st e gs b inside all = record {
    inside = inside;
    generators_at = all;
    records_fit = b.2.records_fit;
    shapes = b.2.shapes;
    closures_at = b.2.closures_at;
    ahead_at = b.2.ahead_at;
  }

  set_to : (n : ℕ) (g : Generator) (st : CoreState) → GeneratorAt K g → T st → T (with_generator n g st)
  set_to n g st at b = (b.0, b.1, others st (here st) (slice_set st.store.generators n g) b b.2.inside (all_set (GeneratorAt K) st.store.generators n g at b.2.generators_at))

  completed_at : (kind : Resumption) (v : Value) (st : CoreState) → T st → M (completed kind v st)
  completed_at resumption.Next v st b = (b, tt)
  completed_at resumption.Return v st b = (b, tt)
  completed_at resumption.Throw v st b = (b, tt)

  continues_at : (n : ℕ) (k : Context Mark Own CoreWork) (kind : Resumption) (v : Value) (st : CoreState) → Saved K k → T st → M (continues n k kind v st)
  continues_at n k kind v st (frames, free, inside) b =
      let gs : List Generator = slice_set st.store.generators n Executing in
      ((frames, (((tt, b.0), b.2.inside), b.1), others st k.environment gs b inside (all_set (GeneratorAt K) st.store.generators n Executing tt b.2.generators_at)), free)

  start_at : (n : ℕ) (k : Context Mark Own CoreWork) (kind : Resumption) (v : Value) (st : CoreState) → Saved K k → T st → M (from_start n k kind v st)
  start_at n k resumption.Next v st at b = continues_at n k resumption.Next v st at b
  start_at n k resumption.Return v st at b = completed_at resumption.Return v (with_generator n Completed st) (set_to n Completed st tt b)
  start_at n k resumption.Throw v st at b = completed_at resumption.Throw v (with_generator n Completed st) (set_to n Completed st tt b)

  resume_at : (n : ℕ) (kind : Resumption) (v : Value) (st : CoreState) (g : Generator) → GeneratorAt K g → T st → M (resume_by n kind v st g)
  resume_at n kind v st (AtStart k) at b = start_at n k kind v st at b
  resume_at n kind v st (AtYield k) at b = continues_at n k kind v st at b
  resume_at n kind v st Executing at b = (b, tt)
  resume_at n kind v st Completed at b = completed_at kind v st b

  resume_to : (kind : Resumption) (v : Value) (st : CoreState) (k : Class) → T st → M (resume_class kind v st k)
  resume_to kind v st (class.Generator n) b = generator_at st.store.generators n st (resume_by n kind v st) b.2.generators_at (λ g at. resume_at n kind v st g at b)
  resume_to kind v st k b = (b, tt)

  resumes_at : (kind : Resumption) (receiver v : Value) (st : CoreState) → T st → M (resume kind receiver v st)
  resumes_at kind (value.Object id) v st b = resume_to kind v st (object_at st.heap id).class b
  resumes_at kind receiver v st b = (b, tt)

  export_at : (presence : Bool) (st : CoreState) (x : Option Exported) → T st → M (read_export presence st x)
  export_at true st x b = (b, tt)
  export_at false st None b = (b, tt)
  export_at false st (Some x) b = (b, tt)

  pub turned_at : (site : Option Site) (c : BuiltinCall) (st : CoreState) (a : BuiltinStep) → T st → M (after_turn (rows core) site c st a)
  turned_at site c st answer.Running b = (b, tt)
  turned_at site c st (answer.CallOut f receiver args) b = (((tt, b.0), b.1, b.2), tt)
  turned_at site c st (answer.ReadOut id k) b = export_at _ _ (export_in _ k) ((tt, b.0), b.1, b.2)
  turned_at site c st (answer.Resume kind) b = resumes_at kind _ _ st b
  turned_at site c st (answer.Done v) b = (b, tt)
  turned_at site c st (answer.Throws e) b = (b, tt)
  turned_at site c st (answer.Leaves x) b = tt
  turned_at site c st a b = tt

  -- ---- what is given to a frame

  keyed_at : (base : Value) (links : List CoreLink) (st : CoreState) (v : Value) → T st → L st links → M (keyed base links st v)
  keyed_at base links st (value.Text us) b l = (b, (l, tt))
  keyed_at base links st v b l = tt

  result_at : (r : Result ℤ Exit) (st : CoreState) (f : ℤ → CoreNext) → ((n : ℤ) → M (f n)) → M (with_result r st f)
  result_at (Ok n) st f h = h n
  result_at (Err x) st f h = tt

  step_value_at : (u : Update) (v : Value) (st : CoreState) (f : Value → Value → CoreNext) → ((a c : Value) → M (f a c)) → M (with_step u v st f)
  step_value_at u (value.Number n) st f h = result_at (stepped u n) st _ (λ m. h _ _)
  step_value_at u v st f h = tt

  making_at : (f : Value) (args : List Value) (target : Value) (st : CoreState) (v : Value) → T st → M (making f args target st v)
  making_at f args target st (value.Object proto) b = (((tt, b.0), b.1, b.2), tt)
  making_at f args target st v b = tt

  abbrev Listed : CoreState → List CoreLink → CoreList → Type 0
  Listed st links list = ListFits (along core K st links) list

  whole_at : (list : CoreList) (links : List CoreLink) (st : CoreState) → Listed st links list → T st → L st links → M (whole list links st)
  whole_at (OfArray id) links st at b l = (b, (l, tt))
  whole_at (OfArguments vs) links st at b l = (b, (l, at))

  spread_to : (list : CoreList) (it : Value) (links : List CoreLink) (st : CoreState) (v : Value) → Listed st links list → T st → L st links → M (spread_stepped list it links st v)
  spread_to list it links st (value.Object r) at b l = ((((at, l), b.0), b.1, b.2), tt)
  spread_to list it links st v at b l = whole_at list links st at b l

  spread_on : (list : CoreList) (it : Value) (links : List CoreLink) (st : CoreState) (v : Value) → Listed st links list → T st → L st links → M (spread_value list it links st v)
  spread_on (OfArray id) it links st v at b l = ((((at, l), b.0), b.1, b.2), tt)
  spread_on (OfArguments vs) it links st v at b l = ((((at, l), b.0), b.1, b.2), tt)

  this_at : (st : CoreState) (o : Option Value) → T st → M (own_this st o)
  this_at st None b = (b, tt)
  this_at st (Some v) b = (b, tt)

  derived_at : (n : ℕ) (st : CoreState) (v : Value) → T st → M (derived_given n st v)
  derived_at n st (value.Object id) b = (b, tt)
  derived_at n st value.Undefined b = this_at st (slice_index_or st.store.this_values n None) b
  derived_at n st v b = (b, tt)

  heritage_to : (f : FunctionId) (heritage : Value) (links : List CoreLink) (st : CoreState) (v : Value) → K.unmade (here st) f → T st → L st links → M (heritage_given core f heritage links st v)
  heritage_to f (value.Object parent) links st (value.Object above) at b l = class_at core K (place.uncelled, place.made) f (value.Object parent) parent (Some above) links st at b l
  heritage_to f (value.Object parent) links st value.Null at b l = class_at core K (place.uncelled, place.made) f (value.Object parent) parent None links st at b l
  heritage_to f heritage links st v at b l = tt

  generator_to : (stats : List CoreStat) (st : CoreState) (v : Value) → K.stats (here st) false stats → T st → M (generator_made stats st v)
  generator_to stats st (value.Object proto) at b =
      let g : Generator = AtStart (saved_with (Work (Starts stats) ∷ []) st) in
      ((b.0, b.1, others st (here st) (st.store.generators ++ g ∷ []) b b.2.inside (all_more (GeneratorAt K) st.store.generators g b.2.generators_at (((tt, at), tt), tt, b.2.inside))), tt)
  generator_to stats st v at b = tt

  hand_held : (e : Environment) (w : Wanted) (v : CoreValue Mark) → Fits K.unmade e ToHold v → HandAt K e w (Gives v)
  hand_held e w v at = held_fits core K e w v (fits_held core K e v at)

  -- what a generator ends with
  abbrev pub Ends : Environment → Completion Mark → Type 0
  Ends e (Gives v) = Fits K.unmade e ToHold v
  Ends e (Returns v) = Holds v
  Ends e (Throws v) = Unit {0}
  Ends e (Jumps goes_on label) = Unit {0}
  Ends e Done = ⊥

  pub resumed_at : (n : ℕ) (st : CoreState) (c : Completion Mark) → Ends (here st) c → T st → M (resumed n st c)
  resumed_at n st (Gives (User v)) at b = (set_to n Completed st tt b, tt)
  resumed_at n st (Gives (Extra m)) at b = (set_to n Completed st tt b, hand_held (here st) (wanted st) (Extra m) at)
  resumed_at n st (Returns v) at b = (set_to n Completed st tt b, at)
  resumed_at n st (Throws v) at b = (set_to n Completed st tt b, tt)
  resumed_at n st (Jumps goes_on label) at b = (set_to n Completed st tt b, tt)
  resumed_at n st Done at b = absurd at

  arrives_at : (links : List CoreLink) (st : CoreState) (kind : Resumption) (v : Value) → T st → L st links → M (arrives links st kind v)
  arrives_at links st resumption.Next v b l = (b, (l, tt))
  arrives_at links st resumption.Return v b l = (b, tt)
  arrives_at links st resumption.Throw v b l = (b, tt)

  with_resumed_at : (v : CoreValue Mark) (st : CoreState) (f : Resumption → Value → CoreNext) → ((kind : Resumption) (w : Value) → M (f kind w)) → M (with_resumed v st f)
  with_resumed_at (Extra (Resumed kind w)) st f h = h kind w
  with_resumed_at v st f h = tt

  delegate_to : (it : Value) (kind : Resumption) (v : Value) (links : List CoreLink) (st : CoreState) (r : Value) → T st → L st links → M (delegate_turned it kind v links st r)
  delegate_to it kind v links st (value.Object r) b l = (((l, b.0), b.1, b.2), tt)
  delegate_to it kind v links st r b l = (b, tt)

  delegate_on : (it : Value) (kind : Resumption) (r : Value) (links : List CoreLink) (st : CoreState) (v : Value) → T st → L st links → M (delegate_done it kind r links st v)
  delegate_on it kind r links st v b l = either_at core K (truth_of v) _ _ (((l, b.0), b.1, b.2), tt) (yields_at core K (Work (Delegates it links)) false r st (refl, tt, l) b)

  delegate_end : (kind : Resumption) (links : List CoreLink) (st : CoreState) (v : Value) → T st → L st links → M (delegate_value kind links st v)
  delegate_end resumption.Return links st v b l = (b, tt)
  delegate_end resumption.Next links st v b l = (b, (l, tt))
  delegate_end resumption.Throw links st v b l = (b, (l, tt))

  work_to : (st : CoreState) (v : CoreValue Mark) (w : CoreWork) → WorkAt K (here st) (floor_of st.context.frames) w → Fits K.unmade (here st) (under (Work w) (floor_of st.context.frames)).wanted v → T st → M (work_given core st v w)
  unfolding work_given
  work_to st v (SpreadStart list links) l fits b = value_at core K v st _ (λ it. (((l, b.0), b.1, b.2), tt))
  work_to st v (SpreadStep list it links) l fits b = value_at core K v st _ (λ w. spread_to list it links st w l.0 b l.1)
  work_to st v (SpreadValue list it links) l fits b = value_at core K v st _ (λ w. spread_on list it links st w l.0 b l.1)
  work_to st v (Derived n) l fits b = value_at core K v st _ (λ w. derived_at n st w b)
  work_to st v (Heritage f heritage links) l fits b = value_at core K v st _ (λ w. heritage_to f heritage links st w l.0 b l.1)
  work_to st v (Prototype stats) l fits b = value_at core K v st _ (λ w. generator_to stats st w l b)
  work_to st v (PrototypeFor links) l fits b = absurd l
  work_to st v (Resumes n) l fits b = resumed_at n st (Gives v) fits b
  work_to st v (Starts stats) l fits b = (b, l)
  work_to st v (YieldsIn links) l fits b = with_resumed_at v st _ (λ kind w. arrives_at links st kind w b l)
  work_to st v (Delegates it links) l fits b = with_resumed_at v st _ (λ kind w. (((l, b.0), b.1, b.2), tt))
  work_to st v (DelegateStart links) l fits b = value_at core K v st _ (λ it. (((l, b.0), b.1, b.2), tt))
  work_to st v (DelegateTurn it kind w links) l fits b = value_at core K v st _ (λ r. delegate_to it kind w links st r b l)
  work_to st v (DelegateDone it kind w links) l fits b = value_at core K v st _ (λ r. delegate_on it kind w links st r b l)
  work_to st v (DelegateValue kind links) l fits b = value_at core K v st _ (λ w. delegate_end kind links st w b l)
  work_to st v (YieldValue kind result) l fits b = absurd l
  work_to st v (YieldsAt kind result) l fits b = absurd l
  work_to st v (Steps f e) l fits b = absurd l
  work_to st v w l fits b = tt

  pub given_at : (v : CoreValue Mark) (st : CoreState) (f : Frame Mark CoreWork) → FrameAt K (here st) (floor_of st.context.frames) f → Fits K.unmade (here st) (under f (floor_of st.context.frames)).wanted v → T st → M (given (rows core) core v st f)
  unfolding given
  given_at v st (Part p) (may, (xs, l), current) fits b =
      parts_at (record p { values = p.values ++ v ∷ [] }) st p.parts (op_at p.op p.parts may) xs current (last_at (here st) p.op (along core K st p.links) p.values v fits) b l
  given_at v st (Fetch base k p) (may, (xs, l)) fits b =
      value_at core K v st _ (λ w. parts_at (record p { current = fetched base k p.op w }) st p.parts (op_at p.op p.parts (fetch_op p.op may)) xs (fetch_fits (here st) _ base k p.op w) (fetch_last (here st) p.op _ p.values may) b l)
  given_at v st (After links) l fits b = (b, (l, fits))
  given_at v st (Behind w links) (l, at) fits b = (b, (l, at))
  given_at v st (Keyed base links) l fits b = value_at core K v st _ (λ w. keyed_at base links st w b l)
  given_at v st (Store base k links) l fits b = value_at core K v st _ (λ w. ((((l, tt), b.0), b.1, b.2), tt))
  given_at v st (StepAt u base k links) l fits b = value_at core K v st _ (λ w. step_value_at u w st _ (λ n r. ((((l, tt), b.0), b.1, b.2), tt)))
  given_at v st (StepName u x links) l fits b = absurd l
  given_at v st (Operation site c) l fits b = value_at core K v st _ (λ w. (b, tt))
  given_at v st (Making f args new) l fits b = value_at core K v st _ (λ w. making_at f args new st w b)
  given_at v st (Made o) l fits b = value_at core K v st _ (λ w. (b, tt))
  given_at v st (Rest xs) l fits b = (b, l)
  given_at v st (Choice body cases) (free, at, at2) fits b = value_at core K v st _ (λ w. either_at core K (truth_of w) _ _ (b, (free, at)) (choose_at cases st free at2 b))
  given_at v st (Subject cases) (free, at) fits b = value_at core K v st _ (λ w. match_at w cases cases st free at at b)
  given_at v st (Matching w cases all) (free, at, at2) fits b = value_at core K v st _ (λ x. matched_at w cases all st x free at at2 b)
  given_at v st (LoopTest x) (free, at) fits b = value_at core K v st _ (λ w. either_at core K (truth_of w) _ _ ((((free, at), b.0), b.1, b.2), (tt, at.2)) (b, free))
  given_at v st (LoopUpdate x) (free, at) fits b = loop_at x st free at b
  given_at v st Returning l fits b = (b, fits_held core K (here st) v fits)
  given_at v st Throwing l fits b = value_at core K v st _ (λ w. (b, tt))
  given_at v st (Work w) l fits b = work_to st v w l fits b
  given_at v st f l fits b = tt
