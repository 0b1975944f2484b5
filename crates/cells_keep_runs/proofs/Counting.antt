-- A step leaves as much of what code has, and as many contexts: links, statements, and what is handed to frames.
use Rattle.std.proofs.Common.{ℕ, zero, suc, Bool, true, false, List, [], ◌∷◌, ◌++◌, Option, None, Some, slice_get, refl, ◌≡◌, ◌≤◌, ◌<◌, ◌+◌, nat_lt, arith, ap, subst, sym}
use Rattle.std.specs.Prelude.{if◌then◌else◌, ℤ, Result, Ok, Err, is_none, not, ◌&&◌, slice_index_or, slice_set}
use Rattle.es_value.specs.declared.arithmetic.Exit.{Exit}
use Rattle.es_outside.specs.declared.events.Site.{Site}
use Rattle.es_value.specs.Equality.{same_value}
use Rattle.es_value.specs.declared.value.ObjId.{ObjId}
use Rattle.es_value.specs.declared.value.Value.{Value}
use Rattle.es_value.specs.declared.value.Value.TheVariants as value
use Rattle.es_heap.specs.Heaps.{next_id, object_at}
use Rattle.es_heap.specs.declared.class.Class.{Class}
use Rattle.es_heap.specs.declared.class.Class.TheVariants as class
use Rattle.es_heap.specs.declared.key.Key.{Key}
use Rattle.es_operators.specs.Primitives.{to_prims, truth_of}
use Rattle.es_calls.specs.declared.call.BuiltinCall.{BuiltinCall}
use Rattle.es_calls.specs.declared.call.BuiltinStep.{BuiltinStep}
use Rattle.es_calls.specs.declared.call.BuiltinStep.TheVariants as answer
use Rattle.es_calls.specs.declared.call.Resumption.{Resumption}
use Rattle.es_calls.specs.declared.call.Resumption.TheVariants as resumption
use Rattle.es_realm.specs.declared.edition.Edition.TheVariants.{Sixth}
use Rattle.es_operations.specs.Steps.{drops_throw, step_operation}
use Rattle.core_ast.specs.declared.parts.FunctionId.{FunctionId}
use Rattle.core_ast.specs.declared.parts.Label.{Label}
use Rattle.core_ast.specs.declared.parts.Update.{Update}
use Rattle.core_ast.specs.declared.parts.Var.{Var}
use Rattle.std.proofs.lemmas.Bool.{ltb-false, ltb-true}
use Rattle.core_ast.specs.declared.parts.When.{When}
use Rattle.core_ast.specs.declared.parts.When.TheVariants as when
use Rattle.core_ast.specs.declared.tree.CoreCase.{CoreCase, out-CoreCase}
use Rattle.core_ast.specs.declared.tree.CoreExpr.{CoreExpr, out-CoreExpr}
use Rattle.core_ast.specs.declared.tree.CoreLink.{CoreLink, out-CoreLink}
use Rattle.core_ast.specs.declared.tree.CoreLink.TheOpen as layer
use Rattle.core_ast.specs.declared.tree.CoreLink.TheOpen.{CoreLink-F, CoreStat-F}
use Rattle.core_ast.specs.declared.tree.CoreStat.{CoreStat, out-CoreStat}
use Rattle.core_ast.specs.declared.whole.Core.{Core}
use Rattle.core_state.specs.Bodies.{bodies}
use Rattle.core_meaning.specs.Calls.{call_class, call_value, making}
use Rattle.core_meaning.specs.Classes.{derived_given, heritage_given, make_class, own_this}
use Rattle.core_meaning.specs.Expressions.{begin_head, function_at, stepped, user_at, with_result, with_step}
use Rattle.core_meaning.specs.Generators.{kind_value, saved_with, stores, wraps, yield_arrives, yield_resumed, arrives, completed, continues, delegate_done, delegate_turned, delegate_value, from_start, generator_made, resume, resume_by, resume_class, resumed, with_generator, with_resumed}
use Rattle.core_meaning.specs.Functions.{whole}
use Rattle.core_meaning.specs.Iteration.{spread_stepped, spread_value}
use Rattle.core_meaning.specs.Marks.{AtStart, AtYield, Completed, CoreList, CoreNext, CoreState, CoreStrict, CoreWork, DelegateDone, DelegateStart, DelegateTurn, DelegateValue, Delegates, Derived, Executing, Exported, Generator, Heritage, Instantiates, Mark, OfArguments, OfArray, Own, Prototype, PrototypeFor, Resumed, Resumes, SpreadStart, SpreadStep, SpreadValue, Starts, Stepping, Steps, YieldValue, YieldsAt, YieldsIn}
use Rattle.core_meaning.specs.Modules.{stat_of, core_step, export_in, read_export, rows, work_abrupt, work_done, work_given}
use Rattle.core_meaning.specs.Rows.{hands, with_control, with_frames, with_heap, with_option, within}
use Rattle.core_meaning.specs.Names.{Resolved, initialize_found, initialized, resolve}
use Rattle.core_meaning.specs.State.{After, Begin, Behind, Call, Calls, Catching, Choice, Completion, Context, Control, CoreValue, Current, Done, Environment, Extra, Fetch, Finishing, Frame, Gives, Go, Hand, Has, Hosted, Jumps, Keyed, Loop, LoopBody, LoopTest, LoopUpdate, Made, Making, Matching, Method, Old, Operation, Part, Pending, Reference, Rest, Restore, Returning, Returns, Run, StepAt, StepName, Store, Subject, Target, Throwing, Throws, Turn, User, Work}
use Rattle.core_meaning.specs.Statements.{begin_stat, choose, choose_case, from_default, loop, loop_by, loop_jumped, loop_on, match_case, match_next, matched, run_cases, run_stats, target_jumped, update_by, at_target, is_for}
use Rattle.core_meaning.specs.Step.{AsPlace, AsValue, Taking, WithValue, abrupt, after_turn, done, fetched, given, go, go_end, go_link, go_reference, go_value, hand, keyed, lazy, otherwise, outermost, parts_by, result_of, returned, step, step_by, strict_of, take, taking, thrown_out, turn}
use Rattle.cells_keep_runs.specs.Alike.{Config}
use Rattle.cells_keep_runs.specs.Placing.{HandPlain, HeadPlain, ListPlain, MakesNoRecord, StatPlain, below_frame}
use Rattle.cells_keep_runs.specs.Counted.{AllFit, AllFits, AllGeneratorsFit, above, Fits, GeneratorFits, Limit, Measure, Measures, NextFits, OthersFit, StepsFit, bodies as all_bodies, bottom, counted, going, in_cases, in_frames, in_head, in_link, in_loop, in_matching, in_stat, in_turn, larger, of_some, tests, total, with_frame, with_work}
use Rattle.cells_keep_runs.specs.Turned.{CallsNoClosure, IsNoClosure}
use Rattle.cells_keep_runs.proofs.Counted.{C, acts_at, count_more, count_set, drop, either_at, generators_more, generators_set, heads_at, host_at, option_at, value_at, write_at, yields_at}

module _ (m : Measure) (lim : Limit) (measures : Measures m) (one : (e : Environment) → lim.most e ≤ 1) where
  abbrev L : List CoreLink → ℕ
  L links = m.links links

  abbrev E : CoreExpr → ℕ
  E x = m.expr x

  abbrev S : List CoreStat → ℕ
  S xs = m.stats xs

  abbrev R : CoreState → Type 0
  R st = OthersFit m lim (counted lim st.context) st

  abbrev F : CoreState → ℕ
  F st = in_frames m st.context.frames

  abbrev D : CoreState → ℕ
  D st = lim.most (bottom st.context.environment st.context.frames)

  abbrev T : CoreState → Type 0
  T st = R st × (F st ≤ D st)

  abbrev M : CoreNext → Type 0
  M next = NextFits m lim next

  -- at most one
  limit : (st : CoreState) → D st ≤ 1
  limit st = one (bottom st.context.environment st.context.frames)

  further : (l : CoreLink) (ls : List CoreLink) → L ls ≤ L (l ∷ ls)
  further l ls = let h : in_link m (out-CoreLink l) + L ls ≤ L (l ∷ ls) = measures.link l ls in omega arith

  -- ---- links

  parts_at : (core : Core) (p : CoreStrict) (st : CoreState) (xs : List CoreExpr) → R st → total E xs + (L p.links + F st) ≤ D st → M (parts_by (rows core) core p st xs)
  parts_at core p st [] b l = acts_at m lim core p st p.op b (omega arith)
  parts_at core p st (x ∷ xs) b l = (b, omega arith)

  take_at : (core : Core) (base : Value) (k : Key) (p : CoreStrict) (l : CoreLink) (st : CoreState) (how : Taking) → R st → total E p.parts + (L p.links + F st) ≤ D st → L (l ∷ p.links) + F st ≤ D st
      → M (take (rows core) core base k p l st how)
  take_at core base k p l st AsPlace b parts all = parts_at core p st p.parts b parts
  take_at core base k p l st WithValue b parts all = (b, parts)
  take_at core base k p l st AsValue b parts all = (b, all)

  reference_at : (core : Core) (base : Value) (k : Key) (l : CoreLink) (ls : List CoreLink) (st : CoreState) (y : CoreLink-F CoreLink CoreStat CoreCase CoreExpr) → R st → in_link m y + (L ls + F st) ≤ D st → L (l ∷ ls) + F st ≤ D st
      → M (go_reference (rows core) core base k l ls st y)
  reference_at core base k l ls st (layer.Strict o xs site) b at all = take_at core base k (strict_of o site (Reference base k) xs ls) l st (taking o) b at all
  reference_at core base k l ls st (layer.Lazy w taken other) b at all = (b, all)
  reference_at core base k l ls st (layer.Run body) b at all = (b, all)

  otherwise_at : (other : Option CoreExpr) (links : List CoreLink) (st : CoreState) → R st → of_some E other + (L links + F st) ≤ D st → M (otherwise other links st)
  otherwise_at None links st b l = (b, omega arith)
  otherwise_at (Some x) links st b l = (b, l)

  lazy_at : (taken : CoreExpr) (other : Option CoreExpr) (links : List CoreLink) (st : CoreState) (v : Value) (w : When) → R st → (E taken + of_some E other) + (L links + F st) ≤ D st → M (lazy taken other links st v w)
  lazy_at taken other links st v when.Truthy b l = either_at m lim (truth_of v) _ _ (b, omega arith) (b, omega arith)
  lazy_at taken other links st v when.Falsy b l = either_at m lim (truth_of v) _ _ (b, omega arith) (b, omega arith)
  lazy_at taken other links st v when.Choice b l = either_at m lim (truth_of v) _ _ (b, omega arith) (otherwise_at other links st b (omega arith))

  link_value_at : (core : Core) (c : Current Mark) (ls : List CoreLink) (st : CoreState) (y : CoreLink-F CoreLink CoreStat CoreCase CoreExpr) → R st → in_link m y + (L ls + F st) ≤ D st → M (go_value (rows core) core c ls st y)
  link_value_at core c ls st (layer.Strict o xs site) b l = parts_at core (strict_of o site c xs ls) st xs b l
  link_value_at core c ls st (layer.Lazy w taken other) b l = option_at m lim (user_at c) st _ (λ v. lazy_at taken other ls st v w b l)
  link_value_at core c ls st (layer.Run body) b l = (b, l)

  in_all : (l : CoreLink) (ls : List CoreLink) (st : CoreState) → L (l ∷ ls) + F st ≤ D st → in_link m (out-CoreLink l) + (L ls + F st) ≤ D st
  in_all l ls st all = let h : in_link m (out-CoreLink l) + L ls ≤ L (l ∷ ls) = measures.link l ls in omega arith

  link_at : (core : Core) (l : CoreLink) (ls : List CoreLink) (st : CoreState) (c : Current Mark) → R st → L (l ∷ ls) + F st ≤ D st → M (go_link (rows core) core l ls st c)
  link_at core l ls st (Reference base k) b all = reference_at core base k l ls st (out-CoreLink l) b (in_all l ls st all) all
  link_at core l ls st (Has v) b all = link_value_at core (Has v) ls st (out-CoreLink l) b (in_all l ls st all)
  link_at core l ls st (Old base k v) b all = link_value_at core (Old base k v) ls st (out-CoreLink l) b (in_all l ls st all)
  link_at core l ls st (Method f v) b all = link_value_at core (Method f v) ls st (out-CoreLink l) b (in_all l ls st all)
  link_at core l ls st (Hosted n) b all = link_value_at core (Hosted n) ls st (out-CoreLink l) b (in_all l ls st all)

  end_at : (st : CoreState) (c : Current Mark) → T st → M (go_end st c)
  end_at st (Has v) b = b
  end_at st (Reference base k) b = b
  end_at st c b = tt

  links_at : (core : Core) (c : Current Mark) (ls : List CoreLink) (st : CoreState) → R st → L ls + F st ≤ D st → M (go (rows core) core c ls st)
  unfolding go
  links_at core c [] st b l = end_at st c (b, drop m lim (L []) (F st) (D st) l)
  links_at core c (l ∷ ls) st b all = link_at core l ls st c b all

  -- ---- statements

  case_by : (test : Option CoreExpr) (body : List CoreStat) (cs : List CoreCase) (st : CoreState) → R st → of_some E test + (S body + (in_cases m cs + F st)) ≤ D st → M (choose_case test body cs st)
  case_by None body cs st b l = (b, omega arith)
  case_by (Some x) body cs st b l = (b, l)

  choose_at : (cs : List CoreCase) (st : CoreState) → R st → in_cases m cs + F st ≤ D st → M (choose cs st)
  choose_at [] st b l = (b, omega arith)
  choose_at (c ∷ cs) st b l = case_by (out-CoreCase c).test (out-CoreCase c).body cs st b (omega arith)

  bodies_at : (cs : List CoreCase) → S (bodies cs) ≤ all_bodies m cs
  bodies_at [] = let h : S [] ≡ 0 = measures.none in omega arith
  bodies_at (c ∷ cs) =
      let h : S ((out-CoreCase c).body ++ bodies cs) ≤ S (out-CoreCase c).body + S (bodies cs) = measures.joined (out-CoreCase c).body (bodies cs) in
      let k : S (bodies cs) ≤ all_bodies m cs = bodies_at cs in
      omega arith

  run_at : (cs : List CoreCase) (st : CoreState) → R st → all_bodies m cs + F st ≤ D st → M (run_cases cs st)
  run_at cs st b l = let h : S (bodies cs) ≤ all_bodies m cs = bodies_at cs in (b, omega arith)

  default_by : (is : Bool) (c : CoreCase) (cs : List CoreCase) → all_bodies m (from_default cs) ≤ all_bodies m cs → all_bodies m (if is then c ∷ cs else from_default cs) ≤ all_bodies m (c ∷ cs)
  default_by true c cs h = omega arith
  default_by false c cs h = omega arith

  default_at : (cs : List CoreCase) → all_bodies m (from_default cs) ≤ all_bodies m cs
  default_at [] = omega arith
  default_at (c ∷ cs) = default_by (is_none (out-CoreCase c).test) c cs (default_at cs)

  -- the larger of two
  larger_by : (a c : ℕ) (is : Bool) → nat_lt a c ≡ is → (a ≤ (if is then c else a)) × (c ≤ (if is then c else a))
  larger_by a c true e = (let h : a < c = ltb-true a c e in omega arith, omega arith)
  larger_by a c false e = (omega arith, ltb-false a c e)

  larger_both : (a c : ℕ) → (a ≤ larger a c) × (c ≤ larger a c)
  larger_both a c = larger_by a c (nat_lt a c) refl

  larger_least : (a c n : ℕ) → a ≤ n → c ≤ n → larger a c ≤ n
  larger_least a c n h k = by_less (nat_lt a c)
    where
      by_less : (is : Bool) → (if is then c else a) ≤ n
      by_less true = k
      by_less false = h

  match_by : (v : Value) (all : List CoreCase) (c : CoreCase) (cs : List CoreCase) (st : CoreState) (next : CoreNext) (test : Option CoreExpr) (most : ℕ) → R st → all_bodies m (c ∷ cs) ≤ most → all_bodies m all ≤ most
      → of_some E test + (tests m cs + (most + F st)) ≤ D st → M next → M (match_case v all (c ∷ cs) st next test)
  match_by v all c cs st next None most b h k l on = on
  match_by v all c cs st next (Some x) most b h k l on =
      let least : larger (all_bodies m (c ∷ cs)) (all_bodies m all) ≤ most = larger_least (all_bodies m (c ∷ cs)) (all_bodies m all) most h k in
      (b, omega arith)

  -- the tests that are left, and so many bodies
  match_at : (v : Value) (all cs : List CoreCase) (st : CoreState) (most : ℕ) → R st → all_bodies m cs ≤ most → all_bodies m all ≤ most → tests m cs + (most + F st) ≤ D st → M (match_next v all cs st)
  match_at v all [] st most b h k l = let d : all_bodies m (from_default all) ≤ all_bodies m all = default_at all in run_at (from_default all) st b (omega arith)
  match_at v all (c ∷ cs) st most b h k l =
      match_by v all c cs st (match_next v all cs st) (out-CoreCase c).test most b h k (omega arith) (match_at v all cs st most b (omega arith) k (omega arith))

  matched_at : (v : Value) (cs all : List CoreCase) (st : CoreState) (w : Value) → R st → in_matching m cs all + F st ≤ D st → M (matched v cs all st w)
  matched_at v [] all st w b l = tt
  matched_at v (c ∷ cs) all st w b l =
      let most = larger (all_bodies m (c ∷ cs)) (all_bodies m all) in
      let both = larger_both (all_bodies m (c ∷ cs)) (all_bodies m all) in
      let here : all_bodies m (c ∷ cs) ≤ most = both.0 in
      either_at m lim (same_value v w) _ _ (run_at (c ∷ cs) st b (omega arith)) (match_at v all cs st most b (omega arith) both.1 (omega arith))

  -- a loop has none
  loop_none : (l : Loop) (st : CoreState) → in_loop m l + F st ≤ D st → in_turn m l ≡ 0
  loop_none l st h = let d : D st ≤ 1 = limit st in omega arith

  turn_at : (l : Loop) (st : CoreState) → R st → in_loop m l + F st ≤ D st → S l.body + (in_loop m l + F st) ≤ D st
  turn_at l st b h = let none : in_turn m l ≡ 0 = loop_none l st h in omega arith

  loop_to : (l : Loop) (st : CoreState) (test : Option CoreExpr) → of_some E test ≤ in_turn m l → R st → in_loop m l + F st ≤ D st → M (loop_by l st test)
  loop_to l st None at b h = (b, turn_at l st b h)
  loop_to l st (Some x) at b h = let none : in_turn m l ≡ 0 = loop_none l st h in (b, omega arith)

  loop_at : (l : Loop) (st : CoreState) → R st → in_loop m l + F st ≤ D st → M (loop l st)
  loop_at l st b h = loop_to l st l.test (omega arith) b h

  update_to : (l : Loop) (st : CoreState) (update : Option CoreExpr) → of_some E update ≤ in_turn m l → R st → in_loop m l + F st ≤ D st → M (update_by l st update)
  update_to l st None at b h = loop_at l st b h
  update_to l st (Some x) at b h = let none : in_turn m l ≡ 0 = loop_none l st h in (b, omega arith)

  on_at : (l : Loop) (st : CoreState) → R st → in_loop m l + F st ≤ D st → M (loop_on l st)
  on_at l st b h = update_to l st l.update (omega arith) b h

  stat_at : (core : Core) (x : CoreStat) (st : CoreState) (y : CoreStat-F CoreLink CoreStat CoreCase CoreExpr) → StatPlain y → out-CoreStat x ≡ y → R st → in_stat m y + F st ≤ D st → M (begin_stat (rows core) x st y)
  unfolding begin_stat
  stat_at core x st (layer.Do e) is same b l = (b, l)
  stat_at core x st (layer.If cases) is same b l = choose_at cases st b l
  stat_at core x st (layer.Switch subject cases) is same b l = (b, omega arith)
  stat_at core x st (layer.Loop labels test update body) is same b l = loop_at (record { labels = labels; test = test; update = update; body = body }) st b l
  stat_at core x st (layer.Labelled label body) is same b l = (b, l)
  stat_at core x st (layer.Jump goes_on label) is same b l = (b, omega arith)
  stat_at core x st (layer.Return e) is same b l = (b, l)
  stat_at core x st (layer.Throw e) is same b l = (b, l)
  stat_at core x st (layer.TryCatch block parameter names handler) is same b l = (b, omega arith)
  stat_at core x st (layer.TryFinally block last) is same b l = (b, omega arith)
  stat_at core x st (layer.Scoped names body) is same b l = absurd is
  stat_at core x st (layer.Yield v kind result) is same b l = subst (λ z. M (stat_of st z)) (sym same) (b, l)

  list_at : (core : Core) (xs : List CoreStat) (st : CoreState) → ListPlain xs → R st → S xs + F st ≤ D st → M (run_stats (rows core) xs st)
  list_at core [] st is b l = (b, drop m lim (S []) (F st) (D st) l)
  list_at core (x ∷ xs) st is b l =
      let h : in_stat m (out-CoreStat x) + S xs ≤ S (x ∷ xs) = measures.stat x xs in
      stat_at core x _ (out-CoreStat x) is refl b (omega arith)

  -- ---- generators, namespaces and turns

  -- what is counted of a generator that is there
  generator_at : (gs : List Generator) (n : ℕ) (st : CoreState) (f : Generator → CoreNext) → AllGeneratorsFit m lim gs → ((g : Generator) → GeneratorFits m lim g → ((h : Generator) → C m lim h ≡ 0 → total (C m lim) (slice_set gs n h) + C m lim g ≤ total (C m lim) gs) → M (f g)) → M (with_option (slice_get gs n) st f)
  generator_at [] n st f all h = tt
  generator_at (g ∷ gs) zero st f (at, all) h = h g at (λ x none. omega arith)
  generator_at (g ∷ gs) (suc n) st f (at, all) h =
      generator_at gs n st f all (λ g2 at2 less. h g2 at2 (λ x none. let l : total (C m lim) (slice_set gs n x) + C m lim g2 ≤ total (C m lim) gs = less x none in omega arith))

  -- without what was saved
  Less : ℕ → Generator → CoreState → Type 0
  Less n g st = (h : Generator) → C m lim h ≡ 0 → total (C m lim) (slice_set st.store.generators n h) + C m lim g ≤ total (C m lim) st.store.generators

  ended : (n : ℕ) (g h : Generator) (st : CoreState) → GeneratorFits m lim h → C m lim h ≡ 0 → Less n g st → T st → T (with_generator n h st)
  unfolding Less
  ended n g h st fits none less ((callers, gens, most), l) =
      let k : total (C m lim) (slice_set st.store.generators n h) + C m lim g ≤ total (C m lim) st.store.generators = less h none in
      ((callers, generators_set m lim st.store.generators n h fits gens, omega arith), l)

  set_to : (n : ℕ) (h : Generator) (st : CoreState) → GeneratorFits m lim h → C m lim h ≡ 0 → T st → T (with_generator n h st)
  set_to n h st fits none ((callers, gens, most), l) =
      let k : total (C m lim) (slice_set st.store.generators n h) ≤ C m lim h + total (C m lim) st.store.generators = count_set m lim st.store.generators n h in
      ((callers, generators_set m lim st.store.generators n h fits gens, omega arith), l)

  completed_at : (kind : Resumption) (v : Value) (st : CoreState) → T st → M (completed kind v st)
  completed_at resumption.Next v st b = b
  completed_at resumption.Return v st b = b
  completed_at resumption.Throw v st b = b

  continues_at : (n : ℕ) (k : Context Mark Own CoreWork) (g : Generator) (kind : Resumption) (v : Value) (st : CoreState) → Fits m lim k → C m lim g ≡ counted lim k → Less n g st → T st → M (continues n k kind v st)
  unfolding Less
  continues_at n k g kind v st fits same less ((callers, gens, most), l) =
      let h : total (C m lim) (slice_set st.store.generators n Executing) + C m lim g ≤ total (C m lim) st.store.generators = less Executing refl in
      (((l, callers), generators_set m lim st.store.generators n Executing tt gens, omega arith), fits)

  start_at : (n : ℕ) (k : Context Mark Own CoreWork) (kind : Resumption) (v : Value) (st : CoreState) → Fits m lim k → Less n (AtStart k) st → T st → M (from_start n k kind v st)
  start_at n k resumption.Next v st at less b = continues_at n k (AtStart k) resumption.Next v st at refl less b
  start_at n k resumption.Return v st at less b = completed_at resumption.Return v (with_generator n Completed st) (set_to n Completed st tt refl b)
  start_at n k resumption.Throw v st at less b = completed_at resumption.Throw v (with_generator n Completed st) (set_to n Completed st tt refl b)

  resume_at : (n : ℕ) (kind : Resumption) (v : Value) (st : CoreState) (g : Generator) → GeneratorFits m lim g → Less n g st → T st → M (resume_by n kind v st g)
  resume_at n kind v st (AtStart k) at less b = start_at n k kind v st at less b
  resume_at n kind v st (AtYield k) at less b = continues_at n k (AtYield k) kind v st at refl less b
  resume_at n kind v st Executing at less b = b
  resume_at n kind v st Completed at less b = completed_at kind v st b

  resume_to : (kind : Resumption) (v : Value) (st : CoreState) (k : Class) → T st → M (resume_class kind v st k)
  unfolding Less
  resume_to kind v st (class.Generator n) b = generator_at st.store.generators n st (resume_by n kind v st) b.0.1 (λ g at less. resume_at n kind v st g at less b)
  resume_to kind v st k b = b

  resumes_at : (kind : Resumption) (receiver v : Value) (st : CoreState) → T st → M (resume kind receiver v st)
  resumes_at kind (value.Object id) v st b = resume_to kind v st (object_at st.heap id).class b
  resumes_at kind receiver v st b = b

  export_at : (presence : Bool) (st : CoreState) (x : Option Exported) → T st → M (read_export presence st x)
  export_at true st x b = b
  export_at false st None b = b
  export_at false st (Some x) b = b

  turned_at : (core : Core) (site : Option Site) (c : BuiltinCall) (st : CoreState) (a : BuiltinStep) → T st → M (after_turn (rows core) site c st a)
  turned_at core site c st answer.Running b = b
  turned_at core site c st (answer.CallOut f receiver args) b = b
  turned_at core site c st (answer.ReadOut id k) b = export_at _ _ (export_in _ k) b
  turned_at core site c st (answer.Resume kind) b = resumes_at kind _ _ st b
  turned_at core site c st (answer.Done v) b = b
  turned_at core site c st (answer.Throws e) b = b
  turned_at core site c st (answer.Leaves x) b = tt
  turned_at core site c st a b = tt

  -- ---- calls that enter no closure

  class_to : (core : Core) (c : Call) (st : CoreState) (k : Class) → IsNoClosure k → T st → M (call_class (rows core) core c st k)
  unfolding call_class
  class_to core c st (class.Function n) is b = absurd is
  class_to core c st (class.Builtin n) is b = b
  class_to core c st (class.Host n) is b = host_at m lim n _ st (to_prims c.args) b
  class_to core c st k is b = b

  call_to : (core : Core) (c : Call) (st : CoreState) (v : Value) → CallsNoClosure st.heap v → T st → M (call_value (rows core) core c st v)
  call_to core c st (value.Object id) is b = class_to core c st (object_at st.heap id).class is b
  call_to core c st v is b = b

  -- ---- what is given to a frame

  keyed_at : (base : Value) (links : List CoreLink) (st : CoreState) (v : Value) → R st → L links + F st ≤ D st → M (keyed base links st v)
  keyed_at base links st (value.Text us) b l = (b, l)
  keyed_at base links st v b l = tt

  result_at : (r : Result ℤ Exit) (st : CoreState) (f : ℤ → CoreNext) → ((n : ℤ) → M (f n)) → M (with_result r st f)
  result_at (Ok n) st f h = h n
  result_at (Err x) st f h = tt

  step_value_at : (u : Update) (v : Value) (st : CoreState) (f : Value → Value → CoreNext) → ((a c : Value) → M (f a c)) → M (with_step u v st f)
  step_value_at u (value.Number n) st f h = result_at (stepped u n) st _ (λ m. h _ _)
  step_value_at u v st f h = tt

  making_at : (f : Value) (args : List Value) (target : Value) (st : CoreState) (v : Value) → T st → M (making f args target st v)
  making_at f args target st (value.Object proto) b = b
  making_at f args target st v b = tt

  whole_at : (list : CoreList) (links : List CoreLink) (st : CoreState) → R st → L links + F st ≤ D st → M (whole list links st)
  whole_at (OfArray id) links st b l = (b, l)
  whole_at (OfArguments vs) links st b l = (b, l)

  spread_to : (list : CoreList) (it : Value) (links : List CoreLink) (st : CoreState) (v : Value) → R st → L links + F st ≤ D st → M (spread_stepped list it links st v)
  spread_to list it links st (value.Object r) b l = (b, l)
  spread_to list it links st v b l = whole_at list links st b l

  spread_on : (list : CoreList) (it : Value) (links : List CoreLink) (st : CoreState) (v : Value) → R st → L links + F st ≤ D st → M (spread_value list it links st v)
  spread_on (OfArray id) it links st v b l = (b, l)
  spread_on (OfArguments vs) it links st v b l = (b, l)

  this_at : (st : CoreState) (o : Option Value) → T st → M (own_this st o)
  this_at st None b = b
  this_at st (Some v) b = b

  derived_at : (n : ℕ) (st : CoreState) (v : Value) → T st → M (derived_given n st v)
  derived_at n st (value.Object id) b = b
  derived_at n st value.Undefined b = this_at st (slice_index_or st.store.this_values n None) b
  derived_at n st v b = b

  class_given : (core : Core) (f : FunctionId) (heritage : Value) (parent : ObjId) (above : Option ObjId) (links : List CoreLink) (st : CoreState) → R st → L links + F st ≤ D st → M (make_class core f heritage parent above links st)
  class_given core f heritage parent above links st b l = option_at m lim (function_at core f) st _ (λ function. (b, l))

  heritage_to : (core : Core) (f : FunctionId) (heritage : Value) (links : List CoreLink) (st : CoreState) (v : Value) → R st → L links + F st ≤ D st → M (heritage_given core f heritage links st v)
  heritage_to core f (value.Object parent) links st (value.Object above) b l = class_given core f (value.Object parent) parent (Some above) links st b l
  heritage_to core f (value.Object parent) links st value.Null b l = class_given core f (value.Object parent) parent None links st b l
  heritage_to core f heritage links st v b l = tt

  -- a context that returns
  going_least : (v : CoreValue Mark) (fs : List (Frame Mark CoreWork)) (n : ℕ) → going (Hand (Returns v)) fs n ≤ n
  going_least v [] n = omega arith
  going_least v (f ∷ fs) n = omega arith

  returns : (v : CoreValue Mark) (st : CoreState) → T st → M (hands (Returns v) st)
  returns v st ((callers, gens, most), l) =
      let h : going (Hand (Returns v)) st.context.frames (counted lim st.context) ≤ counted lim st.context = going_least v st.context.frames (counted lim st.context) in
      ((callers, gens, omega arith), l)

  -- the context of a call that makes a generator is saved, and ends
  generator_by : (stats : List CoreStat) (st : CoreState) (proto : ObjId) (fs : List (Frame Mark CoreWork)) → st.context.frames ≡ fs → R st → S stats + (above fs + F st) ≤ D st → M (generator_made stats st (value.Object proto))
  generator_by stats st proto (f ∷ fs) same b l = let d : D st ≤ 1 = limit st in absurd (omega arith)
  generator_by stats st proto [] same (callers, gens, most) l =
      let saved = saved_with (Work (Starts stats) ∷ []) st in
      let ends : bottom st.context.environment st.context.frames ≡ st.context.environment = ap (λ fs. bottom st.context.environment fs) same in
      let none : F st ≡ 0 = ap (λ fs. in_frames m fs) same in
      let most2 : D st ≡ lim.most st.context.environment = ap (λ e. lim.most e) ends in
      let count : counted lim st.context ≡ lim.counts st.context.environment = ap (λ e. lim.counts e) ends in
      let more : total (C m lim) (st.store.generators ++ AtStart saved ∷ []) ≡ C m lim (AtStart saved) + total (C m lim) st.store.generators = count_more m lim st.store.generators (AtStart saved) in
      let over : going (Hand (Returns (User (value.Object (next_id st.heap))))) st.context.frames (counted lim st.context) ≡ 0 = ap (λ fs. going (Hand (Returns (User (value.Object (next_id st.heap))))) fs (counted lim st.context)) same in
      let fits : S stats + 0 ≤ lim.most st.context.environment = omega arith in
      ((callers, generators_more m lim st.store.generators (AtStart saved) fits gens, omega arith), omega arith)

  generator_to : (stats : List CoreStat) (st : CoreState) (v : Value) → R st → S stats + (above st.context.frames + F st) ≤ D st → M (generator_made stats st v)
  generator_to stats st (value.Object proto) b l = generator_by stats st proto st.context.frames refl b l
  generator_to stats st v b l = tt

  hands_any : (c : Completion Mark) (st : CoreState) → T st → M (hands c st)
  hands_any (Returns v) st b = returns v st b
  hands_any c st b = b

  resumed_at : (n : ℕ) (st : CoreState) (c : Completion Mark) → T st → M (resumed n st c)
  resumed_at n st (Gives (User v)) b = set_to n Completed st tt refl b
  resumed_at n st c b = hands_any c (with_generator n Completed st) (set_to n Completed st tt refl b)

  arrives_at : (links : List CoreLink) (st : CoreState) (kind : Resumption) (v : Value) → R st → L links + F st ≤ D st → M (arrives links st kind v)
  arrives_at links st resumption.Next v b l = (b, l)
  arrives_at links st resumption.Return v b l = returns (User v) st (b, drop m lim (L links) (F st) (D st) l)
  arrives_at links st resumption.Throw v b l = (b, drop m lim (L links) (F st) (D st) l)

  with_resumed_at : (v : CoreValue Mark) (st : CoreState) (f : Resumption → Value → CoreNext) → ((kind : Resumption) (w : Value) → M (f kind w)) → M (with_resumed v st f)
  with_resumed_at (Extra (Resumed kind w)) st f h = h kind w
  with_resumed_at v st f h = tt

  delegate_to : (it : Value) (kind : Resumption) (v : Value) (links : List CoreLink) (st : CoreState) (r : Value) → R st → L links + F st ≤ D st → M (delegate_turned it kind v links st r)
  delegate_to it kind v links st (value.Object r) b l = (b, l)
  delegate_to it kind v links st r b l = returns (User v) st (b, drop m lim (L links) (F st) (D st) l)

  delegate_on : (it : Value) (kind : Resumption) (r : Value) (links : List CoreLink) (st : CoreState) (v : Value) → R st → L links + F st ≤ D st → M (delegate_done it kind r links st v)
  delegate_on it kind r links st v b l = either_at m lim (truth_of v) _ _ (b, l) (yields_at m lim (Work (Delegates it links)) false r st (refl, l) b)

  delegate_end : (kind : Resumption) (links : List CoreLink) (st : CoreState) (v : Value) → R st → L links + F st ≤ D st → M (delegate_value kind links st v)
  delegate_end resumption.Return links st v b l = returns (User v) st (b, drop m lim (L links) (F st) (D st) l)
  delegate_end resumption.Next links st v b l = (b, l)
  delegate_end resumption.Throw links st v b l = (b, l)

  -- what a yield statement is resumed with is stored
  stored_by : (x : Var) (v : CoreValue Mark) (st : CoreState) (o : Option (Resolved Mark)) → T st → T (initialize_found x v st o)
  stored_by x v st None b = b
  stored_by x v st (Some r) b = b

  stored_at : (x : Var) (v : Value) (st : CoreState) → T st → T (stores x v st)
  unfolding initialized
  stored_at x v st b = stored_by x (User v) st (resolve st x) b

  yield_arrives_at : (result : Var) (st : CoreState) (kind : Resumption) (v : Value) → T st → M (yield_arrives result st kind v)
  yield_arrives_at result st resumption.Next v b = stored_at result v st b
  yield_arrives_at result st resumption.Return v b = returns (User v) st b
  yield_arrives_at result st resumption.Throw v b = b

  yield_resumed_at : (kind : Option Var) (result : Var) (st : CoreState) (how : Resumption) (v : Value) → T st → M (yield_resumed kind result st how v)
  yield_resumed_at None result st how v b = yield_arrives_at result st how v b
  yield_resumed_at (Some x) result st how v b = stored_at result v (stores x (kind_value how) st) (stored_at x (kind_value how) st b)

  -- ---- work

  no_steps : (n : ℕ) (st : CoreState) (next : CoreNext) → 2 + n ≤ D st → M next
  no_steps n st next l = let d : D st ≤ 1 = limit st in absurd (omega arith)

  abbrev W : CoreWork → CoreState → ℕ
  W w st = with_work m w st.context.frames (F st)

  work_to : (core : Core) (st : CoreState) (v : CoreValue Mark) (w : CoreWork) → R st → W w st ≤ D st → M (work_given core st v w)
  unfolding work_given
  work_to core st v (SpreadStart list links) b l = value_at m lim v st _ (λ it. (b, l))
  work_to core st v (SpreadStep list it links) b l = value_at m lim v st _ (λ w. spread_to list it links st w b l)
  work_to core st v (SpreadValue list it links) b l = value_at m lim v st _ (λ w. spread_on list it links st w b l)
  work_to core st v (Derived n) b l = value_at m lim v st _ (λ w. derived_at n st w (b, l))
  work_to core st v (Heritage f heritage links) b l = value_at m lim v st _ (λ w. heritage_to core f heritage links st w b l)
  work_to core st v (Prototype stats) b l = value_at m lim v st _ (λ w. generator_to stats st w b l)
  work_to core st v (PrototypeFor links) b l = no_steps (L links + F st) st _ l
  work_to core st v (Resumes n) b l = resumed_at n st (Gives v) (b, l)
  work_to core st v (Starts stats) b l = (b, l)
  work_to core st v (YieldsIn links) b l = with_resumed_at v st _ (λ kind w. arrives_at links st kind w b l)
  work_to core st v (Delegates it links) b l = with_resumed_at v st _ (λ kind w. (b, l))
  work_to core st v (DelegateStart links) b l = value_at m lim v st _ (λ it. (b, l))
  work_to core st v (DelegateTurn it kind w links) b l = value_at m lim v st _ (λ r. delegate_to it kind w links st r b l)
  work_to core st v (DelegateDone it kind w links) b l = value_at m lim v st _ (λ r. delegate_on it kind w links st r b l)
  work_to core st v (DelegateValue kind links) b l = value_at m lim v st _ (λ w. delegate_end kind links st w b l)
  work_to core st v (YieldValue kind result) b l = value_at m lim v st _ (λ w. yields_at m lim (Work (YieldsAt kind result)) (wraps kind) w st (refl, l) b)
  work_to core st v (YieldsAt kind result) b l = with_resumed_at v st _ (λ how w. yield_resumed_at kind result st how w (b, l))
  work_to core st v (Steps f e) b l = no_steps (F st) st _ l
  work_to core st v w b l = tt

  -- below a frame
  abbrev RB : Frame Mark CoreWork → CoreState → Type 0
  RB f st = OthersFit m lim (lim.counts (bottom (below_frame st.context.environment f) st.context.frames)) st

  abbrev LB : Frame Mark CoreWork → CoreState → Type 0
  LB f st = with_frame m f st.context.frames (F st) ≤ lim.most (bottom (below_frame st.context.environment f) st.context.frames)

  given_at : (core : Core) (v : CoreValue Mark) (st : CoreState) (f : Frame Mark CoreWork) → RB f st → LB f st → M (given (rows core) core v st f)
  unfolding given
  given_at core v st (Part p) b l = parts_at core (record p { values = p.values ++ v ∷ [] }) st p.parts b l
  given_at core v st (Fetch base k p) b l = value_at m lim v st _ (λ w. parts_at core (record p { current = fetched base k p.op w }) st p.parts b l)
  given_at core v st (After links) b l = (b, l)
  given_at core v st (Behind w links) b l = (b, l)
  given_at core v st (Keyed base links) b l = value_at m lim v st _ (λ w. keyed_at base links st w b l)
  given_at core v st (Store base k links) b l = value_at m lim v st _ (λ w. (b, l))
  given_at core v st (StepAt u base k links) b l = value_at m lim v st _ (λ w. step_value_at u w st _ (λ n r. (b, l)))
  given_at core v st (StepName u x links) b l = value_at m lim v st _ (λ w. step_value_at u w st _ (λ n r. write_at m lim core x (User n) (User r) links st b l))
  given_at core v st (Operation site c) b l = value_at m lim v st _ (λ w. (b, l))
  given_at core v st (Making f args new) b l = value_at m lim v st _ (λ w. making_at f args new st w (b, l))
  given_at core v st (Made o) b l = value_at m lim v st _ (λ w. (b, l))
  given_at core v st (Rest xs) b l = (b, l)
  given_at core v st (Choice body cases) b l = value_at m lim v st _ (λ w. either_at m lim (truth_of w) _ _ (b, omega arith) (choose_at cases st b (omega arith)))
  given_at core v st (Subject cases) b l = value_at m lim v st _ (λ w. match_at w cases cases st (all_bodies m cases) b (omega arith) (omega arith) (omega arith))
  given_at core v st (Matching w cases all) b l = value_at m lim v st _ (λ x. matched_at w cases all st x b l)
  given_at core v st (LoopTest x) b l = value_at m lim v st _ (λ w. either_at m lim (truth_of w) _ _ (b, turn_at x st b l) (b, drop m lim (in_loop m x) (F st) (D st) l))
  given_at core v st (LoopUpdate x) b l = loop_at x st b l
  given_at core v st Returning b l = returns v st (b, l)
  given_at core v st Throwing b l = value_at m lim v st _ (λ w. (b, l))
  given_at core v st (Work w) b l = work_to core st v w b l
  given_at core v st f b l = tt

  -- ---- the end of statements, and what ends them early

  work_end : (st : CoreState) (w : CoreWork) → R st → W w st ≤ D st → M (work_done st w)
  work_end st (Instantiates stats) b l = (b, l)
  work_end st w b l = tt

  work_least : (w : CoreWork) (fs : List (Frame Mark CoreWork)) (n : ℕ) → n ≤ with_work m w fs n
  work_least (SpreadStart list links) fs n = omega arith
  work_least w fs n = omega arith

  frame_least : (f : Frame Mark CoreWork) (fs : List (Frame Mark CoreWork)) (n : ℕ) → n ≤ with_frame m f fs n
  frame_least (Work w) fs n = work_least w fs n
  frame_least f fs n = omega arith

  frame_drop : (f : Frame Mark CoreWork) (st : CoreState) → LB f st → F st ≤ lim.most (bottom (below_frame st.context.environment f) st.context.frames)
  frame_drop f st l = let h : F st ≤ with_frame m f st.context.frames (F st) = frame_least f st.context.frames (F st) in omega arith

  done_at : (core : Core) (st : CoreState) (f : Frame Mark CoreWork) → RB f st → LB f st → M (done (rows core) st f)
  unfolding done
  done_at core st (After links) b l = (b, l)
  done_at core st (Rest xs) b l = (b, l)
  done_at core st (LoopBody x) b l = on_at x st b l
  done_at core st (Target label) b l = (b, l)
  done_at core st (Catching x names handler) b l = (b, frame_drop (Catching x names handler) st l)
  done_at core st (Finishing last) b l = (b, l)
  done_at core st (Pending c) b l = hands_any c st (b, l)
  done_at core st (Restore e) b l = (b, l)
  done_at core st (Work w) b l = work_end st w b l
  done_at core st f b l = tt

  thrown_at : (site : Option Site) (c : BuiltinCall) (v : Value) (st : CoreState) → T st → M (thrown_out site c v st)
  thrown_at site c v st b = either_at m lim (drops_throw c) _ _ b b

  jumped_at : (l : Loop) (st : CoreState) (goes_on : Bool) (label : Option Label) → R st → in_loop m l + F st ≤ D st → M (loop_jumped l st goes_on label)
  jumped_at l st goes_on label b h =
      let d : F st ≤ D st = drop m lim (in_loop m l) (F st) (D st) h in
      either_at m lim (not (is_for l.labels label)) _ _ (b, d) (either_at m lim goes_on _ _ (on_at l st b h) (b, d))

  target_to : (t : Option Label) (st : CoreState) (goes_on : Bool) (label : Option Label) → T st → M (target_jumped t st goes_on label)
  target_to t st goes_on label b = either_at m lim (not goes_on && at_target t label) _ _ b b

  work_out : (core : Core) (st : CoreState) (c : Completion Mark) (w : CoreWork) → R st → W w st ≤ D st → M (work_abrupt st c w)
  work_out core st c (Resumes n) b l = resumed_at n st c (b, l)
  work_out core st c (Stepping f e) b l = no_steps (F st) st _ l
  work_out core st c w b l = hands_any c st (b, frame_drop (Work w) st l)

  -- a throw that no handler takes here
  throws_at : (core : Core) (st : CoreState) (v : Value) (f : Frame Mark CoreWork) → HandPlain (Throws v) (f ∷ st.context.frames) st.callers → RB f st → LB f st → M (abrupt (rows core) st f (Throws v))
  unfolding abrupt
  throws_at core st v (Operation site c) is b l = thrown_at site c v st (b, l)
  throws_at core st v (Catching x names handler) is b l = absurd is
  throws_at core st v (Finishing last) is b l = (b, l)
  throws_at core st v (Restore e) is b l = (b, l)
  throws_at core st v (Work w) is b l = work_out core st (Throws v) w b l
  throws_at core st v f is b l = (b, frame_drop f st l)

  restored : (v : CoreValue Mark) (e : Environment) (st : CoreState) → RB (Restore e) st → LB (Restore e) st → M (hands (Returns v) (within e st))
  restored v e st b l = returns v (within e st) (b, l)

  returns_at : (core : Core) (st : CoreState) (v : CoreValue Mark) (f : Frame Mark CoreWork) → RB f st → LB f st → M (abrupt (rows core) st f (Returns v))
  unfolding abrupt
  returns_at core st v (Finishing last) b l = (b, l)
  returns_at core st v (Restore e) b l = restored v e st b l
  returns_at core st v (Work w) b l = work_out core st (Returns v) w b l
  returns_at core st v f b l = returns v st (b, frame_drop f st l)

  jumps_at : (core : Core) (st : CoreState) (goes_on : Bool) (label : Option Label) (f : Frame Mark CoreWork) → RB f st → LB f st → M (abrupt (rows core) st f (Jumps goes_on label))
  unfolding abrupt
  jumps_at core st goes_on label (LoopBody x) b l = jumped_at x st goes_on label b l
  jumps_at core st goes_on label (Target t) b l = target_to t st goes_on label (b, l)
  jumps_at core st goes_on label (Finishing last) b l = (b, l)
  jumps_at core st goes_on label (Restore e) b l = (b, l)
  jumps_at core st goes_on label (Work w) b l = work_out core st (Jumps goes_on label) w b l
  jumps_at core st goes_on label f b l = (b, frame_drop f st l)

  -- ---- the end of a context

  ends_at : (st : CoreState) (c : Completion Mark) → HandPlain c [] [] → M (outermost st c)
  ends_at st (Throws v) is = tt
  ends_at st Done is = absurd is
  ends_at st (Returns v) is = tt
  ends_at st (Jumps goes_on label) is = tt
  ends_at st (Gives v) is = tt

  result_to : (st : CoreState) (c : Completion Mark) → T st → M (result_of st c)
  result_to st (Returns v) b = b
  result_to st (Throws v) b = b
  result_to st (Jumps goes_on label) b = tt
  result_to st (Gives v) b = b
  result_to st Done b = b

  returned_at : (st : CoreState) (c : Completion Mark) (ks : List (Context Mark Own CoreWork)) → HandPlain c [] ks → AllFit m lim ks → AllGeneratorsFit m lim st.store.generators
      → total (counted lim) ks + total (C m lim) st.store.generators ≤ 1 → M (returned st c ks)
  returned_at st c [] is all gens most = ends_at st c is
  returned_at st c (k ∷ ks) is (fits, all) gens most = result_to (record st { context = k; callers = ks }) c ((all, gens, omega arith), fits)

  hand_at : (core : Core) (st : CoreState) (c : Completion Mark) (fs : List (Frame Mark CoreWork)) → HandPlain c fs st.callers
      → OthersFit m lim (going (Hand c) fs (lim.counts (bottom st.context.environment fs))) st → in_frames m fs ≤ lim.most (bottom st.context.environment fs) → M (hand (rows core) core st c fs)
  unfolding hand
  hand_at core st c [] is (callers, gens, most) l = returned_at st c st.callers is callers gens (omega arith)
  hand_at core st (Gives v) (f ∷ fs) is b l = given_at core v (with_frames fs st) f b l
  hand_at core st Done (f ∷ fs) is b l = done_at core (with_frames fs st) f b l
  hand_at core st (Throws v) (f ∷ fs) is b l = throws_at core (with_frames fs st) v f is b l
  hand_at core st (Returns v) (f ∷ fs) is b l = returns_at core (with_frames fs st) v f b l
  hand_at core st (Jumps goes_on label) (f ∷ fs) is b l = jumps_at core (with_frames fs st) goes_on label f b l

  -- ---- a step

  begin_at : (core : Core) (x : CoreExpr) (st : CoreState) → HeadPlain (out-CoreExpr x).head → R st → E x + F st ≤ D st → M (begin_head (rows core) core (out-CoreExpr x).head (out-CoreExpr x).links st)
  begin_at core x st is b l =
      let h : in_head (out-CoreExpr x).head + L (out-CoreExpr x).links ≤ E x = measures.expr x in
      heads_at m lim core (out-CoreExpr x).head (out-CoreExpr x).links st is b (omega arith)

  control_at : (core : Core) (st : CoreState) (c : Control Mark) → MakesNoRecord st c → AllFits m lim (with_control c st) → M (step_by (rows core) core st c)
  unfolding turn
  control_at core st (Begin x) is (b, l) = begin_at core x st is b l
  control_at core st (Go c links) is (b, l) = links_at core c links st b l
  control_at core st (Run xs) is (b, l) = list_at core xs st is b l
  control_at core st (Turn site c) is b =
      let r = step_operation Sixth st.heap c in
      turned_at core site r.call (with_heap r.heap st) r.step b
  control_at core st (Calls c) is b = call_to core c st c.function is b
  control_at core st (Hand c) is (b, l) = hand_at core st c st.context.frames is b l

  steps_by : (core : Core) (s : Config) → MakesNoRecord s.state s.control → AllFits m lim s → M (core_step core s)
  unfolding step
  steps_by core s is all = control_at core s.state s.control is all

pub steps_fit : StepsFit
steps_fit m b measures one core s is all = steps_by m b measures one core s is all
