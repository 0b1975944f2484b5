-- Operations go on alike, contexts end alike, and lists run out.
use Rattle.std.proofs.Common.{◌≡◌, ℕ, zero, suc, Bool, true, false, List, [], ◌∷◌, map, Option, None, Some, length, slice_get, refl, sym, ap, subst, ◌∙◌, ◌⊎◌, inl, inr}
use Rattle.std.specs.Prelude.{is_some, slice_index_or}
use Rattle.runs.specs.Run.{Ends}
use Rattle.shared_meaning.specs.Ending.{Threw}
use Rattle.es_outside.specs.declared.events.Site.{Site}
use Rattle.es_value.specs.declared.value.ObjId.{ObjId}
use Rattle.es_value.specs.declared.value.Value.{Value}
use Rattle.es_value.specs.declared.value.Value.TheVariants as value
use Rattle.es_heap.specs.Heaps.{Heap, object_at}
use Rattle.es_heap.specs.declared.class.Class.{Class}
use Rattle.es_heap.specs.declared.class.Class.TheVariants as class
use Rattle.es_heap.specs.declared.key.Key.{Key}
use Rattle.es_realm.specs.declared.edition.Edition.TheVariants.{Sixth}
use Rattle.es_realm.specs.declared.errors.ErrorKind.{ErrorKind}
use Rattle.es_realm.specs.declared.errors.ErrorKind.TheVariants.{TypeError}
use Rattle.es_operators.specs.Primitives.{to_prims}
use Rattle.es_operators.specs.Seen.{seen_of}
use Rattle.es_calls.specs.Calls.{arg, begun}
use Rattle.es_calls.specs.declared.call.BuiltinCall.{BuiltinCall}
use Rattle.es_calls.specs.declared.call.BuiltinStep.{BuiltinStep}
use Rattle.es_calls.specs.declared.call.BuiltinStep.TheVariants as answer
use Rattle.es_calls.specs.declared.call.Resumption.{Resumption}
use Rattle.es_calls.specs.declared.call.Resumption.TheVariants as resumption
use Rattle.es_operations.specs.Steps.{asks_presence, step_operation}
use Rattle.core_ast.specs.declared.tree.CoreStat.{CoreStat}
use Rattle.core_ast.specs.declared.whole.Core.{Core}
use Rattle.core_meaning.specs.Calls.{call_class, call_value, due}
use Rattle.core_meaning.specs.Generators.{completed as ends_at_once, continues, from_start, resume, resume_by, resume_class, with_generator}
use Rattle.core_meaning.specs.Marks.{Completed, CoreNext, CoreState, CoreWork, Executing, Exported, Generator, Mark, Own, Resumed}
use Rattle.core_meaning.specs.Modules.{core_step, export_in, exports_at, read_export, read_out, rows}
use Rattle.core_meaning.specs.Rows.{hands, pushed, raises, with_control, with_heap, with_option}
use Rattle.core_meaning.specs.State.{Call, Calls, Completion, Context, Done, Environment, Extra, Frame, Gives, Hand, Jumps, Operation, Returns, Run, Throws, Turn, User}
use Rattle.core_meaning.specs.Step.{after_turn, hand, next_body, outermost, result_of, returned, step, turn}
use Rattle.pass_rules.specs.Scopes.{stats_flat}
use Rattle.cells_keep_runs.specs.Alike.{Alike, Config}
use Rattle.cells_keep_runs.specs.Passed.{placed}
use Rattle.cells_keep_runs.specs.Related.{All, Contexts, Frames, Generators, IsScope, Related, Seats, Stand, Tail, a_scope, at_same, at_start, at_statements, at_yield, catching, choice, completed, derived, executing, fetch, finishing, image_in, images, instantiates, loop_body, loop_test, loop_update, matching, no_scope, none, part, pending, plain, prototype, rest, restore, resumes, returning, starts, subject, target, throwing, waits, waits_for_cell, with_image}
use Rattle.cells_keep_runs.specs.Turned.{CallsNoClosure, ContextsEndAlike, IsNoClosure, ListsRunOut, OtherCallsAreAlike, TurnsAreAlike}
use Rattle.cells_keep_runs.specs.Ways.{Way}
use Rattle.cells_keep_runs.proofs.Alike.{hosted, under_at_heap, under_raised}
use Rattle.cells_keep_runs.proofs.Carried.{B, U, carries, stand_heap, stand_pushed}
use Rattle.cells_keep_runs.proofs.Ended.{set_all, stand_generator}
use Rattle.cells_keep_runs.proofs.Grown.{below_rest}
use Rattle.cells_keep_runs.proofs.Passed.{ended}
use Rattle.cells_keep_runs.proofs.Statements.{run_at}
use Rattle.cells_keep_runs.proofs.Acted.{results_alike}

abbrev Frames1 : Type 0
Frames1 = List (Frame Mark CoreWork)

module _ (core core2 : Core) (owners : List ℕ) (seats : Seats) where
  abbrev R : Config → Config → Type 0
  R = Related owners seats

  abbrev A : CoreNext → CoreNext → Type 0
  A = Alike R

  abbrev UU : CoreState → CoreState → Type 0
  UU = U owners seats

  at_bare : (c : Completion Mark) (s t : CoreState) → UU s t → A (hands c s) (hands c t)
  at_bare c s t b = (_, refl, at_same (Hand c) tt b.0 b.1)

  heap_on : (s t : CoreState) (h : Heap) → UU s t → UU (with_heap h s) (with_heap h t)
  heap_on s t h b = (stand_heap owners seats s t h b.0, b.1)

  throws_error : (kind : ErrorKind) (s t : CoreState) → UU s t → A (raises kind s) (raises kind t)
  throws_error kind s t b = under_raised R (B owners seats) (U owners seats) (carries owners seats) s t kind b

  operation_on : (site : Option Site) (c : BuiltinCall) (s t : CoreState) → UU s t → UU (pushed (Operation site c) s) (pushed (Operation site c) t)
  operation_on site c s t b = (stand_pushed owners seats s t (Operation site c) (Operation site c) b.0, plain tt b.1)

  -- ---- namespaces

  export_alike : (presence : Bool) (e : Option Exported) (s t : CoreState) → UU s t → A (read_export presence s e) (read_export presence t e)
  export_alike true e s t b = at_bare (Gives (User (value.Bool (is_some e)))) s t b
  export_alike false None s t b = at_bare (Gives (User value.Undefined)) s t b
  export_alike false (Some e) s t b = (_, refl, at_same (Calls (due e.getter value.Undefined [] None)) tt b.0 b.1)

  exports_same : (s t : CoreState) (k : Class) → Stand owners seats s t → exports_at t k ≡ exports_at s k
  exports_same s t (class.Namespace n) x = ap (λ ns. slice_index_or ns n []) x.states.namespaces
  exports_same s t k x = refl

  read_alike : (presence : Bool) (id : ObjId) (k : Key) (s t : CoreState) → UU s t → A (read_out presence id k s) (read_out presence id k t)
  read_alike presence id k s t b =
      let e = exports_at s (object_at s.heap id).class in
      let same : exports_at t (object_at t.heap id).class ≡ e = ap (λ h. exports_at t (object_at h id).class) b.0.states.heap ∙ exports_same s t (object_at s.heap id).class b.0 in
      subst (λ es. A (read_export presence s (export_in e k)) (read_export presence t (export_in es k))) (sym same) (export_alike presence (export_in e k) s t b)

  -- ---- generators

  got_alike : (xs ys : List Generator) (n : ℕ) (s t : CoreState) (f g : Generator → CoreNext) → All (Generators owners seats) xs ys → ((a b : Generator) → Generators owners seats a b → A (f a) (g b))
      → A (with_option (slice_get xs n) s f) (with_option (slice_get ys n) t g)
  got_alike [] [] n s t f g rs h = tt
  got_alike [] (y ∷ ys) n s t f g rs h = absurd rs
  got_alike (x ∷ xs) [] n s t f g rs h = absurd rs
  got_alike (x ∷ xs) (y ∷ ys) zero s t f g (r, rs) h = h x y r
  got_alike (x ∷ xs) (y ∷ ys) (suc n) s t f g (r, rs) h = got_alike xs ys n s t f g rs h

  at_once : (kind : Resumption) (v : Value) (s t : CoreState) → UU s t → A (ends_at_once kind v s) (ends_at_once kind v t)
  at_once resumption.Next v s t b = results_alike core core2 owners seats value.Undefined true s t b
  at_once resumption.Return v s t b = results_alike core core2 owners seats v true s t b
  at_once resumption.Throw v s t b = at_bare (Throws v) s t b

  continue_alike : (n : ℕ) (a a2 : Context Mark Own CoreWork) (kind : Resumption) (v : Value) (s t : CoreState) → UU s t → Contexts owners seats a a2 → A (continues n a kind v s) (continues n a2 kind v t)
  continue_alike n a a2 kind v s t (x, r) c = (
    _,
    refl,
    at_same (Hand (Gives (Extra (Resumed kind v)))) tt
        (record {
          states = record {
            heap = x.states.heap;
            memory = x.states.memory;
            closures = x.states.closures;
            callers = (record { environment = x.environment; below = x.below; receiver = x.receiver; site = x.site; own = x.own; frames = resumes n r }, x.states.callers);
            ahead = x.states.ahead;
            this_values = x.states.this_values;
            generators = set_all (Generators owners seats) s.store.generators t.store.generators n Executing Executing executing x.states.generators;
            namespaces = x.states.namespaces;
            templates = x.states.templates;
            statics = x.states.statics;
          };
          environment = c.environment;
          below = c.below;
          receiver = c.receiver;
          site = c.site;
          own = c.own;
        })
        c.frames,
  )

  completed_on : (n : ℕ) (s t : CoreState) → UU s t → UU (with_generator n Completed s) (with_generator n Completed t)
  completed_on n s t b = (stand_generator owners seats s t n Completed Completed completed b.0, b.1)

  start_alike : (n : ℕ) (a a2 : Context Mark Own CoreWork) (kind : Resumption) (v : Value) (s t : CoreState) → UU s t → Contexts owners seats a a2 → A (from_start n a kind v s) (from_start n a2 kind v t)
  start_alike n a a2 resumption.Next v s t b c = continue_alike n a a2 resumption.Next v s t b c
  start_alike n a a2 resumption.Return v s t b c = at_once resumption.Return v (with_generator n Completed s) (with_generator n Completed t) (completed_on n s t b)
  start_alike n a a2 resumption.Throw v s t b c = at_once resumption.Throw v (with_generator n Completed s) (with_generator n Completed t) (completed_on n s t b)

  resume_alike : (n : ℕ) (kind : Resumption) (v : Value) (s t : CoreState) (a b : Generator) → UU s t → Generators owners seats a b → A (resume_by n kind v s a) (resume_by n kind v t b)
  resume_alike n kind v s t a b u (at_start {a = c} {b = d} r) = start_alike n c d kind v s t u r
  resume_alike n kind v s t a b u (at_yield {a = c} {b = d} r) = continue_alike n c d kind v s t u r
  resume_alike n kind v s t a b u executing = throws_error TypeError s t u
  resume_alike n kind v s t a b u completed = at_once kind v s t u

  class_alike : (kind : Resumption) (v : Value) (k : Class) (s t : CoreState) → UU s t → A (resume_class kind v s k) (resume_class kind v t k)
  class_alike kind v (class.Generator n) s t b =
      got_alike s.store.generators t.store.generators n s t (resume_by n kind v s) (resume_by n kind v t) b.0.states.generators (λ x y r. resume_alike n kind v s t x y b r)
  class_alike kind v k s t b = throws_error TypeError s t b

  resumes_alike : (kind : Resumption) (receiver v : Value) (s t : CoreState) → UU s t → A (resume kind receiver v s) (resume kind receiver v t)
  resumes_alike kind (value.Object id) v s t b =
      subst (λ h. A (resume kind (value.Object id) v s) (resume_class kind v t (object_at h id).class)) (sym b.0.states.heap) (class_alike kind v (object_at s.heap id).class s t b)
  resumes_alike kind receiver v s t b = throws_error TypeError s t b

  -- ---- a turn

  answered : (site : Option Site) (c : BuiltinCall) (a : BuiltinStep) (s t : CoreState) → UU s t → A (after_turn (rows core) site c s a) (after_turn (rows core2) site c t a)
  answered site c answer.Running s t b = (_, refl, at_same (Turn site c) tt b.0 b.1)
  answered site c (answer.CallOut f receiver args) s t b =
      let o = operation_on site c s t b in
      (_, refl, at_same (Calls (due f receiver args site)) tt o.0 o.1)
  answered site c (answer.ReadOut id k) s t b = read_alike (asks_presence c) id k (pushed (Operation site c) s) (pushed (Operation site c) t) (operation_on site c s t b)
  answered site c (answer.Resume kind) s t b = resumes_alike kind c.this_value (arg c 0) s t b
  answered site c (answer.Done v) s t b = at_bare (Gives (User v)) s t b
  answered site c (answer.Throws e) s t b = throws_error e s t b
  answered site c (answer.Leaves x) s t b = tt
  answered site c a s t b = tt

  turn_alike : (site : Option Site) (c : BuiltinCall) (s t : CoreState) → UU s t → A (turn (rows core) site c s) (turn (rows core2) site c t)
  unfolding turn
  turn_alike site c s t b =
      let r = step_operation Sixth s.heap c in
      under_at_heap R (B owners seats) (U owners seats) (carries owners seats) s t b (after_turn (rows core) site r.call (with_heap r.heap s) r.step)
      (λ h. after_turn (rows core2) site (step_operation Sixth h c).call (with_heap (step_operation Sixth h c).heap t) (step_operation Sixth h c).step)
      (answered site r.call r.step (with_heap r.heap s) (with_heap r.heap t) (heap_on s t r.heap b))

  -- ---- other calls

  call_by : (c : Call) (k : Class) (s t : CoreState) → IsNoClosure k → UU s t → A (call_class (rows core) core c s k) (call_class (rows core2) core2 c t k)
  unfolding call_class
  call_by c (class.Function n) s t is b = absurd is
  call_by c (class.Builtin n) s t is b = (_, refl, at_same (Turn c.site (begun n c.receiver c.args)) tt b.0 b.1)
  call_by c (class.Host n) s t is b = hosted R (B owners seats) (U owners seats) (carries owners seats) s t n c.site (to_prims c.args) b
  call_by c k s t is b = throws_error TypeError s t b

  call_alike : (c : Call) (v : Value) (s t : CoreState) → CallsNoClosure s.heap v → UU s t → A (call_value (rows core) core c s v) (call_value (rows core2) core2 c t v)
  call_alike c (value.Object id) s t is b =
      subst (λ h. A (call_class (rows core) core c s (object_at s.heap id).class) (call_class (rows core2) core2 c t (object_at h id).class)) (sym b.0.states.heap) (call_by c (object_at s.heap id).class s t is b)
  call_alike c v s t is b = throws_error TypeError s t b

  -- ---- the end of a context

  stand_caller : (s t : CoreState) (k k2 : Context Mark Own CoreWork) (ks ks2 : List (Context Mark Own CoreWork)) → Stand owners seats s t → Contexts owners seats k k2 → All (Contexts owners seats) ks ks2
      → UU (record s { context = k; callers = ks }) (record t { context = k2; callers = ks2 })
  stand_caller s t k k2 ks ks2 x c cs = (
    record {
      states = record {
        heap = x.states.heap;
        memory = x.states.memory;
        closures = x.states.closures;
        callers = cs;
        ahead = x.states.ahead;
        this_values = x.states.this_values;
        generators = x.states.generators;
        namespaces = x.states.namespaces;
        templates = x.states.templates;
        statics = x.states.statics;
      };
      environment = c.environment;
      below = c.below;
      receiver = c.receiver;
      site = c.site;
      own = c.own;
    },
    c.frames,
  )

  result_alike : (c : Completion Mark) (s t : CoreState) → UU s t → A (result_of s c) (result_of t c)
  result_alike (Returns v) s t b = at_bare (Gives v) s t b
  result_alike (Throws v) s t b = at_bare (Throws v) s t b
  result_alike (Jumps goes_on label) s t b = tt
  result_alike (Gives v) s t b = at_bare (Gives (User value.Undefined)) s t b
  result_alike Done s t b = at_bare (Gives (User value.Undefined)) s t b

  stand_ahead : (s t : CoreState) (bs : List (List CoreStat)) → Stand owners seats s t → Stand owners seats (record s { ahead = bs }) (record t { ahead = map (stats_flat owners) bs })
  stand_ahead s t bs x = record {
    states = record {
      heap = x.states.heap;
      memory = x.states.memory;
      closures = x.states.closures;
      callers = x.states.callers;
      ahead = refl;
      this_values = x.states.this_values;
      generators = x.states.generators;
      namespaces = x.states.namespaces;
      templates = x.states.templates;
      statics = x.states.statics;
    };
    environment = x.environment;
    below = x.below;
    receiver = x.receiver;
    site = x.site;
    own = x.own;
  }

  next_alike : (bs : List (List CoreStat)) (s t : CoreState) → UU s t → A (next_body s bs) (next_body t (map (stats_flat owners) bs))
  next_alike [] s t b = refl
  next_alike (x ∷ xs) s t b = (_, refl, run_at core core2 owners seats (record s { ahead = xs }) (record t { ahead = map (stats_flat owners) xs }) x (stand_ahead s t xs b.0) b.1)

  outermost_alike : (c : Completion Mark) (s t : CoreState) → UU s t → A (outermost s c) (outermost t c)
  outermost_alike (Throws v) s t b = ap (λ h. Ends (Threw (seen_of h v))) b.0.states.heap
  outermost_alike Done s t b = subst (λ bs. A (next_body s s.ahead) (next_body t bs)) (sym b.0.states.ahead) (next_alike s.ahead s t b)
  outermost_alike (Returns v) s t b = tt
  outermost_alike (Jumps goes_on label) s t b = tt
  outermost_alike (Gives v) s t b = tt

  returned_alike : (c : Completion Mark) (s t : CoreState) (ks ks2 : List (Context Mark Own CoreWork)) → UU s t → All (Contexts owners seats) ks ks2 → A (returned s c ks) (returned t c ks2)
  returned_alike c s t [] [] b cs = outermost_alike c s t b
  returned_alike c s t [] (k2 ∷ ks2) b cs = absurd cs
  returned_alike c s t (k ∷ ks) [] b cs = absurd cs
  returned_alike c s t (k ∷ ks) (k2 ∷ ks2) b (r, rs) =
      result_alike c (record s { context = k; callers = ks }) (record t { context = k2; callers = ks2 }) (stand_caller s t k k2 ks ks2 b.0 r rs)

  no_frames : (e : Environment) (fs gs : Frames1) → Frames owners seats e fs gs → fs ≡ [] → gs ≡ []
  no_frames e fs gs none is = refl
  no_frames e fs gs (plain h r) is = cc
  no_frames e fs gs (waits w ls r) is = cc
  no_frames e fs gs (waits_for_cell x l ls w r) is = cc
  no_frames e fs gs (part p c r) is = cc
  no_frames e fs gs (fetch base k p r) is = cc
  no_frames e fs gs (rest xs tail r) is = cc
  no_frames e fs gs (choice body cases r) is = cc
  no_frames e fs gs (subject cases r) is = cc
  no_frames e fs gs (matching v cases all r) is = cc
  no_frames e fs gs (loop_test l r) is = cc
  no_frames e fs gs (loop_body l r) is = cc
  no_frames e fs gs (loop_update l r) is = cc
  no_frames e fs gs (target label r) is = cc
  no_frames e fs gs (returning r) is = cc
  no_frames e fs gs (throwing r) is = cc
  no_frames e fs gs (catching x names handler r) is = cc
  no_frames e fs gs (finishing last r) is = cc
  no_frames e fs gs (pending c r) is = cc
  no_frames e fs gs (restore away r) is = cc
  no_frames e fs gs (derived n r) is = cc
  no_frames e fs gs (instantiates body r) is = cc
  no_frames e fs gs (prototype body r) is = cc
  no_frames e fs gs (starts body r) is = cc
  no_frames e fs gs (resumes n r) is = cc

  hand_ends : (x : Core) (c : Completion Mark) (s : CoreState) → s.context.frames ≡ [] → core_step x (with_control (Hand c) s) ≡ returned s c s.callers
  unfolding step hand
  hand_ends x c s is = ap (λ fs. hand (rows x) x s c fs) is

pub turns_alike : TurnsAreAlike
unfolding step
turns_alike core core2 owners seats site c s t stand r = turn_alike core core2 owners seats site c s t (stand, r)

pub other_calls_alike : OtherCallsAreAlike
unfolding step
other_calls_alike core core2 owners seats c s t is stand r = call_alike core core2 owners seats c c.function s t is (stand, r)

pub contexts_end : ContextsEndAlike
contexts_end core core2 owners seats c s t is stand r =
    let is2 : t.context.frames ≡ [] = no_frames core core2 owners seats s.context.environment s.context.frames t.context.frames r is in
    subst (λ n. Alike (Related owners seats) n (core_step core2 (with_control (Hand c) t))) (sym (hand_ends core core2 owners seats core c s is))
    (subst (λ n. Alike (Related owners seats) (returned s c s.callers) n) (sym (hand_ends core core2 owners seats core2 c t is2)) (returned_alike core core2 owners seats c s t s.callers t.callers (stand, r) stand.states.callers))

-- ---- lists that have run out

module _ (core core2 : Core) (owners : List ℕ) (seats : Seats) where
  abbrev RunsOut : Environment → Frames1 → List CoreStat → CoreState → CoreState → Type 0
  RunsOut e fs ys s t =
      Alike (Related owners seats) (core_step core (with_control (Run []) (placed e fs s))) (core_step core2 (with_control (Run ys) t))
      ⊎ ((xs : List CoreStat) × (u : CoreState) × Way core 3 (Run []) (placed e fs s) (Run xs) u × Related owners seats (with_control (Run xs) u) (with_control (Run ys) t))

  pub leaves_scope : (n : ℕ) (e : Environment) (fs fs2 : Frames1) (s t : CoreState) → IsScope seats n → Stand owners seats (placed (n ∷ e) fs s) t → Stand owners seats (placed e fs2 s) t
  leaves_scope n e fs fs2 s t (seat, at, away) x = record {
    states = record {
      heap = x.states.heap;
      memory = x.states.memory;
      closures = x.states.closures;
      callers = x.states.callers;
      ahead = x.states.ahead;
      this_values = x.states.this_values;
      generators = x.states.generators;
      namespaces = x.states.namespaces;
      templates = x.states.templates;
      statics = x.states.statics;
    };
    environment = x.environment ∙ ap (λ o. with_image (image_in o) (images seats e)) at ∙ ap (λ i. with_image i (images seats e)) away;
    below = below_rest (length seats) n e x.below;
    receiver = x.receiver;
    site = x.site;
    own = x.own;
  }

  run_out : (e e2 : Environment) (fs gs : Frames1) (ys : List CoreStat) (s t : CoreState) → Stand owners seats (placed e fs s) t → Tail owners seats e fs ys e2 gs → Frames owners seats e2 gs t.context.frames → RunsOut e fs ys s t
  unfolding step
  run_out e e2 fs gs ys s t stand no_scope r = inl (_, refl, at_same (Hand Done) tt stand r)
  run_out e e2 fs gs ys s t stand (a_scope {n = n} {e = e3} {ys = ys2} {fs = fs3} xs is tail) r =
      inr (
        xs,
        placed e3 fs3 s,
        (_, refl, ended core e3 xs (placed (n ∷ e3) fs3 s)),
        at_statements xs (leaves_scope n e3 fs fs3 s t is stand) (e2, gs, tail, r),
      )

pub lists_run_out : ListsRunOut
lists_run_out core core2 owners seats ys s t stand (e, gs, tail, r) = run_out core core2 owners seats s.context.environment e s.context.frames gs ys s t stand tail r
