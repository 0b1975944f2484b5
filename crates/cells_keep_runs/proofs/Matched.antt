-- Each step from related configurations that are ready is matched.
use Rattle.std.proofs.Common.{◌≡◌, ◌<◌, ◌+◌, ℕ, zero, suc, Bool, true, false, cond, List, [], ◌∷◌, ◌++◌, map, Option, None, Some, length, refl, sym, ap, arith, subst, ◌∙◌, ◌⊎◌, inl, inr}
use Rattle.runs.specs.Run.{Asks, Ends, Goes, Leaves}
use Rattle.runs.specs.Simulation.{Reaches}
use Rattle.es_outside.specs.declared.events.Site.{Site}
use Rattle.es_value.specs.declared.value.Value.{Value}
use Rattle.es_value.specs.declared.value.Value.TheVariants as value
use Rattle.es_heap.specs.declared.key.Key.{Key}
use Rattle.core_ast.specs.declared.parts.CoreHead.{CoreHead}
use Rattle.core_ast.specs.declared.parts.CoreHead.TheVariants as head
use Rattle.core_ast.specs.declared.parts.CoreOp.{CoreOp}
use Rattle.core_ast.specs.declared.parts.CoreOp.TheVariants as op
use Rattle.core_ast.specs.declared.parts.Primitive.{Primitive}
use Rattle.core_ast.specs.declared.parts.Primitive.TheVariants as primitive
use Rattle.core_ast.specs.declared.parts.ScopedName.{ScopedName}
use Rattle.core_ast.specs.declared.parts.Var.{Var}
use Rattle.core_ast.specs.declared.tree.CoreCase.{CoreCase}
use Rattle.core_ast.specs.declared.tree.CoreExpr.{CoreExpr, out-CoreExpr}
use Rattle.core_ast.specs.declared.tree.CoreLink.{CoreLink, out-CoreLink}
use Rattle.core_ast.specs.declared.tree.CoreLink.TheOpen as layer
use Rattle.core_ast.specs.declared.tree.CoreLink.TheOpen.{CoreLink-F, CoreStat-F}
use Rattle.core_ast.specs.declared.tree.CoreStat.{CoreStat, out-CoreStat}
use Rattle.core_ast.specs.declared.whole.Core.{Core}
use Rattle.core_meaning.specs.Marks.{Cell, CoreNext, CoreState, CoreStrict, CoreWork, Heritage, Mark, Own}
use Rattle.core_meaning.specs.Modules.{core_step, rows}
use Rattle.core_meaning.specs.Names.{record_at, stored_at}
use Rattle.core_meaning.specs.Rows.{pushed, unlawful, with_control, with_frames}
use Rattle.core_meaning.specs.State.{After, Begin, Call, Calls, Catching, Closure, Completion, Control, CoreValue, Current, Done, Environment, Extra, Fetch, Frame, Gives, Go, Hand, Has, Hosted, Jumps, Made, Making, Method, Old, Operation, Part, Reference, Rest, Returns, Run, Throws, Turn, User, Work}
use Rattle.core_meaning.specs.Step.{act_by, go, go_reference, go_value, hand, given, parts, step}
use Rattle.pass_rules.specs.Cells.{is_shared}
use Rattle.pass_rules.specs.Scopes.{expr_flat, reset, stats_flat}
use Rattle.cells_keep_runs.specs.Acted.{IsAlikeOp, KindsAreKept}
use Rattle.cells_keep_runs.specs.Alike.{Alike, Along, Config, IsPlain, OfAfter, strict}
use Rattle.cells_keep_runs.specs.Begun.{IsUntouchedHead, Matched}
use Rattle.cells_keep_runs.specs.Copied.{copied_seats}
use Rattle.cells_keep_runs.specs.Course.{NewSeats, StepMatched, StepsAreMatched, a_call_more, a_copy_more, a_handler_more, a_scope_more, alone, asks, ends, leaves, no_more, together}
use Rattle.cells_keep_runs.specs.Ended.{EndsHere}
use Rattle.cells_keep_runs.specs.Entered.{entered_seats}
use Rattle.cells_keep_runs.specs.Entries.{call_seat}
use Rattle.cells_keep_runs.specs.Handled.{handled_seats, handler_entered}
use Rattle.cells_keep_runs.specs.Links.{IsUntouchedLink}
use Rattle.cells_keep_runs.specs.Named.{call_names, scoped_names}
use Rattle.cells_keep_runs.specs.Opened.{AllHold, Opened, link_in, opened, opened_by, write_in, written_by}
use Rattle.cells_keep_runs.specs.Passed.{placed, scope_entered}
use Rattle.cells_keep_runs.specs.Ready.{AreApart, AreFlattened, CallReady, ControlReady, EndReady, GivesReady, GoesReady, HandReady, HandlerReady, HeadReady, Keeping, LinkReady, ListReady, PartsReady, ScopeReady, StatReady, WriteReady, Writes}
use Rattle.cells_keep_runs.specs.Related.{BelowCells, IsThen, BelowScopes, Currents, Frames, IsBare, PartCurrents, Related, Seats, Stand, Tail, Waits, WaitsAfter, WaitsBehind, WaitsDelegate, WaitsDelegateDone, WaitsDelegateStart, WaitsDelegateTurn, WaitsDelegateValue, WaitsHeritage, WaitsKeyed, WaitsPrototype, WaitsSpread, WaitsSpreadStep, WaitsSpreadValue, WaitsToStep, WaitsToStore, WaitsYield, a_scope, at_copy, at_exit, at_expression, at_links, at_same, at_statements, behind_copy, catching, cell_along, choice, derived, fetch, finishing, instantiates, loop_body, loop_test, loop_update, matching, no_scope, none, part, part_flat, past_cells, pending, plain, prototype, rest, restore, resumes, returning, same_current, same_part, starts, subject, target, then_part, throwing, waiting, waits, waits_for_cell}
use Rattle.cells_keep_runs.specs.Seen.{IsWrite}
use Rattle.cells_keep_runs.specs.Statements.{IsUntouchedStat}
use Rattle.cells_keep_runs.specs.Taken.{TakesHere}
use Rattle.cells_keep_runs.specs.Ways.{IsAbrupt, Way, reset_steps, writing}
use Rattle.cells_keep_runs.proofs.Begun.{answered, heads_begin}
use Rattle.cells_keep_runs.proofs.Called.{calls_enter}
use Rattle.cells_keep_runs.proofs.Carried.{stand_pushed}
use Rattle.cells_keep_runs.proofs.Classed.{classes_made, heritages_taken, members_put}
use Rattle.cells_keep_runs.proofs.Closed.{closures_made}
use Rattle.cells_keep_runs.proofs.Copied.{copies_begin}
use Rattle.cells_keep_runs.proofs.Ended.{abrupt_ends_alike, cells_passed, ends_alike, stand_under}
use Rattle.cells_keep_runs.proofs.Entered.{scopes_entered}
use Rattle.cells_keep_runs.proofs.Faced.{Faces, IsGo, IsRun, OpView, empty_list, faces, faces_end, faces_handler, faces_other, goes_too, handler_too, op_alike, op_class, op_member, op_view, parts_ready, runs_too}
use Rattle.cells_keep_runs.proofs.Given.{links_take}
use Rattle.cells_keep_runs.proofs.Going.{operations_go, primitives_begin, writes_none}
use Rattle.cells_keep_runs.proofs.Handled.{handlers_take}
use Rattle.cells_keep_runs.proofs.Linked.{cells_take, copies_dropped, copies_go_on, links_end, references_read}
use Rattle.cells_keep_runs.proofs.Links.{after_frames, flat_layer, layer_of, links_go, part_frames}
use Rattle.cells_keep_runs.proofs.Passed.{ended, past_rest, past_restore}
use Rattle.cells_keep_runs.proofs.Readied.{all_hold, arguments_of, behind_at, behind_of, called_of, class_seen, closures_of, enters_of, new_scope, seen_in}
use Rattle.cells_keep_runs.proofs.Seen.{further, names_read, names_written, write_is}
use Rattle.cells_keep_runs.proofs.Statements.{statements_begin}
use Rattle.cells_keep_runs.proofs.Taken.{values_taken}
use Rattle.cells_keep_runs.proofs.Turned.{contexts_end, leaves_scope, other_calls_alike, turns_alike}

abbrev Frames1 : Type 0
Frames1 = List (Frame Mark CoreWork)

module _ (core core2 : Core) (kept : Keeping) (owners : List ℕ) (seats : Seats) (flattened : AreFlattened core core2 owners kept) (apart : AreApart core kept owners) where
  abbrev R : Config → Config → Type 0
  R = Related owners seats

  abbrev S : Config → Config → Type 0
  S = StepMatched core core2 kept owners seats

  abbrev At : Environment → Frames1 → Frames1 → Type 0
  At = Frames owners seats

  -- ---- from what the laws of the steps say

  from_matched : (seats2 : Seats) (s t : Config) (n : CoreNext) → NewSeats core kept owners seats s t seats2 → core_step core s ≡ n → Matched (Related owners seats2) core2 n t → S s t
  from_matched seats2 s t (Goes s2) new is (k, u, way, r) = together 0 k s2 u (s2, is, refl) way (seats2, new, r)
  from_matched seats2 s t (Asks e follow) new is (k, u, follow2, way, is2, r) = asks k u e follow follow2 is way is2 (λ a. (seats2, new, r a))
  from_matched seats2 s t (Ends ending) new is (k, u, way, is2) = ends k u ending is way is2
  from_matched seats2 s t (Leaves exit) new is x = leaves exit is

  matched_here : (s t : Config) → Matched R core2 (core_step core s) t → S s t
  matched_here s t m = from_matched seats s t (core_step core s) no_more refl m

  -- behind some steps of the target
  behind_steps : (s t u : Config) (k : ℕ) → Reaches (core_step core2) k t u → Alike R (core_step core s) (core_step core2 u) → S s t
  behind_steps s t u k way a = matched_here s t (answered R core2 (core_step core s) t u k way a)

  a_step_each : (s t : Config) → Alike R (core_step core s) (core_step core2 t) → S s t
  a_step_each s t a = behind_steps s t t 0 refl a

  it_leaves : (s t : Config) (n : CoreNext) → core_step core s ≡ n → ((m : CoreNext) → Alike R n m) → S s t
  it_leaves s t n is h = from_matched seats s t n no_more is (answered R core2 n t t 0 refl (h (core_step core2 t)))

  -- ---- a throw, a return or a jump

  handler_takes : (e : Environment) (v : Value) (x : Var) (names : List ScopedName) (handler : List CoreStat) (fs below : Frames1) (s t u : CoreState) (k : ℕ)
      → (ready : HandlerReady owners seats (placed e (Catching x names handler ∷ fs) s) x names)
      → Stand owners seats (placed e (Catching x names handler ∷ fs) s) t → At e fs below
      → u ≡ with_frames (Catching x [] (map reset names ++ stats_flat owners handler) ∷ below) t
      → Way core2 k (Hand (Throws v)) t (Hand (Throws v)) u
      → S (with_control (Hand (Throws v)) (placed e (Catching x names handler ∷ fs) s)) (with_control (Hand (Throws v)) t)
  handler_takes e v x names handler fs below s t u k ready stand r is way =
      let all : Frames1 = Catching x names handler ∷ fs in
      let s2 : CoreState = placed e fs s in
      let t2 : CoreState = with_frames below t in
      let stand2 : Stand owners seats s2 t2 = stand_under core core2 owners seats e all t.context.frames fs below s t stand in
      let a = handlers_take core core2 owners seats ready.pattern.home x names handler v s2 t2 (new_scope owners seats (placed e all s) t names stand ready.pattern) ready.pattern.at ready.apart stand2 r in
      let way2 : Way core2 k (Hand (Throws v)) t (Hand (Throws v)) (pushed (Catching x [] (map reset names ++ stats_flat owners handler)) t2) = subst (λ z. Way core2 k (Hand (Throws v)) t (Hand (Throws v)) z) is way in
      handled a.0 a.1 a.2 way2 a.3 a.4
    where
      handled : (j : ℕ) (w : Config) → core_step core (with_control (Hand (Throws v)) (placed e (Catching x names handler ∷ fs) s)) ≡ Goes (with_control (Run handler) (handler_entered x v names (placed e fs s)))
          → Way core2 k (Hand (Throws v)) t (Hand (Throws v)) (pushed (Catching x [] (map reset names ++ stats_flat owners handler)) (with_frames below t))
          → Reaches (core_step core2) j (with_control (Hand (Throws v)) (pushed (Catching x [] (map reset names ++ stats_flat owners handler)) (with_frames below t))) w
          → Related owners (handled_seats seats (length t.records) x ready.pattern.home names (length t.store.cells)) (with_control (Run handler) (handler_entered x v names (placed e fs s))) w
          → S (with_control (Hand (Throws v)) (placed e (Catching x names handler ∷ fs) s)) (with_control (Hand (Throws v)) t)
      handled zero w step way2 same related = absurd (subst (λ z. IsRun z.control) (sym same) (runs_in w related))
        where
          runs_in : (z : Config) → Related owners (handled_seats seats (length t.records) x ready.pattern.home names (length t.store.cells)) (with_control (Run handler) (handler_entered x v names (placed e fs s))) z → IsRun z.control
          runs_in z q = runs_too owners (handled_seats seats (length t.records) x ready.pattern.home names (length t.store.cells)) (with_control (Run handler) (handler_entered x v names (placed e fs s))) z q tt
      handled (suc j) w step way2 way3 related =
          together 0 (k + j) (with_control (Run handler) (handler_entered x v names (placed e fs s))) w (_, step, refl)
          (further core2 k j (with_control (Hand (Throws v)) t) (with_control (Hand (Throws v)) (pushed (Catching x [] (map reset names ++ stats_flat owners handler)) (with_frames below t))) w way2 way3)
          (handled_seats seats (length t.records) x ready.pattern.home names (length t.store.cells), a_handler_more v x names handler fs ready refl refl, related)

  -- behind so many steps of the target that both stand at the same
  abrupt_by : (e : Environment) (c : Completion Mark) (fs gs : Frames1) (s t : CoreState) (k : ℕ) → IsAbrupt c → HandReady core kept owners seats (placed e fs s) c
      → Stand owners seats (placed e fs s) t → At e fs gs → Way core2 k (Hand c) t (Hand c) (with_frames gs t) → Faces c fs
      → S (with_control (Hand c) (placed e fs s)) (with_control (Hand c) t)
  abrupt_by e c fs gs s t k is ready stand r way (faces_end empty) =
      behind_steps (with_control (Hand c) (placed e fs s)) (with_control (Hand c) t) (with_control (Hand c) (with_frames gs t)) k way
      (contexts_end core core2 owners seats c (placed e fs s) (with_frames gs t) empty (stand_under core core2 owners seats e fs t.context.frames fs gs s t stand) r)
  abrupt_by e c fs gs s t k is ready stand r way (faces_other passes) =
      behind_steps (with_control (Hand c) (placed e fs s)) (with_control (Hand c) t) (with_control (Hand c) (with_frames gs t)) k way
      (abrupt_ends_alike core core2 owners seats c (placed e fs s) (with_frames gs t) is passes (stand_under core core2 owners seats e fs t.context.frames fs gs s t stand) r)
  abrupt_by e c fs gs s t k is ready stand r way (faces_handler v x names handler fs2 c_is fs_is) =
      let h = handler_too owners seats e fs gs x names handler fs2 r fs_is in
      by_handler c_is fs_is h.below h.related (ap (λ hs. with_frames hs t) h.is)
    where
      by_handler : c ≡ Throws v → fs ≡ Catching x names handler ∷ fs2 → (below : Frames1) → At e fs2 below → with_frames gs t ≡ with_frames (Catching x [] (map reset names ++ stats_flat owners handler) ∷ below) t
          → S (with_control (Hand c) (placed e fs s)) (with_control (Hand c) t)
      by_handler c2 fs3 below r2 u_is =
          subst (λ d. S (with_control (Hand d) (placed e fs s)) (with_control (Hand d) t)) (sym c2)
          (subst (λ hs. S (with_control (Hand (Throws v)) (placed e hs s)) (with_control (Hand (Throws v)) t)) (sym fs3)
          (handler_takes e v x names handler fs2 below s t (with_frames gs t) k
          (subst (λ hs. HandReady core kept owners seats (placed e hs s) (Throws v)) fs3 (subst (λ d. HandReady core kept owners seats (placed e fs s) d) c2 ready))
          (subst (λ hs. Stand owners seats (placed e hs s) t) fs3 stand) r2 u_is (subst (λ d. Way core2 k (Hand d) t (Hand d) (with_frames gs t)) c2 way)))

  abrupt_here : (c : Completion Mark) (gs : Frames1) (s t : CoreState) (k : ℕ) → IsAbrupt c → HandReady core kept owners seats s c
      → Stand owners seats s t → At s.context.environment s.context.frames gs → Way core2 k (Hand c) t (Hand c) (with_frames gs t)
      → S (with_control (Hand c) s) (with_control (Hand c) t)
  abrupt_here c gs s t k is ready stand r way = abrupt_by s.context.environment c s.context.frames gs s t k is ready stand r way (faces c s.context.frames)

  -- out of the scopes, one after the other
  exit_by : (c : Completion Mark) (e e2 : Environment) (fs fs2 : Frames1) (ys : List CoreStat) (s t : CoreState) → IsAbrupt c → HandReady core kept owners seats (placed e fs s) c
      → Stand owners seats (placed e fs s) t → Tail owners seats e fs ys e2 fs2 → At e2 fs2 t.context.frames
      → S (with_control (Hand c) (placed e fs s)) (with_control (Hand c) t)
  exit_by c e e2 fs fs2 ys s t is ready stand no_scope r = abrupt_here c t.context.frames (placed e fs s) t 0 is ready stand r refl
  exit_by c e e2 fs fs2 ys s t is ready stand (a_scope {n = n} {e = e3} {ys = ys2} {fs = fs3} xs scope tail) r =
      let falls : 1 + (length fs3 + length fs3) < suc (suc (length fs3)) + suc (suc (length fs3)) = omega arith in
      alone 1 (with_control (Hand c) (placed e3 fs3 s))
      (_, past_restore core c n e3 (Rest xs ∷ fs3) s is, (_, past_rest core c e3 xs fs3 s is, refl)) falls
      (at_exit c is (leaves_scope core core2 owners seats n e3 fs fs3 s t scope stand) (e2, fs2, tail, r))

  -- ---- the end of statements

  ends_here : (f : Frame Mark CoreWork) (fs : Frames1) → EndReady owners (f ∷ fs) → EndsHere owners (f ∷ fs)
  ends_here (After (l ∷ ls)) fs is = is
  ends_here f fs is = tt

  done_by : (e : Environment) (fs : Frames1) (s t : CoreState) → EndReady owners fs → Stand owners seats (placed e fs s) t → At e fs t.context.frames
      → S (with_control (Hand Done) (placed e fs s)) (with_control (Hand Done) t)
  done_by e [] s t ready stand r = a_step_each (with_control (Hand Done) (placed e [] s)) (with_control (Hand Done) t) (contexts_end core core2 owners seats Done (placed e [] s) t refl stand r)
  done_by e (f ∷ fs) s t ready stand r =
      a_step_each (with_control (Hand Done) (placed e (f ∷ fs) s)) (with_control (Hand Done) t) (ends_alike core core2 owners seats (placed e (f ∷ fs) s) t (ends_here f fs ready) stand r)

  -- ---- statements

  runs_out : (e : Environment) (fs : Frames1) (s t : CoreState) → Stand owners seats (placed e fs s) t → At e fs t.context.frames
      → Alike R (core_step core (with_control (Run []) (placed e fs s))) (core_step core2 (with_control (Run []) t))
  unfolding step
  runs_out e fs s t stand r = (_, refl, at_same (Hand Done) tt stand r)

  list_by : (e e2 : Environment) (fs fs2 : Frames1) (ys : List CoreStat) (s t : CoreState) → Stand owners seats (placed e fs s) t → Tail owners seats e fs ys e2 fs2 → At e2 fs2 t.context.frames
      → S (with_control (Run []) (placed e fs s)) (with_control (Run ys) t)
  list_by e e2 fs fs2 ys s t stand no_scope r = a_step_each (with_control (Run []) (placed e fs s)) (with_control (Run []) t) (runs_out e fs s t stand r)
  list_by e e2 fs fs2 ys s t stand (a_scope {n = n} {e = e3} {ys = ys2} {fs = fs3} xs scope tail) r =
      let falls : 2 + (length fs3 + length fs3) < suc (suc (length fs3)) + suc (suc (length fs3)) = omega arith in
      alone 2 (with_control (Run xs) (placed e3 fs3 s)) (_, empty_list core (placed (n ∷ e3) fs s), ended core e3 xs (placed (n ∷ e3) fs3 s)) falls
      (at_statements xs (leaves_scope core core2 owners seats n e3 fs fs3 s t scope stand) (e2, fs2, tail, r))

  steps_positive : (names : List ScopedName) → (names ≡ [] → ⊥) → (j : ℕ) × (reset_steps names ≡ suc j)
  steps_positive [] some = absurd (some refl)
  steps_positive (n ∷ names) some = by_mark n.shared
    where
      by_mark : (b : Bool) → (j : ℕ) × (cond b 6 5 + reset_steps names ≡ suc j)
      by_mark true = (5 + reset_steps names, omega arith)
      by_mark false = (4 + reset_steps names, omega arith)

  scope_by : (x : CoreStat) (names : List ScopedName) (body xs ys : List CoreStat) (s t : CoreState) → out-CoreStat x ≡ layer.Scoped names body → (names ≡ [] → ⊥) → (ready : ScopeReady owners seats s names)
      → Stand owners seats s t → BelowScopes owners seats s s.context.frames ys t → S (with_control (Run (x ∷ xs)) s) (with_control (Run (stats_flat owners (x ∷ xs) ++ ys)) t)
  scope_by x names body xs ys s t is some ready stand below =
      let (j, j_is) = steps_positive names some in
      let (u, source, target_way, related) = scopes_entered core core2 owners seats ready.home x names body xs ys s t is (new_scope owners seats s t names stand ready) ready.at stand below in
      let from : Config = with_control (Run (stats_flat owners (x ∷ xs) ++ ys)) t in
      let to : Config = with_control (Run (stats_flat owners body ++ (stats_flat owners xs ++ ys))) u in
      together 0 j (with_control (Run body) (scope_entered names xs s)) to (_, source, refl)
      (subst (λ n. Reaches (core_step core2) n from to) j_is target_way)
      (entered_seats seats ready.home names (length t.store.cells), a_scope_more x xs body names ready refl is, related)

  stat_by : (y : CoreStat-F CoreLink CoreStat CoreCase CoreExpr) (x : CoreStat) (xs ys : List CoreStat) (s t : CoreState) → out-CoreStat x ≡ y → StatReady owners seats s y
      → Stand owners seats s t → BelowScopes owners seats s s.context.frames ys t → S (with_control (Run (x ∷ xs)) s) (with_control (Run (stats_flat owners (x ∷ xs) ++ ys)) t)
  stat_by (layer.Scoped names body) x xs ys s t is (some, ready) stand below = scope_by x names body xs ys s t is some ready stand below
  stat_by (layer.Yield v kind result) x xs ys s t is ready stand below = absurd ready
  stat_by y x xs ys s t is ready stand below =
      a_step_each (with_control (Run (x ∷ xs)) s) (with_control (Run (stats_flat owners (x ∷ xs) ++ ys)) t)
      (statements_begin core core2 owners seats x xs ys s t (subst (λ z. IsUntouchedStat z) (sym is) tt) stand below)

  statements_by : (xs ys : List CoreStat) (s t : CoreState) → ListReady owners seats s xs → Stand owners seats s t → BelowScopes owners seats s s.context.frames ys t
      → S (with_control (Run xs) s) (with_control (Run (stats_flat owners xs ++ ys)) t)
  statements_by [] ys s t ready stand (e, gs, tail, r) = list_by s.context.environment e s.context.frames gs ys s t stand tail r
  statements_by (x ∷ xs) ys s t ready stand below = stat_by (out-CoreStat x) x xs ys s t refl ready stand below

  -- ---- expressions

  head_by : (h : CoreHead) (x : CoreExpr) (s t : CoreState) → (out-CoreExpr x).head ≡ h → HeadReady core kept owners seats s (out-CoreExpr x).links h
      → AllHold t owners (cell_along seats s.context.environment) (out-CoreExpr x).links → Stand owners seats s t → At s.context.environment s.context.frames t.context.frames
      → S (with_control (Begin x) s) (with_control (Begin (expr_flat owners x)) t)
  unfolding IsUntouchedHead
  head_by (head.Variable y) x s t is ready holds stand r = matched_here (with_control (Begin x) s) (with_control (Begin (expr_flat owners x)) t) (names_read core core2 owners seats x y s t is ready stand r holds)
  head_by (head.TypeOf y) x s t is ready holds stand r = absurd ready
  head_by (head.Function f) x s t is ready holds stand r =
      matched_here (with_control (Begin x) s) (with_control (Begin (expr_flat owners x)) t)
      (closures_made core core2 owners seats x f ready.function (kept f) s t is ready.before (flattened f ready.function ready.before) (apart f ready.function ready.before).others ready.seen ready.all stand r holds)
  head_by (head.Primitive p) x s t is ready holds stand r =
      matched_here (with_control (Begin x) s) (with_control (Begin (expr_flat owners x)) t) (primitives_begin core core2 owners seats x p s t is ready stand r holds)
  head_by (head.Copy xs) x s t is ready holds stand r =
      from_matched (copied_seats owners seats ready.copyable.seat (record_at s.records ready.number) xs (length t.store.cells)) (with_control (Begin x) s) (with_control (Begin (expr_flat owners x)) t)
      (core_step core (with_control (Begin x) s)) (a_copy_more x xs ready refl is) refl
      (copies_begin core core2 owners seats x xs ready.number ready.outer s t is ready.unwritten ready.goes ready.innermost ready.copyable ready.inside stand r)
  head_by h x s t is ready holds stand r =
      matched_here (with_control (Begin x) s) (with_control (Begin (expr_flat owners x)) t) (heads_begin core core2 owners seats x s t (subst (λ z. IsUntouchedHead z) (sym is) tt) stand r holds)

  -- ---- links

  -- where the link writes no shared name, the target goes on with what it became
  abbrev flat : CoreLink → CoreLink
  flat l = link_in owners (out-CoreLink l)

  abbrev GoalBy : CoreLink → List CoreLink → Current Mark → Current Mark → CoreState → CoreState → Option Var → Type 0
  GoalBy l links c d s t w = S (with_control (Go c (l ∷ links)) s)
      (with_control (Go d (opened_by (cell_along seats s.context.environment) w (flat l) (opened owners (cell_along seats s.context.environment) links)).links) t)

  abbrev BelowBy : CoreLink → List CoreLink → CoreState → CoreState → Option Var → Type 0
  BelowBy l links s t w = (gs : Frames1) × At s.context.environment s.context.frames gs
      × (t.context.frames ≡ (opened_by (cell_along seats s.context.environment) w (flat l) (opened owners (cell_along seats s.context.environment) links)).frames ++ gs)

  unwritten : (l : CoreLink) (links : List CoreLink) (c d : Current Mark) (s t : CoreState) → write_in owners (out-CoreLink l) ≡ None
      → (BelowCells owners seats s links t → GoalBy l links c d s t None) → BelowCells owners seats s (l ∷ links) t → GoalBy l links c d s t (write_in owners (out-CoreLink l))
  unwritten l links c d s t nothing h below = subst (λ w. GoalBy l links c d s t w) (sym nothing) (h (subst (λ w. BelowBy l links s t w) nothing below))

  -- ---- classes and their members: the parts, and then the operation

  abbrev class_op : Primitive → CoreOp
  class_op p = op.Primitive p

  abbrev Parts : Primitive → Option Site → Current Mark → List (CoreValue Mark) → List CoreExpr → List CoreLink → CoreState → CoreState → Type 0
  Parts p site c values xs links s t = Alike R (parts (rows core) core (strict (class_op p) site c values xs links) s)
      (parts (rows core2) core2 (strict (class_op p) site c values (map (expr_flat owners) xs) (opened owners (cell_along seats s.context.environment) links).links) t)

  begins_part : (p : Primitive) (site : Option Site) (c : Current Mark) (values : List (CoreValue Mark)) (x : CoreExpr) (xs : List CoreExpr) (links : List CoreLink) (s t : CoreState)
      → Stand owners seats s t → BelowCells owners seats s links t → Parts p site c values (x ∷ xs) links s t
  begins_part p site c values x xs links s t stand below =
      let ks = (opened owners (cell_along seats s.context.environment) links).links in
      let a : Along = record { links = links; state = s } in
      let b : Along = record { links = ks; state = t } in (
        _,
        refl,
        at_expression x (stand_pushed owners seats s t (Part (strict (class_op p) site c values xs links)) (Part (strict (class_op p) site c values (map (expr_flat owners) xs) ks)) stand)
            (part_frames core core2 owners seats a b (class_op p) site c values xs (stand, below, refl)),
      )

  class_parts : (site : Option Site) (c : Current Mark) (values : List (CoreValue Mark)) (xs : List CoreExpr) (links : List CoreLink) (s t : CoreState)
      → PartsReady core kept owners seats s (class_op primitive.ClassMake) values xs → Stand owners seats s t → BelowCells owners seats s links t → Parts primitive.ClassMake site c values xs links s t
  class_parts site c values [] links s t ready stand below = classes_made core core2 owners seats site c values [] links s t (seen_in core core2 kept owners seats s flattened apart values ready) stand below
  class_parts site c values (x ∷ xs) links s t ready stand below = begins_part primitive.ClassMake site c values x xs links s t stand below

  member_parts : (p : Primitive) (site : Option Site) (c : Current Mark) (values : List (CoreValue Mark)) (xs : List CoreExpr) (links : List CoreLink) (s t : CoreState)
      → ((p ≡ primitive.MethodPut) ⊎ (p ≡ primitive.AccessorPut)) → Stand owners seats s t → BelowCells owners seats s links t → Parts p site c values xs links s t
  member_parts p site c values [] links s t is stand below = members_put core core2 owners seats p site c values [] links s t is stand below
  member_parts p site c values (x ∷ xs) links s t is stand below = begins_part p site c values x xs links s t stand below

  -- a link goes on to such an operation, behind a reference that is read
  reference_goes : (l : CoreLink) (links : List CoreLink) (p : Primitive) (xs : List CoreExpr) (site : Option Site) (base : Value) (k : Key) (s t : CoreState)
      → out-CoreLink l ≡ layer.Strict (class_op p) xs site → write_in owners (out-CoreLink l) ≡ None → Stand owners seats s t → BelowCells owners seats s links t
      → Alike R (core_step core (with_control (Go (Reference base k) (l ∷ links)) s))
      (core_step core2 (with_control (Go (Reference base k) (flat l ∷ (opened owners (cell_along seats s.context.environment) links).links)) t))
  unfolding step go
  reference_goes l links p xs site base k s t is nothing stand below =
      let ks = (opened owners (cell_along seats s.context.environment) links).links in
      let a : Along = record { links = links; state = s } in
      let b : Along = record { links = ks; state = t } in
      let flat_is : out-CoreLink (flat l) ≡ layer.Strict (class_op p) (map (expr_flat owners) xs) site = layer_of owners (out-CoreLink l) ∙ ap (λ y. flat_layer owners y) is in
      subst (λ y. Alike R (go_reference (rows core) core base k l links s y) (go_reference (rows core2) core2 base k (flat l) ks t (out-CoreLink (flat l)))) (sym is)
      (subst (λ y. Alike R (go_reference (rows core) core base k l links s (layer.Strict (class_op p) xs site)) (go_reference (rows core2) core2 base k (flat l) ks t y)) (sym flat_is) (
        _,
        refl,
        at_same _ tt (stand_pushed owners seats s t (After (l ∷ links)) (After (flat l ∷ ks)) stand) (after_frames core core2 owners seats a b l nothing (stand, below, refl)),
      ))

  abbrev IsValue : Current Mark → Type 0
  IsValue (Reference base k) = ⊥
  IsValue c = Unit {0}

  value_step : (x : Core) (c : Current Mark) (l : CoreLink) (links : List CoreLink) (st : CoreState) → IsValue c → core_step x (with_control (Go c (l ∷ links)) st) ≡ go_value (rows x) x c links st (out-CoreLink l)
  unfolding step go
  value_step x (Reference base k) l links st is = absurd is
  value_step x (Has v) l links st is = refl
  value_step x (Old base k v) l links st is = refl
  value_step x (Method f v) l links st is = refl
  value_step x (Hosted n) l links st is = refl

  value_goes : (l : CoreLink) (links : List CoreLink) (p : Primitive) (xs : List CoreExpr) (site : Option Site) (c : Current Mark) (s t : CoreState)
      → out-CoreLink l ≡ layer.Strict (class_op p) xs site → IsValue c → Parts p site c [] xs links s t
      → Alike R (core_step core (with_control (Go c (l ∷ links)) s))
      (core_step core2 (with_control (Go c (flat l ∷ (opened owners (cell_along seats s.context.environment) links).links)) t))
  value_goes l links p xs site c s t is value a =
      let ks = (opened owners (cell_along seats s.context.environment) links).links in
      let flat_is : out-CoreLink (flat l) ≡ layer.Strict (class_op p) (map (expr_flat owners) xs) site = layer_of owners (out-CoreLink l) ∙ ap (λ y. flat_layer owners y) is in
      let source : core_step core (with_control (Go c (l ∷ links)) s) ≡ parts (rows core) core (strict (class_op p) site c [] xs links) s = value_step core c l links s value ∙ ap (λ y. go_value (rows core) core c links s y) is in
      let target_is : core_step core2 (with_control (Go c (flat l ∷ ks)) t) ≡ parts (rows core2) core2 (strict (class_op p) site c [] (map (expr_flat owners) xs) ks) t =
      value_step core2 c (flat l) ks t value ∙ ap (λ y. go_value (rows core2) core2 c ks t y) flat_is in
      subst (λ n. Alike R n (core_step core2 (with_control (Go c (flat l ∷ ks)) t))) (sym source) (subst (λ n. Alike R (parts (rows core) core (strict (class_op p) site c [] xs links) s) n) (sym target_is) a)

  class_goes : (l : CoreLink) (links : List CoreLink) (p : Primitive) (xs : List CoreExpr) (site : Option Site) (c : Current Mark) (s t : CoreState)
      → out-CoreLink l ≡ layer.Strict (class_op p) xs site → write_in owners (out-CoreLink l) ≡ None → Stand owners seats s t → BelowCells owners seats s links t
      → Parts p site c [] xs links s t
      → Alike R (core_step core (with_control (Go c (l ∷ links)) s))
      (core_step core2 (with_control (Go c (flat l ∷ (opened owners (cell_along seats s.context.environment) links).links)) t))
  class_goes l links p xs site (Reference base k) s t is nothing stand below a = reference_goes l links p xs site base k s t is nothing stand below
  class_goes l links p xs site (Has v) s t is nothing stand below a = value_goes l links p xs site (Has v) s t is tt a
  class_goes l links p xs site (Old base k v) s t is nothing stand below a = value_goes l links p xs site (Old base k v) s t is tt a
  class_goes l links p xs site (Method f v) s t is nothing stand below a = value_goes l links p xs site (Method f v) s t is tt a
  class_goes l links p xs site (Hosted n) s t is nothing stand below a = value_goes l links p xs site (Hosted n) s t is tt a

  -- ---- a link

  abbrev Goes1 : CoreLink → List CoreLink → Current Mark → CoreState → CoreState → Type 0
  Goes1 l links c s t = S (with_control (Go c (l ∷ links)) s) (with_control (Go c (opened owners (cell_along seats s.context.environment) (l ∷ links)).links) t)

  abbrev IsOther : Current Mark → Type 0
  IsOther (Has v) = ⊥
  IsOther (Reference base k) = ⊥
  IsOther c = Unit {0}

  no_set : (x : Var) (site : Option Site) (c : Current Mark) (links : List CoreLink) (s : CoreState) → IsOther c → go_value (rows core) core c links s (layer.Strict (op.Set x) [] site) ≡ unlawful s
  unfolding act_by
  no_set x site (Has v) links s is = absurd is
  no_set x site (Reference base k) links s is = absurd is
  no_set x site (Old base k v) links s is = refl
  no_set x site (Method f v) links s is = refl
  no_set x site (Hosted n) links s is = refl

  no_init : (x : Var) (site : Option Site) (c : Current Mark) (links : List CoreLink) (s : CoreState) → IsOther c → go_value (rows core) core c links s (layer.Strict (op.Init x) [] site) ≡ unlawful s
  unfolding act_by
  no_init x site (Has v) links s is = absurd is
  no_init x site (Reference base k) links s is = absurd is
  no_init x site (Old base k v) links s is = refl
  no_init x site (Method f v) links s is = refl
  no_init x site (Hosted n) links s is = refl

  other_value : (c : Current Mark) → IsOther c → IsValue c
  other_value (Reference base k) is = is
  other_value c is = tt

  writes_nothing : (l : CoreLink) (links : List CoreLink) (x : Var) (c : Current Mark) (site : Option Site) (s : CoreState) (t : Config) → IsWrite l x site → IsOther c → S (with_control (Go c (l ∷ links)) s) t
  writes_nothing l links x c site s t (inl is) other = leaves _ (value_step core c l links s (other_value c other) ∙ ap (λ y. go_value (rows core) core c links s y) is ∙ no_set x site c links s other)
  writes_nothing l links x c site s t (inr is) other = leaves _ (value_step core c l links s (other_value c other) ∙ ap (λ y. go_value (rows core) core c links s y) is ∙ no_init x site c links s other)

  writes_by : (l : CoreLink) (links : List CoreLink) (x : Var) (c : Current Mark) (s t : CoreState) → WriteReady owners seats s l x c
      → Stand owners seats s t → BelowCells owners seats s (l ∷ links) t → Goes1 l links c s t
  writes_by l links x (Has v) s t w stand below =
      matched_here (with_control (Go (Has v) (l ∷ links)) s) (with_control (Go (Has v) (opened owners (cell_along seats s.context.environment) (l ∷ links)).links) t)
      (names_written core core2 owners seats l links x w.site v w.found s t w.is w.finds w.may w.sees w.held stand below)
  writes_by l links x (Reference base k) s t (site, is) stand below =
      a_step_each (with_control (Go (Reference base k) (l ∷ links)) s) (with_control (Go (Reference base k) (opened owners (cell_along seats s.context.environment) (l ∷ links)).links) t)
      (references_read core core2 owners seats l links x site base k s t is stand below)
  writes_by l links x (Old base k v) s t (site, is) stand below =
      writes_nothing l links x (Old base k v) site s (with_control (Go (Old base k v) (opened owners (cell_along seats s.context.environment) (l ∷ links)).links) t) is tt
  writes_by l links x (Method f v) s t (site, is) stand below =
      writes_nothing l links x (Method f v) site s (with_control (Go (Method f v) (opened owners (cell_along seats s.context.environment) (l ∷ links)).links) t) is tt
  writes_by l links x (Hosted n) s t (site, is) stand below =
      writes_nothing l links x (Hosted n) site s (with_control (Go (Hosted n) (opened owners (cell_along seats s.context.environment) (l ∷ links)).links) t) is tt

  no_values : (s : CoreState) (xs : List CoreExpr) → PartsReady core kept owners seats s (class_op primitive.ClassMake) [] xs
  no_values s [] = tt
  no_values s (x ∷ xs) = tt

  strict_by : (kinds : KindsAreKept core core2) (l : CoreLink) (links : List CoreLink) (o : CoreOp) (xs : List CoreExpr) (site : Option Site) (c : Current Mark) (s t : CoreState)
      → out-CoreLink l ≡ layer.Strict o xs site → OpView o → Stand owners seats s t → BelowCells owners seats s (l ∷ links) t → Goes1 l links c s t
  unfolding IsAlikeOp written_by
  strict_by kinds l links o xs site c s t is (op_alike alike) stand below =
      unwritten l links c c s t (ap (λ y. write_in owners y) is ∙ writes_none owners o alike)
      (λ b. a_step_each (with_control (Go c (l ∷ links)) s) (with_control (Go c (flat l ∷ (opened owners (cell_along seats s.context.environment) links).links)) t)
      (operations_go core core2 owners seats l links o xs site c s t kinds is alike stand b)) below
  strict_by kinds l links o xs site c s t is (op_class o_is) stand below =
      let is2 : out-CoreLink l ≡ layer.Strict (class_op primitive.ClassMake) xs site = is ∙ ap (λ p. layer.Strict p xs site) o_is in
      let nothing : write_in owners (out-CoreLink l) ≡ None = ap (λ y. write_in owners y) is2 in
      unwritten l links c c s t nothing
      (λ b. a_step_each (with_control (Go c (l ∷ links)) s) (with_control (Go c (flat l ∷ (opened owners (cell_along seats s.context.environment) links).links)) t)
      (class_goes l links primitive.ClassMake xs site c s t is2 nothing stand b (class_parts site c [] xs links s t (no_values s xs) stand b))) below
  strict_by kinds l links o xs site c s t is (op_member p o_is which) stand below =
      let is2 : out-CoreLink l ≡ layer.Strict (class_op p) xs site = is ∙ ap (λ q. layer.Strict q xs site) o_is in
      let nothing : write_in owners (out-CoreLink l) ≡ None = ap (λ y. write_in owners y) is2 in
      unwritten l links c c s t nothing
      (λ b. a_step_each (with_control (Go c (l ∷ links)) s) (with_control (Go c (flat l ∷ (opened owners (cell_along seats s.context.environment) links).links)) t)
      (class_goes l links p xs site c s t is2 nothing stand b (member_parts p site c [] xs links s t which stand b))) below

  op_by : (kinds : KindsAreKept core core2) (l : CoreLink) (links : List CoreLink) (o : CoreOp) (xs : List CoreExpr) (site : Option Site) (c : Current Mark) (s t : CoreState)
      → out-CoreLink l ≡ layer.Strict o xs site → GoesReady owners seats s c l o → Stand owners seats s t → BelowCells owners seats s (l ∷ links) t → Goes1 l links c s t
  op_by kinds l links (op.Set x) xs site c s t is ready stand below = writes_by l links x c s t ready stand below
  op_by kinds l links (op.Init x) xs site c s t is ready stand below = writes_by l links x c s t ready stand below
  op_by kinds l links o xs site c s t is ready stand below = strict_by kinds l links o xs site c s t is (op_view o ready) stand below

  untouched_by : (y : CoreLink-F CoreLink CoreStat CoreCase CoreExpr) (l : CoreLink) (links : List CoreLink) (c : Current Mark) (s t : CoreState) → out-CoreLink l ≡ y
      → IsUntouchedLink y → write_in owners y ≡ None → Stand owners seats s t → BelowCells owners seats s (l ∷ links) t → Goes1 l links c s t
  untouched_by y l links c s t is untouched nothing stand below =
      unwritten l links c c s t (ap (λ z. write_in owners z) is ∙ nothing)
      (λ b. a_step_each (with_control (Go c (l ∷ links)) s) (with_control (Go c (flat l ∷ (opened owners (cell_along seats s.context.environment) links).links)) t)
      (links_go core core2 owners seats l links c s t (subst (λ z. IsUntouchedLink z) (sym is) untouched) stand b)) below

  link_by : (kinds : KindsAreKept core core2) (y : CoreLink-F CoreLink CoreStat CoreCase CoreExpr) (l : CoreLink) (links : List CoreLink) (c : Current Mark) (s t : CoreState) → out-CoreLink l ≡ y
      → LinkReady owners seats s c l y → Stand owners seats s t → BelowCells owners seats s (l ∷ links) t → Goes1 l links c s t
  link_by kinds (layer.Strict o xs site) l links c s t is ready stand below = op_by kinds l links o xs site c s t is ready stand below
  link_by kinds (layer.Lazy w taken other) l links c s t is ready stand below = untouched_by (layer.Lazy w taken other) l links c s t is tt refl stand below
  link_by kinds (layer.Run body) l links c s t is ready stand below = untouched_by (layer.Run body) l links c s t is tt refl stand below

  -- behind a copy
  copy_goes : (n : ℕ) (l : CoreLink) (links : List CoreLink) (s t : CoreState) → IsThen (out-CoreLink l) → Stand owners seats s t → BelowCells owners seats s (l ∷ links) t
      → S (with_control (Go (Has (User value.Undefined)) (l ∷ links)) s) (with_control (Go (Has (Extra (Cell n))) (opened owners (cell_along seats s.context.environment) (l ∷ links)).links) t)
  unfolding written_by
  copy_goes n l links s t (x, site, is) stand below =
      unwritten l links (Has (User value.Undefined)) (Has (Extra (Cell n))) s t (ap (λ y. write_in owners y) is)
      (λ b. a_step_each (with_control (Go (Has (User value.Undefined)) (l ∷ links)) s) (with_control (Go (Has (Extra (Cell n))) (flat l ∷ (opened owners (cell_along seats s.context.environment) links).links)) t)
      (copies_go_on core core2 owners seats n l links x site s t is stand b)) below

  no_links : (c d : Current Mark) (s t : CoreState) → Currents s.context.frames [] c d → Stand owners seats s t → BelowCells owners seats s [] t → S (with_control (Go c []) s) (with_control (Go d []) t)
  no_links c d s t currents stand (gs, r, below) =
      a_step_each (with_control (Go c []) s) (with_control (Go d []) t) (links_end core core2 owners seats c d s t currents stand (subst (λ hs. At s.context.environment s.context.frames hs) (sym below) r))

  links_by : (kinds : KindsAreKept core core2) (ls : List CoreLink) (c d : Current Mark) (s t : CoreState) → Currents s.context.frames ls c d → ControlReady core kept owners seats s (Go c ls)
      → Stand owners seats s t → BelowCells owners seats s ls t
      → S (with_control (Go c ls) s) (with_control (Go d (opened owners (cell_along seats s.context.environment) ls).links) t)
  links_by kinds [] c d s t currents ready stand below = no_links c d s t currents stand below
  links_by kinds (l ∷ links) c d s t same_current ready stand below = link_by kinds (out-CoreLink l) l links c s t refl ready stand below
  links_by kinds (l ∷ links) c d s t (behind_copy {n = n} drops) ready stand below = copy_goes n l links s t drops stand below

  -- ---- a value

  given_each : (v : CoreValue Mark) (e : Environment) (f : Frame Mark CoreWork) (fs gs : Frames1) (s t : CoreState) → KindsAreKept core core2 → TakesHere owners (f ∷ fs)
      → Stand owners seats (placed e (f ∷ fs) s) (with_frames gs t) → At e (f ∷ fs) gs → S (with_control (Hand (Gives v)) (placed e (f ∷ fs) s)) (with_control (Hand (Gives v)) (with_frames gs t))
  given_each v e f fs gs s t kinds takes stand r =
      a_step_each (with_control (Hand (Gives v)) (placed e (f ∷ fs) s)) (with_control (Hand (Gives v)) (with_frames gs t)) (values_taken core core2 owners seats v (placed e (f ∷ fs) s) (with_frames gs t) kinds takes stand r)

  abbrev Waiting : Environment → List CoreLink → Frames1 → Opened
  Waiting e ls gs = record { links = (opened owners (cell_along seats e) ls).links; frames = (opened owners (cell_along seats e) ls).frames ++ gs }

  waits_given : (v : CoreValue Mark) (w : Waits) (e : Environment) (ls : List CoreLink) (fs gs : Frames1) (s t : CoreState) → KindsAreKept core core2
      → GivesReady core kept owners seats v (placed e (waiting w ls ∷ fs) s) (waiting w ls ∷ fs)
      → Stand owners seats (placed e (waiting w ls ∷ fs) s) (with_frames (waiting w (Waiting e ls gs).links ∷ (Waiting e ls gs).frames) t) → At e fs gs
      → S (with_control (Hand (Gives v)) (placed e (waiting w ls ∷ fs) s)) (with_control (Hand (Gives v)) (with_frames (waiting w (Waiting e ls gs).links ∷ (Waiting e ls gs).frames) t))
  waits_given v WaitsAfter e ls fs gs s t kinds ready stand r =
      let o = Waiting e ls gs in
      a_step_each (with_control (Hand (Gives v)) (placed e (After ls ∷ fs) s)) (with_control (Hand (Gives v)) (with_frames (After o.links ∷ o.frames) t))
      (links_take core core2 owners seats OfAfter v ls (placed e fs s) (with_frames o.frames t) (stand_under core core2 owners seats e (After ls ∷ fs) (After o.links ∷ o.frames) fs o.frames s t stand) (gs, r, refl))
  waits_given v (WaitsHeritage f heritage) e ls fs gs s t kinds ready stand r =
      let o = Waiting e ls gs in
      a_step_each (with_control (Hand (Gives v)) (placed e (Work (Heritage f heritage ls) ∷ fs) s)) (with_control (Hand (Gives v)) (with_frames (Work (Heritage f heritage o.links) ∷ o.frames) t))
      (heritages_taken core core2 owners seats f heritage v ls (placed e fs s) (with_frames o.frames t) (class_seen core core2 kept owners seats (placed e fs s) flattened apart f ready)
      (stand_under core core2 owners seats e (Work (Heritage f heritage ls) ∷ fs) (Work (Heritage f heritage o.links) ∷ o.frames) fs o.frames s t stand) (gs, r, refl))
  waits_given v WaitsPrototype e ls fs gs s t kinds ready stand r = absurd ready
  waits_given v (WaitsBehind x) e ls fs gs s t kinds ready stand r = given_each v e (waiting (WaitsBehind x) ls) fs _ s t kinds tt stand (waits (WaitsBehind x) ls r)
  waits_given v (WaitsKeyed base) e ls fs gs s t kinds ready stand r = given_each v e (waiting (WaitsKeyed base) ls) fs _ s t kinds tt stand (waits (WaitsKeyed base) ls r)
  waits_given v (WaitsToStore base k) e ls fs gs s t kinds ready stand r = given_each v e (waiting (WaitsToStore base k) ls) fs _ s t kinds tt stand (waits (WaitsToStore base k) ls r)
  waits_given v (WaitsToStep u base k) e ls fs gs s t kinds ready stand r = given_each v e (waiting (WaitsToStep u base k) ls) fs _ s t kinds tt stand (waits (WaitsToStep u base k) ls r)
  waits_given v (WaitsSpread list) e ls fs gs s t kinds ready stand r = given_each v e (waiting (WaitsSpread list) ls) fs _ s t kinds tt stand (waits (WaitsSpread list) ls r)
  waits_given v (WaitsSpreadStep list it) e ls fs gs s t kinds ready stand r = given_each v e (waiting (WaitsSpreadStep list it) ls) fs _ s t kinds tt stand (waits (WaitsSpreadStep list it) ls r)
  waits_given v (WaitsSpreadValue list it) e ls fs gs s t kinds ready stand r = given_each v e (waiting (WaitsSpreadValue list it) ls) fs _ s t kinds tt stand (waits (WaitsSpreadValue list it) ls r)
  waits_given v WaitsYield e ls fs gs s t kinds ready stand r = given_each v e (waiting WaitsYield ls) fs _ s t kinds tt stand (waits WaitsYield ls r)
  waits_given v (WaitsDelegate it) e ls fs gs s t kinds ready stand r = given_each v e (waiting (WaitsDelegate it) ls) fs _ s t kinds tt stand (waits (WaitsDelegate it) ls r)
  waits_given v WaitsDelegateStart e ls fs gs s t kinds ready stand r = given_each v e (waiting WaitsDelegateStart ls) fs _ s t kinds tt stand (waits WaitsDelegateStart ls r)
  waits_given v (WaitsDelegateTurn it kind x) e ls fs gs s t kinds ready stand r = given_each v e (waiting (WaitsDelegateTurn it kind x) ls) fs _ s t kinds tt stand (waits (WaitsDelegateTurn it kind x) ls r)
  waits_given v (WaitsDelegateDone it kind x) e ls fs gs s t kinds ready stand r = given_each v e (waiting (WaitsDelegateDone it kind x) ls) fs _ s t kinds tt stand (waits (WaitsDelegateDone it kind x) ls r)
  waits_given v (WaitsDelegateValue kind) e ls fs gs s t kinds ready stand r = given_each v e (waiting (WaitsDelegateValue kind) ls) fs _ s t kinds tt stand (waits (WaitsDelegateValue kind) ls r)

  -- a shared name takes what was read, in two steps
  is_shared_then : (x : Var) (b : Bool) → cond b (Some x) None ≡ Some x → b ≡ true
  is_shared_then x true is = refl
  is_shared_then x false is = cc

  cell_given : (v : CoreValue Mark) (e : Environment) (x : Var) (l : CoreLink) (ls : List CoreLink) (fs gs : Frames1) (s t : CoreState) → write_in owners (out-CoreLink l) ≡ Some x
      → Writes owners seats (placed e fs s) l x v
      → Stand owners seats (placed e (After (l ∷ ls) ∷ fs) s) (with_frames (Part (writing (cell_along seats e x) (Waiting e ls gs).links) ∷ (Waiting e ls gs).frames) t) → At e fs gs
      → S (with_control (Hand (Gives v)) (placed e (After (l ∷ ls) ∷ fs) s)) (with_control (Hand (Gives v)) (with_frames (Part (writing (cell_along seats e x) (Waiting e ls gs).links) ∷ (Waiting e ls gs).frames) t))
  cell_given v e x l ls fs gs s t writes w stand r =
      let o = Waiting e ls gs in
      let hs : Frames1 = Part (writing (cell_along seats e x) o.links) ∷ o.frames in
      let shared : is_shared owners x ≡ true = is_shared_then x (is_shared owners x) (sym (write_is owners l x w.site w.is) ∙ writes) in
      let below : BelowCells owners seats (placed e fs s) (l ∷ ls) (with_frames hs t) =
      (gs, r, ap (λ y. (opened_by (cell_along seats e) y (flat l) (opened owners (cell_along seats e) ls)).frames ++ gs) (sym writes)) in
      let a = cells_take core core2 owners seats l ls x w.site v w.found (placed e fs s) (with_frames hs t) w.is shared w.finds w.may w.sees (w.held shared)
      (stand_under core core2 owners seats e (After (l ∷ ls) ∷ fs) hs fs hs s t stand) below in
      taken a.0 a.1 a.2 a.3 a.4
    where
      taken : (j : ℕ) (u : Config) → Way core 2 (Hand (Gives v)) (placed e (After (l ∷ ls) ∷ fs) s) (Go (Has v) ls) (stored_at w.found.at x v (placed e fs s))
          → Reaches (core_step core2) j (with_control (Hand (Gives v)) (with_frames (Part (writing (cell_along seats e x) (Waiting e ls gs).links) ∷ (Waiting e ls gs).frames) t)) u
          → R (with_control (Go (Has v) ls) (stored_at w.found.at x v (placed e fs s))) u
          → S (with_control (Hand (Gives v)) (placed e (After (l ∷ ls) ∷ fs) s)) (with_control (Hand (Gives v)) (with_frames (Part (writing (cell_along seats e x) (Waiting e ls gs).links) ∷ (Waiting e ls gs).frames) t))
      taken zero u way way2 related = absurd (subst (λ z. IsGo z.control) (sym way2) (goes_too owners seats (with_control (Go (Has v) ls) (stored_at w.found.at x v (placed e fs s))) u related tt))
      taken (suc j) u way way2 related = together 1 j (with_control (Go (Has v) ls) (stored_at w.found.at x v (placed e fs s))) u way way2 (seats, no_more, related)

  -- the next part of an operation
  no_then : (o : CoreOp) (q : Primitive) → o ≡ op.Primitive q → o ≡ op.Then → ⊥
  no_then o q is is2 = cc

  same_at : (o : CoreOp) (c d : Current Mark) (q : Primitive) → o ≡ op.Primitive q → PartCurrents o d c → c ≡ d
  same_at o c d q is (same_part same) = same
  same_at o c d q is (then_part n is2 same) = absurd (no_then o q is is2)

  part_step : (x : Core) (p : CoreStrict) (v : CoreValue Mark) (e : Environment) (fs : Frames1) (st : CoreState)
      → core_step x (with_control (Hand (Gives v)) (placed e (Part p ∷ fs) st)) ≡ parts (rows x) x (record p { values = p.values ++ v ∷ [] }) (placed e fs st)
  unfolding step hand given
  part_step x p v e fs st = refl

  plain_given : (v : CoreValue Mark) (e : Environment) (f : Frame Mark CoreWork) (fs gs : Frames1) (s t : CoreState) → KindsAreKept core core2 → IsPlain f
      → Stand owners seats (placed e (f ∷ fs) s) (with_frames (f ∷ gs) t) → At e fs gs → S (with_control (Hand (Gives v)) (placed e (f ∷ fs) s)) (with_control (Hand (Gives v)) (with_frames (f ∷ gs) t))
  plain_given v e (Operation site c) fs gs s t kinds is stand r = given_each v e (Operation site c) fs _ s t kinds tt stand (plain is r)
  plain_given v e (Making g args new) fs gs s t kinds is stand r = given_each v e (Making g args new) fs _ s t kinds tt stand (plain is r)
  plain_given v e (Made o) fs gs s t kinds is stand r = given_each v e (Made o) fs _ s t kinds tt stand (plain is r)
  plain_given v e f fs gs s t kinds is stand r = absurd is

  abbrev PartOf : CoreOp → CoreStrict → CoreStrict
  PartOf o p = strict o p.site p.current p.values p.parts p.links

  part_class : (q : Primitive) (v : CoreValue Mark) (e : Environment) (p : CoreStrict) (c : Current Mark) (fs gs : Frames1) (s t : CoreState)
      → (is : p.op ≡ class_op q) → PartCurrents p.op p.current c
      → Parts q p.site p.current (p.values ++ v ∷ []) p.parts p.links (placed e fs s) (with_frames (Waiting e p.links gs).frames t)
      → S (with_control (Hand (Gives v)) (placed e (Part p ∷ fs) s)) (with_control (Hand (Gives v)) (with_frames (Part (part_flat owners p c (Waiting e p.links gs).links) ∷ (Waiting e p.links gs).frames) t))
  part_class q v e p c fs gs s t is currents a =
      let o = Waiting e p.links gs in
      let same : c ≡ p.current = same_at p.op c p.current q is currents in
      subst (λ d. S (with_control (Hand (Gives v)) (placed e (Part p ∷ fs) s)) (with_control (Hand (Gives v)) (with_frames (Part (part_flat owners p d o.links) ∷ o.frames) t))) (sym same)
      (subst (λ y. S (with_control (Hand (Gives v)) (placed e (Part (PartOf y p) ∷ fs) s)) (with_control (Hand (Gives v)) (with_frames (Part (part_flat owners (PartOf y p) p.current o.links) ∷ o.frames) t))) (sym is)
      (a_step_each (with_control (Hand (Gives v)) (placed e (Part (PartOf (class_op q) p) ∷ fs) s)) (with_control (Hand (Gives v)) (with_frames (Part (part_flat owners (PartOf (class_op q) p) p.current o.links) ∷ o.frames) t))
      (subst (λ n. Alike R n (core_step core2 (with_control (Hand (Gives v)) (with_frames (Part (part_flat owners (PartOf (class_op q) p) p.current o.links) ∷ o.frames) t)))) (sym (part_step core (PartOf (class_op q) p) v e fs s))
      (subst (λ n. Alike R (parts (rows core) core (record (PartOf (class_op q) p) { values = p.values ++ v ∷ [] }) (placed e fs s)) n) (sym (part_step core2 (part_flat owners (PartOf (class_op q) p) p.current o.links) v t.context.environment o.frames t)) a))))

  part_given : (v : CoreValue Mark) (e : Environment) (p : CoreStrict) (c : Current Mark) (fs gs : Frames1) (s t : CoreState) → KindsAreKept core core2
      → PartsReady core kept owners seats (placed e fs s) p.op (p.values ++ v ∷ []) p.parts → OpView p.op → PartCurrents p.op p.current c
      → Stand owners seats (placed e (Part p ∷ fs) s) (with_frames (Part (part_flat owners p c (Waiting e p.links gs).links) ∷ (Waiting e p.links gs).frames) t) → At e fs gs
      → S (with_control (Hand (Gives v)) (placed e (Part p ∷ fs) s)) (with_control (Hand (Gives v)) (with_frames (Part (part_flat owners p c (Waiting e p.links gs).links) ∷ (Waiting e p.links gs).frames) t))
  part_given v e p c fs gs s t kinds ready (op_alike alike) currents stand r = given_each v e (Part p) fs _ s t kinds alike stand (part p currents r)
  part_given v e p c fs gs s t kinds ready (op_class is) currents stand r =
      let o = Waiting e p.links gs in
      part_class primitive.ClassMake v e p c fs gs s t is currents
      (class_parts p.site p.current (p.values ++ v ∷ []) p.parts p.links (placed e fs s) (with_frames o.frames t) (subst (λ y. PartsReady core kept owners seats (placed e fs s) y (p.values ++ v ∷ []) p.parts) is ready)
      (stand_under core core2 owners seats e (Part p ∷ fs) (Part (part_flat owners p c o.links) ∷ o.frames) fs o.frames s t stand) (gs, r, refl))
  part_given v e p c fs gs s t kinds ready (op_member q is which) currents stand r =
      let o = Waiting e p.links gs in
      part_class q v e p c fs gs s t is currents
      (member_parts q p.site p.current (p.values ++ v ∷ []) p.parts p.links (placed e fs s) (with_frames o.frames t) which
      (stand_under core core2 owners seats e (Part p ∷ fs) (Part (part_flat owners p c o.links) ∷ o.frames) fs o.frames s t stand) (gs, r, refl))

  gives_by : (v : CoreValue Mark) (e : Environment) (fs gs : Frames1) (s t : CoreState) → KindsAreKept core core2 → GivesReady core kept owners seats v (placed e fs s) fs
      → Stand owners seats (placed e fs s) (with_frames gs t) → At e fs gs → S (with_control (Hand (Gives v)) (placed e fs s)) (with_control (Hand (Gives v)) (with_frames gs t))
  gives_by v e fs gs s t kinds ready stand none = a_step_each (with_control (Hand (Gives v)) (placed e [] s)) (with_control (Hand (Gives v)) (with_frames [] t)) (contexts_end core core2 owners seats (Gives v) (placed e [] s) (with_frames [] t) refl stand none)
  gives_by v e fs gs s t kinds ready stand (waits {e = e2} {fs = fs2} {gs = gs2} w ls r) = waits_given v w e2 ls fs2 gs2 s t kinds ready stand r
  gives_by v e fs gs s t kinds ready stand (waits_for_cell {e = e2} {fs = fs2} {gs = gs2} x l ls is r) = cell_given v e2 x l ls fs2 gs2 s t is (ready x is) stand r
  gives_by v e fs gs s t kinds ready stand (part {e = e2} {fs = fs2} {gs = gs2} {c = c} p currents r) =
      part_given v e2 p c fs2 gs2 s t kinds ready (op_view p.op (parts_ready core kept owners seats (placed e2 fs2 s) p.op (p.values ++ v ∷ []) p.parts ready)) currents stand r
  gives_by v e fs gs s t kinds ready stand (fetch {e = e2} {fs = fs2} {gs = gs2} base k p r) = given_each v e2 (Fetch base k p) fs2 _ s t kinds ready stand (fetch base k p r)
  gives_by v e fs gs s t kinds ready stand (plain {e = e2} {fs = fs2} {gs = gs2} {f = f} is r) = plain_given v e2 f fs2 gs2 s t kinds is stand r
  gives_by v e fs gs s t kinds ready stand (rest xs tail r) = given_each v e _ _ _ s t kinds tt stand (rest xs tail r)
  gives_by v e fs gs s t kinds ready stand (choice body cases r) = given_each v e _ _ _ s t kinds tt stand (choice body cases r)
  gives_by v e fs gs s t kinds ready stand (subject cases r) = given_each v e _ _ _ s t kinds tt stand (subject cases r)
  gives_by v e fs gs s t kinds ready stand (matching w cases all r) = given_each v e _ _ _ s t kinds tt stand (matching w cases all r)
  gives_by v e fs gs s t kinds ready stand (loop_test l r) = given_each v e _ _ _ s t kinds tt stand (loop_test l r)
  gives_by v e fs gs s t kinds ready stand (loop_body l r) = given_each v e _ _ _ s t kinds tt stand (loop_body l r)
  gives_by v e fs gs s t kinds ready stand (loop_update l r) = given_each v e _ _ _ s t kinds tt stand (loop_update l r)
  gives_by v e fs gs s t kinds ready stand (target label r) = given_each v e _ _ _ s t kinds tt stand (target label r)
  gives_by v e fs gs s t kinds ready stand (returning r) = given_each v e _ _ _ s t kinds tt stand (returning r)
  gives_by v e fs gs s t kinds ready stand (throwing r) = given_each v e _ _ _ s t kinds tt stand (throwing r)
  gives_by v e fs gs s t kinds ready stand (catching x names handler r) = given_each v e _ _ _ s t kinds tt stand (catching x names handler r)
  gives_by v e fs gs s t kinds ready stand (finishing last r) = given_each v e _ _ _ s t kinds tt stand (finishing last r)
  gives_by v e fs gs s t kinds ready stand (pending c r) = given_each v e _ _ _ s t kinds tt stand (pending c r)
  gives_by v e fs gs s t kinds ready stand (restore away r) = given_each v e _ _ _ s t kinds tt stand (restore away r)
  gives_by v e fs gs s t kinds ready stand (derived n r) = given_each v e _ _ _ s t kinds tt stand (derived n r)
  gives_by v e fs gs s t kinds ready stand (instantiates body r) = given_each v e _ _ _ s t kinds tt stand (instantiates body r)
  gives_by v e fs gs s t kinds ready stand (prototype body r) = given_each v e _ _ _ s t kinds tt stand (prototype body r)
  gives_by v e fs gs s t kinds ready stand (starts body r) = given_each v e _ _ _ s t kinds tt stand (starts body r)
  gives_by v e fs gs s t kinds ready stand (resumes n r) = given_each v e _ _ _ s t kinds tt stand (resumes n r)

  -- ---- all of it

  hand_by : (c : Completion Mark) (s t : CoreState) → KindsAreKept core core2 → HandReady core kept owners seats s c → Stand owners seats s t → At s.context.environment s.context.frames t.context.frames
      → S (with_control (Hand c) s) (with_control (Hand c) t)
  hand_by (Gives v) s t kinds ready stand r = gives_by v s.context.environment s.context.frames t.context.frames s t kinds ready stand r
  hand_by Done s t kinds ready stand r = done_by s.context.environment s.context.frames s t ready stand r
  hand_by (Throws v) s t kinds ready stand r = abrupt_here (Throws v) t.context.frames s t 0 tt ready stand r refl
  hand_by (Returns v) s t kinds ready stand r = abrupt_here (Returns v) t.context.frames s t 0 tt ready stand r refl
  hand_by (Jumps goes_on label) s t kinds ready stand r = abrupt_here (Jumps goes_on label) t.context.frames s t 0 tt ready stand r refl

  call_by : (c : Call) (s t : CoreState) → CallReady core c s → Stand owners seats s t → At s.context.environment s.context.frames t.context.frames
      → S (with_control (Calls c) s) (with_control (Calls c) t)
  call_by c s t (inl other) stand r = a_step_each (with_control (Calls c) s) (with_control (Calls c) t) (other_calls_alike core core2 owners seats c s t other stand r)
  call_by c s t (inr x) stand r =
      let b : Closure Own = behind_of core core2 kept owners seats c s t flattened apart stand x in
      let seats2 : Seats = seats ++ call_seat (length t.records) (scoped_names x.function) (call_names x.function b.own.cells) b.own.cells ∷ [] in
      from_matched seats2 (with_control (Calls c) s) (with_control (Calls c) t) (core_step core (with_control (Calls c) s))
      (a_call_more c x b refl (behind_at core core2 kept owners seats c s t flattened apart stand x)) refl
      (answered (Related owners seats2) core2 (core_step core (with_control (Calls c) s)) (with_control (Calls c) t) (with_control (Calls c) t) 0 refl
      (calls_enter core core2 owners seats c s t x.closure b x.function (kept x.closure.function) (scoped_names x.function) (call_names x.function b.own.cells)
      (enters_of core core2 kept owners seats c s t flattened apart stand x) (closures_of core core2 kept owners seats c s t flattened apart stand x)
      (called_of core core2 kept owners seats c s t flattened apart stand x) (arguments_of core core2 kept owners seats c s t flattened apart stand x) stand r))

  same_by : (c : Control Mark) (s t : CoreState) → KindsAreKept core core2 → IsBare c → ControlReady core kept owners seats s c → Stand owners seats s t → At s.context.environment s.context.frames t.context.frames
      → S (with_control c s) (with_control c t)
  same_by (Turn site c) s t kinds bare ready stand r = a_step_each (with_control (Turn site c) s) (with_control (Turn site c) t) (turns_alike core core2 owners seats site c s t stand r)
  same_by (Calls c) s t kinds bare ready stand r = call_by c s t ready stand r
  same_by (Hand c) s t kinds bare ready stand r = hand_by c s t kinds ready stand r
  same_by (Begin x) s t kinds bare ready stand r = absurd bare
  same_by (Go c ls) s t kinds bare ready stand r = absurd bare
  same_by (Run xs) s t kinds bare ready stand r = absurd bare

  matched_by : (s t : Config) → KindsAreKept core core2 → R s t → ControlReady core kept owners seats s.state s.control → S s t
  matched_by s t kinds (at_same {s = a} {t = b} c bare stand r) ready = same_by c a b kinds bare ready stand r
  matched_by s t kinds (at_copy {s = a} {t = b} n drops stand r) ready =
      a_step_each (with_control (Hand (Gives (User value.Undefined))) a) (with_control (Hand (Gives (Extra (Cell n)))) b) (copies_dropped core core2 owners seats n a b drops stand r)
  matched_by s t kinds (at_expression {s = a} {t = b} x stand r) ready = head_by (out-CoreExpr x).head x a b refl ready.1 (all_hold owners seats a b stand (out-CoreExpr x).links ready.0) stand r
  matched_by s t kinds (at_links {s = a} {t = b} {c = c} {d = d} ls currents stand below) ready = links_by kinds ls c d a b currents ready stand below
  matched_by s t kinds (at_statements {s = a} {t = b} {ys = ys} xs stand below) ready = statements_by xs ys a b ready stand below
  matched_by s t kinds (at_exit {s = a} {t = b} {ys = ys} c abrupt stand (e, gs, tail, r)) ready = exit_by c a.context.environment e a.context.frames gs ys a b abrupt ready stand tail r
  matched_by s t kinds (past_cells {s = a} {t = b} c ls abrupt stand below) ready =
      let (k, gs, way, r) = cells_passed core2 owners seats c ls a b abrupt below in
      abrupt_here c gs a b k abrupt ready stand r way

pub steps_matched : StepsAreMatched
steps_matched core core2 kept owners seats s t flattened apart kinds related ready = matched_by core core2 kept owners seats flattened apart s t kinds related ready
