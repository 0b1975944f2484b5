-- A step leaves code where it may stand: the ends of statements and of contexts, and what makes a record.
use Rattle.std.proofs.Common.{◌≡◌, ℕ, zero, suc, Bool, true, false, List, [], ◌∷◌, ◌++◌, Option, None, Some, map, slice_get, refl, sym, subst, ap, ◌∙◌}
use Rattle.std.specs.Prelude.{if◌then◌else◌, not, ◌&&◌}
use Rattle.es_outside.specs.declared.events.Site.{Site}
use Rattle.es_value.specs.declared.value.ObjId.{ObjId}
use Rattle.es_value.specs.declared.value.Value.{Value}
use Rattle.es_value.specs.declared.value.Value.TheVariants as value
use Rattle.es_heap.specs.Heaps.{object_at}
use Rattle.es_heap.specs.declared.class.Class.{Class}
use Rattle.es_heap.specs.declared.class.Class.TheVariants as class
use Rattle.es_operators.specs.Primitives.{to_prims}
use Rattle.es_calls.specs.Making.{arguments_heap}
use Rattle.es_calls.specs.declared.call.BuiltinCall.{BuiltinCall}
use Rattle.es_realm.specs.declared.edition.Edition.TheVariants.{Sixth}
use Rattle.es_operations.specs.Steps.{drops_throw, step_operation}
use Rattle.core_ast.specs.Lawful.{is_generator}
use Rattle.core_ast.specs.declared.parts.CoreHead.{CoreHead}
use Rattle.core_ast.specs.declared.parts.CoreHead.TheVariants as head
use Rattle.core_ast.specs.declared.parts.Label.{Label}
use Rattle.core_ast.specs.declared.parts.ScopedName.{ScopedName}
use Rattle.core_ast.specs.declared.parts.Var.{Var}
use Rattle.core_ast.specs.declared.tree.CoreExpr.{CoreExpr, out-CoreExpr}
use Rattle.core_ast.specs.declared.tree.CoreLink.{CoreLink}
use Rattle.core_ast.specs.declared.tree.CoreLink.TheOpen as layer
use Rattle.core_ast.specs.declared.tree.CoreLink.TheOpen.{CoreStat-F}
use Rattle.core_ast.specs.declared.tree.CoreCase.{CoreCase}
use Rattle.core_ast.specs.declared.tree.CoreStat.{CoreStat, out-CoreStat}
use Rattle.core_ast.specs.declared.whole.Core.{Core}
use Rattle.core_ast.specs.declared.whole.CoreFunction.{CoreFunction}
use Rattle.core_ast.specs.declared.whole.CoreKind.{CoreKind}
use Rattle.core_ast.specs.declared.whole.CoreKind.TheVariants as kind
use Rattle.core_ast.specs.declared.whole.Declared.{Declared}
use Rattle.core_ast.specs.declared.whole.Resumption.{Resumption as Names}
use Rattle.core_meaning.specs.Calls.{binding, call_class, call_value, name_bound, own_name, passed, undefined_binding, with_arguments, within_call}
use Rattle.core_meaning.specs.Cells.{copy, innermost, uninitialized}
use Rattle.core_meaning.specs.Expressions.{begin_head, function_at}
use Rattle.core_meaning.specs.Functions.{entered, entered_by}
use Rattle.core_meaning.specs.Generators.{body_by, run_body}
use Rattle.core_meaning.specs.Marks.{Cell, CoreNext, CoreState, CoreWork, Instantiates, KeptCell, Mark, Own, Resumes, Stepping}
use Rattle.core_meaning.specs.Modules.{core_step, rows, stat_of, work_abrupt, work_done}
use Rattle.core_meaning.specs.Names.{Resolved, initialize_found, initialized, resolve}
use Rattle.core_meaning.specs.Rows.{controls, or_else, place_of, pushed, with_frames, with_heap}
use Rattle.core_meaning.specs.State.{After, Begin, Call, Calls, Catching, Closure, Completion, Context, Control, CoreValue, Done, Environment, EnvironmentRecord, Extra, Finishing, Frame, Gives, Go, Hand, Jumps, Loop, LoopBody, LoopUpdate, Operation, Pending, Rest, Restore, Returns, Run, Target, Throws, Turn, User, Work}
use Rattle.core_meaning.specs.Statements.{begin_stat, at_target, is_for, loop_jumped, run_stats, target_jumped}
use Rattle.core_meaning.specs.Step.{abrupt, done, given, hand, handed, next_body, outermost, result_of, returned, step, step_by, thrown_out, turn}
use Rattle.cells_keep_runs.specs.Alike.{Config}
use Rattle.cells_keep_runs.specs.Called.{bindings_of}
use Rattle.cells_keep_runs.specs.Copied.{EndsScope, InScope}
use Rattle.cells_keep_runs.specs.Floors.{AllContexts, AllOf, Anew, BindingFits, BodyAt, Bottom, Calling, ClosureAt, ControlAt, Copying, Entering, Everywhere, Fits, FrameAt, FramesAt, HandAnew, HandAt, HeadAnew, HeadAt, ListAnew, LoopAt, NamesFit, NotHeld, Perhaps, Placed, RecordsFit, Standing, StatAnew, StatAt, Stored, StoredAt, ToUse, Wanted, WorkAt, copied_inner, floor_of, names_in, under}
use Rattle.cells_keep_runs.specs.Placing.{below_frame}
use Rattle.cells_keep_runs.specs.Ready.{ClosureCall}
use Rattle.cells_keep_runs.specs.Recorded.{inner}
use Rattle.cells_keep_runs.proofs.Called.{within_is}
use Rattle.cells_keep_runs.proofs.Floored.{Links, N, St, all_index, all_joined, all_more, along, either_at, held_fits, heads_at, host_at, initialized_by, option_by, some_is}
use Rattle.cells_keep_runs.proofs.Flooring.{Ends, given_at, links_at, on_at, resumed_at, stat_at, turned_at}
use Rattle.cells_keep_runs.proofs.Writes.{differ}

-- ---- the statements of a scope

ends : (fs : List (Frame Mark CoreWork)) → (floor_of fs).own ≡ true → EndsScope fs
ends [] is = cc
ends (Restore e ∷ fs) is = tt
ends (f ∷ fs) is = cc

pub in_scope : (fs : List (Frame Mark CoreWork)) → (floor_of fs).in_scope ≡ true → InScope fs
in_scope [] is = cc
in_scope (Rest xs ∷ fs) is = ends fs is
in_scope (LoopUpdate l ∷ fs) is = in_scope fs is
in_scope (f ∷ fs) is = cc

module _ (core : Core) (K : Standing) (place : Placed core K) where
  abbrev T : CoreState → Type 0
  T = St core K

  abbrev M : CoreNext → Type 0
  M = N core K

  abbrev here : CoreState → Environment
  here st = st.context.environment

  abbrev Free : CoreState → Type 0
  Free st = NotHeld (floor_of st.context.frames).wanted

  -- what is stored, in another environment
  stored_in : (st : CoreState) (e : Environment) → K.inside e → StoredAt K st → Stored K e st.store.generators st.records st.closures st.ahead
  stored_in st e inside b = record {
    inside = inside;
    generators_at = b.generators_at;
    records_fit = b.records_fit;
    shapes = b.shapes;
    closures_at = b.closures_at;
    ahead_at = b.ahead_at;
  }

  -- ---- the end of statements

  -- a frame that is taken off, and those below it
  abbrev Taken : CoreState → Frame Mark CoreWork → Type 0
  Taken st f = FrameAt K (here st) (floor_of st.context.frames) f × FramesAt K (Bottom K st.callers) (below_frame (here st) f) st.context.frames × AllContexts K st.callers × StoredAt K st

  work_end : (st : CoreState) (w : CoreWork) → WorkAt K (here st) (floor_of st.context.frames) w → T st → M (work_done st w)
  work_end st (Instantiates stats) l b = (((l, b.0), b.1, b.2), tt)
  work_end st w l b = tt

  done_at : (st : CoreState) (f : Frame Mark CoreWork) → NotHeld (under f (floor_of st.context.frames)).wanted → Taken st f → M (done (rows core) st f)
  unfolding done
  done_at st (After links) free (l, b, k, g) = ((b, k, g), (l, tt))
  done_at st (Rest xs) free (l, b, k, g) = ((b, k, g), l)
  done_at st (LoopBody x) free (l, b, k, g) = on_at core K place x st l.0 l.1 (b, k, g)
  done_at st (Target label) free (l, b, k, g) = ((b, k, g), l)
  done_at st (Catching x names handler) free (l, b, k, g) = ((b, k, g), l.0)
  done_at st (Finishing last) free (l, b, k, g) = (((l.0, b), k, g), (tt, l.1))
  done_at st (Pending c) free (l, b, k, g) = ((b, k, g), l)
  done_at st (Restore e) free (l, b, k, g) = ((b, k, stored_in st e (place.back (here st) e l.1 g.inside) g), l.0)
  done_at st (Work w) free (l, b, k, g) = work_end st w l (b, k, g)
  done_at st f free (l, b, k, g) = tt

  -- ---- what ends statements early

  thrown_at : (site : Option Site) (c : BuiltinCall) (v : Value) (st : CoreState) → T st → M (thrown_out site c v st)
  thrown_at site c v st b = either_at core K (drops_throw c) _ _ (b, tt) (b, tt)

  jumped_at : (l : Loop) (st : CoreState) (goes_on : Bool) (label : Option Label) → Free st → LoopAt K (here st) (floor_of st.context.frames).in_scope l → T st → M (loop_jumped l st goes_on label)
  jumped_at l st goes_on label free at b = either_at core K (not (is_for l.labels label)) _ _ (b, tt) (either_at core K goes_on _ _ (on_at core K place l st free at b) (b, free))

  target_to : (t : Option Label) (st : CoreState) (goes_on : Bool) (label : Option Label) → Free st → T st → M (target_jumped t st goes_on label)
  target_to t st goes_on label free b = either_at core K (not goes_on && at_target t label) _ _ (b, free) (b, tt)

  -- a completion that ends statements early
  abbrev Early : Completion Mark → Type 0
  Early (Gives v) = ⊥
  Early Done = ⊥
  Early c = Unit {0}

  early_at : (e e2 : Environment) (w w2 : Wanted) (c : Completion Mark) → Early c → HandAt K e w c → HandAt K e2 w2 c
  early_at e e2 w w2 (Returns v) is at = at
  early_at e e2 w w2 (Throws v) is at = tt
  early_at e e2 w w2 (Jumps goes_on label) is at = tt
  early_at e e2 w w2 (Gives v) is at = absurd is
  early_at e e2 w w2 Done is at = absurd is

  early_ends : (e : Environment) (w : Wanted) (c : Completion Mark) → Early c → HandAt K e w c → Ends core K place e c
  early_ends e w (Returns v) is at = at
  early_ends e w (Throws v) is at = tt
  early_ends e w (Jumps goes_on label) is at = tt
  early_ends e w (Gives v) is at = absurd is
  early_ends e w Done is at = absurd is

  work_out : (st : CoreState) (c : Completion Mark) (w : CoreWork) → Early c → HandAt K (here st) ToUse c → WorkAt K (here st) (floor_of st.context.frames) w → T st → M (work_abrupt st c w)
  work_out st c (Resumes n) is at l b = resumed_at core K place n st c (early_ends (here st) ToUse c is at) b
  work_out st c (Stepping f e) is at l b = absurd l
  work_out st c w is at l b = (b, early_at (here st) (here st) ToUse (floor_of st.context.frames).wanted c is at)

  -- the frame takes no throw
  abbrev NoHandler : Frame Mark CoreWork → Type 0
  NoHandler (Catching x names handler) = ⊥
  NoHandler f = Unit {0}

  throws_at : (st : CoreState) (v : Value) (f : Frame Mark CoreWork) → NoHandler f → Taken st f → M (abrupt (rows core) st f (Throws v))
  unfolding abrupt
  throws_at st v (Operation site c) is (l, b, k, g) = thrown_at site c v st (b, k, g)
  throws_at st v (Catching x names handler) is t = absurd is
  throws_at st v (Finishing last) is (l, b, k, g) = (((tt, b), k, g), (tt, l.1))
  throws_at st v (Restore e) is (l, b, k, g) = ((b, k, stored_in st e (place.back (here st) e l.1 g.inside) g), tt)
  throws_at st v (Work w) is (l, b, k, g) = work_out st (Throws v) w tt tt l (b, k, g)
  throws_at st v f is (l, b, k, g) = ((b, k, g), tt)

  returns_at : (st : CoreState) (v : CoreValue Mark) (f : Frame Mark CoreWork) → HandAt K (here st) ToUse (Returns v) → Taken st f → M (abrupt (rows core) st f (Returns v))
  unfolding abrupt
  returns_at st v (Finishing last) at (l, b, k, g) = (((at, b), k, g), (tt, l.1))
  returns_at st v (Restore e) at (l, b, k, g) = ((b, k, stored_in st e (place.back (here st) e l.1 g.inside) g), at)
  returns_at st v (Work w) at (l, b, k, g) = work_out st (Returns v) w tt at l (b, k, g)
  returns_at st v f at (l, b, k, g) = ((b, k, g), at)

  jumps_at : (st : CoreState) (goes_on : Bool) (label : Option Label) (f : Frame Mark CoreWork) → Taken st f → M (abrupt (rows core) st f (Jumps goes_on label))
  unfolding abrupt
  jumps_at st goes_on label (LoopBody x) (l, b, k, g) = jumped_at x st goes_on label l.0 l.1 (b, k, g)
  jumps_at st goes_on label (Target t) (l, b, k, g) = target_to t st goes_on label l (b, k, g)
  jumps_at st goes_on label (Finishing last) (l, b, k, g) = (((tt, b), k, g), (tt, l.1))
  jumps_at st goes_on label (Restore e) (l, b, k, g) = ((b, k, stored_in st e (place.back (here st) e l.1 g.inside) g), tt)
  jumps_at st goes_on label (Work w) (l, b, k, g) = work_out st (Jumps goes_on label) w tt tt l (b, k, g)
  jumps_at st goes_on label f (l, b, k, g) = ((b, k, g), tt)

  -- a value, but at the end of a scope
  gives_at : (st : CoreState) (v : CoreValue Mark) (f : Frame Mark CoreWork) → Fits K.unmade (here st) (under f (floor_of st.context.frames)).wanted v → Taken st f → M (given (rows core) core v st f)
  unfolding given
  gives_at st v (Restore e) fits (l, b, k, g) = tt
  gives_at st v f fits (l, b, k, g) = given_at core K place v st f l fits (b, k, g)

  -- ---- records

  -- the state with one record more, which is the innermost
  names_fit : (names : List ScopedName) → NamesFit K names → AllOf (BindingFits K) (uninitialized names)
  names_fit [] fits = tt
  names_fit (n ∷ names) (may, fits) = ((tt, may), names_fit names fits)

  same_names : (names : List ScopedName) → names_in (uninitialized names) ≡ map (λ (n : ScopedName). n.var) names
  same_names [] = refl
  same_names (n ∷ names) = ap (λ xs. n.var ∷ xs) (same_names names)

  all_names : (rs : List (EnvironmentRecord Mark)) (bs : EnvironmentRecord Mark) (xs : List Var) → names_in bs ≡ xs → map names_in (rs ++ bs ∷ []) ≡ map names_in rs ++ xs ∷ []
  all_names [] bs xs is = ap (λ ys. ys ∷ []) is
  all_names (r ∷ rs) bs xs is = ap (λ yss. names_in r ∷ yss) (all_names rs bs xs is)

  -- what is stored with one record more
  one_stored : (st : CoreState) (e : Environment) (bs : EnvironmentRecord Mark) (xs : List Var) → names_in bs ≡ xs → K.shapes (map names_in st.records ++ xs ∷ []) → AllOf (BindingFits K) bs → K.inside e → StoredAt K st
      → Stored K e st.store.generators (st.records ++ bs ∷ []) st.closures st.ahead
  one_stored st e bs xs is more fits inside b = record {
    inside = inside;
    generators_at = b.generators_at;
    records_fit = all_more (AllOf (BindingFits K)) st.records bs b.records_fit fits;
    shapes = subst (λ a. K.shapes a) (sym (all_names st.records bs xs is)) more;
    closures_at = b.closures_at;
    ahead_at = b.ahead_at;
  }

  handler_at : (st : CoreState) (x : Var) (names : List ScopedName) (handler : List CoreStat) (v : Value) → Entering K st (x ∷ map (λ (n : ScopedName). n.var) names) names handler → Taken st (Catching x names handler)
      → M (abrupt (rows core) st (Catching x names handler) (Throws v))
  unfolding abrupt
  handler_at st x names handler v n (l, b, k, g) =
      let bs : EnvironmentRecord Mark = binding x (User v) ∷ uninitialized names in
      let same : names_in bs ≡ x ∷ map (λ (n : ScopedName). n.var) names = ap (λ xs. x ∷ xs) (same_names names) in
      ((((l.0, n.leads), b), k, one_stored st (inner st (here st)) bs _ same n.more ((tt, λ (free : K.fixed x ≡ false). refl), names_fit names n.names_fit) n.inside g), (tt, n.body_at))

  -- a statement above those that stand behind it
  stat_to : (x : CoreStat) (xs : List CoreStat) (st : CoreState) (y : CoreStat-F CoreLink CoreStat CoreCase CoreExpr) → out-CoreStat x ≡ y → StatAnew K st y → StatAt K (here st) (floor_of st.context.frames).own y
      → Free st → K.stats (here st) (floor_of st.context.frames).own xs → T st → M (begin_stat (rows core) x (pushed (Rest xs) st) y)
  unfolding begin_stat
  stat_to x xs st (layer.Scoped names body) is n at free rest b =
      subst (λ z. M (stat_of (pushed (Rest xs) st) z)) (sym is)
      ((((tt, n.leads), ((free, rest), b.0)), b.1, one_stored st (inner st (here st)) (uninitialized names) _ (same_names names) n.more (names_fit names n.names_fit) n.inside b.2), (tt, n.body_at))
  stat_to x xs st y is n at free rest b = stat_at core K place x xs st y tt at (((free, rest), b.0), b.1, b.2)

  list_to : (xs : List CoreStat) (st : CoreState) → ListAnew K st xs → Free st → K.stats (here st) (floor_of st.context.frames).own xs → T st → M (run_stats (rows core) xs st)
  list_to [] st n free at b = (b, free)
  list_to (x ∷ xs) st n free at b =
      let e = here st in
      let own = (floor_of st.context.frames).own in
      stat_to x xs st (out-CoreStat x) refl n (place.stat e own x xs at) free (place.rest e own x xs at) b

  -- ---- copies

  perhaps_moved : (e e2 : Environment) (w : Wanted) (b : Bool) (o : Option CoreExpr) → ((x : CoreExpr) → K.expr e w b x → K.expr e2 w b x) → Perhaps (K.expr e w b) o → Perhaps (K.expr e2 w b) o
  perhaps_moved e e2 w b None move at = tt
  perhaps_moved e e2 w b (Some x) move at = move x at

  frames_moved : (st : CoreState) (c : Copying K st) (below : Environment → Type 0) (fs : List (Frame Mark CoreWork)) → InScope fs → FramesAt K below (here st) fs → FramesAt K below (copied_inner st) fs
  frames_moved st c below (Rest xs ∷ Restore o ∷ fs) inside ((free, at), ((free2, leads), all)) = ((free, c.stats _ xs at), ((free2, c.leads o leads), all))
  frames_moved st c below (LoopUpdate l ∷ fs) inside ((free, (test, update, body)), all) =
      let e = here st in
      let e2 = copied_inner st in
      let b = (floor_of fs).in_scope in
      ((free, (perhaps_moved e e2 ToUse false l.test (c.expr ToUse false) test, perhaps_moved e e2 ToUse b l.update (c.expr ToUse b) update, c.stats false l.body body)), frames_moved st c below fs inside all)
  frames_moved st c below fs inside at = absurd inside

  innermost_fits : (st : CoreState) (e : Environment) → RecordsFit K st.records → AllOf (BindingFits K) (innermost st e)
  innermost_fits st [] all = tt
  innermost_fits st (n ∷ e) all = all_index (AllOf (BindingFits K)) st.records n [] tt all

  copy_to : (st : CoreState) (links : List CoreLink) (c : Copying K st) → (floor_of st.context.frames).in_scope ≡ true → T st → Links core K st links → M (copy links st)
  copy_to st links c is b l =
      let w = (floor_of st.context.frames).wanted in
      let moved : FramesAt K (Bottom K st.callers) (copied_inner st) st.context.frames = frames_moved st c (Bottom K st.callers) st.context.frames (in_scope st.context.frames is) b.0 in
      ((moved, b.1, one_stored st (copied_inner st) (innermost st (here st)) _ refl c.more (innermost_fits st (here st) b.2.records_fit) c.inside b.2), (c.links w links l, tt))

  begin_to : (h : CoreHead) (links : List CoreLink) (st : CoreState) (scope : Bool) → (floor_of st.context.frames).in_scope ≡ scope → HeadAt K core (here st) (along core K st links) scope h → HeadAnew K st h → T st → Links core K st links
      → M (begin_head (rows core) core h links st)
  unfolding begin_head
  begin_to (head.Copy xs) links st scope is at n b l = copy_to st links n (is ∙ at) b l
  begin_to h links st scope is at n b l = heads_at core K (place.uncelled, place.made) h links st scope at tt b l

  -- ---- calls

  passed_fit : (xs : List Var) (vs : List Value) → AllOf (BindingFits K) (passed xs vs)
  passed_fit [] vs = tt
  passed_fit (x ∷ xs) [] = ((tt, λ (free : K.fixed x ≡ false). refl), passed_fit xs [])
  passed_fit (x ∷ xs) (v ∷ vs) = ((tt, λ (free : K.fixed x ≡ false). refl), passed_fit xs vs)

  declared_fit : (ds : List Declared) → AllOf (BindingFits K) (map (λ (d : Declared). undefined_binding d.var) ds)
  declared_fit [] = tt
  declared_fit (d ∷ ds) = ((tt, λ (free : K.fixed d.var ≡ false). refl), declared_fit ds)

  bound_fit : (o : Option Var) → AllOf (BindingFits K) (name_bound o)
  bound_fit None = tt
  bound_fit (Some x) = ((tt, λ (free : K.fixed x ≡ false). refl), tt)

  locals_fit : (xs : List Var) → AllOf (BindingFits K) (map (λ (x : Var). undefined_binding x) xs)
  locals_fit [] = tt
  locals_fit (x ∷ xs) = ((tt, λ (free : K.fixed x ≡ false). refl), locals_fit xs)

  own_fit : (o : Option Var) (f : Value) → Perhaps (λ (x : Var). K.fixed x ≡ true) o → AllOf (BindingFits K) (own_name o f)
  own_fit None f at = tt
  own_fit (Some x) f at = ((tt, λ (free : K.fixed x ≡ false). absurd (differ (K.fixed x) at free)), tt)

  cells_fit : (ks : List KeptCell) → ks ≡ [] → AllOf (BindingFits K) (map (λ (k : KeptCell). binding k.var (Extra (Cell k.cell))) ks)
  cells_fit [] is = tt
  cells_fit (k ∷ ks) is = cc

  besides_fit : (a : Closure Own) (c : Call) (st : CoreState) (k : CoreKind) → a.own.cells ≡ [] → AllOf (BindingFits K) (entered_by a c st k).names
  besides_fit a c st kind.Arrow none = cells_fit a.own.cells none
  besides_fit a c st k none = cells_fit a.own.cells none

  bindings_fit : (f : CoreFunction) (a : Closure Own) (c : Call) (st : CoreState) → a.own.cells ≡ [] → Perhaps (λ (x : Var). K.fixed x ≡ true) f.own → AllOf (BindingFits K) (bindings_of f a c st)
  bindings_fit f a c st none own =
      let P = BindingFits K in
      all_joined P _ _ (all_joined P _ _ (all_joined P _ _ (all_joined P _ _ (all_joined P _ _ (passed_fit f.parameters c.args) (declared_fit f.declared)) (bound_fit f.arguments)) (locals_fit f.locals))
      (besides_fit a c st f.kind none)) (own_fit f.own c.function own)

  entered_stored : (a : Closure Own) (c : Call) (st : CoreState) (k : CoreKind) (e : Environment) (rs : List (EnvironmentRecord Mark)) → Stored K e st.store.generators rs st.closures st.ahead
      → Stored K e (entered_by a c st k).state.store.generators rs (entered_by a c st k).state.closures (entered_by a c st k).state.ahead
  entered_stored a c st kind.Arrow e rs b = b
  entered_stored a c st k e rs b = b

  -- a state in this context
  abbrev In : CoreState → Context Mark Own CoreWork → Type 0
  In st k = T st × (st.context ≡ k)

  bound_in : (x : Var) (v : Value) (st : CoreState) (k : Context Mark Own CoreWork) (o : Option (Resolved Mark)) → In st k → In (initialize_found x (User v) st o) k
  bound_in x v st k None b = b
  bound_in x v st k (Some r) (b, is) = (initialized_by core K x (User v) st (Some r) tt b, is)

  arguments_in : (o : Option Var) (args : List Value) (st : CoreState) (k : Context Mark Own CoreWork) → In st k → In (with_arguments Sixth o args st) k
  unfolding initialized
  arguments_in None args st k b = b
  arguments_in (Some x) args st k b = bound_in x _ (with_heap (arguments_heap Sixth st.heap args) st) k (resolve (with_heap (arguments_heap Sixth st.heap args) st) x) b

  -- statements that may run in a context
  abbrev Runs : List CoreStat → Context Mark Own CoreWork → Type 0
  Runs xs k = NotHeld (floor_of k.frames).wanted × K.stats k.environment (floor_of k.frames).own xs

  abbrev Body : List CoreStat → Context Mark Own CoreWork → Type 0
  Body xs k = K.stats k.environment false xs

  body_to : (f : CoreFunction) (st : CoreState) (o : Option Names) → Body f.setup st.context → Body f.body st.context → Runs (f.setup ++ f.body) st.context → T st → M (body_by f st o)
  body_to f st None setup body both b = (((body, b.0), b.1, b.2), (tt, setup))
  body_to f st (Some names) setup body both b = (b, both)

  run_to : (f : CoreFunction) (st : CoreState) (is : Bool) → Body f.setup st.context → Body f.body st.context → Runs (f.setup ++ f.body) st.context → T st → M (if is then body_by f st f.resumption else controls (Run (f.setup ++ f.body)) st)
  run_to f st true setup body both b = body_to f st f.resumption setup body both b
  run_to f st false setup body both b = (b, both)

  bodies_to : (f : CoreFunction) (st : CoreState) (k : Context Mark Own CoreWork) → k.frames ≡ [] → Body f.setup k → Body f.body k → In st k → M (run_body f st)
  bodies_to f st k none setup body (b, is) =
      let both : K.stats k.environment false (f.setup ++ f.body) = place.joined k.environment false f.setup f.body setup body in
      let runs : Runs (f.setup ++ f.body) k = subst (λ fs. NotHeld (floor_of fs).wanted × K.stats k.environment (floor_of fs).own (f.setup ++ f.body)) (sym none) (tt, both) in
      run_to f st (is_generator f.kind) (subst (λ x. Body f.setup x) (sym is) setup) (subst (λ x. Body f.body x) (sym is) body) (subst (λ x. Runs (f.setup ++ f.body) x) (sym is) runs) b

  enter_to : (c : Call) (st : CoreState) (r : ClosureCall core c st) → Calling core K c st r → r.closure.own.cells ≡ [] → T st → M (run_body r.function (within_call (rows core) core r.function r.closure c st))
  enter_to c st r n none b =
      let f = r.function in
      let a = r.closure in
      let e = inner st a.environment in
      let k : Context Mark Own CoreWork = record { environment = e; receiver = c.receiver; site = or_else c.site (place_of st); own = (entered a f c st).own; frames = [] } in
      let u : CoreState = record (entered a f c st).state { records = st.records ++ bindings_of f a c st ∷ []; callers = st.context ∷ st.callers; context = k } in
      let stored : Stored K e st.store.generators (st.records ++ bindings_of f a c st ∷ []) st.closures st.ahead =
      one_stored st e (bindings_of f a c st) _ refl n.more (bindings_fit f a c st none n.own) n.inside b.2 in
      let b2 : T u = (tt, ((b.0, b.2.inside), b.1), entered_stored a c st f.kind e (st.records ++ bindings_of f a c st ∷ []) stored) in
      subst (λ v. M (run_body f v)) (sym (within_is core f a c st n.undeclared)) (bodies_to f (with_arguments Sixth f.arguments c.args u) k refl n.setup n.body (arguments_in f.arguments c.args u k (b2, refl)))

  get_at : (cs : List (Closure Own)) (n : ℕ) (c : Closure Own) → slice_get cs n ≡ Some c → AllOf (ClosureAt K) cs → ClosureAt K c
  get_at [] n c is all = cc
  get_at (d ∷ cs) zero c is (first, all) = subst (λ x. ClosureAt K x) (some_is d c is) first
  get_at (d ∷ cs) (suc n) c is (first, all) = get_at cs n c is all

  class_to : (c : Call) (st : CoreState) (id : ObjId) (k : Class) → c.function ≡ value.Object id → (object_at st.heap id).class ≡ k → Anew core K st (Calls c) → T st → M (call_class (rows core) core c st k)
  unfolding call_class
  class_to c st id (class.Function m) object is n b =
      option_by core K (slice_get st.closures m) st _ (λ a at. option_by core K (function_at core a.function) st _ (λ f there.
      let r : ClosureCall core c st = record { closure = a; function = f; id = id; number = m; object = object; class_is = is; closure_at = at; function_is = there } in
      let made : ClosureAt K a = get_at st.closures m a at b.2.closures_at in
      enter_to c st r (n r made) made.1 b))
  class_to c st id (class.Builtin m) object is n b = (b, tt)
  class_to c st id (class.Host m) object is n b = host_at core K m _ st (to_prims c.args) b
  class_to c st id k object is n b = (b, tt)

  call_to : (c : Call) (st : CoreState) (v : Value) → c.function ≡ v → Anew core K st (Calls c) → T st → M (call_value (rows core) core c st v)
  call_to c st (value.Object id) is n b = class_to c st id (object_at st.heap id).class is refl n b
  call_to c st v is n b = (b, tt)

  -- ---- the end of a context

  next_to : (st : CoreState) (bs : List (List CoreStat)) → st.context.frames ≡ [] → K.outermost (here st) → AllOf (BodyAt K) bs → T st → M (next_body st bs)
  next_to st [] none out at b = tt
  next_to st (x ∷ bs) none out (first, at) b =
      let free : NotHeld (floor_of st.context.frames).wanted = subst (λ fs. NotHeld (floor_of fs).wanted) (sym none) tt in
      let body : K.stats (here st) (floor_of st.context.frames).own x = subst (λ fs. K.stats (here st) (floor_of fs).own x) (sym none) (first (here st) out) in
      let stored : Stored K (here st) st.store.generators st.records st.closures bs = record {
        inside = b.2.inside;
        generators_at = b.2.generators_at;
        records_fit = b.2.records_fit;
        shapes = b.2.shapes;
        closures_at = b.2.closures_at;
        ahead_at = at;
      } in
      ((b.0, b.1, stored), (free, body))

  ends_to : (st : CoreState) (c : Completion Mark) → st.context.frames ≡ [] → K.outermost (here st) → T st → M (outermost st c)
  ends_to st (Throws v) none out b = tt
  ends_to st Done none out b = next_to st st.ahead none out b.2.ahead_at b
  ends_to st (Returns v) none out b = tt
  ends_to st (Jumps goes_on label) none out b = tt
  ends_to st (Gives v) none out b = tt

  result_to : (st : CoreState) (c : Completion Mark) (e : Environment) (w : Wanted) → HandAt K e w c → T st → M (result_of st c)
  result_to st (Returns v) e w at b = (b, held_fits core K (here st) (floor_of st.context.frames).wanted v at)
  result_to st (Throws v) e w at b = (b, tt)
  result_to st (Jumps goes_on label) e w at b = tt
  result_to st (Gives v) e w at b = (b, tt)
  result_to st Done e w at b = (b, tt)

  returned_to : (st : CoreState) (c : Completion Mark) (ks : List (Context Mark Own CoreWork)) → st.callers ≡ ks → st.context.frames ≡ [] → HandAt K (here st) ToUse c → T st → M (returned st c ks)
  returned_to st c [] is none at b =
      let out : K.outermost (here st) = subst (λ ks. Bottom K ks (here st)) is (subst (λ fs. FramesAt K (Bottom K st.callers) (here st) fs) none b.0) in
      ends_to st c none out b
  returned_to st c (k ∷ ks) is none at b =
      let all : AllContexts K (k ∷ ks) = subst (λ x. AllContexts K x) is b.1 in
      result_to (record st { context = k; callers = ks }) c (here st) ToUse at (all.0.0, all.1, stored_in st k.environment all.0.1 b.2)

  -- ---- a completion

  entering_in : (st : CoreState) (fs : List (Frame Mark CoreWork)) (xs : List Var) (names : List ScopedName) (body : List CoreStat) → Entering K st xs names body → Entering K (with_frames fs st) xs names body
  entering_in st fs xs names body n = record { body_at = n.body_at; inside = n.inside; leads = n.leads; names_fit = n.names_fit; more = n.more }

  thrown_to : (st : CoreState) (v : Value) (f : Frame Mark CoreWork) (fs : List (Frame Mark CoreWork)) → HandAnew K st (Throws v) (f ∷ fs) → Taken (with_frames fs st) f → M (abrupt (rows core) (with_frames fs st) f (Throws v))
  thrown_to st v (Catching x names handler) fs n t = handler_at (with_frames fs st) x names handler v (entering_in st fs _ names handler n) t
  thrown_to st v f fs n t = throws_at (with_frames fs st) v f tt t

  handed_to : (st : CoreState) (c : Completion Mark) (f : Frame Mark CoreWork) (fs : List (Frame Mark CoreWork)) → HandAnew K st c (f ∷ fs) → HandAt K (here st) (under f (floor_of fs)).wanted c → Taken (with_frames fs st) f → M (handed (rows core) core f (with_frames fs st) c)
  handed_to st (Gives v) f fs n at t = gives_at (with_frames fs st) v f at t
  handed_to st Done f fs n at t = done_at (with_frames fs st) f at t
  handed_to st (Throws v) f fs n at t = thrown_to st v f fs n t
  handed_to st (Returns v) f fs n at t = returns_at (with_frames fs st) v f at t
  handed_to st (Jumps goes_on label) f fs n at t = jumps_at (with_frames fs st) goes_on label f t

  hand_to : (st : CoreState) (c : Completion Mark) (fs : List (Frame Mark CoreWork)) → st.context.frames ≡ fs → HandAnew K st c fs → HandAt K (here st) (floor_of fs).wanted c → T st → M (hand (rows core) core st c fs)
  unfolding hand
  hand_to st c [] is n at b = returned_to st c st.callers refl is at b
  hand_to st c (f ∷ fs) is n at b =
      let all : FramesAt K (Bottom K st.callers) (here st) (f ∷ fs) = subst (λ fs. FramesAt K (Bottom K st.callers) (here st) fs) is b.0 in
      handed_to st c f fs n at (all.0, all.1, b.1, b.2)

  -- ---- a step

  control_to : (st : CoreState) (c : Control Mark) → Anew core K st c → T st → ControlAt K (here st) (floor_of st.context.frames) c → M (step_by (rows core) core st c)
  unfolding turn
  control_to st (Begin x) n b at =
      let w = (floor_of st.context.frames).wanted in
      let scope = (floor_of st.context.frames).in_scope in
      begin_to (out-CoreExpr x).head (out-CoreExpr x).links st scope refl (place.head (here st) w scope x at) n b (place.links (here st) w scope x at)
  control_to st (Go c links) n b at = links_at core K place c links st b at.0 at.1
  control_to st (Run xs) n b at = list_to xs st n at.0 at.1 b
  control_to st (Turn site c) n b at =
      let r = step_operation Sixth st.heap c in
      turned_at core K place site r.call (with_heap r.heap st) r.step b
  control_to st (Calls c) n b at = call_to c st c.function refl n b
  control_to st (Hand c) n b at = hand_to st c st.context.frames refl n at b

  -- A step leaves all code where it may stand, if what it makes a record for may.
  pub floors_stay : (s : Config) → Anew core K s.state s.control → Everywhere K s → M (core_step core s)
  unfolding step
  floors_stay s n (b, at) = control_to s.state s.control n b at
