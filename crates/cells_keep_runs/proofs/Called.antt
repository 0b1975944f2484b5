-- Closures are called alike.
use Rattle.std.proofs.Common.{◌≡◌, ℕ, ◌+◌, ◌<◌, Bool, true, false, List, [], ◌∷◌, ◌++◌, Option, None, Some, fold, length, slice_get, refl, sym, ap, arith, subst, ◌∙◌}
use Rattle.std.specs.Prelude.{if◌then◌else◌}
use Rattle.std.proofs.lemmas.List.{get_or_at, length_push}
use Rattle.es_outside.specs.declared.events.Site.{Site}
use Rattle.es_value.specs.declared.value.ObjId.{ObjId}
use Rattle.es_value.specs.declared.value.Value.{Value}
use Rattle.es_value.specs.declared.value.Value.TheVariants as value
use Rattle.es_heap.specs.Heaps.{Heap, next_id, object_at}
use Rattle.es_heap.specs.declared.class.Class.TheVariants as class
use Rattle.es_realm.specs.declared.edition.Edition.TheVariants.{Sixth}
use Rattle.es_calls.specs.Making.{arguments_heap}
use Rattle.core_ast.specs.Lawful.{is_generator}
use Rattle.core_ast.specs.declared.parts.Var.{Var}
use Rattle.core_ast.specs.declared.whole.Core.{Core}
use Rattle.core_ast.specs.declared.whole.CoreFunction.{CoreFunction}
use Rattle.core_ast.specs.declared.whole.CoreKind.{CoreKind}
use Rattle.core_ast.specs.declared.whole.CoreKind.TheVariants as kind
use Rattle.core_ast.specs.declared.whole.Resumption.{Resumption as Names}
use Rattle.core_meaning.specs.Calls.{call_class, call_value, declare_one, enter, names_of_call, with_arguments, with_context, within_call}
use Rattle.core_meaning.specs.Expressions.{function_at}
use Rattle.core_meaning.specs.Functions.{entered, entered_by, own_of, this_begun, with_this}
use Rattle.core_meaning.specs.Generators.{body_by, run_body}
use Rattle.core_meaning.specs.Marks.{CoreState, Instantiates, Mark, Own}
use Rattle.core_meaning.specs.Modules.{core_step, rows}
use Rattle.core_meaning.specs.Names.{binding_in, initialize_found, initialized, or_outer, record_at, resolve, resolved, stored_at}
use Rattle.core_meaning.specs.Rows.{controls, nearest, or_else, place_of, with_control, with_heap, with_option, with_record}
use Rattle.core_meaning.specs.State.{Binding, Call, Calls, Closure, CoreValue, Environment, EnvironmentRecord, Run, User, Work}
use Rattle.core_meaning.specs.Step.{step}
use Rattle.pass_rules.specs.Scopes.{function_flat}
use Rattle.cells_keep_runs.specs.Alike.{Alike, Config}
use Rattle.cells_keep_runs.specs.Called.{ArgumentsBound, CallsEnterAlike, bindings_of}
use Rattle.cells_keep_runs.specs.Entries.{BoundAlike, NewCall, call_seat}
use Rattle.cells_keep_runs.specs.Memory.{Memory, Seat, Seats, image_in, images, with_image}
use Rattle.cells_keep_runs.specs.Places.{Below}
use Rattle.cells_keep_runs.specs.Related.{Closures, Contexts, Frames, Owns, Related, Stand, States, instantiates, none}
use Rattle.cells_keep_runs.specs.Writes.{PlaceOf, at_image}
use Rattle.cells_keep_runs.proofs.Entries.{calls_remembered}
use Rattle.cells_keep_runs.proofs.Grown.{below_cons, below_more, context_stays, contexts_stay, environments_stay, states_stay}
use Rattle.cells_keep_runs.proofs.Passed.{places}
use Rattle.cells_keep_runs.proofs.Renewed.{got_last}
use Rattle.cells_keep_runs.proofs.Shapes.{by_parts}
use Rattle.cells_keep_runs.proofs.Statements.{run_at, runs_at}
use Rattle.cells_keep_runs.proofs.Writes.{unshared_written}

-- ---- what a context begins with

owns_plain : (owners : List ℕ) (seats : Seats) (a b : Closure Own) (c : Call) (s t : CoreState) → Closures owners seats a b → States owners seats s t → Owns (own_of a c s) (own_of b c t)
owns_plain owners seats a b c s t r x =
    record { this_record = ap (λ vs. length vs) x.this_values; callee = refl; target = refl; home = r.own.home; passed = refl }

owns_by : (owners : List ℕ) (seats : Seats) (a b : Closure Own) (c : Call) (s t : CoreState) (k : CoreKind) → Closures owners seats a b → States owners seats s t
    → Owns (entered_by a c s k).own (entered_by b c t k).own
owns_by owners seats a b c s t kind.Arrow r x =
    record { this_record = r.own.this_record; callee = r.own.callee; target = r.own.target; home = r.own.home; passed = refl }
owns_by owners seats a b c s t kind.Plain r x = owns_plain owners seats a b c s t r x
owns_by owners seats a b c s t kind.Method r x = owns_plain owners seats a b c s t r x
owns_by owners seats a b c s t kind.Accessor r x = owns_plain owners seats a b c s t r x
owns_by owners seats a b c s t (kind.Class derived) r x = owns_plain owners seats a b c s t r x
owns_by owners seats a b c s t kind.Generator r x = owns_plain owners seats a b c s t r x

this_states : (owners : List ℕ) (seats : Seats) (s t : CoreState) (v : Option Value) → States owners seats s t → States owners seats (with_this v s) (with_this v t)
this_states owners seats s t v x = record {
  heap = x.heap;
  memory = x.memory;
  closures = x.closures;
  callers = x.callers;
  ahead = x.ahead;
  this_values = ap (λ vs. vs ++ v ∷ []) x.this_values;
  generators = x.generators;
  namespaces = x.namespaces;
  templates = x.templates;
  statics = x.statics;
}

states_by : (owners : List ℕ) (seats : Seats) (a b : Closure Own) (c : Call) (s t : CoreState) (k : CoreKind) → States owners seats s t
    → States owners seats (entered_by a c s k).state (entered_by b c t k).state
states_by owners seats a b c s t kind.Arrow x = x
states_by owners seats a b c s t kind.Plain x = this_states owners seats s t (this_begun kind.Plain c.receiver) x
states_by owners seats a b c s t kind.Method x = this_states owners seats s t (this_begun kind.Method c.receiver) x
states_by owners seats a b c s t kind.Accessor x = this_states owners seats s t (this_begun kind.Accessor c.receiver) x
states_by owners seats a b c s t (kind.Class derived) x = this_states owners seats s t (this_begun (kind.Class derived) c.receiver) x
states_by owners seats a b c s t kind.Generator x = this_states owners seats s t (this_begun kind.Generator c.receiver) x

-- what entering leaves of a state, but for its `this` values
record Left (s u : CoreState) : Type 0 where
  records : u.records ≡ s.records
  context : u.context ≡ s.context
  callers : u.callers ≡ s.callers
  cells : u.store.cells ≡ s.store.cells

left_by : (a : Closure Own) (c : Call) (s : CoreState) (k : CoreKind) → Left s (entered_by a c s k).state
left_by a c s kind.Arrow = record { records = refl; context = refl; callers = refl; cells = refl }
left_by a c s kind.Plain = record { records = refl; context = refl; callers = refl; cells = refl }
left_by a c s kind.Method = record { records = refl; context = refl; callers = refl; cells = refl }
left_by a c s kind.Accessor = record { records = refl; context = refl; callers = refl; cells = refl }
left_by a c s (kind.Class derived) = record { records = refl; context = refl; callers = refl; cells = refl }
left_by a c s kind.Generator = record { records = refl; context = refl; callers = refl; cells = refl }

-- ---- the first record

first_found : (x : Var) (v : CoreValue Mark) (st : CoreState) (n : ℕ) (e : Environment) (b : Binding Mark) → st.context.environment ≡ n ∷ e → binding_in (record_at st.records n) x ≡ Some b → initialized x v st ≡ stored_at n x v st
unfolding initialized resolve
first_found x v st n e b env bound =
    ap (λ a. initialize_found x v st (resolved st.records a x)) env
    ∙ ap (λ o. initialize_found x v st (or_outer n o (resolved st.records e x))) bound

module _ (core core2 : Core) (owners : List ℕ) (seats : Seats) (c : Call) (s t : CoreState) (a b : Closure Own) (f : CoreFunction) (kept locals has : List Var)
    (closures : Closures owners seats a b)
    (call : NewCall (bindings_of (function_flat owners kept f) b c t) (bindings_of f a c s) t.store.cells locals has b.own.cells)
    (stand : Stand owners seats s t) (frames : Frames owners seats s.context.environment s.context.frames t.context.frames) where
  abbrev g : CoreFunction
  g = function_flat owners kept f

  abbrev seat : Seat
  seat = call_seat (length t.records) locals has b.own.cells

  abbrev seats2 : Seats
  seats2 = seats ++ seat ∷ []

  abbrev source : EnvironmentRecord Mark
  source = bindings_of f a c s

  abbrev target : EnvironmentRecord Mark
  target = bindings_of g b c t

  abbrev place : Site
  place = or_else c.site (place_of s)

  -- the states before the arguments object, said with the records and contexts of now
  abbrev inside : CoreState
  inside = record (entered a f c s).state {
    records = s.records ++ source ∷ [];
    callers = s.context ∷ s.callers;
    context = record { environment = length s.records ∷ a.environment; receiver = c.receiver; site = place; own = (entered a f c s).own; frames = [] };
  }

  abbrev inside2 : CoreState
  inside2 = record (entered b g c t).state {
    records = t.records ++ target ∷ [];
    callers = t.context ∷ t.callers;
    context = record { environment = length t.records ∷ b.environment; receiver = c.receiver; site = or_else c.site (place_of t); own = (entered b g c t).own; frames = [] };
  }

  same_place : place_of t ≡ place_of s
  same_place = places owners seats s.context.environment s.context.frames t.context.frames t.context.site frames ∙ ap (λ site. nearest s.context.frames site) stand.site

  last_seat : slice_get seats2 (length s.records) ≡ Some seat
  last_seat = ap (λ i. slice_get seats2 i) (sym stand.states.memory.seated) ∙ got_last seats seat

  new_below : Below (length seats2) (length s.records ∷ a.environment)
  new_below =
      let p : length seats2 ≡ length seats + 1 = length_push seats seat in
      let q : length seats ≡ length s.records = stand.states.memory.seated in
      let l : length s.records < length seats2 = omega arith in
      below_cons (length seats2) (length s.records) a.environment l (below_more (length seats) (length seats2) a.environment (omega arith) closures.below)

  images_of : length t.records ∷ b.environment ≡ images seats2 (length s.records ∷ a.environment)
  images_of =
      ap (λ e. length t.records ∷ e) (closures.environment ∙ sym (environments_stay seats (seat ∷ []) a.environment closures.below))
      ∙ sym (ap (λ o. with_image (image_in o) (images seats2 a.environment)) last_seat)

  -- the context that calls
  caller : Contexts owners seats s.context t.context
  caller = record { environment = stand.environment; below = stand.below; receiver = stand.receiver; site = stand.site; own = stand.own; frames = frames }

  memory : Memory owners seats2 inside.records inside2.records inside2.store.cells
  memory =
      subst (λ cells. Memory owners seats2 (s.records ++ source ∷ []) (t.records ++ target ∷ []) cells) (sym (left_by b c t g.kind).cells)
      (calls_remembered owners seats s.records t.records t.store.cells target source locals has b.own.cells stand.states.memory call)

  entered_states : States owners seats (entered a f c s).state (entered b g c t).state
  entered_states = states_by owners seats a b c s t f.kind stand.states

  grown : States owners seats2 (record (entered a f c s).state { records = inside.records; context = inside.context }) (record (entered b g c t).state { records = inside2.records; store = record (entered b g c t).state.store { cells = inside2.store.cells }; context = inside2.context })
  grown = states_stay owners seats (seat ∷ []) (entered a f c s).state (entered b g c t).state inside.context inside2.context inside.records inside2.records inside2.store.cells entered_states memory

  stand_inside : Stand owners seats2 inside inside2
  stand_inside = record {
    states = record {
      heap = grown.heap;
      memory = grown.memory;
      closures = grown.closures;
      callers = (context_stays owners seats (seat ∷ []) s.context t.context caller, contexts_stay owners seats (seat ∷ []) s.callers t.callers stand.states.callers);
      ahead = grown.ahead;
      this_values = grown.this_values;
      generators = grown.generators;
      namespaces = grown.namespaces;
      templates = grown.templates;
      statics = grown.statics;
    };
    environment = images_of;
    below = new_below;
    receiver = refl;
    site = ap (λ site. or_else c.site site) same_place;
    own = owns_by owners seats a b c s t f.kind closures stand.states;
  }

  -- ---- the arguments object

  abbrev made : Option Var → CoreState → CoreState
  made o st = with_arguments Sixth o c.args st

  source_last : record_at inside.records (length s.records) ≡ source
  source_last = get_or_at s.records source [] [] (length s.records) refl

  target_last : record_at inside2.records (length t.records) ≡ target
  target_last = get_or_at t.records target [] [] (length t.records) refl

  object_stand : (x : Var) (h : Heap) (v : CoreValue Mark) (d : Binding Mark) → binding_in source x ≡ Some d
      → Stand owners seats2 (stored_at (length s.records) x v (with_heap h inside)) (stored_at (length t.records) x v (with_heap h inside2))
  object_stand x h v d bound =
      let at : binding_in (record_at inside.records (length s.records)) x ≡ Some d = ap (λ r. binding_in r x) source_last ∙ bound in
      let to : PlaceOf owners seats2 (length s.records) x (length t.records) = at_image seat last_seat refl refl in
      record {
        states = record {
          heap = refl;
          memory = unshared_written owners seats2 inside.records inside2.records inside2.store.cells (length s.records) (length t.records) x v d stand_inside.states.memory at to;
          closures = stand_inside.states.closures;
          callers = stand_inside.states.callers;
          ahead = stand_inside.states.ahead;
          this_values = stand_inside.states.this_values;
          generators = stand_inside.states.generators;
          namespaces = stand_inside.states.namespaces;
          templates = stand_inside.states.templates;
          statics = stand_inside.states.statics;
        };
        environment = stand_inside.environment;
        below = stand_inside.below;
        receiver = stand_inside.receiver;
        site = stand_inside.site;
        own = stand_inside.own;
      }

  -- the states behind it, and that no frames are there yet
  record Begun (u v : CoreState) : Type 0 where
    stood : Stand owners seats2 u v
    no_frames : u.context.frames ≡ []
    no_frames2 : v.context.frames ≡ []

  with_object : (x : Var) (d : Binding Mark) → binding_in source x ≡ Some d → Begun (made (Some x) inside) (made (Some x) inside2)
  with_object x d bound =
      let h : Heap = arguments_heap Sixth inside.heap c.args in
      let w : CoreValue Mark = User (value.Object (next_id inside.heap)) in
      let e : BoundAlike target x d = call.same x d bound in
      let is : made (Some x) inside ≡ stored_at (length s.records) x w (with_heap h inside) =
      first_found x w (with_heap h inside) (length s.records) a.environment d refl (ap (λ r. binding_in r x) source_last ∙ bound) in
      let is2 : initialized x w (with_heap h inside2) ≡ stored_at (length t.records) x w (with_heap h inside2) =
      first_found x w (with_heap h inside2) (length t.records) b.environment e.binding refl (ap (λ r. binding_in r x) target_last ∙ e.there) in
      let heap_is : made (Some x) inside2 ≡ initialized x w (with_heap h inside2) =
      ap (λ heap. initialized x (User (value.Object (next_id heap))) (with_heap (arguments_heap Sixth heap c.args) inside2)) stand_inside.states.heap in
      subst (λ u. Begun u (made (Some x) inside2)) (sym is)
      (subst (λ v. Begun (stored_at (length s.records) x w (with_heap h inside)) v) (sym (heap_is ∙ is2))
      (record { stood = object_stand x h w d bound; no_frames = refl; no_frames2 = refl }))

  begun_by : (o : Option Var) → ArgumentsBound source o → Begun (made o inside) (made o inside2)
  begun_by None bound = record { stood = stand_inside; no_frames = refl; no_frames2 = refl }
  begun_by (Some x) (d, bound) = with_object x d bound

  -- ---- the body

  abbrev R : Config → Config → Type 0
  R = Related owners seats2

  at_frames : (u v : CoreState) → Begun u v → Frames owners seats2 u.context.environment u.context.frames v.context.frames
  at_frames u v x =
      subst (λ fs. Frames owners seats2 u.context.environment fs v.context.frames) (sym x.no_frames)
      (subst (λ gs. Frames owners seats2 u.context.environment [] gs) (sym x.no_frames2) none)

  runs_body : (u v : CoreState) → Begun u v → Alike R (controls (Run (f.setup ++ f.body)) u) (controls (Run (g.setup ++ g.body)) v)
  runs_body u v x =
      subst (λ xs. Alike R (controls (Run (f.setup ++ f.body)) u) (controls (Run xs) v)) (by_parts owners f.setup f.body)
      (_, refl, run_at core core2 owners seats2 u v (f.setup ++ f.body) x.stood (at_frames u v x))

  generator_body : (o : Option Names) (u v : CoreState) → Begun u v → Alike R (body_by f u o) (body_by g v o)
  generator_body None u v x =
      runs_at core core2 owners seats2 u v (Work (Instantiates f.body)) (Work (Instantiates g.body)) f.setup x.stood (instantiates f.body (at_frames u v x))
  generator_body (Some names) u v x = runs_body u v x

  body_if : (is : Bool) (u v : CoreState) → Begun u v
      → Alike R (if is then body_by f u f.resumption else controls (Run (f.setup ++ f.body)) u) (if is then body_by g v f.resumption else controls (Run (g.setup ++ g.body)) v)
  body_if true u v x = generator_body f.resumption u v x
  body_if false u v x = runs_body u v x

  bodies_alike : ArgumentsBound source f.arguments → Alike R (run_body f (made f.arguments inside)) (run_body g (made f.arguments inside2))
  bodies_alike bound = body_if (is_generator f.kind) (made f.arguments inside) (made f.arguments inside2) (begun_by f.arguments bound)

-- ---- the step

begin_is : (f : CoreFunction) (a : Closure Own) (c : Call) (s : CoreState) (k : CoreKind)
    → with_record (names_of_call f (entered_by a c s k).names c) (with_context a.environment c (entered_by a c s k))
    ≡ record (entered_by a c s k).state {
      records = s.records ++ names_of_call f (entered_by a c s k).names c ∷ [];
      callers = s.context ∷ s.callers;
      context = record { environment = length s.records ∷ a.environment; receiver = c.receiver; site = or_else c.site (place_of s); own = (entered_by a c s k).own; frames = [] };
    }
begin_is f a c s kind.Plain = refl
begin_is f a c s kind.Arrow = refl
begin_is f a c s kind.Method = refl
begin_is f a c s kind.Accessor = refl
begin_is f a c s (kind.Class derived) = refl
begin_is f a c s kind.Generator = refl

pub within_is : (core : Core) (f : CoreFunction) (a : Closure Own) (c : Call) (s : CoreState) → f.declared ≡ []
    → within_call (rows core) core f a c s
    ≡ with_arguments Sixth f.arguments c.args (record (entered a f c s).state {
      records = s.records ++ bindings_of f a c s ∷ [];
      callers = s.context ∷ s.callers;
      context = record { environment = length s.records ∷ a.environment; receiver = c.receiver; site = or_else c.site (place_of s); own = (entered a f c s).own; frames = [] };
    })
within_is core f a c s undeclared =
    ap (λ ds. with_arguments Sixth f.arguments c.args (fold (declare_one (rows core) core) (with_record (names_of_call f (entered a f c s).names c) (with_context a.environment c (entered a f c s))) ds)) undeclared
    ∙ ap (λ st. with_arguments Sixth f.arguments c.args st) (begin_is f a c s f.kind)

pub calls_step : (core : Core) (c : Call) (s : CoreState) (id : ObjId) (n : ℕ) (a : Closure Own) (f : CoreFunction) → c.function ≡ value.Object id → (object_at s.heap id).class ≡ class.Function n
    → slice_get s.closures n ≡ Some a → function_at core a.function ≡ Some f → core_step core (with_control (Calls c) s) ≡ run_body f (within_call (rows core) core f a c s)
unfolding step call_class
calls_step core c s id n a f object class_is closure function =
    ap (λ v. call_value (rows core) core c s v) object
    ∙ ap (λ k. call_class (rows core) core c s k) class_is
    ∙ ap (λ o. with_option o s (λ x. enter (rows core) core x c s)) closure
    ∙ ap (λ o. with_option o s (λ x. run_body x (within_call (rows core) core x a c s))) function

pub calls_enter : CallsEnterAlike
calls_enter core core2 owners seats c s t a b f kept locals has e closures call bound stand frames =
    let g2 = function_flat owners kept f in
    let seats3 = seats ++ call_seat (length t.records) locals has b.own.cells ∷ [] in
    let class2 : (object_at t.heap e.id).class ≡ class.Function e.number = ap (λ h. (object_at h e.id).class) stand.states.heap ∙ e.class_is in
    let first = calls_step core c s e.id e.number a f e.object e.class_is e.before e.function ∙ ap (λ u. run_body f u) (within_is core f a c s e.undeclared) in
    let second = calls_step core2 c t e.id e.number b g2 e.object class2 e.behind e.flat ∙ ap (λ u. run_body g2 u) (within_is core2 g2 b c t e.undeclared) in
    let alike = bodies_alike core core2 owners seats c s t a b f kept locals has closures call stand frames bound in
    subst (λ n. Alike (Related owners seats3) n (core_step core2 (with_control (Calls c) t))) (sym first)
    (subst (λ n. Alike (Related owners seats3) (run_body f (made core core2 owners seats c s t a b f kept locals has closures call stand frames f.arguments (inside core core2 owners seats c s t a b f kept locals has closures call stand frames))) n) (sym second) alike)
