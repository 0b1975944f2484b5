-- Operations act alike.
use Rattle.std.proofs.Common.{◌≡◌, ℕ, zero, suc, Bool, true, false, List, [], ◌∷◌, ◌++◌, Option, None, Some, length, slice_get, refl, sym, ap, subst, ◌∙◌}
use Rattle.std.specs.Prelude.{drop, if◌then◌else◌, nat_eq, pos, slice_index_or, slice_set, unsigned_abs, ℤ}
use Rattle.es_outside.specs.declared.events.Site.{Site}
use Rattle.es_value.specs.declared.value.Value.{Value}
use Rattle.es_value.specs.declared.value.Value.TheVariants as value
use Rattle.es_heap.specs.Heaps.{Heap, next_id, object_at}
use Rattle.es_heap.specs.declared.class.Class.{Class}
use Rattle.es_heap.specs.declared.class.Class.TheVariants as class
use Rattle.es_heap.specs.declared.key.Key.{Key}
use Rattle.es_realm.specs.Names.{object_prototype}
use Rattle.es_realm.specs.declared.edition.Edition.TheVariants.{Sixth}
use Rattle.es_realm.specs.declared.errors.ErrorKind.TheVariants.{ReferenceError, TypeError}
use Rattle.es_operators.specs.Functions.{constructor_of}
use Rattle.es_operators.specs.declared.functions.Constructor.{Constructor}
use Rattle.es_operators.specs.declared.functions.Constructor.TheVariants as constructor
use Rattle.es_calls.specs.Calls.{begun, number_in}
use Rattle.es_calls.specs.Making.{list_heap, result_heap}
use Rattle.es_operations.specs.Making.{made_namespace, made_template}
use Rattle.es_operations.specs.Numbers as number
use Rattle.es_operations.specs.Steps.{operation}
use Rattle.es_operations.specs.Turning.{key_operand}
use Rattle.core_ast.specs.declared.parts.CoreOp.{CoreOp}
use Rattle.core_ast.specs.declared.parts.CoreOp.TheVariants as op
use Rattle.core_ast.specs.declared.parts.Primitive.{Primitive}
use Rattle.core_ast.specs.declared.parts.Primitive.TheVariants as primitive
use Rattle.core_ast.specs.declared.tree.CoreExpr.{CoreExpr}
use Rattle.core_ast.specs.declared.tree.CoreLink.{CoreLink}
use Rattle.core_ast.specs.declared.whole.Core.{Core}
use Rattle.core_meaning.specs.Calls.{call_current, constructs, due}
use Rattle.core_meaning.specs.Cells.{check_ready}
use Rattle.core_meaning.specs.Classes.{bind_this, closure_in, construct_as, constructs_as, function_of, has_value, is_derived, is_derived_function, parent_of, with_key, with_this_value}
use Rattle.core_meaning.specs.Expressions.{function_at, single_user, user_at}
use Rattle.core_meaning.specs.Functions.{call_list_with, grown, list_current, with_arguments_in, with_hole}
use Rattle.core_meaning.specs.Generators.{delegate_number, delegate_step, kind_of, results, saved_with, with_generator, yield_from, yield_to, yields}
use Rattle.core_meaning.specs.Iteration.{close_number, spread_by, spread_of, start_number}
use Rattle.core_meaning.specs.Marks.{Arguments, AtYield, CoreList, CoreNext, CoreState, CoreWork, Derived, Empty, Exported, Mark, OfArguments, OfArray, Own, Template, truth_in, with_store}
use Rattle.core_meaning.specs.Modules.{exported, new_template, primitive_act, rows, template_by, template_in}
use Rattle.core_meaning.specs.Properties.{add_element, add_hole}
use Rattle.core_meaning.specs.Rows.{calls, goes, hands, has, operates, pushed, raises, with_control, with_heap, with_option}
use Rattle.core_meaning.specs.State.{After, Call, Calls, Closure, Completion, Context, CoreValue, Current, Environment, Extra, Frame, Gives, Go, Hand, Has, Made, Making, Operation, Turn, User, Work}
use Rattle.core_meaning.specs.Step.{act, act_by}
use Rattle.cells_keep_runs.specs.Acted.{IsAlikeOp, IsAlikePrimitive, KindsAreKept, OperationsActAlike}
use Rattle.cells_keep_runs.specs.Alike.{Alike, Along, Config, IsPlain, IsUntouched, strict}
use Rattle.cells_keep_runs.specs.Opened.{opened}
use Rattle.cells_keep_runs.specs.Related.{All, BelowCells, Closures, Contexts, Frames, Generators, Related, Seats, Stand, Waits, WaitsAfter, WaitsBehind, WaitsDelegate, WaitsDelegateDone, WaitsDelegateStart, WaitsDelegateTurn, WaitsDelegateValue, WaitsHeritage, WaitsKeyed, WaitsPrototype, WaitsSpread, WaitsSpreadStep, WaitsSpreadValue, WaitsToStep, WaitsToStore, WaitsYield, at_links, at_same, at_yield, catching, cell_along, choice, derived, fetch, finishing, instantiates, loop_body, loop_test, loop_update, matching, none, part, past_cells, pending, plain, prototype, rest, restore, resumes, returning, same_current, starts as starts_frame, subject, target, throwing, waiting, waits, waits_for_cell}
use Rattle.cells_keep_runs.specs.Ways.{IsAbrupt}
use Rattle.cells_keep_runs.proofs.Alike.{acts, at_heap, call_alike, called, either_way, maybe, raised, under_at_heap, under_raised, went, went_heap}
use Rattle.cells_keep_runs.proofs.Carried.{B, U, carries, stand_heap, stand_pushed}
use Rattle.cells_keep_runs.proofs.Ended.{set_all}

abbrev Frames1 : Type 0
Frames1 = List (Frame Mark CoreWork)

module _ (core core2 : Core) (owners : List ℕ) (seats : Seats) where
  abbrev R : Config → Config → Type 0
  R = Related owners seats

  abbrev A : CoreNext → CoreNext → Type 0
  A = Alike R

  abbrev At : CoreState → Frames1 → Frames1 → Type 0
  At s fs gs = Frames owners seats s.context.environment fs gs

  abbrev UU : CoreState → CoreState → Type 0
  UU = U owners seats

  abbrev BB : Along → Along → Type 0
  BB = B owners seats

  -- ---- ways on

  pub waits_pushed : (p q : Along) (w : Waits) → BB p q → At p.state (waiting w p.links ∷ p.state.context.frames) (waiting w q.links ∷ q.state.context.frames)
  waits_pushed p q w (stand, (gs, r, below), is) =
      let o = opened owners (cell_along seats p.state.context.environment) p.links in
      let first : At p.state (waiting w p.links ∷ p.state.context.frames) (waiting w o.links ∷ (o.frames ++ gs)) = waits w p.links r in
      let second = subst (λ ls. At p.state (waiting w p.links ∷ p.state.context.frames) (waiting w ls ∷ (o.frames ++ gs))) (sym is) first in
      subst (λ hs. At p.state (waiting w p.links ∷ p.state.context.frames) (waiting w q.links ∷ hs)) (sym below) second

  pub works_on : (p q : Along) (w : Waits) (n : ℕ) (base : Value) (vs : List Value) → BB p q → A (operates (waiting w p.links) n base vs p.state) (operates (waiting w q.links) n base vs q.state)
  works_on p q w n base vs b =
      (_, refl, at_same (Turn None (operation n base vs)) tt (stand_pushed owners seats p.state q.state (waiting w p.links) (waiting w q.links) b.0) (waits_pushed p q w b))

  pub goes_on : (p q : Along) (c : Current Mark) → BB p q → A (goes c p.links p.state) (goes c q.links q.state)
  goes_on p q c b = went R (B owners seats) (U owners seats) (carries owners seats) p q c b

  pub hands_on : (c : Completion Mark) (s t : CoreState) → UU s t → A (hands c s) (hands c t)
  hands_on c s t b = (_, refl, at_same (Hand c) tt b.0 b.1)

  -- what goes on early, from links
  pub from_links : (p q : Along) (c : Completion Mark) → IsAbrupt c → BB p q → A (hands c p.state) (hands c q.state)
  from_links p q c is b = (_, refl, past_cells c p.links is b.0 b.1)

  pub results_alike : (v : Value) (over : Bool) (s t : CoreState) → UU s t → A (results v over s) (results v over t)
  results_alike v over s t b =
      under_at_heap R (B owners seats) (U owners seats) (carries owners seats) s t b (results v over s) (λ h. hands (Gives (User (value.Object (next_id h)))) (with_heap (result_heap h v over) t))
      (_, refl, at_same (Hand (Gives (User (value.Object (next_id s.heap))))) tt (stand_heap owners seats s t (result_heap s.heap v over) b.0) b.1)

  -- ---- a yield: the context is saved, and its caller goes on

  abbrev out_of : Frame Mark CoreWork → CoreState → Context Mark Own CoreWork → List (Context Mark Own CoreWork) → ℕ → Frames1 → CoreState
  out_of f s k ks n fs = record (with_generator n (AtYield (saved_with (f ∷ s.context.frames) s)) s) { context = record k { frames = fs }; callers = ks }

  stand_out : (f g : Frame Mark CoreWork) (s t : CoreState) (k k2 : Context Mark Own CoreWork) (ks ks2 : List (Context Mark Own CoreWork)) (n : ℕ) (fs gs : Frames1)
      → Stand owners seats s t → At s (f ∷ s.context.frames) (g ∷ t.context.frames) → Contexts owners seats k k2 → All (Contexts owners seats) ks ks2 → Stand owners seats (out_of f s k ks n fs) (out_of g t k2 ks2 n gs)
  stand_out f g s t k k2 ks ks2 n fs gs x top c cs = record {
    states = record {
      heap = x.states.heap;
      memory = x.states.memory;
      closures = x.states.closures;
      callers = cs;
      ahead = x.states.ahead;
      this_values = x.states.this_values;
      generators = set_all (Generators owners seats) s.store.generators t.store.generators n (AtYield (saved_with (f ∷ s.context.frames) s)) (AtYield (saved_with (g ∷ t.context.frames) t))
          (at_yield (record { environment = x.environment; below = x.below; receiver = x.receiver; site = x.site; own = x.own; frames = top })) x.states.generators;
      namespaces = x.states.namespaces;
      templates = x.states.templates;
      statics = x.states.statics;
    };
    environment = c.environment;
    below = c.below;
    receiver = c.receiver;
    site = c.site;
    own = c.own;
  }

  plain_yield : (f g : Frame Mark CoreWork) (wraps : Bool) (v : Value) (s t : CoreState) (k k2 : Context Mark Own CoreWork) (ks ks2 : List (Context Mark Own CoreWork)) (h : Frame Mark CoreWork) (fs gs : Frames1) → IsPlain h
      → A (yield_to f wraps v s k ks (h ∷ fs)) (yield_to g wraps v t k2 ks2 (h ∷ gs))
  plain_yield f g wraps v s t k k2 ks ks2 (Operation site c) fs gs is = tt
  plain_yield f g wraps v s t k k2 ks ks2 (Making h args new) fs gs is = tt
  plain_yield f g wraps v s t k k2 ks ks2 (Made o) fs gs is = tt
  plain_yield f g wraps v s t k k2 ks ks2 h fs gs is = absurd is

  waits_yield : (f g : Frame Mark CoreWork) (wraps : Bool) (v : Value) (s t : CoreState) (k k2 : Context Mark Own CoreWork) (ks ks2 : List (Context Mark Own CoreWork)) (w : Waits) (ls ls2 : List CoreLink) (fs gs : Frames1)
      → A (yield_to f wraps v s k ks (waiting w ls ∷ fs)) (yield_to g wraps v t k2 ks2 (waiting w ls2 ∷ gs))
  waits_yield f g wraps v s t k k2 ks ks2 WaitsAfter ls ls2 fs gs = tt
  waits_yield f g wraps v s t k k2 ks ks2 (WaitsBehind v2) ls ls2 fs gs = tt
  waits_yield f g wraps v s t k k2 ks ks2 (WaitsKeyed base) ls ls2 fs gs = tt
  waits_yield f g wraps v s t k k2 ks ks2 (WaitsToStore base key) ls ls2 fs gs = tt
  waits_yield f g wraps v s t k k2 ks ks2 (WaitsToStep u base key) ls ls2 fs gs = tt
  waits_yield f g wraps v s t k k2 ks ks2 (WaitsSpread list) ls ls2 fs gs = tt
  waits_yield f g wraps v s t k k2 ks ks2 (WaitsSpreadStep list it) ls ls2 fs gs = tt
  waits_yield f g wraps v s t k k2 ks ks2 (WaitsSpreadValue list it) ls ls2 fs gs = tt
  waits_yield f g wraps v s t k k2 ks ks2 (WaitsHeritage f2 heritage) ls ls2 fs gs = tt
  waits_yield f g wraps v s t k k2 ks ks2 WaitsPrototype ls ls2 fs gs = tt
  waits_yield f g wraps v s t k k2 ks ks2 WaitsYield ls ls2 fs gs = tt
  waits_yield f g wraps v s t k k2 ks ks2 (WaitsDelegate it) ls ls2 fs gs = tt
  waits_yield f g wraps v s t k k2 ks ks2 WaitsDelegateStart ls ls2 fs gs = tt
  waits_yield f g wraps v s t k k2 ks ks2 (WaitsDelegateTurn it kind v2) ls ls2 fs gs = tt
  waits_yield f g wraps v s t k k2 ks ks2 (WaitsDelegateDone it kind v2) ls ls2 fs gs = tt
  waits_yield f g wraps v s t k k2 ks ks2 (WaitsDelegateValue kind) ls ls2 fs gs = tt

  yield_by : (f g : Frame Mark CoreWork) (wraps : Bool) (v : Value) (s t : CoreState) (k k2 : Context Mark Own CoreWork) (ks ks2 : List (Context Mark Own CoreWork)) (e : Environment) (fs gs : Frames1)
      → Stand owners seats s t → At s (f ∷ s.context.frames) (g ∷ t.context.frames) → Contexts owners seats k k2 → All (Contexts owners seats) ks ks2 → k.environment ≡ e → Frames owners seats e fs gs
      → A (yield_to f wraps v s k ks fs) (yield_to g wraps v t k2 ks2 gs)
  yield_by f g wraps v s t k k2 ks ks2 e fs gs b top c cs is none = tt
  yield_by f g wraps v s t k k2 ks ks2 e fs gs b top c cs is (plain {fs = fs2} {gs = gs2} {f = h} plain_is r) = plain_yield f g wraps v s t k k2 ks ks2 h fs2 gs2 plain_is
  yield_by f g wraps v s t k k2 ks ks2 e fs gs b top c cs is (waits {e = e2} {fs = fs2} {gs = gs2} w ls r) =
      waits_yield f g wraps v s t k k2 ks ks2 w ls (opened owners (cell_along seats e2) ls).links fs2 ((opened owners (cell_along seats e2) ls).frames ++ gs2)
  yield_by f g wraps v s t k k2 ks ks2 e fs gs b top c cs is (waits_for_cell x l ls w r) = tt
  yield_by f g wraps v s t k k2 ks ks2 e fs gs b top c cs is (part p w r) = tt
  yield_by f g wraps v s t k k2 ks ks2 e fs gs b top c cs is (fetch base key p r) = tt
  yield_by f g wraps v s t k k2 ks ks2 e fs gs b top c cs is (rest xs tail r) = tt
  yield_by f g wraps v s t k k2 ks ks2 e fs gs b top c cs is (choice body cases r) = tt
  yield_by f g wraps v s t k k2 ks ks2 e fs gs b top c cs is (subject cases r) = tt
  yield_by f g wraps v s t k k2 ks ks2 e fs gs b top c cs is (matching w cases all r) = tt
  yield_by f g wraps v s t k k2 ks ks2 e fs gs b top c cs is (loop_test l r) = tt
  yield_by f g wraps v s t k k2 ks ks2 e fs gs b top c cs is (loop_body l r) = tt
  yield_by f g wraps v s t k k2 ks ks2 e fs gs b top c cs is (loop_update l r) = tt
  yield_by f g wraps v s t k k2 ks ks2 e fs gs b top c cs is (target label r) = tt
  yield_by f g wraps v s t k k2 ks ks2 e fs gs b top c cs is (returning r) = tt
  yield_by f g wraps v s t k k2 ks ks2 e fs gs b top c cs is (throwing r) = tt
  yield_by f g wraps v s t k k2 ks ks2 e fs gs b top c cs is (catching x names handler r) = tt
  yield_by f g wraps v s t k k2 ks ks2 e fs gs b top c cs is (finishing last r) = tt
  yield_by f g wraps v s t k k2 ks ks2 e fs gs b top c cs is (pending w r) = tt
  yield_by f g wraps v s t k k2 ks ks2 e fs gs b top c cs is (restore away r) = tt
  yield_by f g wraps v s t k k2 ks ks2 e fs gs b top c cs is (derived n r) = tt
  yield_by f g wraps v s t k k2 ks ks2 e fs gs b top c cs is (instantiates body r) = tt
  yield_by f g wraps v s t k k2 ks ks2 e fs gs b top c cs is (prototype body r) = tt
  yield_by f g wraps v s t k k2 ks ks2 e fs gs b top c cs is (starts_frame body r) = tt
  yield_by f g wraps v s t k k2 ks ks2 e fs gs b top c cs is (resumes {e = e2} {fs = fs2} {gs = gs2} n r) =
      let at : Frames owners seats k.environment fs2 gs2 = subst (λ e3. Frames owners seats e3 fs2 gs2) (sym is) r in
      let u : UU (out_of f s k ks n fs2) (out_of g t k2 ks2 n gs2) = (stand_out f g s t k k2 ks ks2 n fs2 gs2 b top c cs, at) in
      either_way R (B owners seats) (U owners seats) (carries owners seats) wraps (results v false (out_of f s k ks n fs2)) (hands (Gives (User v)) (out_of f s k ks n fs2)) (results v false (out_of g t k2 ks2 n gs2)) (hands (Gives (User v)) (out_of g t k2 ks2 n gs2))
      (results_alike v false (out_of f s k ks n fs2) (out_of g t k2 ks2 n gs2) u) (hands_on (Gives (User v)) (out_of f s k ks n fs2) (out_of g t k2 ks2 n gs2) u)

  yields_from : (f g : Frame Mark CoreWork) (wraps : Bool) (v : Value) (s t : CoreState) (ks ks2 : List (Context Mark Own CoreWork)) → Stand owners seats s t → At s (f ∷ s.context.frames) (g ∷ t.context.frames) → All (Contexts owners seats) ks ks2
      → A (yield_from f wraps v s ks) (yield_from g wraps v t ks2)
  yields_from f g wraps v s t [] [] b top cs = tt
  yields_from f g wraps v s t [] (k2 ∷ ks2) b top cs = absurd cs
  yields_from f g wraps v s t (k ∷ ks) [] b top cs = absurd cs
  yields_from f g wraps v s t (k ∷ ks) (k2 ∷ ks2) b top (c, cs) = yield_by f g wraps v s t k k2 ks ks2 k.environment k.frames k2.frames b top c cs refl c.frames

  pub yields_alike : (f g : Frame Mark CoreWork) (wraps : Bool) (v : Value) (s t : CoreState) → Stand owners seats s t → At s (f ∷ s.context.frames) (g ∷ t.context.frames) → A (yields f wraps v s) (yields g wraps v t)
  yields_alike f g wraps v s t b top = yields_from f g wraps v s t s.callers t.callers b top b.states.callers

  pub waits_yields : (p q : Along) (w : Waits) (wraps : Bool) (v : Value) → BB p q → A (yields (waiting w p.links) wraps v p.state) (yields (waiting w q.links) wraps v q.state)
  waits_yields p q w wraps v b = yields_from (waiting w p.links) (waiting w q.links) wraps v p.state q.state p.state.callers q.state.callers b.0 (waits_pushed p q w b) b.0.states.callers

  -- ---- what may not be there

  raised_on : (p q : Along) → BB p q → A (raises TypeError p.state) (raises TypeError q.state)
  raised_on p q b = raised R (B owners seats) (U owners seats) (carries owners seats) p q TypeError b

  unready : (p q : Along) → BB p q → A (raises ReferenceError p.state) (raises ReferenceError q.state)
  unready p q b = raised R (B owners seats) (U owners seats) (carries owners seats) p q ReferenceError b

  opted : {X : Type 0} (o : Option X) (s u : CoreState) (f g : X → CoreNext) → ((x : X) → A (f x) (g x)) → A (with_option o s f) (with_option o u g)
  opted o s u f g h = maybe R (B owners seats) (U owners seats) (carries owners seats) o s u f g h

  args_by : (vs : List (CoreValue Mark)) (s u : CoreState) (f g : List Value → CoreNext) → ((args : List Value) → A (f args) (g args)) → A (with_arguments_in vs s f) (with_arguments_in vs u g)
  args_by (Extra (Arguments vs) ∷ []) s u f g h = h vs
  args_by vs s u f g h = tt

  -- what the second does with its heap
  on_heap : (p q : Along) (b : BB p q) (x : CoreNext) (f : Heap → CoreNext) → A x (f p.state.heap) → A x (f q.state.heap)
  on_heap p q b x f h = at_heap R (B owners seats) (U owners seats) (carries owners seats) p q b x f h

  -- links with other states
  goes_with : (p q : Along) (c : Current Mark) (s t : CoreState) → BB p q → Stand owners seats s t → s.context ≡ p.state.context → t.context ≡ q.state.context → A (goes c p.links s) (goes c q.links t)
  goes_with p q c s t (stand, below, is) stand2 same same2 =
      let below2 : BelowCells owners seats s p.links t =
      subst (λ k. BelowCells owners seats (record s { context = k }) p.links t) (sym same) (subst (λ k. BelowCells owners seats (record s { context = p.state.context }) p.links (record t { context = k })) (sym same2) below) in
      let links_are : q.links ≡ (opened owners (cell_along seats s.context.environment) p.links).links =
      is ∙ ap (λ k. (opened owners (cell_along seats k.environment) p.links).links) (sym same) in
      (_, refl, subst (λ ls. R (with_control (Go c p.links) s) (with_control (Go c ls) t)) (sym links_are) (at_links p.links same_current stand2 below2))

  -- ---- constructions

  module _ (kinds : KindsAreKept core core2) where
    got_derived : (xs ys : List (Closure Own)) (n : ℕ) → All (Closures owners seats) xs ys → is_derived_function (function_of core2 (slice_get ys n)) ≡ is_derived_function (function_of core (slice_get xs n))
    got_derived [] [] n rs = refl
    got_derived [] (y ∷ ys) n rs = absurd rs
    got_derived (x ∷ xs) [] n rs = absurd rs
    got_derived (x ∷ xs) (y ∷ ys) zero (r, rs) = ap (λ f. is_derived_function (function_at core2 f)) r.function ∙ kinds x.function
    got_derived (x ∷ xs) (y ∷ ys) (suc n) (r, rs) = got_derived xs ys n rs

    class_derived : (k : Class) (s t : CoreState) → Stand owners seats s t → is_derived_function (function_of core2 (closure_in t k)) ≡ is_derived_function (function_of core (closure_in s k))
    class_derived (class.Function n) s t x = got_derived s.closures t.closures n x.states.closures
    class_derived k s t x = refl

    same_derived : (f : Value) (s t : CoreState) → Stand owners seats s t → is_derived core2 t f ≡ is_derived core s f
    same_derived (value.Object id) s t x =
        ap (λ h. is_derived_function (function_of core2 (closure_in t (object_at h id).class))) x.states.heap ∙ class_derived (object_at s.heap id).class s t x
    same_derived f s t x = refl

    abbrev derived_call : Value → List Value → Value → Call
    derived_call f args new = record { function = f; receiver = value.Undefined; args = args; target = Some new; site = None }

    derived_with : (f : Value) (args : List Value) (new : Value) (s t : CoreState) → UU s t
        → A (calls (Work (Derived (length s.store.this_values))) (derived_call f args new) s) (calls (Work (Derived (length t.store.this_values))) (derived_call f args new) t)
    derived_with f args new s t (x, r) =
        let n = length s.store.this_values in
        subst (λ vs. A (calls (Work (Derived n)) (derived_call f args new) s) (calls (Work (Derived (length vs))) (derived_call f args new) t)) (sym x.states.this_values)
        (_, refl, at_same (Calls (derived_call f args new)) tt (stand_pushed owners seats s t (Work (Derived n)) (Work (Derived n)) x) (derived n r))

    constructs_with : (f : Value) (args : List Value) (new : Value) (s t : CoreState) → UU s t → A (constructs f args new s) (constructs f args new t)
    constructs_with f args new s t (x, r) =
        (_, refl, at_same (Turn None (operation number.prototype_of_number new (value.Object object_prototype ∷ []))) tt (stand_pushed owners seats s t (Making f args new) (Making f args new) x) (plain tt r))

    runs_as : (f : Value) (args : List Value) (new : Value) (s t : CoreState) → UU s t → A (constructs_as core f args new s) (constructs_as core2 f args new t)
    runs_as f args new s t b =
        let other : Bool → CoreNext = λ is. if is then calls (Work (Derived (length t.store.this_values))) (derived_call f args new) t else constructs f args new t in
        subst (λ is. A (constructs_as core f args new s) (other is)) (sym (same_derived f s t b.0))
        (either_way R (B owners seats) (U owners seats) (carries owners seats) (is_derived core s f) (calls (Work (Derived (length s.store.this_values))) (derived_call f args new) s) (constructs f args new s)
        (calls (Work (Derived (length t.store.this_values))) (derived_call f args new) t) (constructs f args new t) (derived_with f args new s t b) (constructs_with f args new s t b))

    construct_with : (f : Value) (args : List Value) (new : Value) (c : Constructor) (s t : CoreState) → UU s t → A (construct_as core f args new s c) (construct_as core2 f args new t c)
    construct_with f args new (constructor.Runs id) s t b = runs_as f args new s t b
    construct_with f args new (constructor.MakesError n) s t b = (_, refl, at_same (Turn None (begun n value.Undefined args)) tt b.0 b.1)
    construct_with f args new (constructor.Leaves x) s t b = tt
    construct_with f args new constructor.Fails s t b = under_raised R (B owners seats) (U owners seats) (carries owners seats) s t TypeError b

    after_on : (p q : Along) → BB p q → UU (pushed (After p.links) p.state) (pushed (After q.links) q.state)
    after_on p q b = (stand_pushed owners seats p.state q.state (After p.links) (After q.links) b.0, waits_pushed p q WaitsAfter b)

    abbrev constructed_at : Core → Value → Value → Along → List Value → CoreNext
    constructed_at x f new p args = construct_as x f args new (pushed (After p.links) p.state) (constructor_of Sixth p.state.heap f)

    list_constructed : (p q : Along) (f new : Value) (args : List Value) → BB p q → A (constructed_at core f new p args) (constructed_at core2 f new q args)
    list_constructed p q f new args b =
        on_heap p q b (constructed_at core f new p args) (λ h. construct_as core2 f args new (pushed (After q.links) q.state) (constructor_of Sixth h f))
        (construct_with f args new (constructor_of Sixth p.state.heap f) (pushed (After p.links) p.state) (pushed (After q.links) q.state) (after_on p q b))

    abbrev new_list_at : Core → List (CoreValue Mark) → Along → Value → CoreNext
    new_list_at x vs p f = with_arguments_in vs p.state (constructed_at x f f p)

    news : (p q : Along) (c : Current Mark) (vs : List (CoreValue Mark)) → BB p q → A (with_option (user_at c) p.state (new_list_at core vs p)) (with_option (user_at c) q.state (new_list_at core2 vs q))
    news p q c vs b =
        opted (user_at c) p.state q.state (new_list_at core vs p) (new_list_at core2 vs q)
        (λ f. args_by vs p.state q.state (constructed_at core f f p) (constructed_at core2 f f q) (λ args. list_constructed p q f f args b))

    abbrev super_at : Core → Heap → Value → Value → Along → List Value → CoreNext
    super_at x h callee new p args = construct_as x (parent_of h callee) args new (pushed (After p.links) p.state) (constructor_of Sixth h (parent_of h callee))

    supers : (p q : Along) (args : List Value) → BB p q
        → A (super_at core p.state.heap p.state.context.own.callee p.state.context.own.target p args) (super_at core2 q.state.heap q.state.context.own.callee q.state.context.own.target q args)
    supers p q args b =
        let first : CoreNext = super_at core p.state.heap p.state.context.own.callee p.state.context.own.target p args in
        let f : Value = parent_of p.state.heap p.state.context.own.callee in
        subst (λ h. A first (super_at core2 h q.state.context.own.callee q.state.context.own.target q args)) (sym b.0.states.heap)
        (subst (λ v. A first (super_at core2 p.state.heap v q.state.context.own.target q args)) (sym b.0.own.callee)
        (subst (λ v. A first (super_at core2 p.state.heap p.state.context.own.callee v q args)) (sym b.0.own.target)
        (construct_with f args p.state.context.own.target (constructor_of Sixth p.state.heap f) (pushed (After p.links) p.state) (pushed (After q.links) q.state) (after_on p q b))))

    -- ---- checks, and operations of one and of two values

    checked : (p q : Along) (o : CoreOp) (site : Option Site) (c d : Current Mark) (vs : List (CoreValue Mark)) (xs : List CoreExpr) → BB p q
        → A (check_ready (strict o site d vs xs p.links) p.state c) (check_ready (strict o site d vs xs q.links) q.state c)
    checked p q o site (Has (User v)) d vs xs b = goes_on p q (Has (User v)) b
    checked p q o site (Has (Extra Empty)) d vs xs b = unready p q b
    checked p q o site c d vs xs b = tt

    one_value_on : (p q : Along) (c : Current Mark) (n : ℕ) → BB p q → A (with_option (user_at c) p.state (λ v. operates (After p.links) n v [] p.state)) (with_option (user_at c) q.state (λ v. operates (After q.links) n v [] q.state))
    one_value_on p q c n b = opted (user_at c) p.state q.state (λ v. operates (After p.links) n v [] p.state) (λ v. operates (After q.links) n v [] q.state) (λ v. works_on p q WaitsAfter n v [] b)

    two_values_on : (p q : Along) (c : Current Mark) (vs : List (CoreValue Mark)) (f g : Value → Value → CoreNext) → ((v w : Value) → A (f v w) (g v w))
        → A (with_option (user_at c) p.state (λ v. with_option (single_user vs) p.state (f v))) (with_option (user_at c) q.state (λ v. with_option (single_user vs) q.state (g v)))
    two_values_on p q c vs f g h =
        opted (user_at c) p.state q.state (λ v. with_option (single_user vs) p.state (f v)) (λ v. with_option (single_user vs) q.state (g v)) (λ v. opted (single_user vs) p.state q.state (f v) (g v) (λ w. h v w))

    -- ---- lists

    grown_on : (p q : Along) (list : CoreList) (v : Value) → BB p q → A (grown list v p.links p.state) (grown list v q.links q.state)
    grown_on p q (OfArray id) v b =
        on_heap p q b (grown (OfArray id) v p.links p.state) (λ h. has (value.Object id) q.links (with_heap (add_element h id v) q.state))
        (went_heap R (B owners seats) (U owners seats) (carries owners seats) p q (Has (User (value.Object id))) (add_element p.state.heap id v) b)
    grown_on p q (OfArguments vs) v b = goes_on p q _ b

    hole_on : (p q : Along) (list : CoreList) → BB p q → A (with_hole list p.links p.state) (with_hole list q.links q.state)
    hole_on p q (OfArray id) b =
        on_heap p q b (with_hole (OfArray id) p.links p.state) (λ h. has (value.Object id) q.links (with_heap (add_hole h id) q.state))
        (went_heap R (B owners seats) (U owners seats) (carries owners seats) p q (Has (User (value.Object id))) (add_hole p.state.heap id) b)
    hole_on p q (OfArguments vs) b = tt

    spread_on : (p q : Along) (list : CoreList) (v : Value) (n : ℤ) (o : CoreOp) (site : Option Site) (c : Current Mark) (vs : List (CoreValue Mark)) (xs : List CoreExpr) → BB p q
        → A (spread_by list v n (strict o site c vs xs p.links) p.state) (spread_by list v n (strict o site c vs xs q.links) q.state)
    spread_on p q list v (pos n) o site c vs xs b =
        either_way R (B owners seats) (U owners seats) (carries owners seats) (nat_eq n 0) (grown list v p.links p.state)
        (if nat_eq n 2 then with_hole list p.links p.state else operates (waiting (WaitsSpread list) p.links) number.get_iterator_number v [] p.state)
        (grown list v q.links q.state) (if nat_eq n 2 then with_hole list q.links q.state else operates (waiting (WaitsSpread list) q.links) number.get_iterator_number v [] q.state)
        (grown_on p q list v b)
        (either_way R (B owners seats) (U owners seats) (carries owners seats) (nat_eq n 2) (with_hole list p.links p.state) (operates (waiting (WaitsSpread list) p.links) number.get_iterator_number v [] p.state)
        (with_hole list q.links q.state) (operates (waiting (WaitsSpread list) q.links) number.get_iterator_number v [] q.state) (hole_on p q list b) (works_on p q (WaitsSpread list) number.get_iterator_number v [] b))
    spread_on p q list v n o site c vs xs b = tt

    rest_made : (p q : Along) (n : Value) → BB p q
        → A (has (value.Object (next_id p.state.heap)) p.links (with_heap (list_heap p.state.heap (drop (unsigned_abs (number_in n)) p.state.context.own.passed)) p.state))
        (has (value.Object (next_id q.state.heap)) q.links (with_heap (list_heap q.state.heap (drop (unsigned_abs (number_in n)) q.state.context.own.passed)) q.state))
    rest_made p q n b =
        let first : CoreNext = has (value.Object (next_id p.state.heap)) p.links (with_heap (list_heap p.state.heap (drop (unsigned_abs (number_in n)) p.state.context.own.passed)) p.state) in
        subst (λ vs. A first (has (value.Object (next_id q.state.heap)) q.links (with_heap (list_heap q.state.heap (drop (unsigned_abs (number_in n)) vs)) q.state))) (sym b.0.own.passed)
        (on_heap p q b first (λ h. has (value.Object (next_id h)) q.links (with_heap (list_heap h (drop (unsigned_abs (number_in n)) p.state.context.own.passed)) q.state))
        (went_heap R (B owners seats) (U owners seats) (carries owners seats) p q (Has (User (value.Object (next_id p.state.heap)))) (list_heap p.state.heap (drop (unsigned_abs (number_in n)) p.state.context.own.passed)) b))

    -- ---- `this`

    stand_this : (n : ℕ) (v : Value) (s t : CoreState) → Stand owners seats s t → Stand owners seats (with_this_value n v s) (with_this_value n v t)
    stand_this n v s t x = record {
      states = record {
        heap = x.states.heap;
        memory = x.states.memory;
        closures = x.states.closures;
        callers = x.states.callers;
        ahead = x.states.ahead;
        this_values = ap (λ vs. slice_set vs n (Some v)) x.states.this_values;
        generators = x.states.generators;
        namespaces = x.states.namespaces;
        templates = x.states.templates;
        statics = x.states.statics;
      };
      environment = x.environment;
      below = x.below;
      receiver = x.receiver;
      site = x.site;
      own = x.own;
    }

    abbrev bound_with : Along → Value → ℕ → Option Value → CoreNext
    bound_with p v n None = has v p.links (with_this_value n v p.state)
    bound_with p v n (Some w) = raises ReferenceError p.state

    this_by : (p q : Along) (v : Value) (n : ℕ) (o : Option Value) → BB p q → A (bound_with p v n o) (bound_with q v n o)
    this_by p q v n None b = goes_with p q (Has (User v)) (with_this_value n v p.state) (with_this_value n v q.state) b (stand_this n v p.state q.state b.0) refl refl
    this_by p q v n (Some w) b = unready p q b

    bound_is : (p : Along) (o : CoreOp) (site : Option Site) (c : Current Mark) (vs : List (CoreValue Mark)) (xs : List CoreExpr) (v : Value) (w : Option Value) → bind_this (strict o site c vs xs p.links) p.state v w ≡ bound_with p v p.state.context.own.this_record w
    bound_is p o site c vs xs v None = refl
    bound_is p o site c vs xs v (Some w) = refl

    this_bound : (p q : Along) (o : CoreOp) (site : Option Site) (c : Current Mark) (vs : List (CoreValue Mark)) (xs : List CoreExpr) (v : Value) → BB p q
        → A (bind_this (strict o site c vs xs p.links) p.state v (slice_index_or p.state.store.this_values p.state.context.own.this_record None)) (bind_this (strict o site c vs xs q.links) q.state v (slice_index_or q.state.store.this_values q.state.context.own.this_record None))
    this_bound p q o site c vs xs v b =
        let n = p.state.context.own.this_record in
        let w = slice_index_or p.state.store.this_values n None in
        let first : CoreNext = bind_this (strict o site c vs xs p.links) p.state v w in
        let is2 = bound_is q o site c vs xs v (slice_index_or q.state.store.this_values q.state.context.own.this_record None) in
        subst (λ x. A first x) (sym is2)
        (subst (λ m. A first (bound_with q v m (slice_index_or q.state.store.this_values m None))) (sym b.0.own.this_record)
        (subst (λ ws. A first (bound_with q v n (slice_index_or ws n None))) (sym b.0.states.this_values)
        (subst (λ x. A x (bound_with q v n w)) (sym (bound_is p o site c vs xs v w)) (this_by p q v n w b))))

    super_gets : (p q : Along) (receiver : Value) (k : Key) → BB p q
        → A (operates (After p.links) number.super_get_number receiver (p.state.context.own.home ∷ key_operand k ∷ []) p.state) (operates (After q.links) number.super_get_number receiver (q.state.context.own.home ∷ key_operand k ∷ []) q.state)
    super_gets p q receiver k b =
        subst (λ v. A (operates (After p.links) number.super_get_number receiver (p.state.context.own.home ∷ key_operand k ∷ []) p.state) (operates (After q.links) number.super_get_number receiver (v ∷ key_operand k ∷ []) q.state)) (sym b.0.own.home)
        (works_on p q WaitsAfter number.super_get_number receiver (p.state.context.own.home ∷ key_operand k ∷ []) b)

    key_by : (v : Value) (s u : CoreState) (f g : Key → CoreNext) → ((k : Key) → A (f k) (g k)) → A (with_key v s f) (with_key v u g)
    key_by (value.Text units) s u f g h = h _
    key_by v s u f g h = tt

    -- ---- namespaces and templates

    stand_space : (es : List Exported) (h : Heap) (s t : CoreState) → Stand owners seats s t
        → Stand owners seats (with_store (record s.store { namespaces = s.store.namespaces ++ es ∷ [] }) (with_heap h s)) (with_store (record t.store { namespaces = t.store.namespaces ++ es ∷ [] }) (with_heap h t))
    stand_space es h s t x = record {
      states = record {
        heap = refl;
        memory = x.states.memory;
        closures = x.states.closures;
        callers = x.states.callers;
        ahead = x.states.ahead;
        this_values = x.states.this_values;
        generators = x.states.generators;
        namespaces = ap (λ ns. ns ++ es ∷ []) x.states.namespaces;
        templates = x.states.templates;
        statics = x.states.statics;
      };
      environment = x.environment;
      below = x.below;
      receiver = x.receiver;
      site = x.site;
      own = x.own;
    }

    abbrev space_with : Along → List Value → Heap → ℕ → CoreNext
    space_with p vs h n =
        has (value.Object (next_id h)) p.links (with_store (record p.state.store { namespaces = p.state.store.namespaces ++ exported vs ∷ [] }) (with_heap (made_namespace h n) p.state))

    spaces : (p q : Along) (vs : List Value) → BB p q → A (space_with p vs p.state.heap (length p.state.store.namespaces)) (space_with q vs q.state.heap (length q.state.store.namespaces))
    spaces p q vs b =
        let n = length p.state.store.namespaces in
        let h = made_namespace p.state.heap n in
        let first : CoreNext = space_with p vs p.state.heap n in
        subst (λ ns. A first (space_with q vs q.state.heap (length ns))) (sym b.0.states.namespaces)
        (on_heap p q b first (λ heap. space_with q vs heap n)
        (goes_with p q (Has (User (value.Object (next_id p.state.heap)))) (with_store (record p.state.store { namespaces = p.state.store.namespaces ++ exported vs ∷ [] }) (with_heap h p.state))
        (with_store (record q.state.store { namespaces = q.state.store.namespaces ++ exported vs ∷ [] }) (with_heap h q.state)) b (stand_space (exported vs) h p.state q.state b.0) refl refl))

    stand_template : (x : Template) (h : Heap) (s t : CoreState) → Stand owners seats s t
        → Stand owners seats (with_store (record s.store { templates = s.store.templates ++ x ∷ [] }) (with_heap h s)) (with_store (record t.store { templates = t.store.templates ++ x ∷ [] }) (with_heap h t))
    stand_template v h s t x = record {
      states = record {
        heap = refl;
        memory = x.states.memory;
        closures = x.states.closures;
        callers = x.states.callers;
        ahead = x.states.ahead;
        this_values = x.states.this_values;
        generators = x.states.generators;
        namespaces = x.states.namespaces;
        templates = ap (λ ts. ts ++ v ∷ []) x.states.templates;
        statics = x.states.statics;
      };
      environment = x.environment;
      below = x.below;
      receiver = x.receiver;
      site = x.site;
      own = x.own;
    }

    template_new : (p q : Along) (cooked raw : List Value) → BB p q → A (new_template cooked raw p.links p.state) (new_template cooked raw q.links q.state)
    template_new p q cooked raw b =
        let o : Heap → Value = λ h. value.Object (next_id h) in
        let made : CoreState → Heap → CoreState = λ st h. with_store (record st.store { templates = st.store.templates ++ record { raw = raw; object = o h } ∷ [] }) (with_heap (made_template h cooked raw) st) in
        on_heap p q b (new_template cooked raw p.links p.state) (λ h. has (o h) q.links (made q.state h))
        (goes_with p q (Has (User (o p.state.heap))) (made p.state p.state.heap) (made q.state p.state.heap) b (stand_template (record { raw = raw; object = o p.state.heap }) (made_template p.state.heap cooked raw) p.state q.state b.0) refl refl)

    template_on : (p q : Along) (cooked raw : List Value) (o : Option Value) → BB p q → A (template_by cooked raw p.links p.state o) (template_by cooked raw q.links q.state o)
    template_on p q cooked raw None b = template_new p q cooked raw b
    template_on p q cooked raw (Some v) b = goes_on p q (Has (User v)) b

    templates : (p q : Along) (cooked raw : List Value) → BB p q → A (template_by cooked raw p.links p.state (template_in p.state.store.templates raw)) (template_by cooked raw q.links q.state (template_in q.state.store.templates raw))
    templates p q cooked raw b =
        subst (λ ts. A (template_by cooked raw p.links p.state (template_in p.state.store.templates raw)) (template_by cooked raw q.links q.state (template_in ts raw))) (sym b.0.states.templates)
        (template_on p q cooked raw (template_in p.state.store.templates raw) b)

    -- ---- all of them

    abbrev due_at : Value → List Value → Option Site → Along → Value → CoreNext
    due_at receiver args site p f = calls (After p.links) (due f receiver args site) p.state

    list_with : (p q : Along) (site : Option Site) (c : Current Mark) (vs : List (CoreValue Mark)) (o : CoreOp) (xs : List CoreExpr) → BB p q
        → A (call_list_with (strict o site c vs xs p.links) p.state vs) (call_list_with (strict o site c vs xs q.links) q.state vs)
    list_with p q site c (User receiver ∷ Extra (Arguments args) ∷ []) o xs b =
        opted (user_at c) p.state q.state (due_at receiver args site p) (due_at receiver args site q)
        (λ f. called R (B owners seats) (U owners seats) (carries owners seats) p q (due f receiver args site) b)
    list_with p q site c vs o xs b = tt

    spread_by_values : (p q : Along) (o : CoreOp) (site : Option Site) (c : Current Mark) (ws : List (CoreValue Mark)) (xs : List CoreExpr) (vs : List (CoreValue Mark)) → BB p q
        → A (spread_of (strict o site c ws xs p.links) p.state vs) (spread_of (strict o site c ws xs q.links) q.state vs)
    spread_by_values p q o site c ws xs (User v ∷ User (value.Number n) ∷ []) b =
        opted (list_current c) p.state q.state (λ list. spread_by list v n (strict o site c ws xs p.links) p.state) (λ list. spread_by list v n (strict o site c ws xs q.links) q.state)
        (λ list. spread_on p q list v n o site c ws xs b)
    spread_by_values p q o site c ws xs vs b = tt

    delegates_by : (p q : Along) (o : CoreOp) (site : Option Site) (c : Current Mark) (ws : List (CoreValue Mark)) (xs : List CoreExpr) (vs : List (CoreValue Mark)) → BB p q
        → A (delegate_step (strict o site c ws xs p.links) p.state vs) (delegate_step (strict o site c ws xs q.links) q.state vs)
    delegates_by p q o site c ws xs (User (value.Number n) ∷ User v ∷ []) b =
        opted (user_at c) p.state q.state (λ it. operates (After p.links) (delegate_number (kind_of n)) it (v ∷ []) p.state) (λ it. operates (After q.links) (delegate_number (kind_of n)) it (v ∷ []) q.state)
        (λ it. works_on p q WaitsAfter (delegate_number (kind_of n)) it (v ∷ []) b)
    delegates_by p q o site c ws xs vs b = tt

    abbrev acted : Core → CoreOp → Option Site → Current Mark → List (CoreValue Mark) → List CoreExpr → Along → Primitive → CoreNext
    acted x o site c vs xs p r = primitive_act x (strict o site c vs xs p.links) p.state r

    primitives : (r : Primitive) (o : CoreOp) (site : Option Site) (c : Current Mark) (vs : List (CoreValue Mark)) (xs : List CoreExpr) (p q : Along) → IsAlikePrimitive r → BB p q → A (acted core o site c vs xs p r) (acted core2 o site c vs xs q r)
    unfolding primitive_act
    primitives primitive.CheckReady o site c vs xs p q is b = checked p q o site c c vs xs b
    primitives (primitive.CellMake x) o site c vs xs p q is b = absurd is
    primitives primitive.ToText o site c vs xs p q is b = one_value_on p q c number.to_text_number b
    primitives primitive.IterStart o site c vs xs p q is b =
        two_values_on p q c vs (λ v mode. operates (After p.links) (start_number (number_in mode)) v [] p.state) (λ v mode. operates (After q.links) (start_number (number_in mode)) v [] q.state)
        (λ v mode. works_on p q WaitsAfter (start_number (number_in mode)) v [] b)
    primitives primitive.IterStep o site c vs xs p q is b = one_value_on p q c number.iterator_step_number b
    primitives primitive.IterValue o site c vs xs p q is b = one_value_on p q c number.iterator_value_number b
    primitives primitive.IterClose o site c vs xs p q is b = one_value_on p q c (close_number (truth_in vs)) b
    primitives primitive.RestList o site c vs xs p q is b =
        opted (user_at c) p.state q.state
        (λ n. has (value.Object (next_id p.state.heap)) p.links (with_heap (list_heap p.state.heap (drop (unsigned_abs (number_in n)) p.state.context.own.passed)) p.state))
        (λ n. has (value.Object (next_id q.state.heap)) q.links (with_heap (list_heap q.state.heap (drop (unsigned_abs (number_in n)) q.state.context.own.passed)) q.state))
        (λ n. rest_made p q n b)
    primitives primitive.SpreadList o site c vs xs p q is b = spread_by_values p q o site c vs xs vs b
    primitives primitive.Construct o site c vs xs p q is b = news p q c vs b
    primitives primitive.NamespaceMake o site c vs xs p q is b =
        args_by (has_value c) p.state q.state (λ ws. space_with p ws p.state.heap (length p.state.store.namespaces)) (λ ws. space_with q ws q.state.heap (length q.state.store.namespaces)) (λ ws. spaces p q ws b)
    primitives primitive.ClassMake o site c vs xs p q is b = absurd is
    primitives primitive.SuperConstruct o site c vs xs p q is b =
        args_by (has_value c) p.state q.state (super_at core p.state.heap p.state.context.own.callee p.state.context.own.target p) (super_at core2 q.state.heap q.state.context.own.callee q.state.context.own.target q) (λ args. supers p q args b)
    primitives primitive.ThisBind o site c vs xs p q is b =
        opted (user_at c) p.state q.state
        (λ v. bind_this (strict o site c vs xs p.links) p.state v (slice_index_or p.state.store.this_values p.state.context.own.this_record None))
        (λ v. bind_this (strict o site c vs xs q.links) q.state v (slice_index_or q.state.store.this_values q.state.context.own.this_record None))
        (λ v. this_bound p q o site c vs xs v b)
    primitives primitive.SuperGet o site c vs xs p q is b =
        two_values_on p q c vs
        (λ key receiver. with_key key p.state (λ k. operates (After p.links) number.super_get_number receiver (p.state.context.own.home ∷ key_operand k ∷ []) p.state))
        (λ key receiver. with_key key q.state (λ k. operates (After q.links) number.super_get_number receiver (q.state.context.own.home ∷ key_operand k ∷ []) q.state))
        (λ key receiver. key_by key p.state q.state (λ k. operates (After p.links) number.super_get_number receiver (p.state.context.own.home ∷ key_operand k ∷ []) p.state)
        (λ k. operates (After q.links) number.super_get_number receiver (q.state.context.own.home ∷ key_operand k ∷ []) q.state) (λ k. super_gets p q receiver k b))
    primitives primitive.MethodPut o site c vs xs p q is b = absurd is
    primitives primitive.AccessorPut o site c vs xs p q is b = absurd is
    primitives primitive.DelegateStep o site c vs xs p q is b = delegates_by p q o site c vs xs vs b
    primitives primitive.Power o site c vs xs p q is b =
        two_values_on p q c vs (λ v w. operates (After p.links) number.power_number v (w ∷ []) p.state) (λ v w. operates (After q.links) number.power_number v (w ∷ []) q.state)
        (λ v w. works_on p q WaitsAfter number.power_number v (w ∷ []) b)
    primitives primitive.TemplateObject o site c vs xs p q is b =
        args_by (has_value c) p.state q.state
        (λ cooked. with_arguments_in vs p.state (λ raw. template_by cooked raw p.links p.state (template_in p.state.store.templates raw)))
        (λ cooked. with_arguments_in vs q.state (λ raw. template_by cooked raw q.links q.state (template_in q.state.store.templates raw)))
        (λ cooked. args_by vs p.state q.state (λ raw. template_by cooked raw p.links p.state (template_in p.state.store.templates raw))
        (λ raw. template_by cooked raw q.links q.state (template_in q.state.store.templates raw)) (λ raw. templates p q cooked raw b))
    primitives r o site c vs xs p q is b = tt

    pub acts_alike : (o : CoreOp) (site : Option Site) (c : Current Mark) (vs : List (CoreValue Mark)) (xs : List CoreExpr) (p q : Along) → IsAlikeOp o → BB p q
        → A (act (rows core) core (strict o site c vs xs p.links) p.state) (act (rows core2) core2 (strict o site c vs xs q.links) q.state)
    unfolding act_by IsAlikeOp IsUntouched
    acts_alike op.CallList site c vs xs p q is b =
        args_by vs p.state q.state (λ args. call_current (strict op.CallList site c vs xs p.links) p.state args c) (λ args. call_current (strict op.CallList site c vs xs q.links) q.state args c)
        (λ args. call_alike R (B owners seats) (U owners seats) (carries owners seats) p q op.CallList site c c vs xs args b)
    acts_alike op.CallListWith site c vs xs p q is b = list_with p q site c vs op.CallListWith xs b
    acts_alike op.NewList site c vs xs p q is b = news p q c vs b
    acts_alike (op.Set x) site c vs xs p q is b = absurd is
    acts_alike (op.Init x) site c vs xs p q is b = absurd is
    acts_alike (op.StepVariable u x) site c vs xs p q is b = absurd is
    acts_alike op.Content site c vs xs p q is b = absurd is
    acts_alike op.SetContent site c vs xs p q is b = absurd is
    acts_alike (op.Primitive r) site c vs xs p q is b = primitives r (op.Primitive r) site c vs xs p q is b
    acts_alike op.Yield site c vs xs p q is b =
        opted (user_at c) p.state q.state (λ v. yields (waiting WaitsYield p.links) true v p.state) (λ v. yields (waiting WaitsYield q.links) true v q.state) (λ v. waits_yields p q WaitsYield true v b)
    acts_alike op.Delegate site c vs xs p q is b =
        opted (user_at c) p.state q.state (λ v. operates (waiting WaitsDelegateStart p.links) number.get_iterator_number v [] p.state) (λ v. operates (waiting WaitsDelegateStart q.links) number.get_iterator_number v [] q.state)
        (λ v. works_on p q WaitsDelegateStart number.get_iterator_number v [] b)
    acts_alike o site c vs xs p q is b = acts R (B owners seats) (U owners seats) (carries owners seats) core core2 o site c vs xs p q is b

pub operations_act : OperationsActAlike
operations_act core core2 owners seats o site c values parts links s t kinds is stand below =
    let p : Along = record { links = links; state = s } in
    let q : Along = record { links = (opened owners (cell_along seats s.context.environment) links).links; state = t } in
    acts_alike core core2 owners seats kinds o site c values parts p q is (stand, below, refl)
