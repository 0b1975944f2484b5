-- How statements end, and what ends them early.
use Rattle.std.proofs.Common.{◌≡◌, ℕ, zero, suc, Bool, List, [], ◌∷◌, ◌++◌, Option, None, Some, length, refl, sym, ap, subst, ◌∙◌}
use Rattle.std.specs.Prelude.{if◌then◌else◌, not, slice_set, ◌&&◌}
use Rattle.es_outside.specs.declared.events.Site.{Site}
use Rattle.es_value.specs.declared.value.Value.{Value}
use Rattle.es_value.specs.declared.value.Value.TheVariants as value
use Rattle.es_calls.specs.declared.call.BuiltinCall.{BuiltinCall}
use Rattle.es_operations.specs.Numbers as number
use Rattle.es_operations.specs.Steps.{drops_throw, operation}
use Rattle.es_realm.specs.Names.{generator_prototype}
use Rattle.core_ast.specs.declared.parts.Label.{Label}
use Rattle.core_ast.specs.declared.parts.Var.{Var}
use Rattle.core_ast.specs.declared.tree.CoreExpr.{CoreExpr}
use Rattle.core_ast.specs.declared.tree.CoreLink.{CoreLink, out-CoreLink}
use Rattle.core_ast.specs.declared.tree.CoreStat.{CoreStat}
use Rattle.core_ast.specs.declared.whole.Core.{Core}
use Rattle.core_meaning.specs.Generators.{reads_prototype, with_generator}
use Rattle.core_meaning.specs.Marks.{Completed, CoreNext, CoreState, CoreWork, Generator, Mark, Prototype}
use Rattle.core_meaning.specs.Modules.{core_step, rows}
use Rattle.core_meaning.specs.Rows.{controls, hands, operates, with_control, with_frames, within}
use Rattle.core_meaning.specs.State.{After, Completion, CoreValue, Done, Environment, Frame, Gives, Hand, Jumps, Loop, LoopUpdate, Made, Making, Operation, Pending, Returns, Throws, Turn, Work}
use Rattle.core_meaning.specs.Statements.{at_target, finish, is_for, loop_jumped, loop_on, target_jumped, update_by}
use Rattle.core_meaning.specs.Step.{abrupt, done, hand, received, step, thrown_out}
use Rattle.pass_rules.specs.Scopes.{stats_flat}
use Rattle.cells_keep_runs.specs.Alike.{Alike, Config, IsPlain}
use Rattle.cells_keep_runs.specs.Ended.{AbruptEndsAlike, CellsArePassed, EndsHere, PassesHere, ScopesArePassed, StatementsEndAlike}
use Rattle.cells_keep_runs.specs.Opened.{Opened, link_in, opened, opened_by, write_in}
use Rattle.cells_keep_runs.specs.Passed.{placed}
use Rattle.cells_keep_runs.specs.Places.{Below}
use Rattle.cells_keep_runs.specs.Related.{All, Frames, Generators, Related, Seats, Stand, Tail, Waits, WaitsAfter, WaitsBehind, WaitsDelegate, WaitsDelegateDone, WaitsDelegateStart, WaitsDelegateTurn, WaitsDelegateValue, WaitsHeritage, WaitsKeyed, WaitsPrototype, WaitsSpread, WaitsSpreadStep, WaitsSpreadValue, WaitsToStep, WaitsToStore, WaitsYield, a_scope, at_exit, at_expression, at_links, at_same, at_statements, catching, cell_along, choice, completed, derived, fetch, finishing, image_in, images, instantiates, loop_body, loop_flat, loop_test, loop_update, matching, no_scope, none, part, past_cells, pending, plain, prototype, rest, restore, resumes, returning, same_current, starts, subject, target, throwing, waiting, waits, waits_for_cell, with_image}
use Rattle.cells_keep_runs.specs.Shapes.{option_flat}
use Rattle.cells_keep_runs.specs.Ways.{IsAbrupt, Way}
use Rattle.cells_keep_runs.proofs.Alike.{either_way}
use Rattle.cells_keep_runs.proofs.Carried.{B, U, carries, stand_pushed}
use Rattle.cells_keep_runs.proofs.Grown.{below_rest, tail_below}
use Rattle.cells_keep_runs.proofs.Passed.{left}
use Rattle.cells_keep_runs.proofs.Statements.{loop_alike, runs_at}
use Rattle.cells_keep_runs.proofs.Ways.{leave_write}
use Rattle.cells_keep_runs.proofs.Writes.{not_none}

abbrev Frames1 : Type 0
Frames1 = List (Frame Mark CoreWork)

-- the same state in another environment
pub stand_within : (owners : List ℕ) (seats : Seats) (e e2 : Environment) (s t : CoreState) → Stand owners seats (within e s) t → Below (length seats) e2 → Stand owners seats (within e2 s) (within (images seats e2) t)
stand_within owners seats e e2 s t x below = record {
  states = record {
    heap = x.states.heap;
    memory = x.states.memory;
    closures = x.states.closures;
    callers = x.states.callers;
    ahead = x.states.ahead;
    this_values = x.states.this_values;
    generators = x.states.generators;
    namespaces = x.states.namespaces;
    templates = x.states.templates;
    statics = x.states.statics;
  };
  environment = refl;
  below = below;
  receiver = x.receiver;
  site = x.site;
  own = x.own;
}

-- ---- generators, of which one is another

pub set_all : {A B : Type 0} (R : A → B → Type 0) (xs : List A) (ys : List B) (n : ℕ) (x : A) (y : B) → R x y → All R xs ys → All R (slice_set xs n x) (slice_set ys n y)
set_all R [] [] n x y r rs = tt
set_all R [] (z ∷ ys) n x y r rs = absurd rs
set_all R (z ∷ xs) [] n x y r rs = absurd rs
set_all R (z ∷ xs) (w ∷ ys) zero x y r (q, rs) = (r, rs)
set_all R (z ∷ xs) (w ∷ ys) (suc n) x y r (q, rs) = (q, set_all R xs ys n x y r rs)

pub stand_generator : (owners : List ℕ) (seats : Seats) (s t : CoreState) (n : ℕ) (a b : Generator) → Generators owners seats a b → Stand owners seats s t → Stand owners seats (with_generator n a s) (with_generator n b t)
stand_generator owners seats s t n a b r x = record {
  states = record {
    heap = x.states.heap;
    memory = x.states.memory;
    closures = x.states.closures;
    callers = x.states.callers;
    ahead = x.states.ahead;
    this_values = x.states.this_values;
    generators = set_all (Generators owners seats) s.store.generators t.store.generators n a b r x.states.generators;
    namespaces = x.states.namespaces;
    templates = x.states.templates;
    statics = x.states.statics;
  };
  environment = x.environment;
  below = x.below;
  receiver = x.receiver;
  site = x.site;
  own = x.own;
}

module _ (core core2 : Core) (owners : List ℕ) (seats : Seats) where
  abbrev R : Config → Config → Type 0
  R = Related owners seats

  abbrev A : CoreNext → CoreNext → Type 0
  A = Alike R

  abbrev At : Environment → Frames1 → Frames1 → Type 0
  At e fs gs = Frames owners seats e fs gs

  abbrev Stood : Environment → Frames1 → Frames1 → CoreState → CoreState → Type 0
  Stood e fs gs s t = Stand owners seats (placed e fs s) (with_frames gs t)

  abbrev hand1 : Completion Mark → Environment → Frames1 → CoreState → CoreNext
  hand1 c e fs s = hand (rows core) core (placed e fs s) c fs

  abbrev hand2 : Completion Mark → Frames1 → CoreState → CoreNext
  hand2 c gs t = hand (rows core2) core2 (with_frames gs t) c gs

  -- the states without their top frames
  pub stand_under : (e : Environment) (fs gs fs2 gs2 : Frames1) (s t : CoreState) → Stood e fs gs s t → Stood e fs2 gs2 s t
  stand_under e fs gs fs2 gs2 s t x = record {
    states = record {
      heap = x.states.heap;
      memory = x.states.memory;
      closures = x.states.closures;
      callers = x.states.callers;
      ahead = x.states.ahead;
      this_values = x.states.this_values;
      generators = x.states.generators;
      namespaces = x.states.namespaces;
      templates = x.states.templates;
      statics = x.states.statics;
    };
    environment = x.environment;
    below = x.below;
    receiver = x.receiver;
    site = x.site;
    own = x.own;
  }

  -- a completion is handed on
  on : (c : Completion Mark) (e : Environment) (fs gs fs2 gs2 : Frames1) (s t : CoreState) → Stood e fs gs s t → At e fs2 gs2 → A (hands c (placed e fs2 s)) (hands c (with_frames gs2 t))
  on c e fs gs fs2 gs2 s t stand r = (_, refl, at_same (Hand c) tt (stand_under e fs gs fs2 gs2 s t stand) r)

  past : (c : Completion Mark) (e : Environment) (fs gs fs2 gs2 : Frames1) (ls : List CoreLink) (s t : CoreState) → IsAbrupt c → Stood e fs gs s t → At e fs2 gs2
      → A (hands c (placed e fs2 s)) (hands c (with_frames ((opened owners (cell_along seats e) ls).frames ++ gs2) t))
  past c e fs gs fs2 gs2 ls s t is stand r =
      (_, refl, past_cells c ls is (stand_under e fs gs fs2 ((opened owners (cell_along seats e) ls).frames ++ gs2) s t stand) (gs2, r, refl))

  on_alike : (s t : CoreState) (l : Loop) (update : Option CoreExpr) → Stand owners seats s t → At s.context.environment s.context.frames t.context.frames → A (update_by l s update) (update_by (loop_flat owners l) t (option_flat owners update))
  on_alike s t l None stand r = loop_alike core core2 owners seats s t l l.test stand r
  on_alike s t l (Some x) stand r = (_, refl, at_expression x (stand_pushed owners seats s t (LoopUpdate l) (LoopUpdate (loop_flat owners l)) stand) (loop_update l r))

  finish_alike : (c : Completion Mark) (last : List CoreStat) (s t : CoreState) → Stand owners seats s t → At s.context.environment s.context.frames t.context.frames → A (finish last c s) (finish (stats_flat owners last) c t)
  finish_alike c last s t stand r = runs_at core core2 owners seats s t (Pending c) (Pending c) last stand (pending c r)

  prototype_alike : (body : List CoreStat) (s t : CoreState) → Stand owners seats s t → At s.context.environment s.context.frames t.context.frames → A (reads_prototype (Prototype body) s) (reads_prototype (Prototype (stats_flat owners body)) t)
  prototype_alike body s t stand r =
      subst (λ f. A (reads_prototype (Prototype body) s) (operates (Work (Prototype (stats_flat owners body))) number.prototype_of_number f (value.Object generator_prototype ∷ []) t)) (sym stand.own.callee)
      (_, refl, at_same (Turn None (operation number.prototype_of_number s.context.own.callee (value.Object generator_prototype ∷ []))) tt (stand_pushed owners seats s t (Work (Prototype body)) (Work (Prototype (stats_flat owners body))) stand) (prototype body r))

  -- ---- the end of statements

  waits_done : (w : Waits) (e : Environment) (ls : List CoreLink) (fs gs : Frames1) (s t : CoreState)
      → Stood e (waiting w ls ∷ fs) (waiting w (opened owners (cell_along seats e) ls).links ∷ ((opened owners (cell_along seats e) ls).frames ++ gs)) s t → At e fs gs
      → A (done (rows core) (placed e fs s) (waiting w ls)) (done (rows core2) (with_frames ((opened owners (cell_along seats e) ls).frames ++ gs) t) (waiting w (opened owners (cell_along seats e) ls).links))
  unfolding done
  waits_done WaitsAfter e ls fs gs s t stand r =
      let o = opened owners (cell_along seats e) ls in
      (_, refl, at_links ls same_current (stand_under e (After ls ∷ fs) (After o.links ∷ (o.frames ++ gs)) fs (o.frames ++ gs) s t stand) (gs, r, refl))
  waits_done (WaitsBehind v) e ls fs gs s t stand r = tt
  waits_done (WaitsKeyed base) e ls fs gs s t stand r = tt
  waits_done (WaitsToStore base k) e ls fs gs s t stand r = tt
  waits_done (WaitsToStep u base k) e ls fs gs s t stand r = tt
  waits_done (WaitsSpread list) e ls fs gs s t stand r = tt
  waits_done (WaitsSpreadStep list it) e ls fs gs s t stand r = tt
  waits_done (WaitsSpreadValue list it) e ls fs gs s t stand r = tt
  waits_done (WaitsHeritage f heritage) e ls fs gs s t stand r = tt
  waits_done WaitsPrototype e ls fs gs s t stand r = tt
  waits_done WaitsYield e ls fs gs s t stand r = tt
  waits_done (WaitsDelegate it) e ls fs gs s t stand r = tt
  waits_done WaitsDelegateStart e ls fs gs s t stand r = tt
  waits_done (WaitsDelegateTurn it kind v) e ls fs gs s t stand r = tt
  waits_done (WaitsDelegateDone it kind v) e ls fs gs s t stand r = tt
  waits_done (WaitsDelegateValue kind) e ls fs gs s t stand r = tt

  plain_done : (f : Frame Mark CoreWork) (s t : CoreState) → IsPlain f → A (done (rows core) s f) (done (rows core2) t f)
  unfolding done
  plain_done (Operation site c) s t is = tt
  plain_done (Making f args new) s t is = tt
  plain_done (Made o) s t is = tt
  plain_done f s t is = absurd is

  done_by : (e : Environment) (fs gs : Frames1) (s t : CoreState) → EndsHere owners fs → Stood e fs gs s t → At e fs gs → A (hand1 Done e fs s) (hand2 Done gs t)
  unfolding hand done
  done_by e fs gs s t ends stand none = absurd ends
  done_by e fs gs s t ends stand (plain {fs = fs2} {gs = gs2} {f = f} is r) = plain_done f (placed e fs2 s) (with_frames gs2 t) is
  done_by e fs gs s t ends stand (waits {e = e2} {fs = fs2} {gs = gs2} w ls r) = waits_done w e2 ls fs2 gs2 s t stand r
  done_by e fs gs s t ends stand (waits_for_cell x l ls is r) = absurd (not_none (write_in owners (out-CoreLink l)) x is ends)
  done_by e fs gs s t ends stand (part p c r) = tt
  done_by e fs gs s t ends stand (fetch base k p r) = tt
  done_by e fs gs s t ends stand (rest {e = e2} {e2 = e3} {fs = fs2} {fs2 = fs3} {gs = gs2} {ys = ys} xs tail r) =
      (_, refl, at_statements xs (stand_under e2 fs gs fs2 gs2 s t stand) (e3, fs3, tail, r))
  done_by e fs gs s t ends stand (choice body cases r) = tt
  done_by e fs gs s t ends stand (subject cases r) = tt
  done_by e fs gs s t ends stand (matching v cases all r) = tt
  done_by e fs gs s t ends stand (loop_test l r) = tt
  done_by e fs gs s t ends stand (loop_body {e = e2} {fs = fs2} {gs = gs2} l r) =
      on_alike (placed e2 fs2 s) (with_frames gs2 t) l l.update (stand_under e2 fs gs fs2 gs2 s t stand) r
  done_by e fs gs s t ends stand (loop_update l r) = tt
  done_by e fs gs s t ends stand (target {e = e2} {fs = fs2} {gs = gs2} label r) = on Done e2 fs gs fs2 gs2 s t stand r
  done_by e fs gs s t ends stand (returning r) = tt
  done_by e fs gs s t ends stand (throwing r) = tt
  done_by e fs gs s t ends stand (catching {e = e2} {fs = fs2} {gs = gs2} x names handler r) = on Done e2 fs gs fs2 gs2 s t stand r
  done_by e fs gs s t ends stand (finishing {e = e2} {fs = fs2} {gs = gs2} last r) =
      finish_alike Done last (placed e2 fs2 s) (with_frames gs2 t) (stand_under e2 fs gs fs2 gs2 s t stand) r
  done_by e fs gs s t ends stand (pending {e = e2} {fs = fs2} {gs = gs2} c r) = on c e2 fs gs fs2 gs2 s t stand r
  done_by e fs gs s t ends stand (restore {n = n} {e = e2} {fs = fs2} {gs = gs2} away r) =
      (_, refl, at_same (Hand Done) tt (stand_within owners seats (n ∷ e2) e2 (with_frames fs2 s) (with_frames gs2 t) (stand_under (n ∷ e2) fs gs fs2 gs2 s t stand) (below_rest (length seats) n e2 stand.below)) r)
  done_by e fs gs s t ends stand (derived n r) = tt
  done_by e fs gs s t ends stand (instantiates {e = e2} {fs = fs2} {gs = gs2} body r) =
      prototype_alike body (placed e2 fs2 s) (with_frames gs2 t) (stand_under e2 fs gs fs2 gs2 s t stand) r
  done_by e fs gs s t ends stand (prototype body r) = tt
  done_by e fs gs s t ends stand (starts body r) = tt
  done_by e fs gs s t ends stand (resumes n r) = tt

  done_step : (s : CoreState) → core_step core (with_control (Hand Done) s) ≡ hand (rows core) core s Done s.context.frames
  unfolding step
  done_step s = refl

  -- ---- throws, returns and jumps

  thrown_alike : (site : Option Site) (c : BuiltinCall) (v : Value) (s t : CoreState) → Stand owners seats s t → At s.context.environment s.context.frames t.context.frames → A (thrown_out site c v s) (thrown_out site c v t)
  thrown_alike site c v s t stand r =
      either_way R (B owners seats) (U owners seats) (carries owners seats) (drops_throw c) (controls (Turn site (received c value.Undefined)) s) (hands (Throws v) s) (controls (Turn site (received c value.Undefined)) t) (hands (Throws v) t)
      (_, refl, at_same (Turn site (received c value.Undefined)) tt stand r) (_, refl, at_same (Hand (Throws v)) tt stand r)

  loop_jumped_alike : (l : Loop) (goes_on : Bool) (label : Option Label) (s t : CoreState) → Stand owners seats s t → At s.context.environment s.context.frames t.context.frames → A (loop_jumped l s goes_on label) (loop_jumped (loop_flat owners l) t goes_on label)
  loop_jumped_alike l goes_on label s t stand r =
      let m = loop_flat owners l in
      either_way R (B owners seats) (U owners seats) (carries owners seats) (not (is_for l.labels label)) (hands (Jumps goes_on label) s) (if goes_on then loop_on l s else hands Done s) (hands (Jumps goes_on label) t) (if goes_on then loop_on m t else hands Done t)
      (_, refl, at_same (Hand (Jumps goes_on label)) tt stand r)
      (either_way R (B owners seats) (U owners seats) (carries owners seats) goes_on (loop_on l s) (hands Done s) (loop_on m t) (hands Done t) (on_alike s t l l.update stand r) (_, refl, at_same (Hand Done) tt stand r))

  target_jumped_alike : (at : Option Label) (goes_on : Bool) (label : Option Label) (s t : CoreState) → Stand owners seats s t → At s.context.environment s.context.frames t.context.frames → A (target_jumped at s goes_on label) (target_jumped at t goes_on label)
  target_jumped_alike at goes_on label s t stand r =
      either_way R (B owners seats) (U owners seats) (carries owners seats) (not goes_on && at_target at label) (hands Done s) (hands (Jumps goes_on label) s) (hands Done t) (hands (Jumps goes_on label) t)
      (_, refl, at_same (Hand Done) tt stand r) (_, refl, at_same (Hand (Jumps goes_on label)) tt stand r)

  waits_thrown : (w : Waits) (v : Value) (e : Environment) (ls : List CoreLink) (fs gs : Frames1) (s t : CoreState)
      → Stood e (waiting w ls ∷ fs) (waiting w (opened owners (cell_along seats e) ls).links ∷ ((opened owners (cell_along seats e) ls).frames ++ gs)) s t → At e fs gs
      → A (abrupt (rows core) (placed e fs s) (waiting w ls) (Throws v)) (abrupt (rows core2) (with_frames ((opened owners (cell_along seats e) ls).frames ++ gs) t) (waiting w (opened owners (cell_along seats e) ls).links) (Throws v))
  unfolding abrupt
  waits_thrown WaitsAfter v e ls fs gs s t stand r =
      let o = opened owners (cell_along seats e) ls in
      past (Throws v) e (waiting WaitsAfter ls ∷ fs) (waiting WaitsAfter o.links ∷ (o.frames ++ gs)) fs gs ls s t tt stand r
  waits_thrown (WaitsBehind v2) v e ls fs gs s t stand r =
      let o = opened owners (cell_along seats e) ls in
      past (Throws v) e (waiting (WaitsBehind v2) ls ∷ fs) (waiting (WaitsBehind v2) o.links ∷ (o.frames ++ gs)) fs gs ls s t tt stand r
  waits_thrown (WaitsKeyed base) v e ls fs gs s t stand r =
      let o = opened owners (cell_along seats e) ls in
      past (Throws v) e (waiting (WaitsKeyed base) ls ∷ fs) (waiting (WaitsKeyed base) o.links ∷ (o.frames ++ gs)) fs gs ls s t tt stand r
  waits_thrown (WaitsToStore base k) v e ls fs gs s t stand r =
      let o = opened owners (cell_along seats e) ls in
      past (Throws v) e (waiting (WaitsToStore base k) ls ∷ fs) (waiting (WaitsToStore base k) o.links ∷ (o.frames ++ gs)) fs gs ls s t tt stand r
  waits_thrown (WaitsToStep u base k) v e ls fs gs s t stand r =
      let o = opened owners (cell_along seats e) ls in
      past (Throws v) e (waiting (WaitsToStep u base k) ls ∷ fs) (waiting (WaitsToStep u base k) o.links ∷ (o.frames ++ gs)) fs gs ls s t tt stand r
  waits_thrown (WaitsSpread list) v e ls fs gs s t stand r =
      let o = opened owners (cell_along seats e) ls in
      past (Throws v) e (waiting (WaitsSpread list) ls ∷ fs) (waiting (WaitsSpread list) o.links ∷ (o.frames ++ gs)) fs gs ls s t tt stand r
  waits_thrown (WaitsSpreadStep list it) v e ls fs gs s t stand r =
      let o = opened owners (cell_along seats e) ls in
      past (Throws v) e (waiting (WaitsSpreadStep list it) ls ∷ fs) (waiting (WaitsSpreadStep list it) o.links ∷ (o.frames ++ gs)) fs gs ls s t tt stand r
  waits_thrown (WaitsSpreadValue list it) v e ls fs gs s t stand r =
      let o = opened owners (cell_along seats e) ls in
      past (Throws v) e (waiting (WaitsSpreadValue list it) ls ∷ fs) (waiting (WaitsSpreadValue list it) o.links ∷ (o.frames ++ gs)) fs gs ls s t tt stand r
  waits_thrown (WaitsHeritage f heritage) v e ls fs gs s t stand r =
      let o = opened owners (cell_along seats e) ls in
      past (Throws v) e (waiting (WaitsHeritage f heritage) ls ∷ fs) (waiting (WaitsHeritage f heritage) o.links ∷ (o.frames ++ gs)) fs gs ls s t tt stand r
  waits_thrown WaitsPrototype v e ls fs gs s t stand r =
      let o = opened owners (cell_along seats e) ls in
      past (Throws v) e (waiting WaitsPrototype ls ∷ fs) (waiting WaitsPrototype o.links ∷ (o.frames ++ gs)) fs gs ls s t tt stand r
  waits_thrown WaitsYield v e ls fs gs s t stand r =
      let o = opened owners (cell_along seats e) ls in
      past (Throws v) e (waiting WaitsYield ls ∷ fs) (waiting WaitsYield o.links ∷ (o.frames ++ gs)) fs gs ls s t tt stand r
  waits_thrown (WaitsDelegate it) v e ls fs gs s t stand r =
      let o = opened owners (cell_along seats e) ls in
      past (Throws v) e (waiting (WaitsDelegate it) ls ∷ fs) (waiting (WaitsDelegate it) o.links ∷ (o.frames ++ gs)) fs gs ls s t tt stand r
  waits_thrown WaitsDelegateStart v e ls fs gs s t stand r =
      let o = opened owners (cell_along seats e) ls in
      past (Throws v) e (waiting WaitsDelegateStart ls ∷ fs) (waiting WaitsDelegateStart o.links ∷ (o.frames ++ gs)) fs gs ls s t tt stand r
  waits_thrown (WaitsDelegateTurn it kind v2) v e ls fs gs s t stand r =
      let o = opened owners (cell_along seats e) ls in
      past (Throws v) e (waiting (WaitsDelegateTurn it kind v2) ls ∷ fs) (waiting (WaitsDelegateTurn it kind v2) o.links ∷ (o.frames ++ gs)) fs gs ls s t tt stand r
  waits_thrown (WaitsDelegateDone it kind v2) v e ls fs gs s t stand r =
      let o = opened owners (cell_along seats e) ls in
      past (Throws v) e (waiting (WaitsDelegateDone it kind v2) ls ∷ fs) (waiting (WaitsDelegateDone it kind v2) o.links ∷ (o.frames ++ gs)) fs gs ls s t tt stand r
  waits_thrown (WaitsDelegateValue kind) v e ls fs gs s t stand r =
      let o = opened owners (cell_along seats e) ls in
      past (Throws v) e (waiting (WaitsDelegateValue kind) ls ∷ fs) (waiting (WaitsDelegateValue kind) o.links ∷ (o.frames ++ gs)) fs gs ls s t tt stand r

  plain_thrown : (f : Frame Mark CoreWork) (v : Value) (e : Environment) (fs gs : Frames1) (s t : CoreState) → IsPlain f → Stood e (f ∷ fs) (f ∷ gs) s t → At e fs gs
      → A (abrupt (rows core) (placed e fs s) f (Throws v)) (abrupt (rows core2) (with_frames gs t) f (Throws v))
  unfolding abrupt
  plain_thrown (Operation site c) v e fs gs s t is stand r = thrown_alike site c v (placed e fs s) (with_frames gs t) (stand_under e (Operation site c ∷ fs) (Operation site c ∷ gs) fs gs s t stand) r
  plain_thrown (Making f vs new) v e fs gs s t is stand r = on (Throws v) e (Making f vs new ∷ fs) (Making f vs new ∷ gs) fs gs s t stand r
  plain_thrown (Made o) v e fs gs s t is stand r = on (Throws v) e (Made o ∷ fs) (Made o ∷ gs) fs gs s t stand r
  plain_thrown f v e fs gs s t is stand r = absurd is

  thrown_by : (v : Value) (e : Environment) (fs gs : Frames1) (s t : CoreState) → PassesHere (Throws v) fs → Stood e fs gs s t → At e fs gs → A (hand1 (Throws v) e fs s) (hand2 (Throws v) gs t)
  unfolding hand abrupt
  thrown_by v e fs gs s t passes stand none = absurd passes
  thrown_by v e fs gs s t passes stand (plain {e = e2} {fs = fs2} {gs = gs2} {f = f} is r) = plain_thrown f v e2 fs2 gs2 s t is stand r
  thrown_by v e fs gs s t passes stand (waits {e = e2} {fs = fs2} {gs = gs2} w ls r) = waits_thrown w v e2 ls fs2 gs2 s t stand r
  thrown_by v e fs gs s t passes stand (waits_for_cell {e = e2} {fs = fs2} {gs = gs2} x l ls is r) = past (Throws v) e2 fs gs fs2 gs2 ls s t tt stand r
  thrown_by v e fs gs s t passes stand (part {e = e2} {fs = fs2} {gs = gs2} p c r) = past (Throws v) e2 fs gs fs2 gs2 p.links s t tt stand r
  thrown_by v e fs gs s t passes stand (fetch {e = e2} {fs = fs2} {gs = gs2} base k p r) = past (Throws v) e2 fs gs fs2 gs2 p.links s t tt stand r
  thrown_by v e fs gs s t passes stand (rest {e = e2} {e2 = e3} {fs = fs2} {fs2 = fs3} {gs = gs2} {ys = ys} xs tail r) =
      (_, refl, at_exit (Throws v) tt (stand_under e2 fs gs fs2 gs2 s t stand) (e3, fs3, tail, r))
  thrown_by v e fs gs s t passes stand (choice {e = e2} {fs = fs2} {gs = gs2} body cases r) = on (Throws v) e2 fs gs fs2 gs2 s t stand r
  thrown_by v e fs gs s t passes stand (subject {e = e2} {fs = fs2} {gs = gs2} cases r) = on (Throws v) e2 fs gs fs2 gs2 s t stand r
  thrown_by v e fs gs s t passes stand (matching {e = e2} {fs = fs2} {gs = gs2} w cases all r) = on (Throws v) e2 fs gs fs2 gs2 s t stand r
  thrown_by v e fs gs s t passes stand (loop_test {e = e2} {fs = fs2} {gs = gs2} l r) = on (Throws v) e2 fs gs fs2 gs2 s t stand r
  thrown_by v e fs gs s t passes stand (loop_body {e = e2} {fs = fs2} {gs = gs2} l r) = on (Throws v) e2 fs gs fs2 gs2 s t stand r
  thrown_by v e fs gs s t passes stand (loop_update {e = e2} {fs = fs2} {gs = gs2} l r) = on (Throws v) e2 fs gs fs2 gs2 s t stand r
  thrown_by v e fs gs s t passes stand (target {e = e2} {fs = fs2} {gs = gs2} at r) = on (Throws v) e2 fs gs fs2 gs2 s t stand r
  thrown_by v e fs gs s t passes stand (returning {e = e2} {fs = fs2} {gs = gs2} r) = on (Throws v) e2 fs gs fs2 gs2 s t stand r
  thrown_by v e fs gs s t passes stand (throwing {e = e2} {fs = fs2} {gs = gs2} r) = on (Throws v) e2 fs gs fs2 gs2 s t stand r
  thrown_by v e fs gs s t passes stand (catching x names handler r) = absurd passes
  thrown_by v e fs gs s t passes stand (finishing {e = e2} {fs = fs2} {gs = gs2} last r) = finish_alike (Throws v) last (placed e2 fs2 s) (with_frames gs2 t) (stand_under e2 fs gs fs2 gs2 s t stand) r
  thrown_by v e fs gs s t passes stand (pending {e = e2} {fs = fs2} {gs = gs2} c r) = on (Throws v) e2 fs gs fs2 gs2 s t stand r
  thrown_by v e fs gs s t passes stand (restore {n = n} {e = e2} {fs = fs2} {gs = gs2} away r) =
      (_, refl, at_same (Hand (Throws v)) tt (stand_within owners seats (n ∷ e2) e2 (with_frames fs2 s) (with_frames gs2 t) (stand_under (n ∷ e2) fs gs fs2 gs2 s t stand) (below_rest (length seats) n e2 stand.below)) r)
  thrown_by v e fs gs s t passes stand (derived {e = e2} {fs = fs2} {gs = gs2} n r) = on (Throws v) e2 fs gs fs2 gs2 s t stand r
  thrown_by v e fs gs s t passes stand (instantiates {e = e2} {fs = fs2} {gs = gs2} body r) = on (Throws v) e2 fs gs fs2 gs2 s t stand r
  thrown_by v e fs gs s t passes stand (prototype {e = e2} {fs = fs2} {gs = gs2} body r) = on (Throws v) e2 fs gs fs2 gs2 s t stand r
  thrown_by v e fs gs s t passes stand (starts {e = e2} {fs = fs2} {gs = gs2} body r) = on (Throws v) e2 fs gs fs2 gs2 s t stand r
  thrown_by v e fs gs s t passes stand (resumes {e = e2} {fs = fs2} {gs = gs2} n r) =
      (_, refl, at_same (Hand (Throws v)) tt (stand_generator owners seats (placed e2 fs2 s) (with_frames gs2 t) n Completed Completed completed (stand_under e2 fs gs fs2 gs2 s t stand)) r)

  waits_returned : (w : Waits) (v : CoreValue Mark) (e : Environment) (ls : List CoreLink) (fs gs : Frames1) (s t : CoreState)
      → Stood e (waiting w ls ∷ fs) (waiting w (opened owners (cell_along seats e) ls).links ∷ ((opened owners (cell_along seats e) ls).frames ++ gs)) s t → At e fs gs
      → A (abrupt (rows core) (placed e fs s) (waiting w ls) (Returns v)) (abrupt (rows core2) (with_frames ((opened owners (cell_along seats e) ls).frames ++ gs) t) (waiting w (opened owners (cell_along seats e) ls).links) (Returns v))
  unfolding abrupt
  waits_returned WaitsAfter v e ls fs gs s t stand r =
      let o = opened owners (cell_along seats e) ls in
      past (Returns v) e (waiting WaitsAfter ls ∷ fs) (waiting WaitsAfter o.links ∷ (o.frames ++ gs)) fs gs ls s t tt stand r
  waits_returned (WaitsBehind v2) v e ls fs gs s t stand r =
      let o = opened owners (cell_along seats e) ls in
      past (Returns v) e (waiting (WaitsBehind v2) ls ∷ fs) (waiting (WaitsBehind v2) o.links ∷ (o.frames ++ gs)) fs gs ls s t tt stand r
  waits_returned (WaitsKeyed base) v e ls fs gs s t stand r =
      let o = opened owners (cell_along seats e) ls in
      past (Returns v) e (waiting (WaitsKeyed base) ls ∷ fs) (waiting (WaitsKeyed base) o.links ∷ (o.frames ++ gs)) fs gs ls s t tt stand r
  waits_returned (WaitsToStore base k) v e ls fs gs s t stand r =
      let o = opened owners (cell_along seats e) ls in
      past (Returns v) e (waiting (WaitsToStore base k) ls ∷ fs) (waiting (WaitsToStore base k) o.links ∷ (o.frames ++ gs)) fs gs ls s t tt stand r
  waits_returned (WaitsToStep u base k) v e ls fs gs s t stand r =
      let o = opened owners (cell_along seats e) ls in
      past (Returns v) e (waiting (WaitsToStep u base k) ls ∷ fs) (waiting (WaitsToStep u base k) o.links ∷ (o.frames ++ gs)) fs gs ls s t tt stand r
  waits_returned (WaitsSpread list) v e ls fs gs s t stand r =
      let o = opened owners (cell_along seats e) ls in
      past (Returns v) e (waiting (WaitsSpread list) ls ∷ fs) (waiting (WaitsSpread list) o.links ∷ (o.frames ++ gs)) fs gs ls s t tt stand r
  waits_returned (WaitsSpreadStep list it) v e ls fs gs s t stand r =
      let o = opened owners (cell_along seats e) ls in
      past (Returns v) e (waiting (WaitsSpreadStep list it) ls ∷ fs) (waiting (WaitsSpreadStep list it) o.links ∷ (o.frames ++ gs)) fs gs ls s t tt stand r
  waits_returned (WaitsSpreadValue list it) v e ls fs gs s t stand r =
      let o = opened owners (cell_along seats e) ls in
      past (Returns v) e (waiting (WaitsSpreadValue list it) ls ∷ fs) (waiting (WaitsSpreadValue list it) o.links ∷ (o.frames ++ gs)) fs gs ls s t tt stand r
  waits_returned (WaitsHeritage f heritage) v e ls fs gs s t stand r =
      let o = opened owners (cell_along seats e) ls in
      past (Returns v) e (waiting (WaitsHeritage f heritage) ls ∷ fs) (waiting (WaitsHeritage f heritage) o.links ∷ (o.frames ++ gs)) fs gs ls s t tt stand r
  waits_returned WaitsPrototype v e ls fs gs s t stand r =
      let o = opened owners (cell_along seats e) ls in
      past (Returns v) e (waiting WaitsPrototype ls ∷ fs) (waiting WaitsPrototype o.links ∷ (o.frames ++ gs)) fs gs ls s t tt stand r
  waits_returned WaitsYield v e ls fs gs s t stand r =
      let o = opened owners (cell_along seats e) ls in
      past (Returns v) e (waiting WaitsYield ls ∷ fs) (waiting WaitsYield o.links ∷ (o.frames ++ gs)) fs gs ls s t tt stand r
  waits_returned (WaitsDelegate it) v e ls fs gs s t stand r =
      let o = opened owners (cell_along seats e) ls in
      past (Returns v) e (waiting (WaitsDelegate it) ls ∷ fs) (waiting (WaitsDelegate it) o.links ∷ (o.frames ++ gs)) fs gs ls s t tt stand r
  waits_returned WaitsDelegateStart v e ls fs gs s t stand r =
      let o = opened owners (cell_along seats e) ls in
      past (Returns v) e (waiting WaitsDelegateStart ls ∷ fs) (waiting WaitsDelegateStart o.links ∷ (o.frames ++ gs)) fs gs ls s t tt stand r
  waits_returned (WaitsDelegateTurn it kind v2) v e ls fs gs s t stand r =
      let o = opened owners (cell_along seats e) ls in
      past (Returns v) e (waiting (WaitsDelegateTurn it kind v2) ls ∷ fs) (waiting (WaitsDelegateTurn it kind v2) o.links ∷ (o.frames ++ gs)) fs gs ls s t tt stand r
  waits_returned (WaitsDelegateDone it kind v2) v e ls fs gs s t stand r =
      let o = opened owners (cell_along seats e) ls in
      past (Returns v) e (waiting (WaitsDelegateDone it kind v2) ls ∷ fs) (waiting (WaitsDelegateDone it kind v2) o.links ∷ (o.frames ++ gs)) fs gs ls s t tt stand r
  waits_returned (WaitsDelegateValue kind) v e ls fs gs s t stand r =
      let o = opened owners (cell_along seats e) ls in
      past (Returns v) e (waiting (WaitsDelegateValue kind) ls ∷ fs) (waiting (WaitsDelegateValue kind) o.links ∷ (o.frames ++ gs)) fs gs ls s t tt stand r

  plain_returned : (f : Frame Mark CoreWork) (v : CoreValue Mark) (e : Environment) (fs gs : Frames1) (s t : CoreState) → IsPlain f → Stood e (f ∷ fs) (f ∷ gs) s t → At e fs gs
      → A (abrupt (rows core) (placed e fs s) f (Returns v)) (abrupt (rows core2) (with_frames gs t) f (Returns v))
  unfolding abrupt
  plain_returned (Operation site c) v e fs gs s t is stand r = on (Returns v) e (Operation site c ∷ fs) (Operation site c ∷ gs) fs gs s t stand r
  plain_returned (Making f vs new) v e fs gs s t is stand r = on (Returns v) e (Making f vs new ∷ fs) (Making f vs new ∷ gs) fs gs s t stand r
  plain_returned (Made o) v e fs gs s t is stand r = on (Returns v) e (Made o ∷ fs) (Made o ∷ gs) fs gs s t stand r
  plain_returned f v e fs gs s t is stand r = absurd is

  returned_by : (v : CoreValue Mark) (e : Environment) (fs gs : Frames1) (s t : CoreState) → PassesHere (Returns v) fs → Stood e fs gs s t → At e fs gs → A (hand1 (Returns v) e fs s) (hand2 (Returns v) gs t)
  unfolding hand abrupt
  returned_by v e fs gs s t passes stand none = absurd passes
  returned_by v e fs gs s t passes stand (plain {e = e2} {fs = fs2} {gs = gs2} {f = f} is r) = plain_returned f v e2 fs2 gs2 s t is stand r
  returned_by v e fs gs s t passes stand (waits {e = e2} {fs = fs2} {gs = gs2} w ls r) = waits_returned w v e2 ls fs2 gs2 s t stand r
  returned_by v e fs gs s t passes stand (waits_for_cell {e = e2} {fs = fs2} {gs = gs2} x l ls is r) = past (Returns v) e2 fs gs fs2 gs2 ls s t tt stand r
  returned_by v e fs gs s t passes stand (part {e = e2} {fs = fs2} {gs = gs2} p c r) = past (Returns v) e2 fs gs fs2 gs2 p.links s t tt stand r
  returned_by v e fs gs s t passes stand (fetch {e = e2} {fs = fs2} {gs = gs2} base k p r) = past (Returns v) e2 fs gs fs2 gs2 p.links s t tt stand r
  returned_by v e fs gs s t passes stand (rest {e = e2} {e2 = e3} {fs = fs2} {fs2 = fs3} {gs = gs2} {ys = ys} xs tail r) =
      (_, refl, at_exit (Returns v) tt (stand_under e2 fs gs fs2 gs2 s t stand) (e3, fs3, tail, r))
  returned_by v e fs gs s t passes stand (choice {e = e2} {fs = fs2} {gs = gs2} body cases r) = on (Returns v) e2 fs gs fs2 gs2 s t stand r
  returned_by v e fs gs s t passes stand (subject {e = e2} {fs = fs2} {gs = gs2} cases r) = on (Returns v) e2 fs gs fs2 gs2 s t stand r
  returned_by v e fs gs s t passes stand (matching {e = e2} {fs = fs2} {gs = gs2} w cases all r) = on (Returns v) e2 fs gs fs2 gs2 s t stand r
  returned_by v e fs gs s t passes stand (loop_test {e = e2} {fs = fs2} {gs = gs2} l r) = on (Returns v) e2 fs gs fs2 gs2 s t stand r
  returned_by v e fs gs s t passes stand (loop_body {e = e2} {fs = fs2} {gs = gs2} l r) = on (Returns v) e2 fs gs fs2 gs2 s t stand r
  returned_by v e fs gs s t passes stand (loop_update {e = e2} {fs = fs2} {gs = gs2} l r) = on (Returns v) e2 fs gs fs2 gs2 s t stand r
  returned_by v e fs gs s t passes stand (target {e = e2} {fs = fs2} {gs = gs2} at r) = on (Returns v) e2 fs gs fs2 gs2 s t stand r
  returned_by v e fs gs s t passes stand (returning {e = e2} {fs = fs2} {gs = gs2} r) = on (Returns v) e2 fs gs fs2 gs2 s t stand r
  returned_by v e fs gs s t passes stand (throwing {e = e2} {fs = fs2} {gs = gs2} r) = on (Returns v) e2 fs gs fs2 gs2 s t stand r
  returned_by v e fs gs s t passes stand (catching {e = e2} {fs = fs2} {gs = gs2} x names handler r) = on (Returns v) e2 fs gs fs2 gs2 s t stand r
  returned_by v e fs gs s t passes stand (finishing {e = e2} {fs = fs2} {gs = gs2} last r) = finish_alike (Returns v) last (placed e2 fs2 s) (with_frames gs2 t) (stand_under e2 fs gs fs2 gs2 s t stand) r
  returned_by v e fs gs s t passes stand (pending {e = e2} {fs = fs2} {gs = gs2} c r) = on (Returns v) e2 fs gs fs2 gs2 s t stand r
  returned_by v e fs gs s t passes stand (restore {n = n} {e = e2} {fs = fs2} {gs = gs2} away r) =
      (_, refl, at_same (Hand (Returns v)) tt (stand_within owners seats (n ∷ e2) e2 (with_frames fs2 s) (with_frames gs2 t) (stand_under (n ∷ e2) fs gs fs2 gs2 s t stand) (below_rest (length seats) n e2 stand.below)) r)
  returned_by v e fs gs s t passes stand (derived {e = e2} {fs = fs2} {gs = gs2} n r) = on (Returns v) e2 fs gs fs2 gs2 s t stand r
  returned_by v e fs gs s t passes stand (instantiates {e = e2} {fs = fs2} {gs = gs2} body r) = on (Returns v) e2 fs gs fs2 gs2 s t stand r
  returned_by v e fs gs s t passes stand (prototype {e = e2} {fs = fs2} {gs = gs2} body r) = on (Returns v) e2 fs gs fs2 gs2 s t stand r
  returned_by v e fs gs s t passes stand (starts {e = e2} {fs = fs2} {gs = gs2} body r) = on (Returns v) e2 fs gs fs2 gs2 s t stand r
  returned_by v e fs gs s t passes stand (resumes {e = e2} {fs = fs2} {gs = gs2} n r) =
      (_, refl, at_same (Hand (Returns v)) tt (stand_generator owners seats (placed e2 fs2 s) (with_frames gs2 t) n Completed Completed completed (stand_under e2 fs gs fs2 gs2 s t stand)) r)

  waits_jumped : (w : Waits) (goes_on : Bool) (label : Option Label) (e : Environment) (ls : List CoreLink) (fs gs : Frames1) (s t : CoreState)
      → Stood e (waiting w ls ∷ fs) (waiting w (opened owners (cell_along seats e) ls).links ∷ ((opened owners (cell_along seats e) ls).frames ++ gs)) s t → At e fs gs
      → A (abrupt (rows core) (placed e fs s) (waiting w ls) (Jumps goes_on label)) (abrupt (rows core2) (with_frames ((opened owners (cell_along seats e) ls).frames ++ gs) t) (waiting w (opened owners (cell_along seats e) ls).links) (Jumps goes_on label))
  unfolding abrupt
  waits_jumped WaitsAfter goes_on label e ls fs gs s t stand r =
      let o = opened owners (cell_along seats e) ls in
      past (Jumps goes_on label) e (waiting WaitsAfter ls ∷ fs) (waiting WaitsAfter o.links ∷ (o.frames ++ gs)) fs gs ls s t tt stand r
  waits_jumped (WaitsBehind v2) goes_on label e ls fs gs s t stand r =
      let o = opened owners (cell_along seats e) ls in
      past (Jumps goes_on label) e (waiting (WaitsBehind v2) ls ∷ fs) (waiting (WaitsBehind v2) o.links ∷ (o.frames ++ gs)) fs gs ls s t tt stand r
  waits_jumped (WaitsKeyed base) goes_on label e ls fs gs s t stand r =
      let o = opened owners (cell_along seats e) ls in
      past (Jumps goes_on label) e (waiting (WaitsKeyed base) ls ∷ fs) (waiting (WaitsKeyed base) o.links ∷ (o.frames ++ gs)) fs gs ls s t tt stand r
  waits_jumped (WaitsToStore base k) goes_on label e ls fs gs s t stand r =
      let o = opened owners (cell_along seats e) ls in
      past (Jumps goes_on label) e (waiting (WaitsToStore base k) ls ∷ fs) (waiting (WaitsToStore base k) o.links ∷ (o.frames ++ gs)) fs gs ls s t tt stand r
  waits_jumped (WaitsToStep u base k) goes_on label e ls fs gs s t stand r =
      let o = opened owners (cell_along seats e) ls in
      past (Jumps goes_on label) e (waiting (WaitsToStep u base k) ls ∷ fs) (waiting (WaitsToStep u base k) o.links ∷ (o.frames ++ gs)) fs gs ls s t tt stand r
  waits_jumped (WaitsSpread list) goes_on label e ls fs gs s t stand r =
      let o = opened owners (cell_along seats e) ls in
      past (Jumps goes_on label) e (waiting (WaitsSpread list) ls ∷ fs) (waiting (WaitsSpread list) o.links ∷ (o.frames ++ gs)) fs gs ls s t tt stand r
  waits_jumped (WaitsSpreadStep list it) goes_on label e ls fs gs s t stand r =
      let o = opened owners (cell_along seats e) ls in
      past (Jumps goes_on label) e (waiting (WaitsSpreadStep list it) ls ∷ fs) (waiting (WaitsSpreadStep list it) o.links ∷ (o.frames ++ gs)) fs gs ls s t tt stand r
  waits_jumped (WaitsSpreadValue list it) goes_on label e ls fs gs s t stand r =
      let o = opened owners (cell_along seats e) ls in
      past (Jumps goes_on label) e (waiting (WaitsSpreadValue list it) ls ∷ fs) (waiting (WaitsSpreadValue list it) o.links ∷ (o.frames ++ gs)) fs gs ls s t tt stand r
  waits_jumped (WaitsHeritage f heritage) goes_on label e ls fs gs s t stand r =
      let o = opened owners (cell_along seats e) ls in
      past (Jumps goes_on label) e (waiting (WaitsHeritage f heritage) ls ∷ fs) (waiting (WaitsHeritage f heritage) o.links ∷ (o.frames ++ gs)) fs gs ls s t tt stand r
  waits_jumped WaitsPrototype goes_on label e ls fs gs s t stand r =
      let o = opened owners (cell_along seats e) ls in
      past (Jumps goes_on label) e (waiting WaitsPrototype ls ∷ fs) (waiting WaitsPrototype o.links ∷ (o.frames ++ gs)) fs gs ls s t tt stand r
  waits_jumped WaitsYield goes_on label e ls fs gs s t stand r =
      let o = opened owners (cell_along seats e) ls in
      past (Jumps goes_on label) e (waiting WaitsYield ls ∷ fs) (waiting WaitsYield o.links ∷ (o.frames ++ gs)) fs gs ls s t tt stand r
  waits_jumped (WaitsDelegate it) goes_on label e ls fs gs s t stand r =
      let o = opened owners (cell_along seats e) ls in
      past (Jumps goes_on label) e (waiting (WaitsDelegate it) ls ∷ fs) (waiting (WaitsDelegate it) o.links ∷ (o.frames ++ gs)) fs gs ls s t tt stand r
  waits_jumped WaitsDelegateStart goes_on label e ls fs gs s t stand r =
      let o = opened owners (cell_along seats e) ls in
      past (Jumps goes_on label) e (waiting WaitsDelegateStart ls ∷ fs) (waiting WaitsDelegateStart o.links ∷ (o.frames ++ gs)) fs gs ls s t tt stand r
  waits_jumped (WaitsDelegateTurn it kind v2) goes_on label e ls fs gs s t stand r =
      let o = opened owners (cell_along seats e) ls in
      past (Jumps goes_on label) e (waiting (WaitsDelegateTurn it kind v2) ls ∷ fs) (waiting (WaitsDelegateTurn it kind v2) o.links ∷ (o.frames ++ gs)) fs gs ls s t tt stand r
  waits_jumped (WaitsDelegateDone it kind v2) goes_on label e ls fs gs s t stand r =
      let o = opened owners (cell_along seats e) ls in
      past (Jumps goes_on label) e (waiting (WaitsDelegateDone it kind v2) ls ∷ fs) (waiting (WaitsDelegateDone it kind v2) o.links ∷ (o.frames ++ gs)) fs gs ls s t tt stand r
  waits_jumped (WaitsDelegateValue kind) goes_on label e ls fs gs s t stand r =
      let o = opened owners (cell_along seats e) ls in
      past (Jumps goes_on label) e (waiting (WaitsDelegateValue kind) ls ∷ fs) (waiting (WaitsDelegateValue kind) o.links ∷ (o.frames ++ gs)) fs gs ls s t tt stand r

  plain_jumped : (f : Frame Mark CoreWork) (goes_on : Bool) (label : Option Label) (e : Environment) (fs gs : Frames1) (s t : CoreState) → IsPlain f → Stood e (f ∷ fs) (f ∷ gs) s t → At e fs gs
      → A (abrupt (rows core) (placed e fs s) f (Jumps goes_on label)) (abrupt (rows core2) (with_frames gs t) f (Jumps goes_on label))
  unfolding abrupt
  plain_jumped (Operation site c) goes_on label e fs gs s t is stand r = on (Jumps goes_on label) e (Operation site c ∷ fs) (Operation site c ∷ gs) fs gs s t stand r
  plain_jumped (Making f vs new) goes_on label e fs gs s t is stand r = on (Jumps goes_on label) e (Making f vs new ∷ fs) (Making f vs new ∷ gs) fs gs s t stand r
  plain_jumped (Made o) goes_on label e fs gs s t is stand r = on (Jumps goes_on label) e (Made o ∷ fs) (Made o ∷ gs) fs gs s t stand r
  plain_jumped f goes_on label e fs gs s t is stand r = absurd is

  jumped_by : (goes_on : Bool) (label : Option Label) (e : Environment) (fs gs : Frames1) (s t : CoreState) → PassesHere (Jumps goes_on label) fs → Stood e fs gs s t → At e fs gs → A (hand1 (Jumps goes_on label) e fs s) (hand2 (Jumps goes_on label) gs t)
  unfolding hand abrupt
  jumped_by goes_on label e fs gs s t passes stand none = absurd passes
  jumped_by goes_on label e fs gs s t passes stand (plain {e = e2} {fs = fs2} {gs = gs2} {f = f} is r) = plain_jumped f goes_on label e2 fs2 gs2 s t is stand r
  jumped_by goes_on label e fs gs s t passes stand (waits {e = e2} {fs = fs2} {gs = gs2} w ls r) = waits_jumped w goes_on label e2 ls fs2 gs2 s t stand r
  jumped_by goes_on label e fs gs s t passes stand (waits_for_cell {e = e2} {fs = fs2} {gs = gs2} x l ls is r) = past (Jumps goes_on label) e2 fs gs fs2 gs2 ls s t tt stand r
  jumped_by goes_on label e fs gs s t passes stand (part {e = e2} {fs = fs2} {gs = gs2} p c r) = past (Jumps goes_on label) e2 fs gs fs2 gs2 p.links s t tt stand r
  jumped_by goes_on label e fs gs s t passes stand (fetch {e = e2} {fs = fs2} {gs = gs2} base k p r) = past (Jumps goes_on label) e2 fs gs fs2 gs2 p.links s t tt stand r
  jumped_by goes_on label e fs gs s t passes stand (rest {e = e2} {e2 = e3} {fs = fs2} {fs2 = fs3} {gs = gs2} {ys = ys} xs tail r) =
      (_, refl, at_exit (Jumps goes_on label) tt (stand_under e2 fs gs fs2 gs2 s t stand) (e3, fs3, tail, r))
  jumped_by goes_on label e fs gs s t passes stand (choice {e = e2} {fs = fs2} {gs = gs2} body cases r) = on (Jumps goes_on label) e2 fs gs fs2 gs2 s t stand r
  jumped_by goes_on label e fs gs s t passes stand (subject {e = e2} {fs = fs2} {gs = gs2} cases r) = on (Jumps goes_on label) e2 fs gs fs2 gs2 s t stand r
  jumped_by goes_on label e fs gs s t passes stand (matching {e = e2} {fs = fs2} {gs = gs2} w cases all r) = on (Jumps goes_on label) e2 fs gs fs2 gs2 s t stand r
  jumped_by goes_on label e fs gs s t passes stand (loop_test {e = e2} {fs = fs2} {gs = gs2} l r) = on (Jumps goes_on label) e2 fs gs fs2 gs2 s t stand r
  jumped_by goes_on label e fs gs s t passes stand (loop_body {e = e2} {fs = fs2} {gs = gs2} l r) = loop_jumped_alike l goes_on label (placed e2 fs2 s) (with_frames gs2 t) (stand_under e2 fs gs fs2 gs2 s t stand) r
  jumped_by goes_on label e fs gs s t passes stand (loop_update {e = e2} {fs = fs2} {gs = gs2} l r) = on (Jumps goes_on label) e2 fs gs fs2 gs2 s t stand r
  jumped_by goes_on label e fs gs s t passes stand (target {e = e2} {fs = fs2} {gs = gs2} at r) = target_jumped_alike at goes_on label (placed e2 fs2 s) (with_frames gs2 t) (stand_under e2 fs gs fs2 gs2 s t stand) r
  jumped_by goes_on label e fs gs s t passes stand (returning {e = e2} {fs = fs2} {gs = gs2} r) = on (Jumps goes_on label) e2 fs gs fs2 gs2 s t stand r
  jumped_by goes_on label e fs gs s t passes stand (throwing {e = e2} {fs = fs2} {gs = gs2} r) = on (Jumps goes_on label) e2 fs gs fs2 gs2 s t stand r
  jumped_by goes_on label e fs gs s t passes stand (catching {e = e2} {fs = fs2} {gs = gs2} x names handler r) = on (Jumps goes_on label) e2 fs gs fs2 gs2 s t stand r
  jumped_by goes_on label e fs gs s t passes stand (finishing {e = e2} {fs = fs2} {gs = gs2} last r) = finish_alike (Jumps goes_on label) last (placed e2 fs2 s) (with_frames gs2 t) (stand_under e2 fs gs fs2 gs2 s t stand) r
  jumped_by goes_on label e fs gs s t passes stand (pending {e = e2} {fs = fs2} {gs = gs2} c r) = on (Jumps goes_on label) e2 fs gs fs2 gs2 s t stand r
  jumped_by goes_on label e fs gs s t passes stand (restore {n = n} {e = e2} {fs = fs2} {gs = gs2} away r) =
      (_, refl, at_same (Hand (Jumps goes_on label)) tt (stand_within owners seats (n ∷ e2) e2 (with_frames fs2 s) (with_frames gs2 t) (stand_under (n ∷ e2) fs gs fs2 gs2 s t stand) (below_rest (length seats) n e2 stand.below)) r)
  jumped_by goes_on label e fs gs s t passes stand (derived {e = e2} {fs = fs2} {gs = gs2} n r) = on (Jumps goes_on label) e2 fs gs fs2 gs2 s t stand r
  jumped_by goes_on label e fs gs s t passes stand (instantiates {e = e2} {fs = fs2} {gs = gs2} body r) = on (Jumps goes_on label) e2 fs gs fs2 gs2 s t stand r
  jumped_by goes_on label e fs gs s t passes stand (prototype {e = e2} {fs = fs2} {gs = gs2} body r) = on (Jumps goes_on label) e2 fs gs fs2 gs2 s t stand r
  jumped_by goes_on label e fs gs s t passes stand (starts {e = e2} {fs = fs2} {gs = gs2} body r) = on (Jumps goes_on label) e2 fs gs fs2 gs2 s t stand r
  jumped_by goes_on label e fs gs s t passes stand (resumes {e = e2} {fs = fs2} {gs = gs2} n r) =
      (_, refl, at_same (Hand (Jumps goes_on label)) tt (stand_generator owners seats (placed e2 fs2 s) (with_frames gs2 t) n Completed Completed completed (stand_under e2 fs gs fs2 gs2 s t stand)) r)

  abrupt_by : (c : Completion Mark) (e : Environment) (fs gs : Frames1) (s t : CoreState) → IsAbrupt c → PassesHere c fs → Stood e fs gs s t → At e fs gs → A (hand1 c e fs s) (hand2 c gs t)
  abrupt_by (Throws v) e fs gs s t is passes stand r = thrown_by v e fs gs s t passes stand r
  abrupt_by (Returns v) e fs gs s t is passes stand r = returned_by v e fs gs s t passes stand r
  abrupt_by (Jumps goes_on label) e fs gs s t is passes stand r = jumped_by goes_on label e fs gs s t passes stand r
  abrupt_by (Gives v) e fs gs s t is passes stand r = absurd is
  abrupt_by Done e fs gs s t is passes stand r = absurd is

pub ends_alike : StatementsEndAlike
unfolding step
ends_alike core core2 owners seats s t ends stand r = done_by core core2 owners seats s.context.environment s.context.frames t.context.frames s t ends stand r

pub abrupt_ends_alike : AbruptEndsAlike
unfolding step
abrupt_ends_alike core core2 owners seats c s t is passes stand r = abrupt_by core core2 owners seats c s.context.environment s.context.frames t.context.frames s t is passes stand r

-- ---- past cells, and past scopes

past_by : (core2 : Core) (owners : List ℕ) (cell : Var → ℕ) (c : Completion Mark) (w : Option Var) (l : CoreLink) (o : Opened) (gs : Frames1) (t : CoreState) → IsAbrupt c
    → ((k : ℕ) × Way core2 k (Hand c) (with_frames (o.frames ++ gs) t) (Hand c) (with_frames gs t))
    → (k : ℕ) × Way core2 k (Hand c) (with_frames ((opened_by cell w l o).frames ++ gs) t) (Hand c) (with_frames gs t)
past_by core2 owners cell c None l o gs t is way = way
past_by core2 owners cell c (Some x) l o gs t is (k, way) = (suc k, (with_control (Hand c) (with_frames (o.frames ++ gs) t), leave_write core2 (with_frames (o.frames ++ gs) t) (cell x) o.links c is, way))

past_all : (core2 : Core) (owners : List ℕ) (cell : Var → ℕ) (c : Completion Mark) (ls : List CoreLink) (gs : Frames1) (t : CoreState) → IsAbrupt c
    → (k : ℕ) × Way core2 k (Hand c) (with_frames ((opened owners cell ls).frames ++ gs) t) (Hand c) (with_frames gs t)
past_all core2 owners cell c [] gs t is = (0, refl)
past_all core2 owners cell c (l ∷ ls) gs t is =
    past_by core2 owners cell c (write_in owners (out-CoreLink l)) (link_in owners (out-CoreLink l)) (opened owners cell ls) gs t is (past_all core2 owners cell c ls gs t is)

pub cells_passed : CellsArePassed
cells_passed core2 owners seats c links s t is (gs, r, below) =
    let cell = cell_along seats s.context.environment in
    let way = past_all core2 owners cell c links gs t is in
    (way.0, gs, subst (λ fs. Way core2 way.0 (Hand c) (with_frames fs t) (Hand c) (with_frames gs t)) (sym below) way.1, r)

images_tail : (owners : List ℕ) (seats : Seats) (e e2 : Environment) (fs gs : Frames1) (ys : List CoreStat) → Tail owners seats e fs ys e2 gs → images seats e ≡ images seats e2
images_tail owners seats e e2 fs gs ys no_scope = refl
images_tail owners seats e e2 fs gs ys (a_scope {n = n} {e = e3} xs (seat, at, away) tail) =
    ap (λ o. with_image (image_in o) (images seats e3)) at ∙ ap (λ i. with_image i (images seats e3)) away ∙ images_tail owners seats _ _ _ _ _ tail

stand_tail : (owners : List ℕ) (seats : Seats) (e : Environment) (gs : Frames1) (ys : List CoreStat) (s t : CoreState) → Stand owners seats s t → Tail owners seats s.context.environment s.context.frames ys e gs
    → Stand owners seats (placed e gs s) t
stand_tail owners seats e gs ys s t x tail = record {
  states = record {
    heap = x.states.heap;
    memory = x.states.memory;
    closures = x.states.closures;
    callers = x.states.callers;
    ahead = x.states.ahead;
    this_values = x.states.this_values;
    generators = x.states.generators;
    namespaces = x.states.namespaces;
    templates = x.states.templates;
    statics = x.states.statics;
  };
  environment = x.environment ∙ images_tail owners seats s.context.environment e s.context.frames gs ys tail;
  below = tail_below owners seats [] (length seats) s.context.environment e s.context.frames gs ys tail x.below;
  receiver = x.receiver;
  site = x.site;
  own = x.own;
}

pub scopes_passed : ScopesArePassed
scopes_passed core owners seats c ys s t is stand (e, gs, tail, r) =
    let way = left core owners seats s c s.context.environment e s.context.frames gs ys is tail in
    (way.0, placed e gs s, way.1, stand_tail owners seats e gs ys s t stand tail, r)
