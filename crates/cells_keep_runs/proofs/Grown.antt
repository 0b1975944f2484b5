-- Environments, cells and frames, where there are more records.
use Rattle.std.specs.List.{list_all}
use Rattle.std.proofs.Common.{◌≡◌, ℕ, zero, suc, ◌+◌, ◌<◌, ◌≤◌, ◌&&◌, ◌||◌, List, [], ◌∷◌, ◌++◌, Option, length, nat_lt, slice_get, refl, sym, ap, arith, subst, ◌∙◌}
use Rattle.std.proofs.lemmas.Bool.{and_parts, lt-ltb, ltb-true}
use Rattle.std.proofs.lemmas.List.{length-append}
use Rattle.es_value.specs.declared.value.Value.{Value}
use Rattle.core_ast.specs.declared.parts.FunctionId.{FunctionId}
use Rattle.core_ast.specs.declared.parts.Var.{Var}
use Rattle.core_ast.specs.declared.tree.CoreStat.{CoreStat}
use Rattle.core_meaning.specs.Marks.{CoreState, CoreWork, Generator, KeptCell, Mark, Own}
use Rattle.core_meaning.specs.State.{After, Closure, Context, Environment, EnvironmentRecord, Fetch, Frame, Part, Restore}
use Rattle.pass_rules.specs.Cells.{is_among}
use Rattle.cells_keep_runs.specs.Memory.{keeping_in, kept_along}
use Rattle.cells_keep_runs.specs.Opened.{opened}
use Rattle.cells_keep_runs.specs.Places.{Below}
use Rattle.cells_keep_runs.specs.Ways.{writing}
use Rattle.cells_keep_runs.specs.Grown.{CellsStay, EnvironmentsStay, FramesStay}
use Rattle.cells_keep_runs.specs.Related.{All, Closures, Contexts, Frames, Generators, IsScope, Kept, Memory, Seats, States, Tail, a_scope, at_start, at_yield, completed, executing, catching, cell_along, cell_found, cells_in, choice, derived, fetch, finishing, image_in, images, instantiates, loop_body, loop_test, loop_update, matching, no_scope, none, or_outer, part, part_flat, pending, plain, prototype, rest, restore, resumes, returning, starts, subject, target, throwing, waiting, waits, waits_for_cell, with_image}
use Rattle.cells_keep_runs.proofs.Renewed.{got_below}

pub slice_left : {A : Type 0} (xs ys : List A) (n : ℕ) → n < length xs → slice_get (xs ++ ys) n ≡ slice_get xs n
slice_left [] ys n h = absurd (omega arith)
slice_left (x ∷ xs) ys zero h = refl
slice_left (x ∷ xs) ys (suc n) h = slice_left xs ys n (omega arith)

pub below_here : (k n : ℕ) (e : Environment) → Below k (n ∷ e) → n < k
below_here k n e h = ltb-true n k (and_parts (nat_lt n k) (list_all (λ m. nat_lt m k) e) h).0

pub below_rest : (k n : ℕ) (e : Environment) → Below k (n ∷ e) → Below k e
below_rest k n e h = (and_parts (nat_lt n k) (list_all (λ m. nat_lt m k) e) h).1

pub environments_stay : EnvironmentsStay
environments_stay seats more [] h = refl
environments_stay seats more (n ∷ e) h =
    ap (λ s. with_image (image_in s) (images (seats ++ more) e)) (slice_left seats more n (below_here (length seats) n e h))
    ∙ ap (λ k. with_image (image_in (slice_get seats n)) k) (environments_stay seats more e (below_rest (length seats) n e h))

pub cells_stay : CellsStay
cells_stay seats more [] x h = refl
cells_stay seats more (n ∷ e) x h =
    ap (λ s. or_outer (cell_found (cells_in s) x) (cell_along (seats ++ more) e x)) (slice_left seats more n (below_here (length seats) n e h))
    ∙ ap (λ k. or_outer (cell_found (cells_in (slice_get seats n)) x) k) (cells_stay seats more e x (below_rest (length seats) n e h))

pub keeping_stays : (seats more : Seats) (e : Environment) (f : FunctionId) (x : Var) → Below (length seats) e → kept_along (seats ++ more) e f x ≡ kept_along seats e f x
keeping_stays seats more [] f x h = refl
keeping_stays seats more (n ∷ e) f x h =
    ap (λ s. is_among x (keeping_in s f) || kept_along (seats ++ more) e f x) (slice_left seats more n (below_here (length seats) n e h))
    ∙ ap (λ b. is_among x (keeping_in (slice_get seats n) f) || b) (keeping_stays seats more e f x (below_rest (length seats) n e h))

module _ (owners : List ℕ) (seats more : Seats) where
  pub scope_stays : (n : ℕ) → n < length seats → IsScope seats n → IsScope (seats ++ more) n
  scope_stays n h (seat, at, is) = (seat, slice_left seats more n h ∙ at, is)

  scope_was : (n : ℕ) → n < length seats → IsScope (seats ++ more) n → IsScope seats n
  scope_was n h (seat, at, is) = (seat, sym (slice_left seats more n h) ∙ at, is)

  -- the cells along an environment, as they are and as they were
  same_cells : (e : Environment) → Below (length seats) e → cell_along seats e ≡ cell_along (seats ++ more) e
  same_cells e h = λ i x. sym (cells_stay seats more e x h) i

  pub tail_below : (k : ℕ) (e e2 : Environment) (fs gs : List (Frame Mark CoreWork)) (ys : List CoreStat) → Tail owners seats e fs ys e2 gs → Below k e → Below k e2
  tail_below k e e2 fs gs ys no_scope h = h
  tail_below k e e2 fs gs ys (a_scope {n = n} {e = e3} xs is_scope tail) h = tail_below k _ _ _ _ _ tail (below_rest k n e3 h)

  pub tail_stays : (e e2 : Environment) (fs gs : List (Frame Mark CoreWork)) (ys : List CoreStat) → Below (length seats) e → Tail owners seats e fs ys e2 gs → Tail owners (seats ++ more) e fs ys e2 gs
  tail_stays e e2 fs gs ys h no_scope = no_scope
  tail_stays e e2 fs gs ys h (a_scope {n = n} {e = e3} xs is_scope tail) =
      a_scope xs (scope_stays n (below_here (length seats) n e3 h) is_scope) (tail_stays _ _ _ _ _ (below_rest (length seats) n e3 h) tail)

  pub frames_stay : (e : Environment) (fs gs : List (Frame Mark CoreWork)) → Below (length seats) e → Frames owners seats e fs gs → Frames owners (seats ++ more) e fs gs
  frames_stay e fs gs h none = none
  frames_stay e fs gs h (plain is r) = plain is (frames_stay _ _ _ h r)
  frames_stay e fs gs h (waits {e = e2} {fs = fs2} {gs = gs2} w ls r) =
      subst (λ cell. Frames owners (seats ++ more) e2 (waiting w ls ∷ fs2) (waiting w (opened owners cell ls).links ∷ ((opened owners cell ls).frames ++ gs2)))
      (sym (same_cells e2 h)) (waits w ls (frames_stay _ _ _ h r))
  frames_stay e fs gs h (waits_for_cell {e = e2} {fs = fs2} {gs = gs2} x l ls is r) =
      subst (λ cell. Frames owners (seats ++ more) e2 (After (l ∷ ls) ∷ fs2) (Part (writing (cell x) (opened owners cell ls).links) ∷ ((opened owners cell ls).frames ++ gs2)))
      (sym (same_cells e2 h)) (waits_for_cell x l ls is (frames_stay _ _ _ h r))
  frames_stay e fs gs h (part {e = e2} {fs = fs2} {gs = gs2} {c = c} p current r) =
      subst (λ cell. Frames owners (seats ++ more) e2 (Part p ∷ fs2) (Part (part_flat owners p c (opened owners cell p.links).links) ∷ ((opened owners cell p.links).frames ++ gs2)))
      (sym (same_cells e2 h)) (part p current (frames_stay _ _ _ h r))
  frames_stay e fs gs h (fetch {e = e2} {fs = fs2} {gs = gs2} base k p r) =
      subst (λ cell. Frames owners (seats ++ more) e2 (Fetch base k p ∷ fs2) (Fetch base k (part_flat owners p p.current (opened owners cell p.links).links) ∷ ((opened owners cell p.links).frames ++ gs2)))
      (sym (same_cells e2 h)) (fetch base k p (frames_stay _ _ _ h r))
  frames_stay e fs gs h (rest {e = e2} {e2 = e3} {fs = fs2} {fs2 = fs3} {ys = ys} xs tail r) =
      rest xs (tail_stays e2 e3 fs2 fs3 ys h tail) (frames_stay _ _ _ (tail_below (length seats) e2 e3 fs2 fs3 ys tail h) r)
  frames_stay e fs gs h (choice body cases r) = choice body cases (frames_stay _ _ _ h r)
  frames_stay e fs gs h (subject cases r) = subject cases (frames_stay _ _ _ h r)
  frames_stay e fs gs h (matching v cases all r) = matching v cases all (frames_stay _ _ _ h r)
  frames_stay e fs gs h (loop_test l r) = loop_test l (frames_stay _ _ _ h r)
  frames_stay e fs gs h (loop_body l r) = loop_body l (frames_stay _ _ _ h r)
  frames_stay e fs gs h (loop_update l r) = loop_update l (frames_stay _ _ _ h r)
  frames_stay e fs gs h (target label r) = target label (frames_stay _ _ _ h r)
  frames_stay e fs gs h (returning r) = returning (frames_stay _ _ _ h r)
  frames_stay e fs gs h (throwing r) = throwing (frames_stay _ _ _ h r)
  frames_stay e fs gs h (catching x names handler r) = catching x names handler (frames_stay _ _ _ h r)
  frames_stay e fs gs h (finishing last r) = finishing last (frames_stay _ _ _ h r)
  frames_stay e fs gs h (pending c r) = pending c (frames_stay _ _ _ h r)
  frames_stay e fs gs h (restore {n = n} {e = e2} {fs = fs2} {gs = gs2} away r) =
      let below : Below (length seats) e2 = below_rest (length seats) n e2 h in
      subst (λ e3. Frames owners (seats ++ more) (n ∷ e2) (Restore e2 ∷ fs2) (Restore e3 ∷ gs2)) (environments_stay seats more e2 below)
      (restore (λ is. away (scope_was n (below_here (length seats) n e2 h) is)) (frames_stay _ _ _ below r))
  frames_stay e fs gs h (derived n r) = derived n (frames_stay _ _ _ h r)
  frames_stay e fs gs h (instantiates body r) = instantiates body (frames_stay _ _ _ h r)
  frames_stay e fs gs h (prototype body r) = prototype body (frames_stay _ _ _ h r)
  frames_stay e fs gs h (starts body r) = starts body (frames_stay _ _ _ h r)
  frames_stay e fs gs h (resumes n r) = resumes n (frames_stay _ _ _ h r)

pub all_frames_stay : FramesStay
all_frames_stay owners seats more e fs gs h r = frames_stay owners seats more e fs gs h r

-- ---- closures, contexts and generators

pub below_cons : (k n : ℕ) (e : Environment) → n < k → Below k e → Below k (n ∷ e)
below_cons k n e l h = ap (λ b. b && list_all (λ j. nat_lt j k) e) (lt-ltb n k l) ∙ h

pub below_more : (k m : ℕ) (e : Environment) → k ≤ m → Below k e → Below m e
below_more k m [] l h = refl
below_more k m (n ∷ e) l h =
    let p : n < k = below_here k n e h in
    let q : n < m = omega arith in
    below_cons m n e q (below_more k m e l (below_rest k n e h))

module _ (owners : List ℕ) (seats more : Seats) where
  pub more_seats : length seats ≤ length (seats ++ more)
  more_seats = let p : length (seats ++ more) ≡ length seats + length more = length-append seats more in omega arith

  kept_stay : (e : Environment) (ks : List KeptCell) → Below (length seats) e → Kept seats e ks → Kept (seats ++ more) e ks
  kept_stay e [] h r = tt
  kept_stay e (k ∷ ks) h (is, (n, seat, at, found), r) =
      (cells_stay seats more e k.var h ∙ is, (n, seat, slice_left seats more n (got_below seats n seat at) ∙ at, found), kept_stay e ks h r)

  pub closure_stays : (a b : Closure Own) → Closures owners seats a b → Closures owners (seats ++ more) a b
  closure_stays a b r = record {
    function = r.function;
    environment = r.environment ∙ sym (environments_stay seats more a.environment r.below);
    below = below_more (length seats) (length (seats ++ more)) a.environment more_seats r.below;
    own = r.own;
    cells = kept_stay a.environment b.own.cells r.below r.cells;
    uncelled = r.uncelled;
    foreign = r.foreign;
    whole = λ x along. r.whole x (sym (keeping_stays seats more a.environment a.function x r.below) ∙ along);
  }

  pub closures_stay : (xs ys : List (Closure Own)) → All (Closures owners seats) xs ys → All (Closures owners (seats ++ more)) xs ys
  closures_stay [] [] r = tt
  closures_stay (x ∷ xs) (y ∷ ys) (r, rs) = (closure_stays x y r, closures_stay xs ys rs)
  closures_stay [] (y ∷ ys) r = absurd r
  closures_stay (x ∷ xs) [] r = absurd r

  pub context_stays : (a b : Context Mark Own CoreWork) → Contexts owners seats a b → Contexts owners (seats ++ more) a b
  context_stays a b r = record {
    environment = r.environment ∙ sym (environments_stay seats more a.environment r.below);
    below = below_more (length seats) (length (seats ++ more)) a.environment more_seats r.below;
    receiver = r.receiver;
    site = r.site;
    own = r.own;
    frames = frames_stay owners seats more a.environment a.frames b.frames r.below r.frames;
  }

  pub contexts_stay : (xs ys : List (Context Mark Own CoreWork)) → All (Contexts owners seats) xs ys → All (Contexts owners (seats ++ more)) xs ys
  contexts_stay [] [] r = tt
  contexts_stay (x ∷ xs) (y ∷ ys) (r, rs) = (context_stays x y r, contexts_stay xs ys rs)
  contexts_stay [] (y ∷ ys) r = absurd r
  contexts_stay (x ∷ xs) [] r = absurd r

  pub generator_stays : (a b : Generator) → Generators owners seats a b → Generators owners (seats ++ more) a b
  generator_stays a b (at_start {a = c} {b = d} r) = at_start (context_stays c d r)
  generator_stays a b (at_yield {a = c} {b = d} r) = at_yield (context_stays c d r)
  generator_stays a b executing = executing
  generator_stays a b completed = completed

  pub generators_stay : (xs ys : List Generator) → All (Generators owners seats) xs ys → All (Generators owners (seats ++ more)) xs ys
  generators_stay [] [] r = tt
  generators_stay (x ∷ xs) (y ∷ ys) (r, rs) = (generator_stays x y r, generators_stay xs ys rs)
  generators_stay [] (y ∷ ys) r = absurd r
  generators_stay (x ∷ xs) [] r = absurd r

  -- states with more records
  pub states_stay : (s t : CoreState) (c d : Context Mark Own CoreWork) (rs ts : List (EnvironmentRecord Mark)) (cells : List (Option Value)) → States owners seats s t → Memory owners (seats ++ more) rs ts cells
      → States owners (seats ++ more) (record s { records = rs; context = c }) (record t { records = ts; store = record t.store { cells = cells }; context = d })
  states_stay s t c d rs ts cells x mem = record {
    heap = x.heap;
    memory = mem;
    closures = closures_stay s.closures t.closures x.closures;
    callers = contexts_stay s.callers t.callers x.callers;
    ahead = x.ahead;
    this_values = x.this_values;
    generators = generators_stay s.store.generators t.store.generators x.generators;
    namespaces = x.namespaces;
    templates = x.templates;
    statics = x.statics;
  }
