-- The relation of states carries what an operation leaves.
use Rattle.std.proofs.Common.{◌≡◌, ℕ, List, ◌∷◌, ◌++◌, refl, sym, ap, subst, ◌∙◌}
use Rattle.es_heap.specs.Heaps.{Heap}
use Rattle.core_ast.specs.declared.tree.CoreLink.{CoreLink}
use Rattle.core_meaning.specs.Marks.{CoreState, CoreWork, Mark}
use Rattle.core_meaning.specs.Rows.{nearest, place_of, pushed, with_control, with_heap}
use Rattle.core_meaning.specs.State.{Calls, Control, Current, Frame, Gives, Go, Hand, Throws, Turn}
use Rattle.cells_keep_runs.specs.Alike.{Along, Carries, Config, LinkFrame, OfAfter, OfBehind, OfKeyed, OfStepAt, OfStore, link_frame}
use Rattle.cells_keep_runs.specs.Carried.{UntouchedKeepRelated}
use Rattle.cells_keep_runs.specs.Opened.{opened, with_more_frames}
use Rattle.cells_keep_runs.specs.Related.{BelowCells, Frames, IsBare, Related, Seats, Stand, States, Waits, WaitsAfter, WaitsBehind, WaitsKeyed, WaitsToStep, WaitsToStore, at_links, at_same, cell_along, past_cells, plain, same_current, waiting, waits}
use Rattle.cells_keep_runs.proofs.Alike.{acts}
use Rattle.cells_keep_runs.proofs.Passed.{places}

-- a state with another heap, or another frame
states_heap : (owners : List ℕ) (seats : Seats) (s t : CoreState) (h : Heap) → States owners seats s t → States owners seats (with_heap h s) (with_heap h t)
states_heap owners seats s t h x = record {
  heap = refl;
  memory = x.memory;
  closures = x.closures;
  callers = x.callers;
  ahead = x.ahead;
  this_values = x.this_values;
  generators = x.generators;
  namespaces = x.namespaces;
  templates = x.templates;
  statics = x.statics;
}

states_pushed : (owners : List ℕ) (seats : Seats) (s t : CoreState) (f g : Frame Mark CoreWork) → States owners seats s t → States owners seats (pushed f s) (pushed g t)
states_pushed owners seats s t f g x = record {
  heap = x.heap;
  memory = x.memory;
  closures = x.closures;
  callers = x.callers;
  ahead = x.ahead;
  this_values = x.this_values;
  generators = x.generators;
  namespaces = x.namespaces;
  templates = x.templates;
  statics = x.statics;
}

pub stand_heap : (owners : List ℕ) (seats : Seats) (s t : CoreState) (h : Heap) → Stand owners seats s t → Stand owners seats (with_heap h s) (with_heap h t)
stand_heap owners seats s t h x = record {
  states = states_heap owners seats s t h x.states;
  environment = x.environment;
  below = x.below;
  receiver = x.receiver;
  site = x.site;
  own = x.own;
}

pub stand_pushed : (owners : List ℕ) (seats : Seats) (s t : CoreState) (f g : Frame Mark CoreWork) → Stand owners seats s t → Stand owners seats (pushed f s) (pushed g t)
stand_pushed owners seats s t f g x = record {
  states = states_pushed owners seats s t f g x.states;
  environment = x.environment;
  below = x.below;
  receiver = x.receiver;
  site = x.site;
  own = x.own;
}

-- the source with a frame more
pub stand_source : (owners : List ℕ) (seats : Seats) (s t : CoreState) (f : Frame Mark CoreWork) → Stand owners seats s t → Stand owners seats (pushed f s) t
stand_source owners seats s t f x = record {
  states = record {
    heap = x.states.heap;
    memory = x.states.memory;
    closures = x.states.closures;
    callers = x.states.callers;
    ahead = x.states.ahead;
    this_values = x.states.this_values;
    generators = x.states.generators;
    namespaces = x.states.namespaces;
    templates = x.states.templates;
    statics = x.states.statics;
  };
  environment = x.environment;
  below = x.below;
  receiver = x.receiver;
  site = x.site;
  own = x.own;
}

-- the target with more frames
states_frames : (owners : List ℕ) (seats : Seats) (s t : CoreState) (fs : List (Frame Mark CoreWork)) → States owners seats s t → States owners seats s (with_more_frames fs t)
states_frames owners seats s t fs x = record {
  heap = x.heap;
  memory = x.memory;
  closures = x.closures;
  callers = x.callers;
  ahead = x.ahead;
  this_values = x.this_values;
  generators = x.generators;
  namespaces = x.namespaces;
  templates = x.templates;
  statics = x.statics;
}

pub stand_frames : (owners : List ℕ) (seats : Seats) (s t : CoreState) (fs : List (Frame Mark CoreWork)) → Stand owners seats s t → Stand owners seats s (with_more_frames fs t)
stand_frames owners seats s t fs x = record {
  states = states_frames owners seats s t fs x.states;
  environment = x.environment;
  below = x.below;
  receiver = x.receiver;
  site = x.site;
  own = x.own;
}

module _ (owners : List ℕ) (seats : Seats) where
  abbrev pub R : Config → Config → Type 0
  R = Related owners seats

  abbrev pub links_of : CoreState → List CoreLink → List CoreLink
  links_of s ls = (opened owners (cell_along seats s.context.environment) ls).links

  abbrev pub B : Along → Along → Type 0
  B p q = Stand owners seats p.state q.state × BelowCells owners seats p.state p.links q.state × (q.links ≡ links_of p.state p.links)

  abbrev pub U : CoreState → CoreState → Type 0
  U s u = Stand owners seats s u × Frames owners seats s.context.environment s.context.frames u.context.frames

  went : (p q : Along) (c : Current Mark) → B p q → R (with_control (Go c p.links) p.state) (with_control (Go c q.links) q.state)
  went p q c (stand, cells, is) =
      subst (λ ls. R (with_control (Go c p.links) p.state) (with_control (Go c ls) q.state)) (sym is) (at_links p.links same_current stand cells)

  waits_of : LinkFrame → Waits
  waits_of OfAfter = WaitsAfter
  waits_of (OfBehind v) = WaitsBehind v
  waits_of (OfKeyed base) = WaitsKeyed base
  waits_of (OfStore base k) = WaitsToStore base k
  waits_of (OfStepAt u base k) = WaitsToStep u base k

  waiting_is : (f : LinkFrame) (ls : List CoreLink) → waiting (waits_of f) ls ≡ link_frame f ls
  unfolding waits_of
  waiting_is OfAfter ls = refl
  waiting_is (OfBehind v) ls = refl
  waiting_is (OfKeyed base) ls = refl
  waiting_is (OfStore base k) ls = refl
  waiting_is (OfStepAt u base k) ls = refl

  abbrev FramesAt : CoreState → List (Frame Mark CoreWork) → List (Frame Mark CoreWork) → Type 0
  FramesAt s fs gs = Frames owners seats s.context.environment fs gs

  pub pushed_frames : (p q : Along) (f : LinkFrame) → B p q → FramesAt p.state (link_frame f p.links ∷ p.state.context.frames) (link_frame f q.links ∷ q.state.context.frames)
  pushed_frames p q f (stand, (gs, r, below), is) =
      let o = opened owners (cell_along seats p.state.context.environment) p.links in
      let w : FramesAt p.state (waiting (waits_of f) p.links ∷ p.state.context.frames) (waiting (waits_of f) o.links ∷ (o.frames ++ gs)) = waits (waits_of f) p.links r in
      let a = subst (λ x. FramesAt p.state (x ∷ p.state.context.frames) (waiting (waits_of f) o.links ∷ (o.frames ++ gs))) (waiting_is f p.links) w in
      let b = subst (λ x. FramesAt p.state (link_frame f p.links ∷ p.state.context.frames) (x ∷ (o.frames ++ gs))) (waiting_is f o.links ∙ ap (λ ls. link_frame f ls) (sym is)) a in
      subst (λ hs. FramesAt p.state (link_frame f p.links ∷ p.state.context.frames) (link_frame f q.links ∷ hs)) (sym below) b

  same_place : (s u : CoreState) → U s u → place_of u ≡ place_of s
  same_place s u (stand, r) =
      places owners seats s.context.environment s.context.frames u.context.frames u.context.site r ∙ ap (λ site. nearest s.context.frames site) stand.site

  at_bare : (s u : CoreState) (c : Control Mark) → IsBare c → U s u → R (with_control c s) (with_control c u)
  at_bare s u c bare (stand, r) = at_same c bare stand r

  pub carries : Carries R B U
  carries = record {
    heap = λ p q b. b.0.states.heap;
    heaps = λ p q h b. (stand_heap owners seats p.state q.state h b.0, b.1, b.2);
    goes = λ p q c b. went p q c b;
    throws = λ p q v b. past_cells (Throws v) p.links tt b.0 b.1;
    frames = λ p q f b. (stand_pushed owners seats p.state q.state (link_frame f p.links) (link_frame f q.links) b.0, pushed_frames p q f b);
    under_heap = λ s u b. b.0.states.heap;
    under_heaps = λ s u h b. (stand_heap owners seats s u h b.0, b.1);
    under_place = λ s u b. same_place s u b;
    under_frames = λ s u f is b. (stand_pushed owners seats s u f f b.0, plain is b.1);
    turns = λ s u site c b. at_bare s u (Turn site c) tt b;
    calls = λ s u c b. at_bare s u (Calls c) tt b;
    gives = λ s u v b. at_bare s u (Hand (Gives v)) tt b;
    under_throws = λ s u v b. at_bare s u (Hand (Throws v)) tt b;
  }

pub untouched : UntouchedKeepRelated
untouched core core2 owners seats o site c values parts links s t is stand cells =
    let p : Along = record { links = links; state = s } in
    let q : Along = record { links = (opened owners (cell_along seats s.context.environment) links).links; state = t } in
    acts (Related owners seats) (B owners seats) (U owners seats) (carries owners seats) core core2 o site c values parts p q is (stand, cells, refl)
