-- When a state before the flattening of scopes and one behind it belong together. Heaps are equal, and closures, generators and all that
-- is stored but cells have the same numbers. An environment is that of the source with images in the place of records, and without those
-- that have none.
--
-- Frames are those of the source, flattened, but for three things. A scope has left a Restore and a Rest on the source's stack, whose
-- statements stand behind those of the target's Rest. A shared name that an expression writes waits as a frame of its own. And where
-- a frame would wait with no links but for such a name, there may be none.
use Rattle.std.specs.Prelude.{◌≡◌, List, [], ◌∷◌, ◌++◌, ◌+◌, true, map, Option, Some, length, slice_get, ℕ}
use Rattle.es_outside.specs.declared.events.Site.{Site}
use Rattle.es_value.specs.declared.value.Value.{Value}
use Rattle.es_value.specs.declared.value.Value.TheVariants as value
use Rattle.es_heap.specs.declared.key.Key.{Key}
use Rattle.es_calls.specs.declared.call.Resumption.{Resumption}
use Rattle.core_ast.specs.declared.parts.CoreOp.{CoreOp}
use Rattle.core_ast.specs.declared.parts.CoreOp.TheVariants as op
use Rattle.core_ast.specs.declared.parts.FunctionId.{FunctionId}
use Rattle.core_ast.specs.declared.parts.Label.{Label}
use Rattle.core_ast.specs.declared.parts.ScopedName.{ScopedName}
use Rattle.core_ast.specs.declared.parts.Update.{Update}
use Rattle.core_ast.specs.declared.parts.Var.{Var}
use Rattle.core_ast.specs.declared.tree.CoreCase.{CoreCase}
use Rattle.core_ast.specs.declared.tree.CoreExpr.{CoreExpr}
use Rattle.core_ast.specs.declared.tree.CoreLink.{CoreLink, out-CoreLink}
use Rattle.core_ast.specs.declared.tree.CoreLink.TheOpen as layer
use Rattle.core_ast.specs.declared.tree.CoreLink.TheOpen.{CoreLink-F}
use Rattle.core_ast.specs.declared.tree.CoreStat.{CoreStat}
use Rattle.core_meaning.specs.Marks.{AtStart, AtYield, Cell, Completed, CoreList, CoreState, CoreStore, CoreStrict, CoreWork, DelegateDone, DelegateStart, DelegateTurn, DelegateValue, Delegates, Derived, Executing, Generator, Heritage, Instantiates, KeptCell, Mark, Own, Prototype, PrototypeFor, Resumes, SpreadStart, SpreadStep, SpreadValue, Starts, YieldsIn, sorts}
use Rattle.core_meaning.specs.Rows.{with_control}
use Rattle.core_meaning.specs.State.{After, Begin, Behind, Calls, Catching, Choice, Closure, Completion, Configuration, Context, Control, CoreValue, Current, Environment, Extra, Fetch, Finishing, Frame, Gives, Go, Hand, Has, Keyed, Loop, LoopBody, LoopTest, LoopUpdate, Matching, Part, Pending, Rest, Restore, Returning, Run, StepAt, Store, Subject, Target, Throwing, Turn, User, Work}
use Rattle.pass_rules.specs.Cells.{is_foreign}
use Rattle.pass_rules.specs.Scopes.{case_flat, expr_flat, reset, stats_flat}
use Rattle.cells_keep_runs.specs.Alike.{IsPlain}
pub use Rattle.cells_keep_runs.specs.Memory.{IsScope, Memory, Seat, Seats, cell_along, cell_found, cells_in, image_in, images, kept_along, or_outer, with_image}
use Rattle.cells_keep_runs.specs.Opened.{opened, write_in}
use Rattle.cells_keep_runs.specs.Places.{Below}
use Rattle.cells_keep_runs.specs.Shapes.{option_flat}
use Rattle.cells_keep_runs.specs.Ways.{IsAbrupt, writing}

-- ---- pending work of the language

abbrev pub loop_flat : List ℕ → Loop → Loop
loop_flat owners l = record {
  labels = l.labels;
  test = option_flat owners l.test;
  update = option_flat owners l.update;
  body = stats_flat owners l.body;
}

-- a frame that waits with links, by what it has besides
pub data Waits : Type 0 where
  WaitsAfter : Waits
  WaitsBehind : CoreValue Mark → Waits
  WaitsKeyed : Value → Waits
  WaitsToStore : Value → Key → Waits
  WaitsToStep : Update → Value → Key → Waits
  WaitsSpread : CoreList → Waits
  WaitsSpreadStep : CoreList → Value → Waits
  WaitsSpreadValue : CoreList → Value → Waits
  WaitsHeritage : FunctionId → Value → Waits
  WaitsPrototype : Waits
  WaitsYield : Waits
  WaitsDelegate : Value → Waits
  WaitsDelegateStart : Waits
  WaitsDelegateTurn : Value → Resumption → Value → Waits
  WaitsDelegateDone : Value → Resumption → Value → Waits
  WaitsDelegateValue : Resumption → Waits

abbrev pub waiting : Waits → List CoreLink → Frame Mark CoreWork
waiting WaitsAfter links = After links
waiting (WaitsBehind v) links = Behind v links
waiting (WaitsKeyed base) links = Keyed base links
waiting (WaitsToStore base k) links = Store base k links
waiting (WaitsToStep u base k) links = StepAt u base k links
waiting (WaitsSpread list) links = Work (SpreadStart list links)
waiting (WaitsSpreadStep list it) links = Work (SpreadStep list it links)
waiting (WaitsSpreadValue list it) links = Work (SpreadValue list it links)
waiting (WaitsHeritage f heritage) links = Work (Heritage f heritage links)
waiting WaitsPrototype links = Work (PrototypeFor links)
waiting WaitsYield links = Work (YieldsIn links)
waiting (WaitsDelegate it) links = Work (Delegates it links)
waiting WaitsDelegateStart links = Work (DelegateStart links)
waiting (WaitsDelegateTurn it kind v) links = Work (DelegateTurn it kind v links)
waiting (WaitsDelegateDone it kind v) links = Work (DelegateDone it kind v links)
waiting (WaitsDelegateValue kind) links = Work (DelegateValue kind links)

-- The statements that stand behind those of a scope, those of the scope round it, and so on; and the environment and the frames that
-- are left below.
pub data Tail (owners : List ℕ) (seats : Seats) : Environment → List (Frame Mark CoreWork) → List CoreStat → Environment → List (Frame Mark CoreWork) → Type 0 where
  no_scope : {e : Environment} {fs : List (Frame Mark CoreWork)} → Tail owners seats e fs [] e fs
  a_scope : {n : ℕ} {e e2 : Environment} {ys : List CoreStat} {fs gs : List (Frame Mark CoreWork)} (xs : List CoreStat)
      → IsScope seats n → Tail owners seats e fs ys e2 gs
      → Tail owners seats (n ∷ e) (Restore e ∷ Rest xs ∷ fs) (stats_flat owners xs ++ ys) e2 gs

-- a value is dropped: a list of statements goes on, or a loop
abbrev pub DropsHere : List (Frame Mark CoreWork) → Type 0
DropsHere (Rest xs ∷ fs) = Unit {0}
DropsHere (LoopUpdate l ∷ fs) = Unit {0}
DropsHere fs = ⊥

-- or another expression follows
abbrev pub IsThen : CoreLink-F CoreLink CoreStat CoreCase CoreExpr → Type 0
IsThen y = (x : CoreExpr) × (site : Option Site) × (y ≡ layer.Strict op.Then (x ∷ []) site)

abbrev pub Drops : List (Frame Mark CoreWork) → List CoreLink → Type 0
Drops fs [] = DropsHere fs
Drops fs (l ∷ links) = IsThen (out-CoreLink l)

-- the value that goes on along links: behind a copy it is a cell in the place of undefined, and is dropped
pub data Currents (fs : List (Frame Mark CoreWork)) (links : List CoreLink) : Current Mark → Current Mark → Type 0 where
  same_current : {c : Current Mark} → Currents fs links c c
  behind_copy : {n : ℕ} → Drops fs links → Currents fs links (Has (User value.Undefined)) (Has (Extra (Cell n)))

-- so does an operation whose parts are evaluated, if it drops it
pub data PartCurrents (o : CoreOp) (c d : Current Mark) : Type 0 where
  same_part : d ≡ c → PartCurrents o c d
  then_part : (n : ℕ) → o ≡ op.Then → d ≡ Has (Extra (Cell n)) → PartCurrents o c d

abbrev pub part_flat : List ℕ → CoreStrict → Current Mark → List CoreLink → CoreStrict
part_flat owners p c links = record {
  op = p.op;
  site = p.site;
  current = c;
  values = p.values;
  parts = map (expr_flat owners) p.parts;
  links = links;
}

-- Frames of the source along an environment, and those of the target.
pub data Frames (owners : List ℕ) (seats : Seats) : Environment → List (Frame Mark CoreWork) → List (Frame Mark CoreWork) → Type 0 where
  none : {e : Environment} → Frames owners seats e [] []
  plain : {e : Environment} {fs gs : List (Frame Mark CoreWork)} {f : Frame Mark CoreWork}
      → IsPlain f → Frames owners seats e fs gs → Frames owners seats e (f ∷ fs) (f ∷ gs)
  waits : {e : Environment} {fs gs : List (Frame Mark CoreWork)} (w : Waits) (ls : List CoreLink)
      → Frames owners seats e fs gs
      → Frames owners seats e (waiting w ls ∷ fs)
      (waiting w (opened owners (cell_along seats e) ls).links ∷ ((opened owners (cell_along seats e) ls).frames ++ gs))
  -- where a reference is read for a shared name, its value goes to the cell at once
  waits_for_cell : {e : Environment} {fs gs : List (Frame Mark CoreWork)} (x : Var) (l : CoreLink) (ls : List CoreLink)
      → write_in owners (out-CoreLink l) ≡ Some x → Frames owners seats e fs gs
      → Frames owners seats e (After (l ∷ ls) ∷ fs)
      (Part (writing (cell_along seats e x) (opened owners (cell_along seats e) ls).links) ∷ ((opened owners (cell_along seats e) ls).frames ++ gs))
  part : {e : Environment} {fs gs : List (Frame Mark CoreWork)} {c : Current Mark} (p : CoreStrict)
      → PartCurrents p.op p.current c → Frames owners seats e fs gs
      → Frames owners seats e (Part p ∷ fs)
      (Part (part_flat owners p c (opened owners (cell_along seats e) p.links).links) ∷ ((opened owners (cell_along seats e) p.links).frames ++ gs))
  fetch : {e : Environment} {fs gs : List (Frame Mark CoreWork)} (base : Value) (k : Key) (p : CoreStrict)
      → Frames owners seats e fs gs
      → Frames owners seats e (Fetch base k p ∷ fs)
      (Fetch base k (part_flat owners p p.current (opened owners (cell_along seats e) p.links).links) ∷ ((opened owners (cell_along seats e) p.links).frames ++ gs))
  rest : {e e2 : Environment} {fs fs2 gs : List (Frame Mark CoreWork)} {ys : List CoreStat} (xs : List CoreStat)
      → Tail owners seats e fs ys e2 fs2 → Frames owners seats e2 fs2 gs
      → Frames owners seats e (Rest xs ∷ fs) (Rest (stats_flat owners xs ++ ys) ∷ gs)
  choice : {e : Environment} {fs gs : List (Frame Mark CoreWork)} (body : List CoreStat) (cases : List CoreCase)
      → Frames owners seats e fs gs
      → Frames owners seats e (Choice body cases ∷ fs) (Choice (stats_flat owners body) (map (case_flat owners) cases) ∷ gs)
  subject : {e : Environment} {fs gs : List (Frame Mark CoreWork)} (cases : List CoreCase)
      → Frames owners seats e fs gs
      → Frames owners seats e (Subject cases ∷ fs) (Subject (map (case_flat owners) cases) ∷ gs)
  matching : {e : Environment} {fs gs : List (Frame Mark CoreWork)} (v : Value) (cases all : List CoreCase)
      → Frames owners seats e fs gs
      → Frames owners seats e (Matching v cases all ∷ fs)
      (Matching v (map (case_flat owners) cases) (map (case_flat owners) all) ∷ gs)
  loop_test : {e : Environment} {fs gs : List (Frame Mark CoreWork)} (l : Loop)
      → Frames owners seats e fs gs → Frames owners seats e (LoopTest l ∷ fs) (LoopTest (loop_flat owners l) ∷ gs)
  loop_body : {e : Environment} {fs gs : List (Frame Mark CoreWork)} (l : Loop)
      → Frames owners seats e fs gs → Frames owners seats e (LoopBody l ∷ fs) (LoopBody (loop_flat owners l) ∷ gs)
  loop_update : {e : Environment} {fs gs : List (Frame Mark CoreWork)} (l : Loop)
      → Frames owners seats e fs gs → Frames owners seats e (LoopUpdate l ∷ fs) (LoopUpdate (loop_flat owners l) ∷ gs)
  target : {e : Environment} {fs gs : List (Frame Mark CoreWork)} (label : Option Label)
      → Frames owners seats e fs gs → Frames owners seats e (Target label ∷ fs) (Target label ∷ gs)
  returning : {e : Environment} {fs gs : List (Frame Mark CoreWork)}
      → Frames owners seats e fs gs → Frames owners seats e (Returning ∷ fs) (Returning ∷ gs)
  throwing : {e : Environment} {fs gs : List (Frame Mark CoreWork)}
      → Frames owners seats e fs gs → Frames owners seats e (Throwing ∷ fs) (Throwing ∷ gs)
  catching : {e : Environment} {fs gs : List (Frame Mark CoreWork)} (x : Var) (names : List ScopedName) (handler : List CoreStat)
      → Frames owners seats e fs gs
      → Frames owners seats e (Catching x names handler ∷ fs) (Catching x [] (map reset names ++ stats_flat owners handler) ∷ gs)
  finishing : {e : Environment} {fs gs : List (Frame Mark CoreWork)} (last : List CoreStat)
      → Frames owners seats e fs gs → Frames owners seats e (Finishing last ∷ fs) (Finishing (stats_flat owners last) ∷ gs)
  pending : {e : Environment} {fs gs : List (Frame Mark CoreWork)} (c : Completion Mark)
      → Frames owners seats e fs gs → Frames owners seats e (Pending c ∷ fs) (Pending c ∷ gs)
  -- the end of a handler; that of a scope is no frame of the target's
  restore : {n : ℕ} {e : Environment} {fs gs : List (Frame Mark CoreWork)}
      → (IsScope seats n → ⊥) → Frames owners seats e fs gs
      → Frames owners seats (n ∷ e) (Restore e ∷ fs) (Restore (images seats e) ∷ gs)
  derived : {e : Environment} {fs gs : List (Frame Mark CoreWork)} (n : ℕ)
      → Frames owners seats e fs gs → Frames owners seats e (Work (Derived n) ∷ fs) (Work (Derived n) ∷ gs)
  instantiates : {e : Environment} {fs gs : List (Frame Mark CoreWork)} (body : List CoreStat)
      → Frames owners seats e fs gs
      → Frames owners seats e (Work (Instantiates body) ∷ fs) (Work (Instantiates (stats_flat owners body)) ∷ gs)
  prototype : {e : Environment} {fs gs : List (Frame Mark CoreWork)} (body : List CoreStat)
      → Frames owners seats e fs gs
      → Frames owners seats e (Work (Prototype body) ∷ fs) (Work (Prototype (stats_flat owners body)) ∷ gs)
  starts : {e : Environment} {fs gs : List (Frame Mark CoreWork)} (body : List CoreStat)
      → Frames owners seats e fs gs
      → Frames owners seats e (Work (Starts body) ∷ fs) (Work (Starts (stats_flat owners body)) ∷ gs)
  resumes : {e : Environment} {fs gs : List (Frame Mark CoreWork)} (n : ℕ)
      → Frames owners seats e fs gs → Frames owners seats e (Work (Resumes n) ∷ fs) (Work (Resumes n) ∷ gs)

-- ---- contexts, closures, generators

-- all that a context keeps but cells
pub record Owns (a b : Own) : Type 0 where
  pub this_record : b.this_record ≡ a.this_record
  pub callee : b.callee ≡ a.callee
  pub target : b.target ≡ a.target
  pub home : b.home ≡ a.home
  pub passed : b.passed ≡ a.passed

pub record Contexts (owners : List ℕ) (seats : Seats) (a b : Context Mark Own CoreWork) : Type 0 where
  pub environment : b.environment ≡ images seats a.environment
  pub below : Below (length seats) a.environment
  pub receiver : b.receiver ≡ a.receiver
  pub site : b.site ≡ a.site
  pub own : Owns a.own b.own
  pub frames : Frames owners seats a.environment a.frames b.frames

-- a record has the cell
abbrev pub IsCellIn : Seats → Var → ℕ → Type 0
IsCellIn seats x k = (n : ℕ) × (seat : Seat) × (slice_get seats n ≡ Some seat) × (cell_found seat.cells x ≡ Some k)

-- each cell that is kept is that of the name where the closure was made
abbrev pub Kept : Seats → Environment → List KeptCell → Type 0
Kept seats e [] = Unit {0}
Kept seats e (k ∷ ks) = (cell_along seats e k.var ≡ k.cell) × IsCellIn seats k.var k.cell × Kept seats e ks

pub record Closures (owners : List ℕ) (seats : Seats) (a b : Closure Own) : Type 0 where
  pub function : b.function ≡ a.function
  pub environment : b.environment ≡ images seats a.environment
  pub below : Below (length seats) a.environment
  pub own : Owns a.own b.own
  pub cells : Kept seats a.environment b.own.cells
  pub uncelled : a.own.cells ≡ []
  pub foreign : (x : Var) (k : ℕ) → cell_found b.own.cells x ≡ Some k → is_foreign owners (a.function.0 + 1) x ≡ true
  pub whole : (x : Var) → kept_along seats a.environment a.function x ≡ true → (k : ℕ) × (cell_found b.own.cells x ≡ Some k)

pub data Generators (owners : List ℕ) (seats : Seats) : Generator → Generator → Type 0 where
  at_start : {a b : Context Mark Own CoreWork} → Contexts owners seats a b → Generators owners seats (AtStart a) (AtStart b)
  at_yield : {a b : Context Mark Own CoreWork} → Contexts owners seats a b → Generators owners seats (AtYield a) (AtYield b)
  executing : Generators owners seats Executing Executing
  completed : Generators owners seats Completed Completed

-- two lists are equally long, and related at each place
abbrev pub All : {A B : Type 0} → (A → B → Type 0) → List A → List B → Type 0
All R [] [] = Unit {0}
All R (x ∷ xs) (y ∷ ys) = R x y × All R xs ys
All R xs ys = ⊥

-- ---- states

pub record States (owners : List ℕ) (seats : Seats) (s t : CoreState) : Type 0 where
  pub heap : t.heap ≡ s.heap
  pub memory : Memory owners seats s.records t.records t.store.cells
  pub closures : All (Closures owners seats) s.closures t.closures
  pub callers : All (Contexts owners seats) s.callers t.callers
  pub ahead : t.ahead ≡ map (stats_flat owners) s.ahead
  pub this_values : t.store.this_values ≡ s.store.this_values
  pub generators : All (Generators owners seats) s.store.generators t.store.generators
  pub namespaces : t.store.namespaces ≡ s.store.namespaces
  pub templates : t.store.templates ≡ s.store.templates
  pub statics : t.store.statics ≡ s.store.statics

-- states, and their contexts but for the frames
pub record Stand (owners : List ℕ) (seats : Seats) (s t : CoreState) : Type 0 where
  pub states : States owners seats s t
  pub environment : t.context.environment ≡ images seats s.context.environment
  pub below : Below (length seats) s.context.environment
  pub receiver : t.context.receiver ≡ s.context.receiver
  pub site : t.context.site ≡ s.context.site
  pub own : Owns s.context.own t.context.own

-- ---- configurations

-- the frames of the source, and those of the target below the cells that wait for what these links give
abbrev pub BelowCells : List ℕ → Seats → CoreState → List CoreLink → CoreState → Type 0
BelowCells owners seats s ls t =
    (gs : List (Frame Mark CoreWork)) × Frames owners seats s.context.environment s.context.frames gs
    × (t.context.frames ≡ (opened owners (cell_along seats s.context.environment) ls).frames ++ gs)

-- the frames of the source below the scopes that these statements stand in, and those of the target
abbrev pub BelowScopes : List ℕ → Seats → CoreState → List (Frame Mark CoreWork) → List CoreStat → CoreState → Type 0
BelowScopes owners seats s fs ys t =
    (e : Environment) × (gs : List (Frame Mark CoreWork)) × Tail owners seats s.context.environment fs ys e gs
    × Frames owners seats e gs t.context.frames

-- what holds no part of a core
abbrev pub IsBare : Control Mark → Type 0
IsBare (Turn site c) = Unit {0}
IsBare (Calls c) = Unit {0}
IsBare (Hand c) = Unit {0}
IsBare c = ⊥

pub data Related (owners : List ℕ) (seats : Seats) : Configuration sorts CoreStore → Configuration sorts CoreStore → Type 0 where
  at_same : {s t : CoreState} (c : Control Mark) → IsBare c → Stand owners seats s t
      → Frames owners seats s.context.environment s.context.frames t.context.frames
      → Related owners seats (with_control c s) (with_control c t)
  -- behind a copy a cell is handed in the place of undefined
  at_copy : {s t : CoreState} (n : ℕ) → DropsHere s.context.frames → Stand owners seats s t
      → Frames owners seats s.context.environment s.context.frames t.context.frames
      → Related owners seats (with_control (Hand (Gives (User value.Undefined))) s) (with_control (Hand (Gives (Extra (Cell n)))) t)
  at_expression : {s t : CoreState} (x : CoreExpr) → Stand owners seats s t
      → Frames owners seats s.context.environment s.context.frames t.context.frames
      → Related owners seats (with_control (Begin x) s) (with_control (Begin (expr_flat owners x)) t)
  at_links : {s t : CoreState} {c d : Current Mark} (ls : List CoreLink) → Currents s.context.frames ls c d → Stand owners seats s t
      → BelowCells owners seats s ls t
      → Related owners seats (with_control (Go c ls) s)
      (with_control (Go d (opened owners (cell_along seats s.context.environment) ls).links) t)
  at_statements : {s t : CoreState} {ys : List CoreStat} (xs : List CoreStat) → Stand owners seats s t
      → BelowScopes owners seats s s.context.frames ys t
      → Related owners seats (with_control (Run xs) s) (with_control (Run (stats_flat owners xs ++ ys)) t)
  -- what ends statements early stands in a scope
  at_exit : {s t : CoreState} {ys : List CoreStat} (c : Completion Mark) → IsAbrupt c → Stand owners seats s t
      → BelowScopes owners seats s s.context.frames ys t → Related owners seats (with_control (Hand c) s) (with_control (Hand c) t)
  -- it goes past the cells that wait
  past_cells : {s t : CoreState} (c : Completion Mark) (ls : List CoreLink) → IsAbrupt c → Stand owners seats s t → BelowCells owners seats s ls t
      → Related owners seats (with_control (Hand c) s) (with_control (Hand c) t)
