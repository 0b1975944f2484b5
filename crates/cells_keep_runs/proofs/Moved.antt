-- Code that stands where it may by one relation does so by another, if this is so along the environments of a state.
use Rattle.std.proofs.Common.{Bool, false, List, [], ◌∷◌, Option, None, Some}
use Rattle.core_ast.specs.declared.parts.FunctionId.{FunctionId}
use Rattle.core_ast.specs.declared.tree.CoreCase.{CoreCase, out-CoreCase}
use Rattle.core_ast.specs.declared.tree.CoreExpr.{CoreExpr}
use Rattle.core_ast.specs.declared.tree.CoreLink.{CoreLink}
use Rattle.core_ast.specs.declared.tree.CoreStat.{CoreStat}
use Rattle.core_meaning.specs.Marks.{Arguments, AtStart, AtYield, Cell, Completed, CoreState, CoreWork, DelegateDone, DelegateStart, DelegateTurn, DelegateValue, Delegates, Derived, Empty, Executing, Generator, Heritage, Instantiates, Mark, Own, Prototype, Resumed, Resumes, SpreadStart, SpreadStep, SpreadValue, Starts, Unmade, YieldsIn}
use Rattle.core_meaning.specs.State.{After, Begin, Behind, Calls, Catching, Choice, Completion, Context, Control, CoreValue, Current, Done, Environment, Extra, Fetch, Finishing, Frame, Gives, Go, Hand, Has, Jumps, Keyed, Loop, LoopBody, LoopTest, LoopUpdate, Made, Making, Matching, Operation, Part, Pending, Rest, Restore, Returning, Returns, Run, StepAt, StepName, Store, Subject, Target, Throwing, Throws, Turn, User, Work}
use Rattle.cells_keep_runs.specs.Floors.{AllContexts, AllOf, Bottom, CaseAt, ControlAt, CurrentFits, Fits, Floor, FrameAt, FramesAt, GeneratorAt, HandAt, LoopAt, MarkFits, MayMake, Perhaps, Saved, Standing, ToHold, ToMake, ToUse, Wanted, WorkAt, anywhere, floor_of, wanted_along}
use Rattle.cells_keep_runs.specs.Placing.{Handler, below_frame}

-- what stands by the first relation stands by the second, along such environments
pub record Moves (K K2 : Standing) (Ok : Environment → Type 0) : Type 0 where
  pub stats : (e : Environment) (own : Bool) (xs : List CoreStat) → Ok e → K.stats e own xs → K2.stats e own xs
  pub expr : (e : Environment) (w : Wanted) (in_scope : Bool) (x : CoreExpr) → Ok e → K.expr e w in_scope x → K2.expr e w in_scope x
  pub links : (e : Environment) (w : Wanted) (ls : List CoreLink) → Ok e → K.links e w ls → K2.links e w ls
  pub handler : (e : Environment) (h : Handler) → Ok e → K.handler e h → K2.handler e h
  pub unmade : (e : Environment) (f : FunctionId) → Ok e → K.unmade e f → K2.unmade e f
  pub leads : (e o : Environment) → Ok e → K.leads e o → K2.leads e o
  pub inside : (e : Environment) → Ok e → K.inside e → K2.inside e
  pub back : (e o : Environment) → K.leads e o → Ok e → Ok o

module _ (K K2 : Standing) (Ok : Environment → Type 0) (moves : Moves K K2 Ok) where
  all_moved : {A : Type 0} (P Q : A → Type 0) → ((x : A) → P x → Q x) → (xs : List A) → AllOf P xs → AllOf Q xs
  all_moved P Q move [] all = tt
  all_moved P Q move (x ∷ xs) (at, all) = (move x at, all_moved P Q move xs all)

  perhaps_moved : {A : Type 0} (P Q : A → Type 0) → ((x : A) → P x → Q x) → (o : Option A) → Perhaps P o → Perhaps Q o
  perhaps_moved P Q move None at = tt
  perhaps_moved P Q move (Some x) at = move x at

  make_moved : (e : Environment) (f : FunctionId) (w : Wanted) → Ok e → MayMake K.unmade e f w → MayMake K2.unmade e f w
  make_moved e f ToMake ok at = moves.unmade e f ok at
  make_moved e f ToUse ok at = at
  make_moved e f ToHold ok at = at

  mark_moved : (e : Environment) (w : Wanted) (m : Mark) → Ok e → MarkFits K.unmade e w m → MarkFits K2.unmade e w m
  mark_moved e w Empty ok at = tt
  mark_moved e w (Unmade f) ok at = make_moved e f w ok at
  mark_moved e w (Arguments vs) ok at = at
  mark_moved e w (Cell n) ok at = at
  mark_moved e w (Resumed q v) ok at = at

  fits_moved : (e : Environment) (w : Wanted) (v : CoreValue Mark) → Ok e → Fits K.unmade e w v → Fits K2.unmade e w v
  fits_moved e w (User v) ok at = tt
  fits_moved e w (Extra m) ok at = mark_moved e w m ok at

  current_moved : (e : Environment) (w : Wanted) (c : Current Mark) → Ok e → CurrentFits K.unmade e w c → CurrentFits K2.unmade e w c
  current_moved e w (Has v) ok at = fits_moved e w v ok at
  current_moved e w c ok at = tt

  exprs_moved : (e : Environment) (w : Wanted) (xs : List CoreExpr) → Ok e → AllOf (K.expr e w false) xs → AllOf (K2.expr e w false) xs
  exprs_moved e w xs ok all = all_moved (K.expr e w false) (K2.expr e w false) (λ x at. moves.expr e w false x ok at) xs all

  maybe_moved : (e : Environment) (w : Wanted) (in_scope : Bool) (o : Option CoreExpr) → Ok e → Perhaps (K.expr e w in_scope) o → Perhaps (K2.expr e w in_scope) o
  maybe_moved e w c o ok at = perhaps_moved (K.expr e w c) (K2.expr e w c) (λ x here. moves.expr e w c x ok here) o at

  case_moved : (e : Environment) (own : Bool) (c : CoreCase) → Ok e → CaseAt K e own c → CaseAt K2 e own c
  case_moved e own c ok (test, body) = (maybe_moved e ToUse false (out-CoreCase c).test ok test, moves.stats e own (out-CoreCase c).body ok body)

  cases_moved : (e : Environment) (own : Bool) (cs : List CoreCase) → Ok e → AllOf (CaseAt K e own) cs → AllOf (CaseAt K2 e own) cs
  cases_moved e own cs ok all = all_moved (CaseAt K e own) (CaseAt K2 e own) (λ c at. case_moved e own c ok at) cs all

  loop_moved : (e : Environment) (in_scope : Bool) (l : Loop) → Ok e → LoopAt K e in_scope l → LoopAt K2 e in_scope l
  loop_moved e c l ok (test, update, body) = (maybe_moved e ToUse false l.test ok test, maybe_moved e ToUse c l.update ok update, moves.stats e false l.body ok body)

  hand_moved : (e : Environment) (w : Wanted) (c : Completion Mark) → Ok e → HandAt K e w c → HandAt K2 e w c
  hand_moved e w (Gives v) ok at = fits_moved e w v ok at
  hand_moved e w Done ok at = at
  hand_moved e w (Returns v) ok at = at
  hand_moved e w (Throws v) ok at = tt
  hand_moved e w (Jumps goes_on label) ok at = tt

  work_moved : (e : Environment) (b : Floor) (w : CoreWork) → Ok e → WorkAt K e b w → WorkAt K2 e b w
  work_moved e b (SpreadStart list links) ok (at, l) = (at, moves.links e b.wanted links ok l)
  work_moved e b (SpreadStep list it links) ok (at, l) = (at, moves.links e b.wanted links ok l)
  work_moved e b (SpreadValue list it links) ok (at, l) = (at, moves.links e b.wanted links ok l)
  work_moved e b (Derived n) ok at = tt
  work_moved e b (Heritage f heritage links) ok (at, l) = (moves.unmade e f ok at, moves.links e b.wanted links ok l)
  work_moved e b (Instantiates stats) ok at = moves.stats e false stats ok at
  work_moved e b (Prototype stats) ok at = moves.stats e false stats ok at
  work_moved e b (Resumes n) ok at = tt
  work_moved e b (Starts stats) ok (free, at) = (free, moves.stats e b.own stats ok at)
  work_moved e b (YieldsIn links) ok at = moves.links e b.wanted links ok at
  work_moved e b (Delegates it links) ok at = moves.links e b.wanted links ok at
  work_moved e b (DelegateStart links) ok at = moves.links e b.wanted links ok at
  work_moved e b (DelegateTurn it q v links) ok at = moves.links e b.wanted links ok at
  work_moved e b (DelegateDone it q v links) ok at = moves.links e b.wanted links ok at
  work_moved e b (DelegateValue q links) ok at = moves.links e b.wanted links ok at
  work_moved e b w ok at = absurd at

  frame_moved : (e : Environment) (b : Floor) (f : Frame Mark CoreWork) → Ok e → FrameAt K e b f → FrameAt K2 e b f
  frame_moved e b (Part p) ok (may, (xs, l), current) = (may, (exprs_moved e _ p.parts ok xs, moves.links e b.wanted p.links ok l), current_moved e _ p.current ok current)
  frame_moved e b (Fetch base key p) ok (may, (xs, l)) = (may, (exprs_moved e _ p.parts ok xs, moves.links e b.wanted p.links ok l))
  frame_moved e b (After links) ok l = moves.links e b.wanted links ok l
  frame_moved e b (Behind v links) ok (l, at) = (moves.links e b.wanted links ok l, fits_moved e (wanted_along links b.wanted) v ok at)
  frame_moved e b (Keyed base links) ok l = moves.links e b.wanted links ok l
  frame_moved e b (Store base key links) ok l = moves.links e b.wanted links ok l
  frame_moved e b (StepAt u base key links) ok l = moves.links e b.wanted links ok l
  frame_moved e b (StepName u x links) ok at = at
  frame_moved e b (Rest xs) ok (free, at) = (free, moves.stats e b.own xs ok at)
  frame_moved e b (Choice body cases) ok (free, at, all) = (free, moves.stats e b.own body ok at, cases_moved e b.own cases ok all)
  frame_moved e b (Subject cases) ok (free, all) = (free, cases_moved e false cases ok all)
  frame_moved e b (Matching v cases every) ok (free, all, all2) = (free, cases_moved e false cases ok all, cases_moved e false every ok all2)
  frame_moved e b (LoopTest l) ok (free, at) = (free, loop_moved e b.in_scope l ok at)
  frame_moved e b (LoopBody l) ok (free, at) = (free, loop_moved e b.in_scope l ok at)
  frame_moved e b (LoopUpdate l) ok (free, at) = (free, loop_moved e b.in_scope l ok at)
  frame_moved e b (Target label) ok at = at
  frame_moved e b (Catching x names handler) ok (free, at) = (free, moves.handler e (record { parameter = x; names = names; body = handler }) ok at)
  frame_moved e b (Finishing last) ok (free, at) = (free, moves.stats e false last ok at)
  frame_moved e b (Pending c) ok at = hand_moved e b.wanted c ok at
  frame_moved e b (Restore o) ok (free, at) = (free, moves.leads e o ok at)
  frame_moved e b (Work w) ok at = work_moved e b w ok at
  frame_moved e b (Operation site c) ok at = tt
  frame_moved e b (Making f args new) ok at = tt
  frame_moved e b (Made o) ok at = tt
  frame_moved e b Returning ok at = tt
  frame_moved e b Throwing ok at = tt

  -- the environment below a frame is such a one too
  below_ok : (e : Environment) (b : Floor) (f : Frame Mark CoreWork) → Ok e → FrameAt K e b f → Ok (below_frame e f)
  below_ok e b (Restore o) ok (free, at) = moves.back e o at ok
  below_ok e b f ok at = ok

  pub frames_moved : (below below2 : Environment → Type 0) → ((e : Environment) → Ok e → below e → below2 e) → (e : Environment) (fs : List (Frame Mark CoreWork)) → Ok e → FramesAt K below e fs → FramesAt K2 below2 e fs
  frames_moved below below2 move e [] ok at = move e ok at
  frames_moved below below2 move e (f ∷ fs) ok (at, all) = (frame_moved e (floor_of fs) f ok at, frames_moved below below2 move (below_frame e f) fs (below_ok e (floor_of fs) f ok at) all)

  pub control_moved : (e : Environment) (b : Floor) (c : Control Mark) → Ok e → ControlAt K e b c → ControlAt K2 e b c
  control_moved e b (Begin x) ok at = moves.expr e b.wanted b.in_scope x ok at
  control_moved e b (Go c links) ok (l, at) = (moves.links e b.wanted links ok l, current_moved e (wanted_along links b.wanted) c ok at)
  control_moved e b (Run xs) ok (free, at) = (free, moves.stats e b.own xs ok at)
  control_moved e b (Hand c) ok at = hand_moved e b.wanted c ok at
  control_moved e b (Turn site c) ok at = tt
  control_moved e b (Calls c) ok at = tt

  pub saved_moved : (k : Context Mark Own CoreWork) → Ok k.environment → Saved K k → Saved K2 k
  saved_moved k ok (frames, free, inside) = (frames_moved anywhere anywhere (λ e here at. at) k.environment k.frames ok frames, free, moves.inside k.environment ok inside)

  -- the environments of contexts, and of the generators that are saved
  abbrev pub SavedOk : Generator → Type 0
  SavedOk (AtStart k) = Ok k.environment
  SavedOk (AtYield k) = Ok k.environment
  SavedOk g = Unit {0}

  pub generators_moved : (gs : List Generator) → AllOf SavedOk gs → AllOf (GeneratorAt K) gs → AllOf (GeneratorAt K2) gs
  generators_moved [] oks all = tt
  generators_moved (AtStart k ∷ gs) (ok, oks) (at, all) = (saved_moved k ok at, generators_moved gs oks all)
  generators_moved (AtYield k ∷ gs) (ok, oks) (at, all) = (saved_moved k ok at, generators_moved gs oks all)
  generators_moved (Executing ∷ gs) (ok, oks) (at, all) = (tt, generators_moved gs oks all)
  generators_moved (Completed ∷ gs) (ok, oks) (at, all) = (tt, generators_moved gs oks all)

  bottom_moved : ((e : Environment) → Ok e → K.outermost e → K2.outermost e) → (ks : List (Context Mark Own CoreWork)) (e : Environment) → Ok e → Bottom K ks e → Bottom K2 ks e
  bottom_moved outermost [] e ok at = outermost e ok at
  bottom_moved outermost (k ∷ ks) e ok at = tt

  pub contexts_moved : ((e : Environment) → Ok e → K.outermost e → K2.outermost e) → (ks : List (Context Mark Own CoreWork)) → AllOf (λ (k : Context Mark Own CoreWork). Ok k.environment) ks → AllContexts K ks → AllContexts K2 ks
  contexts_moved outermost [] oks all = tt
  contexts_moved outermost (k ∷ ks) (ok, oks) ((frames, inside), all) =
      ((frames_moved (Bottom K ks) (Bottom K2 ks) (bottom_moved outermost ks) k.environment k.frames ok frames, moves.inside k.environment ok inside), contexts_moved outermost ks oks all)

  -- the frames of the present context
  pub present_moved : ((e : Environment) → Ok e → K.outermost e → K2.outermost e) → (st : CoreState) → Ok st.context.environment → FramesAt K (Bottom K st.callers) st.context.environment st.context.frames
      → FramesAt K2 (Bottom K2 st.callers) st.context.environment st.context.frames
  present_moved outermost st ok all = frames_moved (Bottom K st.callers) (Bottom K2 st.callers) (bottom_moved outermost st.callers) st.context.environment st.context.frames ok all
