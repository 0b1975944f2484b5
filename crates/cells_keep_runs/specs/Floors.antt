-- Code that stands where it may, by the environment along which it runs and by what stands below it: what is wanted of the value that it
-- gives, and whether its statements are those of a scope. A step leaves all code of a state so, if what runs along a new environment may
-- stand there, and the names of all records hold values of programs, or none.
use Rattle.std.specs.Prelude.{◌≡◌, ◌++◌, Bool, true, false, List, [], ◌∷◌, map, Option, None, Some}
use Rattle.runs.specs.Run.{Asks, Ends, Goes, Leaves}
use Rattle.es_outside.specs.declared.host.Reply.{Reply}
use Rattle.core_ast.specs.declared.parts.CoreHead.{CoreHead}
use Rattle.core_ast.specs.declared.parts.CoreHead.TheVariants as head
use Rattle.core_ast.specs.declared.parts.CoreOp.{CoreOp}
use Rattle.core_ast.specs.declared.parts.CoreOp.TheVariants as op
use Rattle.core_ast.specs.declared.parts.FunctionId.{FunctionId}
use Rattle.core_ast.specs.declared.parts.Primitive.{Primitive}
use Rattle.core_ast.specs.declared.parts.Primitive.TheVariants as primitive
use Rattle.core_ast.specs.declared.parts.ScopedName.{ScopedName}
use Rattle.core_ast.specs.declared.parts.Var.{Var}
use Rattle.core_ast.specs.declared.tree.CoreCase.{CoreCase, out-CoreCase}
use Rattle.core_ast.specs.declared.tree.CoreExpr.{CoreExpr, out-CoreExpr}
use Rattle.core_ast.specs.declared.tree.CoreLink.{CoreLink, out-CoreLink}
use Rattle.core_ast.specs.declared.tree.CoreLink.TheOpen as layer
use Rattle.core_ast.specs.declared.tree.CoreLink.TheOpen.{CoreLink-F, CoreStat-F}
use Rattle.core_ast.specs.declared.tree.CoreStat.{CoreStat, out-CoreStat}
use Rattle.core_ast.specs.declared.whole.Core.{Core}
use Rattle.core_ast.specs.declared.whole.CoreFunction.{CoreFunction}
use Rattle.core_ast.specs.declared.whole.CoreKind.{CoreKind}
use Rattle.core_ast.specs.declared.whole.CoreKind.TheVariants as kind
use Rattle.core_meaning.specs.Expressions.{function_at}
use Rattle.core_meaning.specs.Marks.{AtStart, AtYield, CoreList, CoreNext, CoreState, CoreStrict, CoreWork, DelegateDone, DelegateStart, DelegateTurn, DelegateValue, Delegates, Derived, Empty, Generator, Heritage, Instantiates, Mark, OfArguments, OfArray, Own, Prototype, Resumes, SpreadStart, SpreadStep, SpreadValue, Starts, Unmade, YieldsIn}
use Rattle.core_meaning.specs.Cells.{innermost, outer}
use Rattle.core_meaning.specs.State.{After, Begin, Behind, Binding, Call, Calls, Catching, Choice, Closure, Completion, Context, Control, CoreValue, Current, Done, Environment, EnvironmentRecord, Extra, Fetch, Finishing, Frame, Gives, Go, Hand, Has, Keyed, Loop, LoopBody, LoopTest, LoopUpdate, Matching, Part, Pending, Rest, Restore, Returning, Returns, Run, StepAt, StepName, Store, Subject, Target, Throws, User, Work}
use Rattle.pass_rules.specs.Scopes.{vars}
use Rattle.cells_keep_runs.specs.Alike.{Config}
use Rattle.cells_keep_runs.specs.Called.{bindings_of}
use Rattle.cells_keep_runs.specs.Placing.{Handler, below_frame}
use Rattle.cells_keep_runs.specs.Ready.{ClosureCall}
use Rattle.cells_keep_runs.specs.Recorded.{inner}

-- ---- what is wanted of a value: that a name may hold it; that it is used, or dropped; or that a class may be made of it

pub data Wanted : Type 0 where
  ToHold : Wanted
  ToUse : Wanted
  ToMake : Wanted

abbrev pub NotHeld : Wanted → Type 0
NotHeld ToHold = ⊥
NotHeld w = Unit {0}

-- where the class of a function may be made
abbrev pub Makes : Type 1
Makes = Environment → FunctionId → Type 0

abbrev pub MayMake : Makes → Environment → FunctionId → Wanted → Type 0
MayMake F e f ToMake = F e f
MayMake F e f w = ⊥

abbrev pub MarkFits : Makes → Environment → Wanted → Mark → Type 0
MarkFits F e w Empty = Unit {0}
MarkFits F e w (Unmade f) = MayMake F e f w
MarkFits F e w m = NotHeld w

abbrev pub Fits : Makes → Environment → Wanted → CoreValue Mark → Type 0
Fits F e w (User v) = Unit {0}
Fits F e w (Extra m) = MarkFits F e w m

-- a value of programs, or none
abbrev pub Holds : CoreValue Mark → Type 0
Holds (User v) = Unit {0}
Holds (Extra Empty) = Unit {0}
Holds (Extra m) = ⊥

-- ---- what an operation wants of the current value and of its last part, by what is wanted of what it gives

-- a list of arguments with an element more is one
abbrev pub of_list : Wanted → Wanted
of_list ToHold = ToHold
of_list w = ToUse

abbrev pub wanted_by_primitive : Primitive → Wanted → Wanted
wanted_by_primitive primitive.SpreadList w = of_list w
wanted_by_primitive p w = ToUse

abbrev pub wanted_by : CoreOp → Wanted → Wanted
wanted_by (op.Set x) w = ToHold
wanted_by (op.Init x) w = ToHold
wanted_by op.Element w = of_list w
wanted_by (op.Primitive p) w = wanted_by_primitive p w
wanted_by o w = ToUse

abbrev pub wanted_in : CoreLink-F CoreLink CoreStat CoreCase CoreExpr → Wanted → Wanted
wanted_in (layer.Strict o parts site) w = wanted_by o w
wanted_in y w = ToUse

abbrev pub wanted_along : List CoreLink → Wanted → Wanted
wanted_along [] w = w
wanted_along (l ∷ ls) w = wanted_in (out-CoreLink l) (wanted_along ls w)

abbrev pub part_of_primitive : Primitive → Wanted
part_of_primitive primitive.ClassMake = ToMake
part_of_primitive p = ToUse

abbrev pub part_wanted : CoreOp → Wanted → Wanted
part_wanted op.Then w = w
part_wanted (op.Primitive p) w = part_of_primitive p
part_wanted o w = ToUse

-- ---- the floor: what is wanted of a value that is given there, whether an expression there stands in the statements of a scope or in the
-- update of a loop there, and whether statements there are those of a scope

pub record Floor : Type 0 where
  pub wanted : Wanted
  pub in_scope : Bool
  pub own : Bool

abbrev pub wants : Wanted → Floor
wants w = record { wanted = w; in_scope = false; own = false }

abbrev pub wanted_of_work : CoreWork → Wanted
wanted_of_work (Resumes n) = ToHold
wanted_of_work w = ToUse

abbrev pub under : Frame Mark CoreWork → Floor → Floor
under (Part p) b = wants (part_wanted p.op (wanted_along p.links b.wanted))
under (After links) b = wants (wanted_along links b.wanted)
under (Rest xs) b = record { wanted = ToUse; in_scope = b.own; own = false }
under (LoopUpdate l) b = record { wanted = ToUse; in_scope = b.in_scope; own = false }
under Returning b = wants ToHold
under (Restore e) b = record { wanted = ToUse; in_scope = false; own = true }
under (Work w) b = wants (wanted_of_work w)
under f b = wants ToUse

abbrev pub floor_of : List (Frame Mark CoreWork) → Floor
floor_of [] = wants ToUse
floor_of (f ∷ fs) = under f (floor_of fs)

-- ---- what may stand where

-- Lists of statements, by whether they are those of a scope; expressions, by what is wanted of their value and whether they stand in a scope's
-- statements; links, handlers, functions whose closures may be made there, and closures that were. Further the environments of contexts, those to which one goes back from another, and
-- those of the outermost context where bodies run; the names of records; and the names that aren't assigned.
pub record Standing : Type 1 where
  pub stats : Environment → Bool → List CoreStat → Type 0
  pub expr : Environment → Wanted → Bool → CoreExpr → Type 0
  pub links : Environment → Wanted → List CoreLink → Type 0
  pub handler : Environment → Handler → Type 0
  pub unmade : Makes
  pub makes : Makes
  pub inside : Environment → Type 0
  pub leads : Environment → Environment → Type 0
  pub outermost : Environment → Type 0
  pub shapes : List (List Var) → Type 0
  pub fixed : Var → Bool

abbrev pub AllOf : {A : Type 0} → (A → Type 0) → List A → Type 0
AllOf P [] = Unit {0}
AllOf P (x ∷ xs) = P x × AllOf P xs

abbrev pub Perhaps : {A : Type 0} → (A → Type 0) → Option A → Type 0
Perhaps P None = Unit {0}
Perhaps P (Some x) = P x

-- ---- the parts of code

abbrev pub CaseAt : Standing → Environment → Bool → CoreCase → Type 0
CaseAt K e own c = Perhaps (K.expr e ToUse false) (out-CoreCase c).test × K.stats e own (out-CoreCase c).body

abbrev pub LoopAt : Standing → Environment → Bool → Loop → Type 0
LoopAt K e in_scope l = Perhaps (K.expr e ToUse false) l.test × Perhaps (K.expr e ToUse in_scope) l.update × K.stats e false l.body

-- a statement of a list; scopes make records, and there are no yield statements
abbrev pub StatAt : Standing → Environment → Bool → CoreStat-F CoreLink CoreStat CoreCase CoreExpr → Type 0
StatAt K e own (layer.Do x) = K.expr e ToUse own x
StatAt K e own (layer.If cases) = AllOf (CaseAt K e false) cases
StatAt K e own (layer.Switch subject cases) = K.expr e ToUse false subject × AllOf (CaseAt K e false) cases
StatAt K e own (layer.Loop labels test update body) = LoopAt K e own (record { labels = labels; test = test; update = update; body = body })
StatAt K e own (layer.Labelled label body) = K.stats e false body
StatAt K e own (layer.Jump goes_on label) = Unit {0}
StatAt K e own (layer.Return x) = K.expr e ToHold false x
StatAt K e own (layer.Throw x) = K.expr e ToUse false x
StatAt K e own (layer.TryCatch block x names handler) = K.stats e false block × K.handler e (record { parameter = x; names = names; body = handler })
StatAt K e own (layer.TryFinally block last) = K.stats e false block × K.stats e false last
StatAt K e own (layer.Scoped names body) = Unit {0}
StatAt K e own (layer.Yield value kind result) = ⊥

-- the function of a class isn't made yet
abbrev pub KindFits : Wanted → CoreKind → Type 0
KindFits ToMake k = Unit {0}
KindFits w (kind.Class derived) = ⊥
KindFits w k = Unit {0}

-- a head, by what is wanted of its value; no step of a generator is made, and copies stand in the statements of a scope
abbrev pub HeadAt : Standing → Core → Environment → Wanted → Bool → CoreHead → Type 0
HeadAt K core e w in_scope (head.Function f) =
    K.unmade e f × ((function : CoreFunction) → function_at core f ≡ Some function → KindFits w function.kind)
HeadAt K core e w in_scope head.ArgumentList = NotHeld w
HeadAt K core e w in_scope (head.Primitive primitive.GeneratorMake) = ⊥
HeadAt K core e w in_scope (head.Copy xs) = in_scope ≡ true
HeadAt K core e w in_scope h = Unit {0}

-- an operation that has parts: neither on a name nor on a cell
abbrev pub PartOp : CoreOp → Type 0
PartOp (op.Set x) = ⊥
PartOp (op.Init x) = ⊥
PartOp (op.StepVariable u x) = ⊥
PartOp op.Content = ⊥
PartOp op.SetContent = ⊥
PartOp (op.Primitive (primitive.CellMake x)) = ⊥
PartOp o = Unit {0}

abbrev pub OpAt : Standing → CoreOp → List CoreExpr → Type 0
OpAt K (op.Set x) parts = (parts ≡ []) × (K.fixed x ≡ false)
OpAt K (op.Init x) parts = parts ≡ []
OpAt K o parts = PartOp o

-- a link, by what is wanted of what it gives
abbrev pub LinkAt : Standing → Environment → Wanted → CoreLink-F CoreLink CoreStat CoreCase CoreExpr → Type 0
LinkAt K e w (layer.Strict o parts site) = OpAt K o parts × AllOf (K.expr e (part_wanted o w) false) parts
LinkAt K e w (layer.Lazy when taken other) = K.expr e w false taken × Perhaps (K.expr e w false) other
LinkAt K e w (layer.Run body) = NotHeld w × K.stats e false body

abbrev pub NoCells : Core → Type 0
NoCells core = (f : FunctionId) (function : CoreFunction) → function_at core f ≡ Some function → function.cells ≡ []

-- Where code may stand, its parts may, and no function keeps cells.
pub record Placed (core : Core) (K : Standing) : Type 0 where
  pub uncelled : NoCells core
  pub made : (e : Environment) (f : FunctionId) → K.unmade e f → K.makes e f
  pub none : (e : Environment) (own : Bool) → K.stats e own []
  pub back : (e o : Environment) → K.leads e o → K.inside e → K.inside o
  pub joined : (e : Environment) (own : Bool) (xs ys : List CoreStat) → K.stats e own xs → K.stats e own ys → K.stats e own (xs ++ ys)
  pub rest : (e : Environment) (own : Bool) (x : CoreStat) (xs : List CoreStat) → K.stats e own (x ∷ xs) → K.stats e own xs
  pub stat : (e : Environment) (own : Bool) (x : CoreStat) (xs : List CoreStat) → K.stats e own (x ∷ xs) → StatAt K e own (out-CoreStat x)
  pub head : (e : Environment) (w : Wanted) (in_scope : Bool) (x : CoreExpr) → K.expr e w in_scope x
      → HeadAt K core e (wanted_along (out-CoreExpr x).links w) in_scope (out-CoreExpr x).head
  pub links : (e : Environment) (w : Wanted) (in_scope : Bool) (x : CoreExpr) → K.expr e w in_scope x → K.links e w (out-CoreExpr x).links
  pub further : (e : Environment) (w : Wanted) (l : CoreLink) (ls : List CoreLink) → K.links e w (l ∷ ls) → K.links e w ls
  pub link : (e : Environment) (w : Wanted) (l : CoreLink) (ls : List CoreLink) → K.links e w (l ∷ ls) → LinkAt K e (wanted_along ls w) (out-CoreLink l)

-- ---- pending work

abbrev pub CurrentFits : Makes → Environment → Wanted → Current Mark → Type 0
CurrentFits F e w (Has v) = Fits F e w v
CurrentFits F e w c = Unit {0}

abbrev pub ListFits : Wanted → CoreList → Type 0
ListFits w (OfArray id) = Unit {0}
ListFits w (OfArguments vs) = NotHeld w

-- the operations that read a reference before their parts
abbrev pub Fetches : CoreOp → Type 0
Fetches op.Call = Unit {0}
Fetches (op.Update b) = Unit {0}
Fetches (op.Step u) = Unit {0}
Fetches o = ⊥

abbrev pub PartsAt : Standing → Environment → Wanted → CoreStrict → Type 0
PartsAt K e w p = AllOf (K.expr e (part_wanted p.op (wanted_along p.links w)) false) p.parts × K.links e w p.links

abbrev pub WorkAt : Standing → Environment → Floor → CoreWork → Type 0
WorkAt K e b (SpreadStart list links) = ListFits (wanted_along links b.wanted) list × K.links e b.wanted links
WorkAt K e b (SpreadStep list it links) = ListFits (wanted_along links b.wanted) list × K.links e b.wanted links
WorkAt K e b (SpreadValue list it links) = ListFits (wanted_along links b.wanted) list × K.links e b.wanted links
WorkAt K e b (Derived n) = Unit {0}
WorkAt K e b (Heritage f heritage links) = K.unmade e f × K.links e b.wanted links
WorkAt K e b (Instantiates stats) = K.stats e false stats
WorkAt K e b (Prototype stats) = K.stats e false stats
WorkAt K e b (Resumes n) = Unit {0}
WorkAt K e b (Starts stats) = NotHeld b.wanted × K.stats e b.own stats
WorkAt K e b (YieldsIn links) = K.links e b.wanted links
WorkAt K e b (Delegates it links) = K.links e b.wanted links
WorkAt K e b (DelegateStart links) = K.links e b.wanted links
WorkAt K e b (DelegateTurn it kind v links) = K.links e b.wanted links
WorkAt K e b (DelegateDone it kind v links) = K.links e b.wanted links
WorkAt K e b (DelegateValue kind links) = K.links e b.wanted links
WorkAt K e b w = ⊥

abbrev pub HandAt : Standing → Environment → Wanted → Completion Mark → Type 0
HandAt K e w (Gives v) = Fits K.unmade e w v
HandAt K e w Done = NotHeld w
HandAt K e w (Returns v) = Holds v
HandAt K e w c = Unit {0}

-- a frame on a floor; statements stand where no value is given that a name takes
abbrev pub FrameAt : Standing → Environment → Floor → Frame Mark CoreWork → Type 0
FrameAt K e b (Part p) = PartOp p.op × PartsAt K e b.wanted p × CurrentFits K.unmade e (wanted_by p.op (wanted_along p.links b.wanted)) p.current
FrameAt K e b (Fetch base k p) = Fetches p.op × PartsAt K e b.wanted p
FrameAt K e b (After links) = K.links e b.wanted links
FrameAt K e b (Behind v links) = K.links e b.wanted links × Fits K.unmade e (wanted_along links b.wanted) v
FrameAt K e b (Keyed base links) = K.links e b.wanted links
FrameAt K e b (Store base k links) = K.links e b.wanted links
FrameAt K e b (StepAt u base k links) = K.links e b.wanted links
FrameAt K e b (StepName u x links) = ⊥
FrameAt K e b (Rest xs) = NotHeld b.wanted × K.stats e b.own xs
FrameAt K e b (Choice body cases) = NotHeld b.wanted × K.stats e b.own body × AllOf (CaseAt K e b.own) cases
FrameAt K e b (Subject cases) = NotHeld b.wanted × AllOf (CaseAt K e false) cases
FrameAt K e b (Matching v cases all) = NotHeld b.wanted × AllOf (CaseAt K e false) cases × AllOf (CaseAt K e false) all
FrameAt K e b (LoopTest l) = NotHeld b.wanted × LoopAt K e b.in_scope l
FrameAt K e b (LoopBody l) = NotHeld b.wanted × LoopAt K e b.in_scope l
FrameAt K e b (LoopUpdate l) = NotHeld b.wanted × LoopAt K e b.in_scope l
FrameAt K e b (Target label) = NotHeld b.wanted
FrameAt K e b (Catching x names handler) = NotHeld b.wanted × K.handler e (record { parameter = x; names = names; body = handler })
FrameAt K e b (Finishing last) = NotHeld b.wanted × K.stats e false last
FrameAt K e b (Pending c) = HandAt K e b.wanted c
FrameAt K e b (Restore o) = NotHeld b.wanted × K.leads e o
FrameAt K e b (Work w) = WorkAt K e b w
FrameAt K e b f = Unit {0}

-- frames, and the environment below them
abbrev pub FramesAt : Standing → (Environment → Type 0) → Environment → List (Frame Mark CoreWork) → Type 0
FramesAt K below e [] = below e
FramesAt K below e (f ∷ fs) = FrameAt K e (floor_of fs) f × FramesAt K below (below_frame e f) fs

-- ---- contexts, generators, records and states

abbrev pub anywhere : Environment → Type 0
anywhere e = Unit {0}

-- the outermost context ends where bodies of modules run
abbrev pub Bottom : Standing → List (Context Mark Own CoreWork) → Environment → Type 0
Bottom K [] = K.outermost
Bottom K (k ∷ ks) = anywhere

abbrev pub AllContexts : Standing → List (Context Mark Own CoreWork) → Type 0
AllContexts K [] = Unit {0}
AllContexts K (k ∷ ks) = (FramesAt K (Bottom K ks) k.environment k.frames × K.inside k.environment) × AllContexts K ks

-- what a generator is resumed with isn't a value that a name takes
abbrev pub Saved : Standing → Context Mark Own CoreWork → Type 0
Saved K k = FramesAt K anywhere k.environment k.frames × NotHeld (floor_of k.frames).wanted × K.inside k.environment

abbrev pub GeneratorAt : Standing → Generator → Type 0
GeneratorAt K (AtStart k) = Saved K k
GeneratorAt K (AtYield k) = Saved K k
GeneratorAt K g = Unit {0}

-- a name that is assigned may be written
abbrev pub MayAssign : Standing → Var → Bool → Type 0
MayAssign K x mutable = K.fixed x ≡ false → mutable ≡ true

abbrev pub BindingFits : Standing → Binding Mark → Type 0
BindingFits K b = Holds b.value × MayAssign K b.var b.mutable

abbrev pub RecordsFit : Standing → List (EnvironmentRecord Mark) → Type 0
RecordsFit K rs = AllOf (AllOf (BindingFits K)) rs

abbrev pub BodyAt : Standing → List CoreStat → Type 0
BodyAt K b = (e : Environment) → K.outermost e → K.stats e false b

-- a closure, which keeps no cells
abbrev pub ClosureAt : Standing → Closure Own → Type 0
ClosureAt K c = K.makes c.environment c.function × (c.own.cells ≡ [])

abbrev pub names_in : EnvironmentRecord Mark → List Var
names_in bs = map (λ (b : Binding Mark). b.var) bs

-- all that a state has besides frames
pub record Stored (K : Standing) (e : Environment) (generators : List Generator) (records : List (EnvironmentRecord Mark)) (closures : List (Closure Own)) (ahead : List (List CoreStat)) : Type 0 where
  pub inside : K.inside e
  pub generators_at : AllOf (GeneratorAt K) generators
  pub records_fit : RecordsFit K records
  pub shapes : K.shapes (map names_in records)
  pub closures_at : AllOf (ClosureAt K) closures
  pub ahead_at : AllOf (BodyAt K) ahead

abbrev pub StoredAt : Standing → CoreState → Type 0
StoredAt K st = Stored K st.context.environment st.store.generators st.records st.closures st.ahead

abbrev pub StateAt : Standing → CoreState → Type 0
StateAt K st =
    FramesAt K (Bottom K st.callers) st.context.environment st.context.frames × AllContexts K st.callers × StoredAt K st

abbrev pub ControlAt : Standing → Environment → Floor → Control Mark → Type 0
ControlAt K e b (Begin x) = K.expr e b.wanted b.in_scope x
ControlAt K e b (Go c links) = K.links e b.wanted links × CurrentFits K.unmade e (wanted_along links b.wanted) c
ControlAt K e b (Run xs) = NotHeld b.wanted × K.stats e b.own xs
ControlAt K e b (Hand c) = HandAt K e b.wanted c
ControlAt K e b c = Unit {0}

abbrev pub Everywhere : Standing → Config → Type 0
Everywhere K s = StateAt K s.state × ControlAt K s.state.context.environment (floor_of s.state.context.frames) s.control

-- ---- steps

abbrev pub NextAt : Standing → CoreNext → Type 0
NextAt K (Goes s) = Everywhere K s
NextAt K (Asks event follow) = (a : Reply) → Everywhere K (follow a)
NextAt K (Ends ending) = Unit {0}
NextAt K (Leaves exit) = Unit {0}

abbrev pub NamesFit : Standing → List ScopedName → Type 0
NamesFit K names = AllOf (λ (n : ScopedName). MayAssign K n.var n.mutable) names

-- one record more, with these names
abbrev pub OneMore : Standing → CoreState → List Var → Type 0
OneMore K st xs = K.shapes (map names_in st.records ++ xs ∷ [])

-- What runs along the environment with the next record: the statements of a scope or of a handler,
pub record Entering (K : Standing) (st : CoreState) (bound : List Var) (names : List ScopedName) (body : List CoreStat) : Type 0 where
  pub body_at : K.stats (inner st st.context.environment) true body
  pub inside : K.inside (inner st st.context.environment)
  pub leads : K.leads (inner st st.context.environment) st.context.environment
  pub names_fit : NamesFit K names
  pub more : OneMore K st bound

-- what stood along the environment that is copied,
abbrev pub copied_inner : CoreState → Environment
copied_inner st = inner st (outer st.context.environment)

pub record Copying (K : Standing) (st : CoreState) : Type 0 where
  pub stats : (own : Bool) (xs : List CoreStat) → K.stats st.context.environment own xs → K.stats (copied_inner st) own xs
  pub expr : (w : Wanted) (in_scope : Bool) (x : CoreExpr) → K.expr st.context.environment w in_scope x → K.expr (copied_inner st) w in_scope x
  pub links : (w : Wanted) (ls : List CoreLink) → K.links st.context.environment w ls → K.links (copied_inner st) w ls
  pub inside : K.inside (copied_inner st)
  pub leads : (o : Environment) → K.leads st.context.environment o → K.leads (copied_inner st) o
  pub more : OneMore K st (names_in (innermost st st.context.environment))

-- and the statements of a function that isn't of a script, whose own name isn't assigned.
pub record Calling (core : Core) (K : Standing) (c : Call) (st : CoreState) (r : ClosureCall core c st) : Type 0 where
  pub undeclared : r.function.declared ≡ []
  pub own : Perhaps (λ (x : Var). K.fixed x ≡ true) r.function.own
  pub setup : K.stats (inner st r.closure.environment) false r.function.setup
  pub body : K.stats (inner st r.closure.environment) false r.function.body
  pub inside : K.inside (inner st r.closure.environment)
  pub more : OneMore K st (names_in (bindings_of r.function r.closure c st))

abbrev pub HeadAnew : Standing → CoreState → CoreHead → Type 0
HeadAnew K st (head.Copy xs) = Copying K st
HeadAnew K st h = Unit {0}

abbrev pub StatAnew : Standing → CoreState → CoreStat-F CoreLink CoreStat CoreCase CoreExpr → Type 0
StatAnew K st (layer.Scoped names body) = Entering K st (vars names) names body
StatAnew K st y = Unit {0}

abbrev pub ListAnew : Standing → CoreState → List CoreStat → Type 0
ListAnew K st [] = Unit {0}
ListAnew K st (x ∷ xs) = StatAnew K st (out-CoreStat x)

abbrev pub HandAnew : Standing → CoreState → Completion Mark → List (Frame Mark CoreWork) → Type 0
HandAnew K st (Throws v) (Catching x names handler ∷ fs) = Entering K st (x ∷ vars names) names handler
HandAnew K st c fs = Unit {0}

abbrev pub Anew : Core → Standing → CoreState → Control Mark → Type 0
Anew core K st (Begin x) = HeadAnew K st (out-CoreExpr x).head
Anew core K st (Run xs) = ListAnew K st xs
Anew core K st (Calls c) = (r : ClosureCall core c st) → ClosureAt K r.closure → Calling core K c st r
Anew core K st (Hand c) = HandAnew K st c st.context.frames
Anew core K st c = Unit {0}
