-- Code that stands where it may, by the environment along which it runs: of a state, all code that it holds. A step that makes no record
-- leaves it so.
use Rattle.std.specs.Prelude.{List, [], ◌∷◌, ◌++◌, Option, None, Some}
use Rattle.runs.specs.Laws.{spanned}
use Rattle.runs.specs.Run.{Asks, Ends, Goes, Leaves}
use Rattle.es_outside.specs.declared.host.Reply.{Reply}
use Rattle.core_ast.specs.declared.parts.CoreHead.{CoreHead}
use Rattle.core_ast.specs.declared.parts.CoreHead.TheVariants as head
use Rattle.core_ast.specs.declared.parts.CoreOp.{CoreOp}
use Rattle.core_ast.specs.declared.parts.CoreOp.TheVariants as op
use Rattle.core_ast.specs.declared.parts.Primitive.TheVariants as primitive
use Rattle.core_ast.specs.declared.parts.ScopedName.{ScopedName}
use Rattle.core_ast.specs.declared.parts.Var.{Var}
use Rattle.core_ast.specs.declared.tree.CoreCase.{CoreCase, out-CoreCase}
use Rattle.core_ast.specs.declared.tree.CoreExpr.{CoreExpr, out-CoreExpr}
use Rattle.core_ast.specs.declared.tree.CoreLink.{CoreLink, out-CoreLink}
use Rattle.core_ast.specs.declared.tree.CoreLink.TheOpen as layer
use Rattle.core_ast.specs.declared.tree.CoreLink.TheOpen.{CoreLink-F, CoreStat-F}
use Rattle.core_ast.specs.declared.tree.CoreStat.{CoreStat, out-CoreStat}
use Rattle.core_ast.specs.declared.whole.Core.{Core}
use Rattle.core_meaning.specs.Marks.{AtStart, AtYield, CoreNext, CoreState, CoreWork, DelegateDone, DelegateStart, DelegateTurn, DelegateValue, Delegates, Derived, Generator, Heritage, Instantiates, Mark, Own, Prototype, Resumes, SpreadStart, SpreadStep, SpreadValue, Starts, YieldsIn}
use Rattle.core_meaning.specs.Modules.{core_step}
use Rattle.core_meaning.specs.State.{After, Begin, Behind, Calls, Catching, Choice, Completion, Context, Control, Done, Environment, Fetch, Finishing, Frame, Go, Hand, Keyed, Loop, LoopBody, LoopTest, LoopUpdate, Matching, Part, Rest, Restore, Run, StepAt, StepName, Store, Subject, Throws, Work}
use Rattle.cells_keep_runs.specs.Alike.{Config}
use Rattle.cells_keep_runs.specs.Turned.{CallsNoClosure}

-- what stands where: lists of statements, expressions, links, and handlers

pub record Handler : Type 0 where
  pub parameter : Var
  pub names : List ScopedName
  pub body : List CoreStat

abbrev pub At : Type 0 → Type 1
At A = Environment → A → Type 0

-- ---- the parts of code

abbrev pub AllAt1 : {A : Type 0} → At A → At (List A)
AllAt1 P e [] = Unit {0}
AllAt1 P e (x ∷ xs) = P e x × AllAt1 P e xs

abbrev pub IfAt : {A : Type 0} → At A → At (Option A)
IfAt P e None = Unit {0}
IfAt P e (Some x) = P e x

abbrev pub CaseAt : At (List CoreStat) → At CoreExpr → At CoreCase
CaseAt S E e c = IfAt E e (out-CoreCase c).test × S e (out-CoreCase c).body

abbrev pub LoopAt : At (List CoreStat) → At CoreExpr → At Loop
LoopAt S E e l = IfAt E e l.test × IfAt E e l.update × S e l.body

-- scopes make records, and there are no yield statements
abbrev pub StatAt : At (List CoreStat) → At CoreExpr → At Handler → At (CoreStat-F CoreLink CoreStat CoreCase CoreExpr)
StatAt S E H e (layer.Do x) = E e x
StatAt S E H e (layer.If cases) = AllAt1 (CaseAt S E) e cases
StatAt S E H e (layer.Switch subject cases) = E e subject × AllAt1 (CaseAt S E) e cases
StatAt S E H e (layer.Loop labels test update body) = LoopAt S E e (record { labels = labels; test = test; update = update; body = body })
StatAt S E H e (layer.Labelled label body) = S e body
StatAt S E H e (layer.Jump goes_on label) = Unit {0}
StatAt S E H e (layer.Return x) = E e x
StatAt S E H e (layer.Throw x) = E e x
StatAt S E H e (layer.TryCatch block x names handler) = S e block × H e (record { parameter = x; names = names; body = handler })
StatAt S E H e (layer.TryFinally block last) = S e block × S e last
StatAt S E H e (layer.Scoped names body) = Unit {0}
StatAt S E H e (layer.Yield value kind result) = ⊥

-- the step of a generator isn't made in an expression
abbrev pub HeadMay : CoreHead → Type 0
HeadMay (head.Primitive primitive.GeneratorMake) = ⊥
HeadMay h = Unit {0}

-- `++` of a name is of scripts
abbrev pub OpMay : CoreOp → Type 0
OpMay (op.StepVariable u x) = ⊥
OpMay o = Unit {0}

abbrev pub LinkAt : At (List CoreStat) → At CoreExpr → At (CoreLink-F CoreLink CoreStat CoreCase CoreExpr)
LinkAt S E e (layer.Strict o parts site) = OpMay o × AllAt1 E e parts
LinkAt S E e (layer.Lazy when taken other) = E e taken × IfAt E e other
LinkAt S E e (layer.Run body) = S e body

-- Where code may stand, its parts may.
pub record Placing (S : At (List CoreStat)) (E : At CoreExpr) (L : At (List CoreLink)) (H : At Handler) : Type 0 where
  pub none : (e : Environment) → S e []
  pub joined : (e : Environment) (xs ys : List CoreStat) → S e xs → S e ys → S e (xs ++ ys)
  pub rest : (e : Environment) (x : CoreStat) (xs : List CoreStat) → S e (x ∷ xs) → S e xs
  pub stat : (e : Environment) (x : CoreStat) (xs : List CoreStat) → S e (x ∷ xs) → StatAt S E H e (out-CoreStat x)
  pub head : (e : Environment) (x : CoreExpr) → E e x → HeadMay (out-CoreExpr x).head
  pub links : (e : Environment) (x : CoreExpr) → E e x → L e (out-CoreExpr x).links
  pub further : (e : Environment) (l : CoreLink) (ls : List CoreLink) → L e (l ∷ ls) → L e ls
  pub link : (e : Environment) (l : CoreLink) (ls : List CoreLink) → L e (l ∷ ls) → LinkAt S E e (out-CoreLink l)

-- ---- pending work, contexts and states

abbrev pub WorkAt : At (List CoreStat) → At (List CoreLink) → At CoreWork
WorkAt S L e (SpreadStart list links) = L e links
WorkAt S L e (SpreadStep list it links) = L e links
WorkAt S L e (SpreadValue list it links) = L e links
WorkAt S L e (Derived n) = Unit {0}
WorkAt S L e (Heritage f heritage links) = L e links
WorkAt S L e (Instantiates stats) = S e stats
WorkAt S L e (Prototype stats) = S e stats
WorkAt S L e (Resumes n) = Unit {0}
WorkAt S L e (Starts stats) = S e stats
WorkAt S L e (YieldsIn links) = L e links
WorkAt S L e (Delegates it links) = L e links
WorkAt S L e (DelegateStart links) = L e links
WorkAt S L e (DelegateTurn it kind v links) = L e links
WorkAt S L e (DelegateDone it kind v links) = L e links
WorkAt S L e (DelegateValue kind links) = L e links
WorkAt S L e w = ⊥

abbrev pub FrameAt : At (List CoreStat) → At CoreExpr → At (List CoreLink) → At Handler → At (Frame Mark CoreWork)
FrameAt S E L H e (Part p) = OpMay p.op × AllAt1 E e p.parts × L e p.links
FrameAt S E L H e (Fetch base k p) = OpMay p.op × AllAt1 E e p.parts × L e p.links
FrameAt S E L H e (After links) = L e links
FrameAt S E L H e (Behind v links) = L e links
FrameAt S E L H e (Keyed base links) = L e links
FrameAt S E L H e (Store base k links) = L e links
FrameAt S E L H e (StepAt u base k links) = L e links
FrameAt S E L H e (StepName u x links) = ⊥
FrameAt S E L H e (Rest xs) = S e xs
FrameAt S E L H e (Choice body cases) = S e body × AllAt1 (CaseAt S E) e cases
FrameAt S E L H e (Subject cases) = AllAt1 (CaseAt S E) e cases
FrameAt S E L H e (Matching v cases all) = AllAt1 (CaseAt S E) e cases × AllAt1 (CaseAt S E) e all
FrameAt S E L H e (LoopTest l) = LoopAt S E e l
FrameAt S E L H e (LoopBody l) = LoopAt S E e l
FrameAt S E L H e (LoopUpdate l) = LoopAt S E e l
FrameAt S E L H e (Catching x names handler) = H e (record { parameter = x; names = names; body = handler })
FrameAt S E L H e (Finishing last) = S e last
FrameAt S E L H e (Work w) = WorkAt S L e w
FrameAt S E L H e f = Unit {0}

-- the environment of the frames below
abbrev pub below_frame : Environment → Frame Mark CoreWork → Environment
below_frame e (Restore o) = o
below_frame e f = e

abbrev pub FramesAt : At (List CoreStat) → At CoreExpr → At (List CoreLink) → At Handler → At (List (Frame Mark CoreWork))
FramesAt S E L H e [] = Unit {0}
FramesAt S E L H e (f ∷ fs) = FrameAt S E L H e f × FramesAt S E L H (below_frame e f) fs

abbrev pub AllContexts : At (List CoreStat) → At CoreExpr → At (List CoreLink) → At Handler → List (Context Mark Own CoreWork) → Type 0
AllContexts S E L H [] = Unit {0}
AllContexts S E L H (k ∷ ks) = FramesAt S E L H k.environment k.frames × AllContexts S E L H ks

abbrev pub GeneratorAt : At (List CoreStat) → At CoreExpr → At (List CoreLink) → At Handler → Generator → Type 0
GeneratorAt S E L H (AtStart k) = FramesAt S E L H k.environment k.frames
GeneratorAt S E L H (AtYield k) = FramesAt S E L H k.environment k.frames
GeneratorAt S E L H g = Unit {0}

abbrev pub AllGenerators : At (List CoreStat) → At CoreExpr → At (List CoreLink) → At Handler → List Generator → Type 0
AllGenerators S E L H [] = Unit {0}
AllGenerators S E L H (g ∷ gs) = GeneratorAt S E L H g × AllGenerators S E L H gs

abbrev pub StateAt : At (List CoreStat) → At CoreExpr → At (List CoreLink) → At Handler → CoreState → Type 0
StateAt S E L H st =
    FramesAt S E L H st.context.environment st.context.frames × AllContexts S E L H st.callers × AllGenerators S E L H st.store.generators

abbrev pub ControlAt : At (List CoreStat) → At CoreExpr → At (List CoreLink) → At (Control Mark)
ControlAt S E L e (Begin x) = E e x
ControlAt S E L e (Go c links) = L e links
ControlAt S E L e (Run xs) = S e xs
ControlAt S E L e c = Unit {0}

abbrev pub Everywhere : At (List CoreStat) → At CoreExpr → At (List CoreLink) → At Handler → Config → Type 0
Everywhere S E L H s = StateAt S E L H s.state × ControlAt S E L s.state.context.environment s.control

-- ---- steps

abbrev pub NextAt : At (List CoreStat) → At CoreExpr → At (List CoreLink) → At Handler → CoreNext → Type 0
NextAt S E L H (Goes s) = Everywhere S E L H s
NextAt S E L H (Asks event follow) = (a : Reply) → Everywhere S E L H (follow a)
NextAt S E L H (Ends ending) = Unit {0}
NextAt S E L H (Leaves exit) = Unit {0}

abbrev pub HeadPlain : CoreHead → Type 0
HeadPlain (head.Copy xs) = ⊥
HeadPlain h = Unit {0}

abbrev pub StatPlain : CoreStat-F CoreLink CoreStat CoreCase CoreExpr → Type 0
StatPlain (layer.Scoped names body) = ⊥
StatPlain y = Unit {0}

abbrev pub ListPlain : List CoreStat → Type 0
ListPlain [] = Unit {0}
ListPlain (x ∷ xs) = StatPlain (out-CoreStat x)

-- no handler takes a throw, and no body of a module follows
abbrev pub HandPlain : Completion Mark → List (Frame Mark CoreWork) → List (Context Mark Own CoreWork) → Type 0
HandPlain (Throws v) (Catching x names handler ∷ fs) ks = ⊥
HandPlain Done [] [] = ⊥
HandPlain c fs ks = Unit {0}

-- the step makes no record, and no body of a module follows
abbrev pub MakesNoRecord : CoreState → Control Mark → Type 0
MakesNoRecord st (Begin x) = HeadPlain (out-CoreExpr x).head
MakesNoRecord st (Run xs) = ListPlain xs
MakesNoRecord st (Calls c) = CallsNoClosure st.heap c.function
MakesNoRecord st (Hand c) = HandPlain c st.context.frames st.callers
MakesNoRecord st c = Unit {0}

-- Such a step leaves all code where it may stand.
abbrev pub CodeStays : Type 0 → Type 0 → Type 0 → Type 0 → Type 0
CodeStays V W X Y = (env : V → Environment) (stats : V → List CoreStat) (env2 : W → Environment) (expr : W → CoreExpr)
    (env3 : X → Environment) (links : X → List CoreLink) (env4 : Y → Environment) (handler : Y → Handler)
    → Placing (spanned env stats) (spanned env2 expr) (spanned env3 links) (spanned env4 handler)
    → (core : Core) (s : Config) → MakesNoRecord s.state s.control
    → Everywhere (spanned env stats) (spanned env2 expr) (spanned env3 links) (spanned env4 handler) s
    → NextAt (spanned env stats) (spanned env2 expr) (spanned env3 links) (spanned env4 handler) (core_step core s)
