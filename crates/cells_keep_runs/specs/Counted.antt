-- How much there is of something in code that runs at most once where it stands, and how many contexts there are of a kind. A step leaves at most
-- one where there was at most one.
use Rattle.std.specs.Prelude.{◌≤◌, ◌+◌, List, [], ◌∷◌, ◌++◌, ◌≡◌, Option, None, Some, if◌then◌else◌, nat_lt, ℕ}
use Rattle.es_outside.specs.declared.host.Reply.{Reply}
use Rattle.runs.specs.Run.{Asks, Ends, Goes, Leaves}
use Rattle.core_ast.specs.declared.parts.CoreHead.{CoreHead}
use Rattle.core_ast.specs.declared.parts.CoreHead.TheVariants as head
use Rattle.core_ast.specs.declared.parts.Primitive.TheVariants as primitive
use Rattle.core_ast.specs.declared.parts.ScopedName.{ScopedName}
use Rattle.core_ast.specs.declared.tree.CoreCase.{CoreCase, out-CoreCase}
use Rattle.core_ast.specs.declared.tree.CoreExpr.{CoreExpr, out-CoreExpr}
use Rattle.core_ast.specs.declared.tree.CoreLink.{CoreLink, out-CoreLink}
use Rattle.core_ast.specs.declared.tree.CoreLink.TheOpen as layer
use Rattle.core_ast.specs.declared.tree.CoreLink.TheOpen.{CoreLink-F, CoreStat-F}
use Rattle.core_ast.specs.declared.tree.CoreStat.{CoreStat, out-CoreStat}
use Rattle.core_ast.specs.declared.whole.Core.{Core}
use Rattle.core_meaning.specs.Marks.{AtStart, AtYield, CoreNext, CoreState, CoreWork, DelegateDone, DelegateStart, DelegateTurn, DelegateValue, Delegates, Generator, Heritage, Instantiates, Mark, Own, Prototype, PrototypeFor, SpreadStart, SpreadStep, SpreadValue, Starts, Stepping, Steps, YieldsIn}
use Rattle.core_meaning.specs.Modules.{core_step}
use Rattle.core_meaning.specs.State.{After, Begin, Behind, Catching, Choice, Context, Control, Environment, Fetch, Finishing, Frame, Go, Hand, Keyed, Loop, LoopBody, LoopTest, LoopUpdate, Matching, Part, Rest, Returns, Run, StepAt, StepName, Store, Subject, Work}
use Rattle.cells_keep_runs.specs.Alike.{Config}
use Rattle.cells_keep_runs.specs.Placing.{MakesNoRecord, below_frame}

-- ---- measures of code

-- how much statements, an expression and links have, and the names of a scope themselves
pub record Measure : Type 0 where
  pub stats : List CoreStat → ℕ
  pub expr : CoreExpr → ℕ
  pub links : List CoreLink → ℕ
  pub names : List ScopedName → ℕ

abbrev pub total : {A : Type 0} → (A → ℕ) → List A → ℕ
total f [] = 0
total f (x ∷ xs) = f x + total f xs

abbrev pub of_some : {A : Type 0} → (A → ℕ) → Option A → ℕ
of_some f None = 0
of_some f (Some x) = f x

abbrev pub larger : ℕ → ℕ → ℕ
larger n m = if nat_lt n m then m else n

abbrev pub tests : Measure → List CoreCase → ℕ
tests m cs = total (λ c. of_some m.expr (out-CoreCase c).test) cs

abbrev pub bodies : Measure → List CoreCase → ℕ
bodies m cs = total (λ c. m.stats (out-CoreCase c).body) cs

abbrev pub in_cases : Measure → List CoreCase → ℕ
in_cases m cs = tests m cs + bodies m cs

-- a loop runs often
abbrev pub in_turn : Measure → Loop → ℕ
in_turn m l = of_some m.expr l.test + (of_some m.expr l.update + m.stats l.body)

abbrev pub in_loop : Measure → Loop → ℕ
in_loop m l = in_turn m l + in_turn m l

abbrev pub in_stat : Measure → CoreStat-F CoreLink CoreStat CoreCase CoreExpr → ℕ
in_stat m (layer.Do x) = m.expr x
in_stat m (layer.If cases) = in_cases m cases
in_stat m (layer.Switch subject cases) = m.expr subject + in_cases m cases
in_stat m (layer.Loop labels test update body) = in_loop m (record { labels = labels; test = test; update = update; body = body })
in_stat m (layer.Labelled label body) = m.stats body
in_stat m (layer.Jump goes_on label) = 0
in_stat m (layer.Return x) = m.expr x
in_stat m (layer.Throw x) = m.expr x
in_stat m (layer.TryCatch block x names handler) = m.stats block + (m.names names + m.stats handler)
in_stat m (layer.TryFinally block last) = m.stats block + m.stats last
in_stat m (layer.Scoped names body) = m.names names + m.stats body
in_stat m (layer.Yield value kind result) = m.expr value

-- and so does the step of a generator
abbrev pub in_head : CoreHead → ℕ
in_head (head.Primitive primitive.GeneratorMake) = 2
in_head h = 0

abbrev pub in_link : Measure → CoreLink-F CoreLink CoreStat CoreCase CoreExpr → ℕ
in_link m (layer.Strict o parts site) = total m.expr parts
in_link m (layer.Lazy when taken other) = m.expr taken + of_some m.expr other
in_link m (layer.Run body) = m.stats body

-- Code has at least as much as its parts.
pub record Measures (m : Measure) : Type 0 where
  pub none : m.stats [] ≡ 0
  pub joined : (xs ys : List CoreStat) → m.stats (xs ++ ys) ≤ m.stats xs + m.stats ys
  pub stat : (x : CoreStat) (xs : List CoreStat) → in_stat m (out-CoreStat x) + m.stats xs ≤ m.stats (x ∷ xs)
  pub expr : (x : CoreExpr) → in_head (out-CoreExpr x).head + m.links (out-CoreExpr x).links ≤ m.expr x
  pub link : (l : CoreLink) (ls : List CoreLink) → in_link m (out-CoreLink l) + m.links ls ≤ m.links (l ∷ ls)

-- ---- what a frame has, beside those below it; of a switch the tests that are left, and the bodies from a case on or from the default

abbrev pub in_matching : Measure → List CoreCase → List CoreCase → ℕ
in_matching m [] all = bodies m all
in_matching m (c ∷ cs) all = tests m cs + larger (bodies m (c ∷ cs)) (bodies m all)

-- the context of a call that makes a generator ends with that
abbrev pub above : List (Frame Mark CoreWork) → ℕ
above [] = 0
above (f ∷ fs) = 2

abbrev pub with_work : Measure → CoreWork → List (Frame Mark CoreWork) → ℕ → ℕ
with_work m (SpreadStart list links) fs n = m.links links + n
with_work m (SpreadStep list it links) fs n = m.links links + n
with_work m (SpreadValue list it links) fs n = m.links links + n
with_work m (Heritage f heritage links) fs n = m.links links + n
with_work m (Instantiates stats) fs n = m.stats stats + (above fs + n)
with_work m (Prototype stats) fs n = m.stats stats + (above fs + n)
with_work m (PrototypeFor links) fs n = 2 + (m.links links + n)
with_work m (Starts stats) fs n = m.stats stats + n
with_work m (YieldsIn links) fs n = m.links links + n
with_work m (Delegates it links) fs n = m.links links + n
with_work m (DelegateStart links) fs n = m.links links + n
with_work m (DelegateTurn it kind v links) fs n = m.links links + n
with_work m (DelegateDone it kind v links) fs n = m.links links + n
with_work m (DelegateValue kind links) fs n = m.links links + n
with_work m (Steps f e) fs n = 2 + n
with_work m (Stepping f e) fs n = 2 + n
with_work m w fs n = n

abbrev pub with_frame : Measure → Frame Mark CoreWork → List (Frame Mark CoreWork) → ℕ → ℕ
with_frame m (Part p) fs n = total m.expr p.parts + (m.links p.links + n)
with_frame m (Fetch base k p) fs n = total m.expr p.parts + (m.links p.links + n)
with_frame m (After links) fs n = m.links links + n
with_frame m (Behind v links) fs n = m.links links + n
with_frame m (Keyed base links) fs n = m.links links + n
with_frame m (Store base k links) fs n = m.links links + n
with_frame m (StepAt u base k links) fs n = m.links links + n
with_frame m (StepName u x links) fs n = m.links links + n
with_frame m (Rest xs) fs n = m.stats xs + n
with_frame m (Choice body cases) fs n = m.stats body + (in_cases m cases + n)
with_frame m (Subject cases) fs n = in_cases m cases + n
with_frame m (Matching v cases all) fs n = in_matching m cases all + n
with_frame m (LoopTest l) fs n = in_loop m l + n
with_frame m (LoopBody l) fs n = in_loop m l + n
with_frame m (LoopUpdate l) fs n = in_loop m l + n
with_frame m (Catching x names handler) fs n = (m.names names + m.stats handler) + n
with_frame m (Finishing last) fs n = m.stats last + n
with_frame m (Work w) fs n = with_work m w fs n
with_frame m f fs n = n

abbrev pub in_frames : Measure → List (Frame Mark CoreWork) → ℕ
in_frames m [] = 0
in_frames m (f ∷ fs) = with_frame m f fs (in_frames m fs)

abbrev pub with_control : Measure → Control Mark → ℕ → ℕ
with_control m (Begin x) n = m.expr x + n
with_control m (Go c links) n = m.links links + n
with_control m (Run xs) n = m.stats xs + n
with_control m c n = n

-- ---- contexts

-- the environment that a context ends with
abbrev pub bottom : Environment → List (Frame Mark CoreWork) → Environment
bottom e [] = e
bottom e (f ∷ fs) = bottom (below_frame e f) fs

abbrev pub Contexts1 : Type 0
Contexts1 = List (Context Mark Own CoreWork)

-- so much may be in a context, by the environment that it ends with, and so much do contexts count
pub record Limit : Type 0 where
  pub most : Environment → ℕ
  pub counts : Environment → ℕ

abbrev pub Fits : Measure → Limit → Context Mark Own CoreWork → Type 0
Fits m b k = in_frames m k.frames ≤ b.most (bottom k.environment k.frames)

abbrev pub AllFit : Measure → Limit → Contexts1 → Type 0
AllFit m b [] = Unit {0}
AllFit m b (k ∷ ks) = Fits m b k × AllFit m b ks

abbrev pub GeneratorFits : Measure → Limit → Generator → Type 0
GeneratorFits m b (AtStart k) = Fits m b k
GeneratorFits m b (AtYield k) = Fits m b k
GeneratorFits m b g = Unit {0}

abbrev pub AllGeneratorsFit : Measure → Limit → List Generator → Type 0
AllGeneratorsFit m b [] = Unit {0}
AllGeneratorsFit m b (g ∷ gs) = GeneratorFits m b g × AllGeneratorsFit m b gs

abbrev pub counted : Limit → Context Mark Own CoreWork → ℕ
counted b k = b.counts (bottom k.environment k.frames)

abbrev pub generator_counted : Limit → Generator → ℕ
generator_counted b (AtStart k) = counted b k
generator_counted b (AtYield k) = counted b k
generator_counted b g = 0

-- a context that returns counts no more
abbrev pub going : Control Mark → List (Frame Mark CoreWork) → ℕ → ℕ
going (Hand (Returns v)) [] n = 0
going c fs n = n

-- all contexts, but for how much there is in the present one, which counts so much
abbrev pub OthersFit : Measure → Limit → ℕ → CoreState → Type 0
OthersFit m b n st =
    AllFit m b st.callers × AllGeneratorsFit m b st.store.generators
    × (n + (total (counted b) st.callers + total (generator_counted b) st.store.generators) ≤ 1)

abbrev pub AllFits : Measure → Limit → Config → Type 0
AllFits m b s =
    OthersFit m b (going s.control s.state.context.frames (counted b s.state.context)) s.state
    × (with_control m s.control (in_frames m s.state.context.frames) ≤ b.most (bottom s.state.context.environment s.state.context.frames))

-- ---- steps

abbrev pub NextFits : Measure → Limit → CoreNext → Type 0
NextFits m b (Goes s) = AllFits m b s
NextFits m b (Asks event follow) = (a : Reply) → AllFits m b (follow a)
NextFits m b (Ends ending) = Unit {0}
NextFits m b (Leaves exit) = Unit {0}

-- A step that makes no record leaves as much in each context at most, and as many contexts, where there may be one.
abbrev pub StepsFit : Type 0
StepsFit = (m : Measure) (b : Limit) → Measures m → ((e : Environment) → b.most e ≤ 1)
    → (core : Core) (s : Config) → MakesNoRecord s.state s.control → AllFits m b s → NextFits m b (core_step core s)
