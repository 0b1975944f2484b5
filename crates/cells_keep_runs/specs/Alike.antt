-- When a step on one core does what a step on another does, and what a relation of configurations needs for the operations that a pass
-- leaves as they are.
use Rattle.std.specs.Prelude.{◌≡◌, List, Option}
use Rattle.runs.specs.Laws.{spanned}
use Rattle.runs.specs.Run.{Asks, Ends, Goes, Leaves}
use Rattle.es_outside.specs.declared.events.Site.{Site}
use Rattle.es_outside.specs.declared.host.Reply.{Reply}
use Rattle.es_value.specs.declared.value.Value.{Value}
use Rattle.es_heap.specs.Heaps.{Heap}
use Rattle.es_heap.specs.declared.key.Key.{Key}
use Rattle.es_calls.specs.declared.call.BuiltinCall.{BuiltinCall}
use Rattle.core_ast.specs.declared.parts.CoreOp.{CoreOp}
use Rattle.core_ast.specs.declared.parts.CoreOp.TheVariants as op
use Rattle.core_ast.specs.declared.parts.Update.{Update}
use Rattle.core_ast.specs.declared.tree.CoreExpr.{CoreExpr}
use Rattle.core_ast.specs.declared.tree.CoreLink.{CoreLink}
use Rattle.core_ast.specs.declared.whole.Core.{Core}
use Rattle.core_meaning.specs.Marks.{CoreNext, CoreState, CoreStore, CoreStrict, CoreWork, Mark, sorts}
use Rattle.core_meaning.specs.Modules.{rows}
use Rattle.core_meaning.specs.Rows.{place_of, pushed, with_control, with_heap}
use Rattle.core_meaning.specs.State.{After, Behind, Call, Calls, Configuration, CoreValue, Current, Frame, Gives, Go, Hand, Keyed, Made, Making, Operation, StepAt, Store, Throws, Turn}
use Rattle.core_meaning.specs.Step.{act}

abbrev pub Config : Type 0
Config = Configuration sorts CoreStore

-- the links along which a value goes on, and the state there
pub record Along : Type 0 where
  pub links : List CoreLink
  pub state : CoreState

-- The second step does what the first does, and what they come to is related. A first one that leaves claims nothing.
abbrev pub Alike : (Config → Config → Type 0) → CoreNext → CoreNext → Type 0
Alike R (Goes s) next = (t : Config) × (next ≡ Goes t) × R s t
Alike R (Asks e follow) next = (follow2 : Reply → Config) × (next ≡ Asks e follow2) × ((a : Reply) → R (follow a) (follow2 a))
Alike R (Ends ending) next = next ≡ Ends ending
Alike R (Leaves exit) next = Unit {0}

-- a frame that waits with links for a value
pub data LinkFrame : Type 0 where
  OfAfter : LinkFrame
  OfBehind : CoreValue Mark → LinkFrame
  OfKeyed : Value → LinkFrame
  OfStore : Value → Key → LinkFrame
  OfStepAt : Update → Value → Key → LinkFrame

abbrev pub link_frame : LinkFrame → List CoreLink → Frame Mark CoreWork
link_frame OfAfter links = After links
link_frame (OfBehind v) links = Behind v links
link_frame (OfKeyed base) links = Keyed base links
link_frame (OfStore base k) links = Store base k links
link_frame (OfStepAt u base k) links = StepAt u base k links

-- a frame that holds no part of a core
abbrev pub IsPlain : Frame Mark CoreWork → Type 0
IsPlain (Operation site c) = Unit {0}
IsPlain (Making f args target) = Unit {0}
IsPlain (Made o) = Unit {0}
IsPlain f = ⊥

abbrev pub along_heap : Heap → Along → Along
along_heap heap p = record p { state = with_heap heap p.state }

-- `R` relates configurations, `B` where values go on along links, and `U` states whose frames are related, whatever they do next.
pub record Carries (R : Config → Config → Type 0) (B : Along → Along → Type 0) (U : CoreState → CoreState → Type 0) : Type 0 where
  pub heap : (p q : Along) → B p q → q.state.heap ≡ p.state.heap
  pub heaps : (p q : Along) (h : Heap) → B p q → B (along_heap h p) (along_heap h q)
  pub goes : (p q : Along) (c : Current Mark) → B p q
      → R (with_control (Go c p.links) p.state) (with_control (Go c q.links) q.state)
  pub throws : (p q : Along) (v : Value) → B p q
      → R (with_control (Hand (Throws v)) p.state) (with_control (Hand (Throws v)) q.state)
  pub frames : (p q : Along) (f : LinkFrame) → B p q
      → U (pushed (link_frame f p.links) p.state) (pushed (link_frame f q.links) q.state)
  pub under_heap : (s u : CoreState) → U s u → u.heap ≡ s.heap
  pub under_heaps : (s u : CoreState) (h : Heap) → U s u → U (with_heap h s) (with_heap h u)
  pub under_place : (s u : CoreState) → U s u → place_of u ≡ place_of s
  pub under_frames : (s u : CoreState) (f : Frame Mark CoreWork) → IsPlain f → U s u → U (pushed f s) (pushed f u)
  pub turns : (s u : CoreState) (site : Option Site) (c : BuiltinCall) → U s u
      → R (with_control (Turn site c) s) (with_control (Turn site c) u)
  pub calls : (s u : CoreState) (c : Call) → U s u → R (with_control (Calls c) s) (with_control (Calls c) u)
  pub gives : (s u : CoreState) (v : CoreValue Mark) → U s u
      → R (with_control (Hand (Gives v)) s) (with_control (Hand (Gives v)) u)
  pub under_throws : (s u : CoreState) (v : Value) → U s u
      → R (with_control (Hand (Throws v)) s) (with_control (Hand (Throws v)) u)

-- operations of the language that name no variable
unfoldable pub IsUntouched : CoreOp → Type 0
IsUntouched op.CallList = ⊥
IsUntouched op.CallListWith = ⊥
IsUntouched op.NewList = ⊥
IsUntouched (op.Set x) = ⊥
IsUntouched (op.Init x) = ⊥
IsUntouched (op.StepVariable u x) = ⊥
IsUntouched op.Content = ⊥
IsUntouched op.SetContent = ⊥
IsUntouched (op.Primitive p) = ⊥
IsUntouched op.Yield = ⊥
IsUntouched op.Delegate = ⊥
IsUntouched o = Unit {0}

abbrev pub strict : CoreOp → Option Site → Current Mark → List (CoreValue Mark) → List CoreExpr → List CoreLink → CoreStrict
strict o site c values parts links =
    record { op = o; site = site; current = c; values = values; parts = parts; links = links }

-- An operation that names no variable does the same on two cores, at the same values and with the same heap, and goes on along
-- related links.
abbrev pub UntouchedAreAlike : Type 0 → Type 0 → Type 0 → Type 0
UntouchedAreAlike V W X =
    (from to : V → Config) (near far : W → Along) (below above : X → CoreState)
    → Carries (spanned from to) (spanned near far) (spanned below above)
    → (core core2 : Core) (o : CoreOp) (site : Option Site) (c : Current Mark) (values : List (CoreValue Mark)) (parts : List CoreExpr) (p q : Along)
    → IsUntouched o → spanned near far p q
    → Alike (spanned from to) (act (rows core) core (strict o site c values parts p.links) p.state)
    (act (rows core2) core2 (strict o site c values parts q.links) q.state)
