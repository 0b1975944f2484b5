-- What is left to ask of a configuration whose code fits: that both machines find the names, and that what makes a record may make it. Then it is
-- ready, or its step leaves.
use Rattle.std.specs.Prelude.{◌≡◌, ◌⊎◌, ◌++◌, true, List, [], ◌∷◌, None, Some, slice_get, ℕ}
use Rattle.shared_meaning.specs.Ending.{Exit}
use Rattle.runs.specs.Run.{Leaves}
use Rattle.core_ast.specs.declared.parts.CoreHead.{CoreHead}
use Rattle.core_ast.specs.declared.parts.CoreHead.TheVariants as head
use Rattle.core_ast.specs.declared.parts.CoreOp.{CoreOp}
use Rattle.core_ast.specs.declared.parts.CoreOp.TheVariants as op
use Rattle.core_ast.specs.declared.parts.FunctionId.{FunctionId}
use Rattle.core_ast.specs.declared.parts.Primitive.TheVariants as primitive
use Rattle.core_ast.specs.declared.parts.ScopedName.{ScopedName}
use Rattle.core_ast.specs.declared.parts.Var.{Var}
use Rattle.core_ast.specs.declared.tree.CoreCase.{CoreCase}
use Rattle.core_ast.specs.declared.tree.CoreExpr.{CoreExpr, out-CoreExpr}
use Rattle.core_ast.specs.declared.tree.CoreLink.{CoreLink, out-CoreLink}
use Rattle.core_ast.specs.declared.tree.CoreLink.TheOpen as layer
use Rattle.core_ast.specs.declared.tree.CoreLink.TheOpen.{CoreLink-F, CoreStat-F}
use Rattle.core_ast.specs.declared.tree.CoreStat.{CoreStat, out-CoreStat}
use Rattle.core_ast.specs.declared.whole.Core.{Core}
use Rattle.core_meaning.specs.Marks.{CoreState, CoreWork, Heritage, Mark, Unmade}
use Rattle.core_meaning.specs.Modules.{core_step}
use Rattle.core_meaning.specs.Names.{Resolved, binding_in, record_at, resolve}
use Rattle.core_meaning.specs.Rows.{with_frames}
use Rattle.core_meaning.specs.State.{After, Begin, Catching, Completion, Control, CoreValue, Current, Environment, Extra, Frame, Gives, Go, Hand, Has, Part, Run, Throws, User, Work}
use Rattle.pass_rules.specs.Cells.{is_among}
use Rattle.pass_rules.specs.Scopes.{vars}
use Rattle.cells_keep_runs.specs.Alike.{Config}
use Rattle.cells_keep_runs.specs.Closed.{AllSeen, KeepsAll}
use Rattle.cells_keep_runs.specs.Copied.{Copyable}
use Rattle.cells_keep_runs.specs.Entered.{AllAt}
use Rattle.cells_keep_runs.specs.Fitting.{Naming, fit_standing}
use Rattle.cells_keep_runs.specs.Floors.{Everywhere}
use Rattle.cells_keep_runs.specs.Memory.{Keeping, Seat, Seats, cell_found}
use Rattle.cells_keep_runs.specs.Opened.{write_in}
use Rattle.cells_keep_runs.specs.Ready.{AllAmong, Ready, WritesSeen}
use Rattle.cells_keep_runs.specs.Seen.{Sees}

-- a name is found, by both machines
pub record NameFound (owners : List ℕ) (seats : Seats) (s : CoreState) (x : Var) : Type 0 where
  pub found : Resolved Mark
  pub finds : resolve s x ≡ Some found
  pub sees : Sees owners seats s.context.environment found.at x

-- the names whose cells the closures of a function keep are
pub record FunctionKept (kept : Keeping) (owners : List ℕ) (seats : Seats) (s : CoreState) (f : FunctionId) : Type 0 where
  pub seen : AllSeen owners seats s (kept f)
  pub all : KeepsAll seats s.context.environment f (kept f)

-- the innermost record may be copied
pub record CopyFound (owners : List ℕ) (seats : Seats) (s : CoreState) (xs : List Var) : Type 0 where
  pub number : ℕ
  pub outer : Environment
  pub innermost : s.context.environment ≡ number ∷ outer
  pub copyable : Copyable owners seats s.records s.context.environment number xs

-- the names of a scope are locals of a record where the target finds them, and which has none of them before
pub record ScopeFound (seats : Seats) (s : CoreState) (names : List ScopedName) : Type 0 where
  pub number : ℕ
  pub seat : Seat
  pub home : ℕ
  pub seated : slice_get seats number ≡ Some seat
  pub image : seat.image ≡ Some home
  pub at : AllAt seats s.context.environment home names
  pub locals : AllAmong seat.locals names
  pub clear : (x : Var) → is_among x (vars names) ≡ true → binding_in (record_at s.records number) x ≡ None
  pub unkept : (x : Var) → is_among x (vars names) ≡ true → cell_found seat.cells x ≡ None

-- ---- by what comes next

abbrev pub HeadFound : Keeping → List ℕ → Seats → CoreState → CoreHead → Type 0
HeadFound kept owners seats s (head.Variable y) =
    (r : Resolved Mark) → resolve s y ≡ Some r → Sees owners seats s.context.environment r.at y
HeadFound kept owners seats s (head.Function f) = FunctionKept kept owners seats s f
HeadFound kept owners seats s (head.Copy xs) = CopyFound owners seats s xs
HeadFound kept owners seats s h = Unit {0}

abbrev pub OpFound : List ℕ → Seats → CoreState → CoreOp → Type 0
OpFound owners seats s (op.Set x) = NameFound owners seats s x
OpFound owners seats s (op.Init x) = NameFound owners seats s x
OpFound owners seats s o = Unit {0}

abbrev pub LinkFound : List ℕ → Seats → CoreState → CoreLink-F CoreLink CoreStat CoreCase CoreExpr → Type 0
LinkFound owners seats s (layer.Strict o parts site) = OpFound owners seats s o
LinkFound owners seats s y = Unit {0}

abbrev pub GoesFound : List ℕ → Seats → CoreState → Current Mark → List CoreLink → Type 0
GoesFound owners seats s (Has v) (l ∷ links) = LinkFound owners seats s (out-CoreLink l)
GoesFound owners seats s c links = Unit {0}

abbrev pub StatFound : Seats → CoreState → CoreStat-F CoreLink CoreStat CoreCase CoreExpr → Type 0
StatFound seats s (layer.Scoped names body) = ScopeFound seats s names
StatFound seats s y = Unit {0}

abbrev pub ListFound : Seats → CoreState → List CoreStat → Type 0
ListFound seats s [] = Unit {0}
ListFound seats s (x ∷ xs) = StatFound seats s (out-CoreStat x)

abbrev pub ValuesFound : Keeping → List ℕ → Seats → CoreState → List (CoreValue Mark) → Type 0
ValuesFound kept owners seats s (User heritage ∷ Extra (Unmade f) ∷ []) = FunctionKept kept owners seats s f
ValuesFound kept owners seats s vs = Unit {0}

abbrev pub PartsFound : Keeping → List ℕ → Seats → CoreState → CoreOp → List (CoreValue Mark) → List CoreExpr → Type 0
PartsFound kept owners seats s (op.Primitive primitive.ClassMake) values [] = ValuesFound kept owners seats s values
PartsFound kept owners seats s o values parts = Unit {0}

abbrev pub GivesFound : Keeping → List ℕ → Seats → CoreValue Mark → CoreState → List (Frame Mark CoreWork) → Type 0
GivesFound kept owners seats v s (After (l ∷ ls) ∷ fs) =
    (x : Var) → write_in owners (out-CoreLink l) ≡ Some x → NameFound owners seats (with_frames fs s) x
GivesFound kept owners seats v s (Part p ∷ fs) = PartsFound kept owners seats (with_frames fs s) p.op (p.values ++ v ∷ []) p.parts
GivesFound kept owners seats v s (Work (Heritage f heritage links) ∷ fs) = FunctionKept kept owners seats (with_frames fs s) f
GivesFound kept owners seats v s fs = Unit {0}

abbrev pub ThrowFound : Seats → CoreState → List (Frame Mark CoreWork) → Type 0
ThrowFound seats s (Catching x names handler ∷ fs) = ScopeFound seats s names
ThrowFound seats s fs = Unit {0}

abbrev pub HandFound : Keeping → List ℕ → Seats → CoreState → Completion Mark → Type 0
HandFound kept owners seats s (Gives v) = GivesFound kept owners seats v s s.context.frames
HandFound kept owners seats s (Throws v) = ThrowFound seats s s.context.frames
HandFound kept owners seats s c = Unit {0}

abbrev pub ControlFound : Keeping → List ℕ → Seats → CoreState → Control Mark → Type 0
ControlFound kept owners seats s (Begin x) =
    WritesSeen owners seats s (out-CoreExpr x).links × HeadFound kept owners seats s (out-CoreExpr x).head
ControlFound kept owners seats s (Go c links) = GoesFound owners seats s c links
ControlFound kept owners seats s (Run xs) = ListFound seats s xs
ControlFound kept owners seats s (Hand c) = HandFound kept owners seats s c
ControlFound kept owners seats s c = Unit {0}

-- ---- the law

abbrev pub ReadyOrLeaves : Core → Keeping → List ℕ → Seats → Config → Type 0
ReadyOrLeaves core kept owners seats s = Ready core kept owners seats s ⊎ ((exit : Exit) × (core_step core s ≡ Leaves exit))

abbrev pub FittingIsReady : Type 0
FittingIsReady = (core : Core) (k : Naming) (kept : Keeping) (seats : Seats) (s : Config) → Everywhere (fit_standing core k) s
    → ControlFound kept k.owners seats s.state s.control → ReadyOrLeaves core kept k.owners seats s
