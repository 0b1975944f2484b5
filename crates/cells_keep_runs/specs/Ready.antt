-- What the laws of the steps ask of the source's configuration and of its seats, by what the next step does. Names are found where they are mentioned, and
-- what makes a record may make it.
use Rattle.std.specs.Prelude.{◌≡◌, ◌+◌, ◌⊎◌, true, false, List, [], ◌∷◌, ◌++◌, map, Option, None, Some, slice_get, ℕ}
use Rattle.es_outside.specs.declared.events.Site.{Site}
use Rattle.es_value.specs.declared.value.ObjId.{ObjId}
use Rattle.es_value.specs.declared.value.Value.TheVariants as value
use Rattle.es_heap.specs.Heaps.{object_at}
use Rattle.es_heap.specs.declared.class.Class.TheVariants as class
use Rattle.core_ast.specs.declared.parts.CoreHead.{CoreHead}
use Rattle.core_ast.specs.declared.parts.CoreHead.TheVariants as head
use Rattle.core_ast.specs.declared.parts.CoreOp.{CoreOp}
use Rattle.core_ast.specs.declared.parts.CoreOp.TheVariants as op
use Rattle.core_ast.specs.declared.parts.FunctionId.{FunctionId}
use Rattle.core_ast.specs.declared.parts.Primitive.TheVariants as primitive
use Rattle.core_ast.specs.declared.parts.ScopedName.{ScopedName}
use Rattle.core_ast.specs.declared.parts.Var.{Var}
use Rattle.core_ast.specs.declared.tree.CoreCase.{CoreCase}
use Rattle.core_ast.specs.declared.tree.CoreExpr.{CoreExpr, out-CoreExpr}
use Rattle.core_ast.specs.declared.tree.CoreLink.{CoreLink, out-CoreLink}
use Rattle.core_ast.specs.declared.tree.CoreLink.TheOpen as layer
use Rattle.core_ast.specs.declared.tree.CoreLink.TheOpen.{CoreLink-F, CoreStat-F}
use Rattle.core_ast.specs.declared.tree.CoreStat.{CoreStat, out-CoreStat}
use Rattle.core_ast.specs.declared.whole.Core.{Core}
use Rattle.core_ast.specs.declared.whole.CoreFunction.{CoreFunction}
use Rattle.core_meaning.specs.Expressions.{function_at}
use Rattle.core_meaning.specs.Marks.{CoreState, CoreWork, Heritage, Mark, Own, PrototypeFor, Unmade}
use Rattle.core_meaning.specs.Names.{Resolved, binding_in, record_at, resolve}
use Rattle.core_meaning.specs.Rows.{with_frames}
use Rattle.core_meaning.specs.State.{After, Begin, Call, Calls, Catching, Closure, Completion, Control, CoreValue, Current, Done, Environment, Extra, Fetch, Frame, Gives, Go, Hand, Has, Part, Run, Throws, Turn, User, Work}
use Rattle.pass_rules.specs.Cells.{is_among, is_shared}
use Rattle.pass_rules.specs.Scopes.{function_flat, vars}
use Rattle.cells_keep_runs.specs.Acted.{IsAlikeOp}
use Rattle.cells_keep_runs.specs.Alike.{Config}
use Rattle.cells_keep_runs.specs.Closed.{AllSeen, KeepsAll, KeepsOthers, SeenShared}
use Rattle.cells_keep_runs.specs.Copied.{Copyable, GoesToThen, InScope, NoWrites}
use Rattle.cells_keep_runs.specs.Entered.{AllAt, reset_of}
use Rattle.cells_keep_runs.specs.Named.{NamesApart}
use Rattle.cells_keep_runs.specs.Going.{IsAlikeHead}
pub use Rattle.cells_keep_runs.specs.Memory.{Keeping}
use Rattle.cells_keep_runs.specs.Memory.{Seat, Seats, cell_found}
use Rattle.cells_keep_runs.specs.Opened.{write_in}
use Rattle.cells_keep_runs.specs.Renewed.{AllDiffer}
use Rattle.cells_keep_runs.specs.Seen.{Assigns, IsWrite, Sees}
use Rattle.cells_keep_runs.specs.Turned.{CallsNoClosure}
use Rattle.cells_keep_runs.specs.Writes.{IsHeld}

-- ---- names

-- the link writes the name, which both machines find, and which may take the value
pub record Writes (owners : List ℕ) (seats : Seats) (s : CoreState) (l : CoreLink) (x : Var) (v : CoreValue Mark) : Type 0 where
  pub site : Option Site
  pub is : IsWrite l x site
  pub found : Resolved Mark
  pub finds : resolve s x ≡ Some found
  pub may : Assigns l x site → found.binding.mutable ≡ true
  pub sees : Sees owners seats s.context.environment found.at x
  pub held : is_shared owners x ≡ true → IsHeld v

-- a reference is read before
abbrev pub WriteReady : List ℕ → Seats → CoreState → CoreLink → Var → Current Mark → Type 0
WriteReady owners seats s l x (Has v) = Writes owners seats s l x v
WriteReady owners seats s l x c = (site : Option Site) × IsWrite l x site

-- both find the shared names that links write
abbrev pub WriteSeen : List ℕ → Seats → CoreState → Option Var → Type 0
WriteSeen owners seats s None = Unit {0}
WriteSeen owners seats s (Some x) = SeenShared owners seats s x

abbrev pub WritesSeen : List ℕ → Seats → CoreState → List CoreLink → Type 0
WritesSeen owners seats s [] = Unit {0}
WritesSeen owners seats s (l ∷ links) = WriteSeen owners seats s (write_in owners (out-CoreLink l)) × WritesSeen owners seats s links

-- ---- functions

-- the functions of the second core are those of the first, flattened
abbrev pub AreFlattened : Core → Core → List ℕ → Keeping → Type 0
AreFlattened core core2 owners kept = (f : FunctionId) (function : CoreFunction) → function_at core f ≡ Some function
    → function_at core2 f ≡ Some (function_flat owners (kept f) function)

-- its functions aren't of scripts, their names are apart, and they keep cells of others
pub record IsApart (core : Core) (kept : Keeping) (owners : List ℕ) (f : FunctionId) (function : CoreFunction) : Type 0 where
  pub undeclared : function.declared ≡ []
  pub names : NamesApart owners (f.0 + 1) function
  pub others : KeepsOthers owners f function (kept f)

abbrev pub AreApart : Core → Keeping → List ℕ → Type 0
AreApart core kept owners = (f : FunctionId) (function : CoreFunction) → function_at core f ≡ Some function → IsApart core kept owners f function

-- the function is there, both find the names whose cells it keeps, and it keeps all that closures are to
pub record FunctionSeen (core : Core) (kept : Keeping) (owners : List ℕ) (seats : Seats) (s : CoreState) (f : FunctionId) : Type 0 where
  pub function : CoreFunction
  pub before : function_at core f ≡ Some function
  pub seen : AllSeen owners seats s (kept f)
  pub all : KeepsAll seats s.context.environment f (kept f)

-- so it is for the function among these values
abbrev pub ValuesSeen : Core → Keeping → List ℕ → Seats → CoreState → List (CoreValue Mark) → Type 0
ValuesSeen core kept owners seats s (User heritage ∷ Extra (Unmade f) ∷ []) = FunctionSeen core kept owners seats s f
ValuesSeen core kept owners seats s vs = Unit {0}

-- ---- records

abbrev pub AllAmong : List Var → List ScopedName → Type 0
AllAmong xs [] = Unit {0}
AllAmong xs (n ∷ names) = (is_among n.var xs ≡ true) × AllAmong xs names

-- names are marked as shared where they are
abbrev pub AllMarked : List ℕ → List ScopedName → Type 0
AllMarked owners [] = Unit {0}
AllMarked owners (n ∷ names) = (is_shared owners n.var ≡ n.shared) × AllMarked owners names

-- The names of the scope differ. Behind the pass they are locals of a record where the target finds them, and which has none of them before.
pub record ScopeReady (owners : List ℕ) (seats : Seats) (s : CoreState) (names : List ScopedName) : Type 0 where
  pub number : ℕ
  pub seat : Seat
  pub home : ℕ
  pub seated : slice_get seats number ≡ Some seat
  pub image : seat.image ≡ Some home
  pub at : AllAt seats s.context.environment home names
  pub differ : AllDiffer (map reset_of names)
  pub marked : AllMarked owners names
  pub locals : AllAmong seat.locals names
  pub clear : (x : Var) → is_among x (vars names) ≡ true → binding_in (record_at s.records number) x ≡ None
  pub unkept : (x : Var) → is_among x (vars names) ≡ true → cell_found seat.cells x ≡ None

pub record HandlerReady (owners : List ℕ) (seats : Seats) (s : CoreState) (x : Var) (names : List ScopedName) : Type 0 where
  pub pattern : ScopeReady owners seats s names
  pub apart : is_among x (vars names) ≡ false

-- a copy of the innermost record
pub record CopyReady (owners : List ℕ) (seats : Seats) (s : CoreState) (xs : List Var) (links : List CoreLink) : Type 0 where
  pub number : ℕ
  pub outer : Environment
  pub innermost : s.context.environment ≡ number ∷ outer
  pub unwritten : NoWrites owners links
  pub goes : GoesToThen links
  pub copyable : Copyable owners seats s.records s.context.environment number xs
  pub inside : InScope s.context.frames

-- the call of a closure of the program
pub record ClosureCall (core : Core) (c : Call) (s : CoreState) : Type 0 where
  pub closure : Closure Own
  pub function : CoreFunction
  pub id : ObjId
  pub number : ℕ
  pub object : c.function ≡ value.Object id
  pub class_is : (object_at s.heap id).class ≡ class.Function number
  pub closure_at : slice_get s.closures number ≡ Some closure
  pub function_is : function_at core closure.function ≡ Some function

abbrev pub CallReady : Core → Call → CoreState → Type 0
CallReady core c s = CallsNoClosure s.heap c.function ⊎ ClosureCall core c s

-- ---- operations

-- neither on a name nor on a cell, and none that makes a cell
abbrev pub OpReady : CoreOp → Type 0
OpReady (op.Primitive primitive.ClassMake) = Unit {0}
OpReady (op.Primitive primitive.MethodPut) = Unit {0}
OpReady (op.Primitive primitive.AccessorPut) = Unit {0}
OpReady o = IsAlikeOp o

-- once all parts are there, the function of a class is that of the flattened core
abbrev pub PartsReady : Core → Keeping → List ℕ → Seats → CoreState → CoreOp → List (CoreValue Mark) → List CoreExpr → Type 0
PartsReady core kept owners seats s (op.Primitive primitive.ClassMake) values [] = ValuesSeen core kept owners seats s values
PartsReady core kept owners seats s o values parts = OpReady o

-- ---- by what comes next

abbrev pub HeadReady : Core → Keeping → List ℕ → Seats → CoreState → List CoreLink → CoreHead → Type 0
HeadReady core kept owners seats s links (head.Variable y) =
    (r : Resolved Mark) → resolve s y ≡ Some r → Sees owners seats s.context.environment r.at y
HeadReady core kept owners seats s links (head.TypeOf y) = ⊥
HeadReady core kept owners seats s links (head.Function f) = FunctionSeen core kept owners seats s f
HeadReady core kept owners seats s links (head.Primitive p) = IsAlikeHead p
HeadReady core kept owners seats s links (head.Copy xs) = CopyReady owners seats s xs links
HeadReady core kept owners seats s links h = Unit {0}

abbrev pub GoesReady : List ℕ → Seats → CoreState → Current Mark → CoreLink → CoreOp → Type 0
GoesReady owners seats s c l (op.Set x) = WriteReady owners seats s l x c
GoesReady owners seats s c l (op.Init x) = WriteReady owners seats s l x c
GoesReady owners seats s c l o = OpReady o

abbrev pub LinkReady : List ℕ → Seats → CoreState → Current Mark → CoreLink → CoreLink-F CoreLink CoreStat CoreCase CoreExpr → Type 0
LinkReady owners seats s c l (layer.Strict o parts site) = GoesReady owners seats s c l o
LinkReady owners seats s c l y = Unit {0}

-- a scope has names, and there are no yields
abbrev pub StatReady : List ℕ → Seats → CoreState → CoreStat-F CoreLink CoreStat CoreCase CoreExpr → Type 0
StatReady owners seats s (layer.Scoped names body) = (names ≡ [] → ⊥) × ScopeReady owners seats s names
StatReady owners seats s (layer.Yield value kind result) = ⊥
StatReady owners seats s y = Unit {0}

abbrev pub ListReady : List ℕ → Seats → CoreState → List CoreStat → Type 0
ListReady owners seats s [] = Unit {0}
ListReady owners seats s (x ∷ xs) = StatReady owners seats s (out-CoreStat x)

-- the frame that is handed a value
abbrev pub GivesReady : Core → Keeping → List ℕ → Seats → CoreValue Mark → CoreState → List (Frame Mark CoreWork) → Type 0
GivesReady core kept owners seats v s (After (l ∷ ls) ∷ fs) =
    (x : Var) → write_in owners (out-CoreLink l) ≡ Some x → Writes owners seats (with_frames fs s) l x v
GivesReady core kept owners seats v s (Part p ∷ fs) =
    PartsReady core kept owners seats (with_frames fs s) p.op (p.values ++ v ∷ []) p.parts
GivesReady core kept owners seats v s (Fetch base k p ∷ fs) = IsAlikeOp p.op
GivesReady core kept owners seats v s (Work (Heritage f heritage links) ∷ fs) = FunctionSeen core kept owners seats (with_frames fs s) f
GivesReady core kept owners seats v s (Work (PrototypeFor links) ∷ fs) = ⊥
GivesReady core kept owners seats v s fs = Unit {0}

-- the frame that is handed the end of statements: no shared name waits for it
abbrev pub EndReady : List ℕ → List (Frame Mark CoreWork) → Type 0
EndReady owners (After (l ∷ ls) ∷ fs) = write_in owners (out-CoreLink l) ≡ None
EndReady owners fs = Unit {0}

abbrev pub ThrowReady : List ℕ → Seats → CoreState → List (Frame Mark CoreWork) → Type 0
ThrowReady owners seats s (Catching x names handler ∷ fs) = HandlerReady owners seats s x names
ThrowReady owners seats s fs = Unit {0}

abbrev pub HandReady : Core → Keeping → List ℕ → Seats → CoreState → Completion Mark → Type 0
HandReady core kept owners seats s (Gives v) = GivesReady core kept owners seats v s s.context.frames
HandReady core kept owners seats s Done = EndReady owners s.context.frames
HandReady core kept owners seats s (Throws v) = ThrowReady owners seats s s.context.frames
HandReady core kept owners seats s c = Unit {0}

abbrev pub ControlReady : Core → Keeping → List ℕ → Seats → CoreState → Control Mark → Type 0
ControlReady core kept owners seats s (Begin x) =
    WritesSeen owners seats s (out-CoreExpr x).links × HeadReady core kept owners seats s (out-CoreExpr x).links (out-CoreExpr x).head
ControlReady core kept owners seats s (Go c []) = Unit {0}
ControlReady core kept owners seats s (Go c (l ∷ links)) = LinkReady owners seats s c l (out-CoreLink l)
ControlReady core kept owners seats s (Run xs) = ListReady owners seats s xs
ControlReady core kept owners seats s (Turn site c) = Unit {0}
ControlReady core kept owners seats s (Calls c) = CallReady core c s
ControlReady core kept owners seats s (Hand c) = HandReady core kept owners seats s c

abbrev pub Ready : Core → Keeping → List ℕ → Seats → Config → Type 0
Ready core kept owners seats s = ControlReady core kept owners seats s.state s.control
