-- How a class and its members are made between related states.
use Rattle.std.specs.Prelude.{◌≡◌, ◌⊎◌, List, [], ◌∷◌, Option, Some, ℕ}
use Rattle.es_outside.specs.declared.events.Site.{Site}
use Rattle.es_value.specs.declared.value.Value.{Value}
use Rattle.core_ast.specs.declared.parts.CoreOp.TheVariants as op
use Rattle.core_ast.specs.declared.parts.FunctionId.{FunctionId}
use Rattle.core_ast.specs.declared.parts.Primitive.{Primitive}
use Rattle.core_ast.specs.declared.parts.Primitive.TheVariants as primitive
use Rattle.core_ast.specs.declared.parts.Var.{Var}
use Rattle.core_ast.specs.declared.tree.CoreExpr.{CoreExpr}
use Rattle.core_ast.specs.declared.tree.CoreLink.{CoreLink}
use Rattle.core_ast.specs.declared.whole.Core.{Core}
use Rattle.core_ast.specs.declared.whole.CoreFunction.{CoreFunction}
use Rattle.core_meaning.specs.Expressions.{function_at}
use Rattle.core_meaning.specs.Marks.{CoreState, Heritage, Mark, Unmade}
use Rattle.core_meaning.specs.Modules.{rows}
use Rattle.core_meaning.specs.State.{CoreValue, Current, Extra, User, Work}
use Rattle.core_meaning.specs.Step.{act}
use Rattle.pass_rules.specs.Scopes.{function_flat}
use Rattle.cells_keep_runs.specs.Alike.{Alike, strict}
use Rattle.cells_keep_runs.specs.Closed.{AllSeen, KeepsAll, KeepsOthers}
use Rattle.cells_keep_runs.specs.Given.{given_to}
use Rattle.cells_keep_runs.specs.Memory.{Seats, cell_along}
use Rattle.cells_keep_runs.specs.Opened.{opened}
use Rattle.cells_keep_runs.specs.Related.{BelowCells, Related, Stand}

-- the function of the class is flattened, and both machines find the names whose cells it keeps
pub record ClassSeen (core core2 : Core) (owners : List ℕ) (seats : Seats) (s : CoreState) (f : FunctionId) : Type 0 where
  pub function : CoreFunction
  pub kept : List Var
  pub before : function_at core f ≡ Some function
  pub flat : function_at core2 f ≡ Some (function_flat owners kept function)
  pub others : KeepsOthers owners f function kept
  pub seen : AllSeen owners seats s kept
  pub all : KeepsAll seats s.context.environment f kept

-- so it is for the function among these values
abbrev pub SeenIn : Core → Core → List ℕ → Seats → CoreState → List (CoreValue Mark) → Type 0
SeenIn core core2 owners seats s (User heritage ∷ Extra (Unmade f) ∷ []) = ClassSeen core core2 owners seats s f
SeenIn core core2 owners seats s vs = Unit {0}

-- A class is made alike, or its heritage is read.
abbrev pub ClassesAreMadeAlike : Type 0
ClassesAreMadeAlike = (core core2 : Core) (owners : List ℕ) (seats : Seats) (site : Option Site) (c : Current Mark) (values : List (CoreValue Mark)) (parts : List CoreExpr) (links : List CoreLink) (s t : CoreState)
    → SeenIn core core2 owners seats s values → Stand owners seats s t → BelowCells owners seats s links t
    → Alike (Related owners seats) (act (rows core) core (strict (op.Primitive primitive.ClassMake) site c values parts links) s)
    (act (rows core2) core2 (strict (op.Primitive primitive.ClassMake) site c values parts (opened owners (cell_along seats s.context.environment) links).links) t)

-- What was read of the heritage is taken alike.
abbrev pub HeritagesAreTakenAlike : Type 0
HeritagesAreTakenAlike = (core core2 : Core) (owners : List ℕ) (seats : Seats) (f : FunctionId) (heritage : Value) (v : CoreValue Mark) (links : List CoreLink) (s t : CoreState)
    → ClassSeen core core2 owners seats s f → Stand owners seats s t → BelowCells owners seats s links t
    → Alike (Related owners seats) (given_to core v (Work (Heritage f heritage links)) s)
    (given_to core2 v (Work (Heritage f heritage (opened owners (cell_along seats s.context.environment) links).links)) t)

-- A method or an accessor is put alike.
abbrev pub MembersArePutAlike : Type 0
MembersArePutAlike = (core core2 : Core) (owners : List ℕ) (seats : Seats) (p : Primitive) (site : Option Site) (c : Current Mark) (values : List (CoreValue Mark)) (parts : List CoreExpr) (links : List CoreLink) (s t : CoreState)
    → ((p ≡ primitive.MethodPut) ⊎ (p ≡ primitive.AccessorPut)) → Stand owners seats s t → BelowCells owners seats s links t
    → Alike (Related owners seats) (act (rows core) core (strict (op.Primitive p) site c values parts links) s)
    (act (rows core2) core2 (strict (op.Primitive p) site c values parts (opened owners (cell_along seats s.context.environment) links).links) t)
