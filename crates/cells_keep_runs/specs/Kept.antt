-- A lawful core does behind the flattening of scopes what it did before, if what the laws of the steps ask holds wherever the two runs come to.
use Rattle.std.specs.Prelude.{◌≡◌, [], Some, length}
use Rattle.runs.specs.Same.{Same}
use Rattle.core_ast.specs.Lawful.{IsLawful}
use Rattle.core_ast.specs.declared.parts.FunctionId.{FunctionId}
use Rattle.core_ast.specs.declared.whole.Core.{Core}
use Rattle.core_ast.specs.declared.whole.CoreFunction.{CoreFunction}
use Rattle.core_meaning.specs.Expressions.{function_at}
use Rattle.core_meaning.specs.Modules.{runc}
use Rattle.pass_rules.specs.Cells.{all_free, cells_at, found, holders}
use Rattle.pass_rules.specs.Scopes.{without_scopes}
use Rattle.cells_keep_runs.specs.Acted.{KindsAreKept}
use Rattle.cells_keep_runs.specs.Alike.{Config}
use Rattle.cells_keep_runs.specs.Course.{Reached}
use Rattle.cells_keep_runs.specs.Memory.{Seats}
use Rattle.cells_keep_runs.specs.Ready.{AreFlattened, Keeping, Ready}
use Rattle.cells_keep_runs.specs.Started.{owners_of, part_seats}

-- the names whose cells a function keeps, as the pass has them
abbrev pub kept_of : Core → Keeping
kept_of core f =
    cells_at (owners_of core) (holders (length core.functions) (found core)) (all_free (owners_of core) [] (found core)) f.0

abbrev pub first_seats : Core → Seats
first_seats core = part_seats (kept_of core) (owners_of core) 0 core.parts

abbrev pub IsReached : Core → Seats → Config → Config → Type 0
IsReached core = Reached core (without_scopes core) (kept_of core) (owners_of core) (first_seats core)

abbrev pub AllReady : Core → Type 0
AllReady core = (seats : Seats) (s t : Config) → IsReached core seats s t → Ready core (kept_of core) (owners_of core) seats s

-- no function keeps cells yet
abbrev pub NoneKept : Core → Type 0
NoneKept core = (f : FunctionId) (function : CoreFunction) → function_at core f ≡ Some function → function.cells ≡ []

-- The events are the same, and so is the ending.
abbrev pub RunsAreKept : Type 0
RunsAreKept = (core : Core) → IsLawful core → NoneKept core → AllReady core → Same (λ e f. e ≡ f) (runc core) (runc (without_scopes core))

-- The pass flattens each function, with the cells that it keeps.
abbrev pub FunctionsAreFlattened : Type 0
FunctionsAreFlattened = (core : Core) → AreFlattened core (without_scopes core) (owners_of core) (kept_of core)

-- A function is that of a derived class behind the pass, or of none, as before.
abbrev pub KindsStay : Type 0
KindsStay = (core : Core) → KindsAreKept core (without_scopes core)
