-- What a lawful core has of names, each of which is declared once.
use Rattle.std.specs.Prelude.{◌≡◌, ◌+◌, true, [], Some}
use Rattle.core_ast.specs.Lawful.{IsLawful}
use Rattle.core_ast.specs.declared.parts.FunctionId.{FunctionId}
use Rattle.core_ast.specs.declared.parts.Var.{Var}
use Rattle.core_ast.specs.declared.whole.Core.{Core}
use Rattle.core_ast.specs.declared.whole.CoreFunction.{CoreFunction}
use Rattle.core_meaning.specs.Expressions.{function_at}
use Rattle.pass_rules.specs.Cells.{is_among, is_foreign}
use Rattle.cells_keep_runs.specs.Kept.{kept_of}
use Rattle.cells_keep_runs.specs.Named.{NamesApart}
use Rattle.cells_keep_runs.specs.Started.{ScopedApart, owners_of}

-- The names of a module's scopes aren't its own.
abbrev pub ModulesAreApart : Type 0
ModulesAreApart = (core : Core) → IsLawful core → ScopedApart core.parts

-- Nor are those of a function's scopes its own name, nor shared names of others any of its own. It keeps cells of such alone.
abbrev pub FunctionsAreApart : Type 0
FunctionsAreApart = (core : Core) (f : FunctionId) (function : CoreFunction) → IsLawful core → function_at core f ≡ Some function
    → NamesApart (owners_of core) (f.0 + 1) function

abbrev pub OthersAreKept : Type 0
OthersAreKept = (core : Core) (f : FunctionId) (x : Var)
    → is_among x (kept_of core f) ≡ true → is_foreign (owners_of core) (f.0 + 1) x ≡ true

abbrev pub NoneDeclared : Type 0
NoneDeclared = (core : Core) (f : FunctionId) (function : CoreFunction) → IsLawful core → function_at core f ≡ Some function
    → function.declared ≡ []
