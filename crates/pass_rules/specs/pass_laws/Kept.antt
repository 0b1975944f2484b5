-- What the passes keep of a core: the order of its modules, what its functions are to those who call them, and its names.
use Rattle.std.specs.Prelude.{◌≡◌, ℕ, List, ◌++◌, map, length, Option}
use Rattle.core_ast.specs.declared.parts.Var.{Var}
use Rattle.core_ast.specs.declared.whole.Core.{Core}
use Rattle.core_ast.specs.declared.whole.CoreFunction.{CoreFunction}
use Rattle.core_ast.specs.declared.whole.CoreKind.{CoreKind}
use Rattle.core_ast.specs.declared.whole.Declared.{Declared}
use Rattle.pass_rules.specs.Scopes.{without_scopes}
use Rattle.pass_rules.specs.state_rules.States.{with_machines}
use Rattle.pass_rules.specs.yield_rules.Yields.{with_yields_flat}

pub record Face : Type 0 where
  pub kind : CoreKind
  pub own : Option Var
  pub parameters : List Var
  pub length : ℕ
  pub arguments : Option Var
  pub declared : List Declared

abbrev pub face : CoreFunction → Face
face f = record {
  kind = f.kind;
  own = f.own;
  parameters = f.parameters;
  length = f.length;
  arguments = f.arguments;
  declared = f.declared;
}

-- As many parts are evaluated in the same order, each function is to others what it was, and each name keeps its number and
-- its hint.
pub record IsKept (before after : Core) : Type 0 where
  pub parts : length after.parts ≡ length before.parts
  pub order : after.order ≡ before.order
  pub functions : map face after.functions ≡ map face before.functions
  pub more : List (Option (List ℕ))
  pub names : after.fresh.hints ≡ before.fresh.hints ++ more

abbrev pub ScopesKeepFaces : Type 0
ScopesKeepFaces = (core : Core) → IsKept core (without_scopes core)

abbrev pub YieldsKeepFaces : Type 0
YieldsKeepFaces = (core : Core) → IsKept core (with_yields_flat core)

abbrev pub MachinesKeepFaces : Type 0
MachinesKeepFaces = (core : Core) → IsKept core (with_machines core)
