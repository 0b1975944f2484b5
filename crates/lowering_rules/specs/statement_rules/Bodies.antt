-- Bodies of functions and parts of modules (ECMA-262, 6th edition, 9.2.12, 14 and 15.2).
use Rattle.std.specs.Prelude.{Bool, false, true, cond, List, [], ◌∷◌, ◌++◌, map, Option, None, Some}
use Rattle.std.specs.List.{flat_map}
use Rattle.core_ast.specs.declared.parts.CoreHead.TheVariants as head
use Rattle.core_ast.specs.declared.parts.CoreOp.TheVariants as op
use Rattle.core_ast.specs.declared.parts.Constant.TheVariants.{Undefined}
use Rattle.core_ast.specs.declared.parts.FunctionId.{FunctionId}
use Rattle.core_ast.specs.declared.parts.Primitive.TheVariants.{IncludesPut, NamespaceMake, NewTarget}
use Rattle.core_ast.specs.declared.parts.ScopedName.{ScopedName}
use Rattle.core_ast.specs.declared.parts.Var.{Var}
use Rattle.core_ast.specs.declared.tree.CoreExpr.{CoreExpr}
use Rattle.core_ast.specs.declared.tree.CoreLink.{CoreLink}
use Rattle.core_ast.specs.declared.tree.CoreLink.TheVariants as link
use Rattle.core_ast.specs.declared.tree.CoreStat.{CoreStat}
use Rattle.core_ast.specs.declared.tree.CoreStat.TheVariants as stat
use Rattle.core_ast.specs.declared.whole.CoreFunction.{CoreFunction}
use Rattle.core_ast.specs.declared.whole.CoreKind.{CoreKind}
use Rattle.core_ast.specs.declared.whole.CoreKind.TheVariants.{Plain}
use Rattle.core_ast.specs.declared.whole.CorePart.{CorePart}
use Rattle.core_ast.specs.declared.whole.Declared.{Declared}
use Rattle.core_ast.specs.Made.{acting, expression, variable}
use Rattle.lowering_rules.specs.declared.statement_rules.bodies.BodyNames.{BodyNames}
use Rattle.lowering_rules.specs.declared.statement_rules.bodies.Export.{Export}
use Rattle.lowering_rules.specs.declared.statement_rules.bodies.ModuleScope.{ModuleScope}
use Rattle.lowering_rules.specs.declared.statement_rules.bodies.Namespace.{Namespace}
use Rattle.lowering_rules.specs.declared.statement_rules.bodies.Receiver.{Receiver}
use Rattle.lowering_rules.specs.Classes.{closure}
use Rattle.lowering_rules.specs.Making.{initialize, primitive, set, text, through, uninitialized}
use Rattle.lowering_rules.specs.statement_rules.Statements.{hoisted}

-- ---- functions: what is called, then the parameters, then what the body declares, and then the body

abbrev pub begun_with : CoreKind → Option Var → List Var → List CoreStat → CoreFunction
begun_with kind arguments locals setup = record {
  kind = kind;
  own = None;
  parameters = [];
  length = 0;
  arguments = arguments;
  cells = [];
  locals = locals;
  declared = [];
  setup = setup;
  body = [];
  resumption = None;
  step = [];
}

-- what a generator's body reads is kept before all else, since it runs in a function of its own
unfoldable pub kept : Option Var → CoreExpr → List CoreStat
kept None value = []
kept (Some x) value = initialize x value ∷ []

unfoldable pub names_of : Option Var → List Var
names_of None = []
names_of (Some x) = x ∷ []

abbrev pub kept_all : Receiver → List CoreStat
kept_all r = kept r.this (expression None head.This []) ++ kept r.target (primitive NewTarget)

-- a function of this kind in which nothing is declared yet (9.2.1 to 9.2.4, 9.2.12, step 22)
abbrev pub begun : CoreKind → Receiver → CoreFunction
begun kind r = begun_with kind r.arguments (names_of r.this ++ names_of r.target) (kept_all r)

-- lexical names are uninitialized, and the functions are made
abbrev pub declared : List ScopedName → List Declared → List CoreStat
declared lexical functions = map (λ n. uninitialized n.var) lexical ++ map hoisted functions

-- FunctionDeclarationInstantiation (9.2.12): behind the parameters, `var` names are undefined (steps 27 and 28), lexical ones are
-- uninitialized (step 34), and the functions are made (step 35). All are names of the one record of the call.
abbrev pub instantiated : BodyNames → CoreFunction → CoreFunction
instantiated names f = record f {
  locals = f.locals ++ names.variables ++ map (λ n. n.var) names.lexical;
  setup = f.setup ++ declared names.lexical names.functions;
}

-- its statements, and the temporaries that all of it uses
abbrev pub with_statements : List CoreStat → List Var → CoreFunction → CoreFunction
with_statements stats temporaries f = record f { locals = f.locals ++ temporaries; body = f.body ++ stats }

abbrev pub with_body : BodyNames → List CoreStat → List Var → CoreFunction → CoreFunction
with_body names stats temporaries f = with_statements stats temporaries (instantiated names f)

-- ---- values that statements make: these run, and then the value is taken

abbrev pub after_running : List CoreStat → CoreExpr → CoreExpr
after_running stats x = expression None (head.Constant Undefined) (link.Run stats ∷ acting op.Then x ∷ [])

-- a function expression with a name (14.1.20): a scope has the name alone, and the function is kept in a temporary
abbrev pub own_body : Var → Var → FunctionId → List CoreStat
own_body kept x f = initialize x (closure f) ∷ set kept (variable x) ∷ []

abbrev pub own_scope : Var → ScopedName → FunctionId → CoreStat
own_scope kept name f = stat.Scoped (name ∷ []) (own_body kept name.var f)

abbrev pub named_function : Var → ScopedName → FunctionId → CoreExpr
named_function kept name f = after_running (own_scope kept name f ∷ []) (variable kept)

-- ---- namespace objects (9.4.6): a function for each name, which reads its binding

abbrev pub export_getter : CoreExpr → CoreFunction
export_getter value = with_statements (stat.Return value ∷ []) [] (begun_with Plain None [] [])

abbrev pub export_links : Export → List CoreLink
export_links e = acting op.Element (text e.name) ∷ acting op.Element (closure e.getter) ∷ []

abbrev pub namespace_object : List Export → CoreExpr
namespace_object exports = through (expression None head.ArgumentList (flat_map export_links exports)) NamespaceMake

abbrev pub namespace_made : Namespace → CoreStat
namespace_made n = set n.var (namespace_object n.exports)

-- ---- modules

-- `export default` of an expression (15.2.3.11); imports are the variables of the modules that export them
abbrev pub default_exported : Var → CoreExpr → CoreStat
default_exported x e = initialize x e

-- `includes` is there before any module is instantiated; the entry's part begins with that
abbrev pub started : Bool → List CoreStat
started is_entry = cond is_entry (stat.Do (primitive IncludesPut) ∷ []) []

-- ModuleDeclarationInstantiation (15.2.1.16.4): the declarations, and the namespace objects
abbrev pub module_instantiated : Bool → ModuleScope → List CoreStat
module_instantiated is_entry m = started is_entry ++ declared m.lexical m.functions ++ map namespace_made m.namespaces

abbrev pub temporary : Var → ScopedName
temporary x = record { var = x; shared = false; mutable = true }

abbrev pub part : Bool → ModuleScope → List CoreStat → List Var → CorePart
part is_entry m stats temporaries = record {
  names = m.names ++ map temporary temporaries;
  instantiate = module_instantiated is_entry m;
  body = stats;
}
