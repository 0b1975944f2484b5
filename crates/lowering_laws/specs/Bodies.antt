-- Functions, namespace objects and parts of modules are lawful, of lawful parts.
use Rattle.std.specs.Prelude.{ℕ, Bool, true, false, ◌&&◌, not, nat_lt, length, List, [], map, Option, None, Some, IsTrue}
use Rattle.std.specs.List.{list_all}
use Rattle.core_ast.specs.declared.parts.FunctionId.{FunctionId}
use Rattle.core_ast.specs.declared.parts.ScopedName.{ScopedName}
use Rattle.core_ast.specs.declared.parts.Var.{Var}
use Rattle.core_ast.specs.declared.tree.CoreExpr.{CoreExpr}
use Rattle.core_ast.specs.declared.tree.CoreStat.{CoreStat}
use Rattle.core_ast.specs.declared.whole.CoreFunction.{CoreFunction}
use Rattle.core_ast.specs.declared.whole.CoreKind.{CoreKind}
use Rattle.core_ast.specs.declared.whole.CoreKind.TheVariants.{Class}
use Rattle.core_ast.specs.Lawful.{Round, all_differ, function_lawful, is_drawn, is_generator, is_safe, names_drawn, numbers, part_lawful, round_function, round_part}
use Rattle.lowering_laws.specs.Classes.{begun_lawful, parameter_lawful, rest_lawful}
use Rattle.lowering_laws.specs.InRound.{AreLawful, Drawn, IsLawful, IsLawfulStat, declared_lawful}
use Rattle.lowering_rules.specs.Classes.{constructor, default_body}
use Rattle.lowering_rules.specs.Functions.{arrow, concise, with_parameters}
use Rattle.lowering_rules.specs.declared.functions.Parameter.{Parameter}
use Rattle.lowering_rules.specs.declared.functions.ParameterScope.{ParameterScope}
use Rattle.lowering_rules.specs.declared.functions.RestParameter.{RestParameter}
use Rattle.lowering_rules.specs.declared.statement_rules.bodies.BodyNames.{BodyNames}
use Rattle.lowering_rules.specs.declared.statement_rules.bodies.Export.{Export}
use Rattle.lowering_rules.specs.declared.statement_rules.bodies.ModuleScope.{ModuleScope}
use Rattle.lowering_rules.specs.declared.statement_rules.bodies.Namespace.{Namespace}
use Rattle.lowering_rules.specs.declared.statement_rules.bodies.Receiver.{Receiver}
use Rattle.lowering_rules.specs.reference_rules.References.{pattern_assigned}
use Rattle.lowering_rules.specs.statement_rules.Bodies.{after_running, begun, begun_with, default_exported, export_getter, instantiated, named_function, namespace_made, part, with_statements}
use Rattle.lowering_rules.specs.statement_rules.Statements.{class_declared}

abbrev pub if_var : Round → Option Var → Bool
if_var r None = true
if_var r (Some x) = is_drawn r x

abbrev pub AreDrawn : Round → List Var → Type 0
AreDrawn r xs = IsTrue (list_all (is_drawn r) xs)

-- ---- a function, from its beginning on; round its setup, and round its body

abbrev pub outer : ℕ → ℕ → ℕ → Round
outer names hosts number = round_function names hosts number false

abbrev pub inner : ℕ → ℕ → ℕ → CoreFunction → Round
inner names hosts number f = round_function names hosts number (is_generator f.kind)

abbrev pub BegunAreLawful : Type 0
BegunAreLawful = (names hosts number : ℕ) (kind : CoreKind) (q : Receiver)
    → let r = outer names hosts number in
    IsTrue (if_var r q.arguments) → IsTrue (if_var r q.this) → IsTrue (if_var r q.target)
    → IsTrue (function_lawful names hosts number (begun kind q))

abbrev pub ParametersKeepLaw : Type 0
ParametersKeepLaw =
    (names hosts number : ℕ) (f : CoreFunction) (parameters : List Parameter) (rest : Option RestParameter) (scope : ParameterScope)
    → let r = outer names hosts number in
    IsTrue (function_lawful names hosts number f) → IsTrue (all_differ (numbers (map (λ p. p.formal) parameters)))
    → IsTrue (is_safe (length parameters)) → IsTrue (list_all (parameter_lawful r) parameters) → IsTrue (rest_lawful r rest)
    → AreDrawn r scope.names → IsTrue (list_all (begun_lawful r) scope.body)
    → IsTrue (function_lawful names hosts number (with_parameters parameters rest scope f))

abbrev pub InstantiationKeepsLaw : Type 0
InstantiationKeepsLaw = (names hosts number : ℕ) (f : CoreFunction) (b : BodyNames)
    → let r = outer names hosts number in
    IsTrue (function_lawful names hosts number f) → AreDrawn r b.variables → IsTrue (names_drawn b.lexical r)
    → IsTrue (list_all (declared_lawful r) b.functions)
    → IsTrue (function_lawful names hosts number (instantiated b f))

abbrev pub StatementsKeepLaw : Type 0
StatementsKeepLaw = (names hosts number : ℕ) (f : CoreFunction) (stats : List CoreStat) (temporaries : List Var)
    → IsTrue (function_lawful names hosts number f) → AreDrawn (outer names hosts number) temporaries
    → AreLawful (inner names hosts number f) stats
    → IsTrue (function_lawful names hosts number (with_statements stats temporaries f))

-- only a generator's body may yield: that of an arrow function doesn't, nor that of a class
abbrev pub KindsKeepLaw : Type 0
KindsKeepLaw = (names hosts number : ℕ) (f : CoreFunction) (derived : Bool)
    → IsTrue (not (is_generator f.kind)) → IsTrue (function_lawful names hosts number f)
    → IsTrue (function_lawful names hosts number (arrow f)) × IsTrue (function_lawful names hosts number (constructor derived f))

-- the constructor that a class doesn't write
abbrev pub default_constructor : Bool → CoreFunction
default_constructor derived =
    constructor derived (with_statements (default_body derived) [] (begun_with (Class derived) None [] []))

abbrev pub DefaultConstructorsAreLawful : Type 0
DefaultConstructorsAreLawful = (names hosts number : ℕ) (derived : Bool)
    → IsTrue (function_lawful names hosts number (default_constructor derived))

abbrev pub ConciseAreLawful : Type 0
ConciseAreLawful = (r : Round) (value : CoreExpr) → IsTrue r.returns → IsLawful r value → AreLawful r (concise value)

-- what reads the binding of an export
abbrev pub GettersAreLawful : Type 0
GettersAreLawful = (names hosts number : ℕ) (value : CoreExpr)
    → IsLawful (outer names hosts number) value → IsTrue (function_lawful names hosts number (export_getter value))

-- ---- what statements make, and parts of modules

abbrev pub NamedFunctionsAreLawful : Type 0
NamedFunctionsAreLawful = (r : Round) (kept : Var) (name : ScopedName) (f : FunctionId)
    → Drawn r kept → Drawn r name.var → IsTrue (nat_lt f.0 r.functions) → IsLawful r (named_function kept name f)

-- the values of classes and patterns, which statements make
abbrev pub RunAreLawful : Type 0
RunAreLawful = (r : Round) (stats : List CoreStat) (value : CoreExpr) (kept : Var)
    → AreLawful r stats → IsLawful r value
    → IsLawful r (after_running stats value) × (Drawn r kept → IsLawful r (pattern_assigned value kept stats))

abbrev pub DeclaredAreLawful : Type 0
DeclaredAreLawful = (r : Round) (x class : Var) (stats : List CoreStat) (value : CoreExpr)
    → Drawn r x
    → (Drawn r class → AreLawful r stats → AreLawful r (class_declared x class stats)) × (IsLawful r value → IsLawfulStat r (default_exported x value))

abbrev pub namespace_lawful : Round → Namespace → Bool
namespace_lawful r n = is_drawn r n.var && list_all (λ (e : Export). nat_lt e.getter.0 r.functions) n.exports

abbrev pub NamespacesAreLawful : Type 0
NamespacesAreLawful = (r : Round) (n : Namespace) → IsTrue (namespace_lawful r n) → IsLawfulStat r (namespace_made n)

abbrev pub PartsAreLawful : Type 0
PartsAreLawful =
    (names hosts functions : ℕ) (is_entry : Bool) (m : ModuleScope) (stats : List CoreStat) (temporaries : List Var)
    → let r = round_part names hosts functions in
    IsTrue (names_drawn m.names r) → IsTrue (names_drawn m.lexical r) → IsTrue (list_all (declared_lawful r) m.functions)
    → IsTrue (list_all (namespace_lawful r) m.namespaces) → AreLawful r stats → AreDrawn r temporaries
    → IsTrue (part_lawful names hosts functions (part is_entry m stats temporaries))
