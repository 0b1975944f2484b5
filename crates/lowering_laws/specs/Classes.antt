-- Object literals, classes, `super` and the binding of parameters are lawful, of lawful parts.
use Rattle.std.specs.Prelude.{Bool, true, ◌&&◌, nat_lt, length, List, Option, None, Some, IsTrue}
use Rattle.std.specs.List.{list_all}
use Rattle.core_ast.specs.declared.parts.FunctionId.{FunctionId}
use Rattle.core_ast.specs.declared.parts.ScopedName.{ScopedName}
use Rattle.core_ast.specs.declared.tree.CoreExpr.{CoreExpr}
use Rattle.core_ast.specs.Lawful.{Round, is_drawn, is_safe, key_lawful, stats_lawful}
use Rattle.lowering_laws.specs.InRound.{AreLawful, Drawn, IsLawful, IsLawfulIfThere, expr_lawful, if_lawful, part_lawful}
use Rattle.lowering_laws.specs.References.{MakesLawful, with_names}
use Rattle.lowering_rules.specs.Classes.{class_statements, default_body, super_call, super_get, this}
use Rattle.lowering_rules.specs.Functions.{parameters_bound}
use Rattle.lowering_rules.specs.declared.classes.ClassKey.{ClassKey}
use Rattle.lowering_rules.specs.declared.classes.ClassKey.TheVariants.{ComputedName, TextName}
use Rattle.lowering_rules.specs.declared.classes.ClassMember.{ClassMember}
use Rattle.lowering_rules.specs.declared.classes.ClassNames.{ClassNames}
use Rattle.lowering_rules.specs.declared.expressions.ListPart.{ListPart}
use Rattle.lowering_rules.specs.declared.functions.BodyVar.{BodyVar}
use Rattle.lowering_rules.specs.declared.functions.Parameter.{Parameter}
use Rattle.lowering_rules.specs.declared.functions.ParameterScope.{ParameterScope}
use Rattle.lowering_rules.specs.declared.functions.RestParameter.{RestParameter}
use Rattle.lowering_rules.specs.declared.naming.Names.{Names}
use Rattle.lowering_rules.specs.declared.reference_rules.objects.ObjectKey.{ObjectKey}
use Rattle.lowering_rules.specs.declared.reference_rules.objects.ObjectKey.TheVariants.{Evaluated, Written}
use Rattle.lowering_rules.specs.declared.reference_rules.objects.ObjectMember.{ObjectMember}
use Rattle.lowering_rules.specs.declared.reference_rules.objects.ObjectMember.TheVariants.{Defined, Valued}
use Rattle.lowering_rules.specs.reference_rules.Objects.{object}

-- ---- object literals, whose object may stand in a temporary

abbrev pub object_key_lawful : Round → ObjectKey → Bool
object_key_lawful r (Written key units) = key_lawful key
object_key_lawful r (Evaluated x) = expr_lawful x r

abbrev pub object_member_lawful : Round → ObjectMember → Bool
object_member_lawful r (Valued key value) = object_key_lawful r key && expr_lawful value r
object_member_lawful r (Defined key kind f) = object_key_lawful r key && nat_lt f.0 r.functions

abbrev pub ObjectsAreLawful : Type 0
ObjectsAreLawful = (r : Round) (members : List ObjectMember) (n : Names)
    → IsTrue (list_all (object_member_lawful (with_names n r)) members) → MakesLawful r (object members n)

-- ---- `this` and `super`

abbrev pub ThisIsLawful : Type 0
ThisIsLawful = (r : Round) (derived : Bool) → IsLawful r (this derived)

abbrev pub SuperIsLawful : Type 0
SuperIsLawful = (r : Round) (parts : List ListPart) (key : CoreExpr) (derived : Bool)
    → (IsTrue (list_all (part_lawful r) parts) → IsLawful r (super_call parts)) × (IsLawful r key → IsLawful r (super_get key derived))

-- ---- classes

abbrev pub class_key_lawful : Round → ClassKey → Bool
class_key_lawful r (TextName units) = true
class_key_lawful r (ComputedName kept key) = is_drawn r kept && expr_lawful key r

abbrev pub class_member_lawful : Round → ClassMember → Bool
class_member_lawful r m = class_key_lawful r m.key && nat_lt m.function.0 r.functions

abbrev pub if_drawn : Round → Option ScopedName → Bool
if_drawn r None = true
if_drawn r (Some name) = is_drawn r name.var

abbrev pub DefaultBodiesAreLawful : Type 0
DefaultBodiesAreLawful = (r : Round) (derived : Bool) → AreLawful r (default_body derived)

abbrev pub ClassesAreLawful : Type 0
ClassesAreLawful =
    (r : Round) (c : ClassNames) (name : Option ScopedName) (heritage : Option CoreExpr) (f : FunctionId) (members : List ClassMember)
    → Drawn r c.class → Drawn r c.prototype → IsTrue (if_drawn r name) → IsLawfulIfThere r heritage → IsTrue (nat_lt f.0 r.functions)
    → IsTrue (list_all (class_member_lawful r) members) → AreLawful r (class_statements c name heritage f members)

-- ---- parameters; of the list of a rest, its place has to be a safe integer

abbrev pub parameter_lawful : Round → Parameter → Bool
parameter_lawful r p = is_drawn r p.formal && if_lawful p.default r && stats_lawful p.bound r

abbrev pub rest_lawful : Round → Option RestParameter → Bool
rest_lawful r None = true
rest_lawful r (Some p) = is_drawn r p.list && stats_lawful p.bound r

abbrev pub begun_lawful : Round → BodyVar → Bool
begun_lawful r b = is_drawn r b.var && is_drawn r b.parameter

abbrev pub ParametersAreLawful : Type 0
ParametersAreLawful = (r : Round) (parameters : List Parameter) (rest : Option RestParameter) (scope : ParameterScope)
    → IsTrue (is_safe (length parameters)) → IsTrue (list_all (parameter_lawful r) parameters) → IsTrue (rest_lawful r rest)
    → IsTrue (list_all (is_drawn r) scope.names) → IsTrue (list_all (begun_lawful r) scope.body)
    → AreLawful r (parameters_bound parameters rest scope)
