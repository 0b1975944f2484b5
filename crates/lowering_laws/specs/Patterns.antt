-- Patterns of lawful parts are lawful.
use Rattle.std.specs.Prelude.{Bool, true, ◌&&◌, List, Option, IsTrue}
use Rattle.std.specs.List.{list_all}
use Rattle.core_ast.specs.declared.parts.Var.{Var}
use Rattle.core_ast.specs.declared.tree.CoreExpr.{CoreExpr}
use Rattle.core_ast.specs.Lawful.{Round, is_drawn, key_lawful, stats_lawful}
use Rattle.lowering_laws.specs.InRound.{AreLawful, Drawn, IsLawful, IsLawfulIfThere, expr_lawful, if_lawful}
use Rattle.lowering_laws.specs.Statements.{IterationIsDrawn}
use Rattle.lowering_rules.specs.Patterns.{array_pattern, assigned_target, declared_target, member_target, object_pattern}
use Rattle.lowering_rules.specs.declared.naming.Iteration.{Iteration}
use Rattle.lowering_rules.specs.declared.patterns.ArrayPart.{ArrayPart}
use Rattle.lowering_rules.specs.declared.patterns.ArrayPart.TheVariants.{Element, Elision, Rest}
use Rattle.lowering_rules.specs.declared.patterns.MemberTarget.{MemberTarget}
use Rattle.lowering_rules.specs.declared.patterns.ObjectPart.{ObjectPart}
use Rattle.lowering_rules.specs.declared.patterns.PropertyName.{PropertyName}
use Rattle.lowering_rules.specs.declared.patterns.PropertyName.TheVariants.{Computed, Iterator, Literal}
use Rattle.lowering_rules.specs.declared.patterns.Target.{Target}
use Rattle.lowering_rules.specs.declared.patterns.VariableTarget.{VariableTarget}

abbrev pub property_lawful : Round → PropertyName → Bool
property_lawful r (Literal key) = key_lawful key
property_lawful r (Computed kept key) = is_drawn r kept && expr_lawful key r
property_lawful r Iterator = true

abbrev pub member_lawful : Round → MemberTarget → Bool
member_lawful r t = is_drawn r t.base && expr_lawful t.object r && property_lawful r t.name

abbrev pub target_lawful : Round → Target → Bool
target_lawful r t = stats_lawful t.before r && if_lawful t.default r && stats_lawful t.after r

abbrev pub object_part_lawful : Round → ObjectPart → Bool
object_part_lawful r p = property_lawful r p.name && target_lawful r p.target

abbrev pub array_part_lawful : Round → ArrayPart → Bool
array_part_lawful r Elision = true
array_part_lawful r (Element t) = target_lawful r t
array_part_lawful r (Rest t) = target_lawful r t

-- what a value in v goes to
abbrev pub DeclaredTargetsAreLawful : Type 0
DeclaredTargetsAreLawful = (r : Round) (x : Var) (default : Option CoreExpr) (v : Var)
    → Drawn r x → IsLawfulIfThere r default → Drawn r v → IsTrue (target_lawful r (declared_target x default v))

abbrev pub AssignedTargetsAreLawful : Type 0
AssignedTargetsAreLawful = (r : Round) (t : VariableTarget) (default : Option CoreExpr) (v : Var)
    → Drawn r t.var → IsLawfulIfThere r default → Drawn r v → IsTrue (target_lawful r (assigned_target t default v))

abbrev pub MemberTargetsAreLawful : Type 0
MemberTargetsAreLawful = (r : Round) (t : MemberTarget) (default : Option CoreExpr) (v : Var)
    → IsTrue (member_lawful r t) → IsLawfulIfThere r default → Drawn r v → IsTrue (target_lawful r (member_target t default v))

abbrev pub ObjectPatternsAreLawful : Type 0
ObjectPatternsAreLawful = (r : Round) (s v : Var) (parts : List ObjectPart)
    → Drawn r s → Drawn r v → IsTrue (list_all (object_part_lawful r) parts) → AreLawful r (object_pattern s v parts)

abbrev pub ArrayPatternsAreLawful : Type 0
ArrayPatternsAreLawful = (r : Round) (i : Iteration) (subject : CoreExpr) (parts : List ArrayPart)
    → IterationIsDrawn r i → IsLawful r subject → IsTrue (list_all (array_part_lawful r) parts)
    → AreLawful r (array_pattern i subject parts)
