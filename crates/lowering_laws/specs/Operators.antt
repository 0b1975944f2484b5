-- Operations on lawful values are lawful, and so are the statements that only evaluate.
use Rattle.std.specs.Prelude.{[], Option, None, IsTrue}
use Rattle.core_ast.specs.declared.parts.Binary.{Binary}
use Rattle.core_ast.specs.declared.parts.Constant.{Constant}
use Rattle.core_ast.specs.declared.parts.CoreHead.TheVariants as head
use Rattle.core_ast.specs.declared.parts.CoreOp.TheVariants as op
use Rattle.core_ast.specs.declared.parts.Primitive.TheVariants.{NewTarget, Power}
use Rattle.core_ast.specs.declared.parts.Unary.{Unary}
use Rattle.core_ast.specs.declared.parts.Var.{Var}
use Rattle.core_ast.specs.declared.parts.When.{When}
use Rattle.core_ast.specs.declared.tree.CoreExpr.{CoreExpr}
use Rattle.core_ast.specs.declared.tree.CoreLink.TheVariants as link
use Rattle.core_ast.specs.declared.tree.CoreStat.TheVariants as stat
use Rattle.core_ast.specs.Lawful.{Round, head_lawful}
use Rattle.core_ast.specs.Made.{act, acting, expression, linked}
use Rattle.lowering_laws.specs.InRound.{Drawn, IsLawful, IsLawfulIfThere, IsLawfulStat}
use Rattle.lowering_rules.specs.Making.{initialize, primitive, set, then, through_with}

abbrev pub ConstantsAreLawful : Type 0
ConstantsAreLawful = (r : Round) (c : Constant)
    → IsTrue (head_lawful (head.Constant c) r)
    → IsLawful r (expression None (head.Constant c) []) × IsLawful r (primitive NewTarget)

abbrev pub OperatorsAreLawful : Type 0
OperatorsAreLawful = (r : Round) (x y : CoreExpr) (o : Unary) (b : Binary)
    → IsLawful r x
    → IsLawful r (linked x (act (op.Unary o)))
    × (IsLawful r y → IsLawful r (linked x (acting (op.Operator b) y)) × IsLawful r (through_with x Power y) × IsLawful r (then x y))

-- what isn't always evaluated
abbrev pub ConditionsAreLawful : Type 0
ConditionsAreLawful = (r : Round) (x y : CoreExpr) (w : When) (other : Option CoreExpr)
    → IsLawful r x → IsLawful r y → IsLawfulIfThere r other → IsLawful r (linked x (link.Lazy w y other))

abbrev pub YieldsAreLawful : Type 0
YieldsAreLawful = (r : Round) (x : CoreExpr)
    → IsTrue r.yields → IsLawful r x → IsLawful r (linked x (act op.Yield)) × IsLawful r (linked x (act op.Delegate))

abbrev pub EvaluationsAreLawful : Type 0
EvaluationsAreLawful = (r : Round) (x : CoreExpr) (v : Var)
    → IsLawful r x
    → IsLawfulStat r (stat.Do x) × IsLawfulStat r (stat.Throw x) × (Drawn r v → IsLawfulStat r (set v x) × IsLawfulStat r (initialize v x))
