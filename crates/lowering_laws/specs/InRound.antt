-- What is lawful in a round: what stands round a part of a core.
use Rattle.std.specs.Prelude.{Bool, true, ◌&&◌, nat_lt, List, Option, None, Some, IsTrue}
use Rattle.std.specs.List.{list_all}
use Rattle.core_ast.specs.declared.parts.Var.{Var}
use Rattle.core_ast.specs.declared.tree.CoreCase.{CoreCase, fold-CoreCase}
use Rattle.core_ast.specs.declared.tree.CoreExpr.{CoreExpr, fold-CoreExpr}
use Rattle.core_ast.specs.declared.tree.CoreStat.{CoreStat}
use Rattle.core_ast.specs.declared.whole.Declared.{Declared}
use Rattle.core_ast.specs.Lawful.{Joint, Round, Test, case_step, expr_step, is_drawn, link_step, stat_lawful, stat_step, stats_lawful}
use Rattle.lowering_rules.specs.declared.expressions.ListPart.{ListPart}
use Rattle.lowering_rules.specs.declared.expressions.ListPart.TheVariants.{Missing, Single, Spread}

abbrev pub expr_lawful : CoreExpr → Test
expr_lawful = fold-CoreExpr Joint Test Test Test link_step stat_step case_step expr_step

abbrev pub case_lawful : CoreCase → Test
case_lawful = fold-CoreCase Joint Test Test Test link_step stat_step case_step expr_step

abbrev pub if_lawful : Option CoreExpr → Test
if_lawful None r = true
if_lawful (Some x) r = expr_lawful x r

-- a part of a list
abbrev pub part_lawful : Round → ListPart → Bool
part_lawful r (Single x) = expr_lawful x r
part_lawful r (Spread x) = expr_lawful x r
part_lawful r Missing = true

-- a name that takes a function
abbrev pub declared_lawful : Round → Declared → Bool
declared_lawful r d = is_drawn r d.var && nat_lt d.function.0 r.functions

abbrev pub Drawn : Round → Var → Type 0
Drawn r x = IsTrue (is_drawn r x)

abbrev pub IsLawful : Round → CoreExpr → Type 0
IsLawful r x = IsTrue (expr_lawful x r)

abbrev pub IsLawfulIfThere : Round → Option CoreExpr → Type 0
IsLawfulIfThere r x = IsTrue (if_lawful x r)

abbrev pub PartsAreLawful : Round → List CoreExpr → Type 0
PartsAreLawful r xs = IsTrue (list_all (λ x. expr_lawful x r) xs)

abbrev pub CasesAreLawful : Round → List CoreCase → Type 0
CasesAreLawful r cs = IsTrue (list_all (λ c. case_lawful c r) cs)

abbrev pub IsLawfulStat : Round → CoreStat → Type 0
IsLawfulStat r s = IsTrue (stat_lawful s r)

abbrev pub AreLawful : Round → List CoreStat → Type 0
AreLawful r ss = IsTrue (stats_lawful ss r)
