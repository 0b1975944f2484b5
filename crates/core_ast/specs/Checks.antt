-- How many check_ready nodes there are, and the greatest usize where there are more.
use Rattle.std.specs.Prelude.{ℕ, ◌+◌, ◌-◌, ◌^◌, min, List, map}
use Rattle.core_ast.specs.declared.whole.Core.{Core}
use Rattle.core_ast.specs.declared.whole.CoreFunction.{CoreFunction}
use Rattle.core_ast.specs.declared.whole.CorePart.{CorePart}
use Rattle.core_ast.specs.declared.parts.CoreHead.{CoreHead}
use Rattle.core_ast.specs.declared.parts.CoreHead.TheVariants as head
use Rattle.core_ast.specs.declared.parts.CoreOp.{CoreOp}
use Rattle.core_ast.specs.declared.parts.CoreOp.TheVariants as op
use Rattle.core_ast.specs.declared.parts.Primitive.{Primitive}
use Rattle.core_ast.specs.declared.parts.Primitive.TheVariants.{CheckReady}
use Rattle.core_ast.specs.declared.tree.CoreExpr.{CoreExpr, fold-CoreExpr}
use Rattle.core_ast.specs.declared.tree.CoreCase.{CoreCase, fold-CoreCase}
use Rattle.core_ast.specs.declared.tree.CoreLink.{CoreLink, fold-CoreLink}
use Rattle.core_ast.specs.declared.tree.CoreStat.{CoreStat, fold-CoreStat}
use Rattle.core_ast.specs.declared.tree.CoreLink.TheOpen as layer
use Rattle.core_ast.specs.declared.tree.CoreLink.TheOpen.{CoreLink-F, CoreStat-F, CoreCase-F, CoreExpr-F}
use Rattle.core_ast.specs.Walks.{along, perhaps}

-- what is counted so far, and what is counted then
abbrev pub Counts : Type 0
Counts = ℕ → ℕ

abbrev pub one_more : Counts
one_more n = min (n + 1) (2 ^ 64 - 1)

unfoldable pub of_primitive : Primitive → Counts
of_primitive CheckReady n = one_more n
of_primitive p n = n

unfoldable pub of_head : CoreHead → Counts
of_head (head.Primitive p) n = of_primitive p n
of_head h n = n

unfoldable pub of_op : CoreOp → Counts
of_op (op.Primitive p) n = of_primitive p n
of_op o n = n

abbrev pub Layer : (Type 0 → Type 0 → Type 0 → Type 0 → Type 0) → Type 0
Layer Of = Of Counts Counts Counts Counts

abbrev pub link_step : Layer CoreLink-F → Counts
link_step (layer.Strict o parts site) n = of_op o (along parts n)
link_step (layer.Lazy when taken other) n = perhaps other (taken n)
link_step (layer.Run body) n = along body n

abbrev pub expr_step : Layer CoreExpr-F → Counts
expr_step x n = along x.links (of_head x.head n)

abbrev pub case_step : Layer CoreCase-F → Counts
case_step x n = along x.body (perhaps x.test n)

abbrev pub stat_step : Layer CoreStat-F → Counts
stat_step (layer.Do x) n = x n
stat_step (layer.If cases) n = along cases n
stat_step (layer.Switch subject cases) n = along cases (subject n)
stat_step (layer.Loop labels test update body) n = along body (perhaps update (perhaps test n))
stat_step (layer.Labelled label body) n = along body n
stat_step (layer.Jump goes_on label) n = n
stat_step (layer.Return x) n = x n
stat_step (layer.Throw x) n = x n
stat_step (layer.TryCatch block parameter names handler) n = along handler (along block n)
stat_step (layer.TryFinally block last) n = along last (along block n)
stat_step (layer.Scoped names body) n = along body n
stat_step (layer.Yield value kind result) n = value n

abbrev pub expr_checks : CoreExpr → Counts
expr_checks = fold-CoreExpr Counts Counts Counts Counts link_step stat_step case_step expr_step

abbrev pub link_checks : CoreLink → Counts
link_checks = fold-CoreLink Counts Counts Counts Counts link_step stat_step case_step expr_step

abbrev pub stat_checks : CoreStat → Counts
stat_checks = fold-CoreStat Counts Counts Counts Counts link_step stat_step case_step expr_step

abbrev pub case_checks : CoreCase → Counts
case_checks = fold-CoreCase Counts Counts Counts Counts link_step stat_step case_step expr_step

abbrev pub stats_checks : List CoreStat → Counts
stats_checks stats n = along (map stat_checks stats) n

abbrev pub function_checks : CoreFunction → Counts
function_checks f n = stats_checks f.step (stats_checks f.body (stats_checks f.setup n))

abbrev pub part_checks : CorePart → Counts
part_checks p n = stats_checks p.body (stats_checks p.instantiate n)

abbrev pub checks : Core → ℕ
checks core = along (map part_checks core.parts) (along (map function_checks core.functions) 0)
