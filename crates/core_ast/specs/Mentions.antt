-- What stands in statements: the names of their scopes, the parameters of their handlers, the names that they read or
-- write, the functions that they hold, and their labels, each in text order. What stands in the functions isn't looked at.
use Rattle.std.specs.Prelude.{List, [], ◌∷◌, ◌++◌, map, Option, None, Some}
use Rattle.core_ast.specs.declared.gathering.Mentions.{Mentions}
use Rattle.core_ast.specs.declared.parts.Var.{Var}
use Rattle.core_ast.specs.declared.parts.FunctionId.{FunctionId}
use Rattle.core_ast.specs.declared.parts.Label.{Label}
use Rattle.core_ast.specs.declared.parts.ScopedName.{ScopedName}
use Rattle.core_ast.specs.declared.parts.CoreHead.{CoreHead}
use Rattle.core_ast.specs.declared.parts.CoreHead.TheVariants as head
use Rattle.core_ast.specs.declared.parts.CoreOp.{CoreOp}
use Rattle.core_ast.specs.declared.parts.CoreOp.TheVariants as op
use Rattle.core_ast.specs.declared.tree.CoreExpr.{CoreExpr, fold-CoreExpr}
use Rattle.core_ast.specs.declared.tree.CoreCase.{CoreCase, fold-CoreCase}
use Rattle.core_ast.specs.declared.tree.CoreLink.{CoreLink, fold-CoreLink}
use Rattle.core_ast.specs.declared.tree.CoreStat.{CoreStat, fold-CoreStat}
use Rattle.core_ast.specs.declared.whole.CoreFunction.{CoreFunction}
use Rattle.core_ast.specs.declared.whole.CorePart.{CorePart}
use Rattle.core_ast.specs.declared.tree.CoreLink.TheOpen as layer
use Rattle.core_ast.specs.declared.tree.CoreLink.TheOpen.{CoreLink-F, CoreStat-F, CoreCase-F, CoreExpr-F}
use Rattle.core_ast.specs.Walks.{along, perhaps}

abbrev pub none : Mentions
none = record { scoped = []; caught = []; uses = []; functions = []; labels = [] }

-- ---- what a node adds

abbrev pub uses : List Var → Mentions → Mentions
uses xs m = record m { uses = m.uses ++ xs }

abbrev pub holds : FunctionId → Mentions → Mentions
holds f m = record m { functions = m.functions ++ f ∷ [] }

abbrev pub scopes : List ScopedName → Mentions → Mentions
scopes names m = record m { scoped = m.scoped ++ names }

abbrev pub catches : Var → Mentions → Mentions
catches x m = record m { caught = m.caught ++ x ∷ [] }

abbrev pub labelled : List Label → Mentions → Mentions
labelled ls m = record m { labels = m.labels ++ ls }

unfoldable pub of_head : CoreHead → Mentions → Mentions
of_head (head.Variable x) m = uses (x ∷ []) m
of_head (head.TypeOf x) m = uses (x ∷ []) m
of_head (head.Copy xs) m = uses xs m
of_head (head.Function f) m = holds f m
of_head h m = m

unfoldable pub of_op : CoreOp → Mentions → Mentions
of_op (op.Set x) m = uses (x ∷ []) m
of_op (op.Init x) m = uses (x ∷ []) m
of_op (op.StepVariable update x) m = uses (x ∷ []) m
of_op o m = m

unfoldable pub of_yield : Option Var → Var → Mentions → Mentions
of_yield None result m = uses (result ∷ []) m
of_yield (Some kind) result m = uses (kind ∷ result ∷ []) m

-- ---- the walk

abbrev pub Adds : Type 0
Adds = Mentions → Mentions

abbrev pub Layer : (Type 0 → Type 0 → Type 0 → Type 0 → Type 0) → Type 0
Layer Of = Of Adds Adds Adds Adds

abbrev pub link_step : Layer CoreLink-F → Adds
link_step (layer.Strict o parts site) m = of_op o (along parts m)
link_step (layer.Lazy when taken other) m = perhaps other (taken m)
link_step (layer.Run body) m = along body m

abbrev pub expr_step : Layer CoreExpr-F → Adds
expr_step x m = along x.links (of_head x.head m)

abbrev pub case_step : Layer CoreCase-F → Adds
case_step x m = along x.body (perhaps x.test m)

abbrev pub stat_step : Layer CoreStat-F → Adds
stat_step (layer.Do x) m = x m
stat_step (layer.If cases) m = along cases m
stat_step (layer.Switch subject cases) m = along cases (subject m)
stat_step (layer.Loop labels test update body) m = along body (perhaps update (perhaps test (labelled labels m)))
stat_step (layer.Labelled label body) m = along body (labelled (label ∷ []) m)
stat_step (layer.Jump goes_on label) m = m
stat_step (layer.Return x) m = x m
stat_step (layer.Throw x) m = x m
stat_step (layer.TryCatch block parameter names handler) m =
    along handler (scopes names (catches parameter (along block m)))
stat_step (layer.TryFinally block last) m = along last (along block m)
stat_step (layer.Scoped names body) m = along body (scopes names m)
stat_step (layer.Yield value kind result) m = of_yield kind result (value m)

abbrev pub expr_mentions : CoreExpr → Adds
expr_mentions = fold-CoreExpr Adds Adds Adds Adds link_step stat_step case_step expr_step

abbrev pub link_mentions : CoreLink → Adds
link_mentions = fold-CoreLink Adds Adds Adds Adds link_step stat_step case_step expr_step

abbrev pub stat_mentions : CoreStat → Adds
stat_mentions = fold-CoreStat Adds Adds Adds Adds link_step stat_step case_step expr_step

abbrev pub case_mentions : CoreCase → Adds
case_mentions = fold-CoreCase Adds Adds Adds Adds link_step stat_step case_step expr_step

abbrev pub stats_mentions : List CoreStat → Adds
stats_mentions stats m = along (map stat_mentions stats) m

-- what stands in a function, and in a part
abbrev pub function_mentions : CoreFunction → Mentions
function_mentions f = stats_mentions f.step (stats_mentions f.body (stats_mentions f.setup none))

abbrev pub part_mentions : CorePart → Mentions
part_mentions p = stats_mentions p.body (stats_mentions p.instantiate none)
