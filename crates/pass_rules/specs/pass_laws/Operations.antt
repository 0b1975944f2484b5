-- Whether each operation in a core is such a one.
use Rattle.std.specs.Prelude.{◌≡◌, Bool, true, false, ◌&&◌, List, [], ◌∷◌, map, Option, None, Some}
use Rattle.std.specs.List.{list_all}
use Rattle.core_ast.specs.declared.parts.CoreOp.{CoreOp}
use Rattle.core_ast.specs.declared.parts.CoreOp.TheVariants as op
use Rattle.core_ast.specs.declared.tree.CoreStat.{CoreStat, fold-CoreStat}
use Rattle.core_ast.specs.declared.tree.CoreLink.TheOpen as layer
use Rattle.core_ast.specs.declared.tree.CoreLink.TheOpen.{CoreLink-F, CoreStat-F, CoreCase-F, CoreExpr-F}
use Rattle.core_ast.specs.declared.whole.Core.{Core}
use Rattle.core_ast.specs.declared.whole.CoreFunction.{CoreFunction}
use Rattle.core_ast.specs.declared.whole.CorePart.{CorePart}

abbrev pub Layer : (Type 0 → Type 0 → Type 0 → Type 0 → Type 0) → Type 0
Layer Of = Of Bool Bool Bool Bool

abbrev pub every : List Bool → Bool
every [] = true
every (b ∷ bs) = b && every bs

abbrev pub if_any : Option Bool → Bool
if_any None = true
if_any (Some b) = b

abbrev pub link_step : (CoreOp → Bool) → Layer CoreLink-F → Bool
link_step such (layer.Strict o parts site) = such o && every parts
link_step such (layer.Lazy when taken other) = taken && if_any other
link_step such (layer.Run body) = every body

abbrev pub expr_step : Layer CoreExpr-F → Bool
expr_step x = every x.links

abbrev pub case_step : Layer CoreCase-F → Bool
case_step x = if_any x.test && every x.body

abbrev pub stat_step : Layer CoreStat-F → Bool
stat_step (layer.Do x) = x
stat_step (layer.If cases) = every cases
stat_step (layer.Switch subject cases) = subject && every cases
stat_step (layer.Loop labels test update body) = if_any test && if_any update && every body
stat_step (layer.Labelled label body) = every body
stat_step (layer.Jump goes_on label) = true
stat_step (layer.Return x) = x
stat_step (layer.Throw x) = x
stat_step (layer.TryCatch block parameter names handler) = every block && every handler
stat_step (layer.TryFinally block last) = every block && every last
stat_step (layer.Scoped names body) = every body
stat_step (layer.Yield value kind result) = value

abbrev pub stat_such : (CoreOp → Bool) → CoreStat → Bool
stat_such such = fold-CoreStat Bool Bool Bool Bool (link_step such) stat_step case_step expr_step

abbrev pub stats_such : (CoreOp → Bool) → List CoreStat → Bool
stats_such such stats = every (map (stat_such such) stats)

abbrev pub function_such : (CoreOp → Bool) → CoreFunction → Bool
function_such such f = stats_such such f.setup && stats_such such f.body && stats_such such f.step

abbrev pub part_such : (CoreOp → Bool) → CorePart → Bool
part_such such p = stats_such such p.instantiate && stats_such such p.body

abbrev pub AllSuch : (CoreOp → Bool) → Core → Type 0
AllSuch such core = (list_all (function_such such) core.functions ≡ true) × (list_all (part_such such) core.parts ≡ true)

-- all but those on the contents of cells, which there are from the flattening of scopes on
abbrev pub no_content : CoreOp → Bool
no_content op.Content = false
no_content op.SetContent = false
no_content o = true
