-- What a core asks of the flattening of yields besides being lawful: that the labels of a function's statements differ, and that cases
-- can be numbered.
use Rattle.std.specs.Prelude.{ℕ, ◌+◌, Bool, true, ◌&&◌, length, List, [], ◌∷◌, ◌++◌, map, Option, None, Some, IsTrue}
use Rattle.std.specs.List.{list_all}
use Rattle.core_ast.specs.declared.parts.Label.{Label}
use Rattle.core_ast.specs.declared.tree.CoreStat.{CoreStat, fold-CoreStat}
use Rattle.core_ast.specs.declared.tree.CoreLink.TheOpen as layer
use Rattle.core_ast.specs.declared.tree.CoreLink.TheOpen.{CoreLink-F, CoreStat-F, CoreCase-F, CoreExpr-F}
use Rattle.core_ast.specs.declared.whole.Core.{Core}
use Rattle.core_ast.specs.declared.whole.CoreFunction.{CoreFunction}
use Rattle.core_ast.specs.declared.whole.CorePart.{CorePart}
use Rattle.core_ast.specs.Lawful.{all_differ, is_safe}

-- what is told of a node: the labels of its statements in text order, whether each switch in it has as many cases as may be
-- numbered, and a number of slots that its flattening doesn't exceed
pub record Told : Type 0 where
  pub labels : List ℕ
  pub few : Bool
  pub slots : ℕ

abbrev pub Layer : (Type 0 → Type 0 → Type 0 → Type 0 → Type 0) → Type 0
Layer Of = Of Told Told Told Told

abbrev pub nothing : Told
nothing = record { labels = []; few = true; slots = 0 }

abbrev pub both : Told → Told → Told
both a b = record { labels = a.labels ++ b.labels; few = a.few && b.few; slots = a.slots + b.slots }

abbrev pub all : List Told → Told
all [] = nothing
all (t ∷ ts) = both t (all ts)

abbrev pub maybe : Option Told → Told
maybe None = nothing
maybe (Some t) = t

abbrev pub needing : ℕ → Told → Told
needing n t = record t { slots = n + t.slots }

abbrev pub labelled : List Label → Told → Told
labelled ls t = record t { labels = map (λ (l : Label). l.0) ls ++ t.labels }

abbrev pub link_step : Layer CoreLink-F → Told
link_step (layer.Strict o parts site) = needing (4 + length parts) (all parts)
link_step (layer.Lazy when taken other) = needing 1 (both taken (maybe other))
link_step (layer.Run body) = all body

abbrev pub expr_step : Layer CoreExpr-F → Told
expr_step x = all x.links

abbrev pub case_step : Layer CoreCase-F → Told
case_step x = both (maybe x.test) (all x.body)

abbrev pub few_cases : List Told → Told → Told
few_cases cases t = record t { few = is_safe (length cases) && t.few }

abbrev pub stat_step : Layer CoreStat-F → Told
stat_step (layer.Do x) = x
stat_step (layer.If cases) = all cases
stat_step (layer.Switch subject cases) = few_cases cases (needing 2 (both subject (all cases)))
stat_step (layer.Loop labels test update body) = labelled labels (needing 1 (both (both (maybe test) (maybe update)) (all body)))
stat_step (layer.Labelled label body) = labelled (label ∷ []) (all body)
stat_step (layer.Jump goes_on label) = nothing
stat_step (layer.Return x) = x
stat_step (layer.Throw x) = x
stat_step (layer.TryCatch block parameter names handler) = both (all block) (all handler)
stat_step (layer.TryFinally block last) = both (all block) (all last)
stat_step (layer.Scoped names body) = all body
stat_step (layer.Yield value kind result) = value

abbrev pub stat_told : CoreStat → Told
stat_told = fold-CoreStat Told Told Told Told link_step stat_step case_step expr_step

abbrev pub stats_told : List CoreStat → Told
stats_told stats = all (map stat_told stats)

-- ---- functions, parts and the core

abbrev pub function_told : CoreFunction → Told
function_told f = both (both (stats_told f.setup) (stats_told f.body)) (stats_told f.step)

abbrev pub part_told : CorePart → Told
part_told p = both (stats_told p.instantiate) (stats_told p.body)

abbrev pub tells_apart : Told → Bool
tells_apart t = all_differ t.labels && t.few

-- The labels in a function differ, and those in a part, and no switch has more cases than the greatest safe integer.
abbrev pub LabelsDiffer : Core → Type 0
LabelsDiffer core =
    IsTrue (list_all (λ f. tells_apart (function_told f)) core.functions)
    × IsTrue (list_all (λ p. tells_apart (part_told p)) core.parts)
