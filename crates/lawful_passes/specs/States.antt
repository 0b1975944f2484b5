-- How many states the machine of a generator has at most.
use Rattle.std.specs.Prelude.{ℕ, ◌+◌, Bool, not, ◌||◌, length, List, map, IsTrue}
use Rattle.std.specs.List.{list_all}
use Rattle.core_ast.specs.declared.tree.CoreStat.{CoreStat, fold-CoreStat}
use Rattle.core_ast.specs.declared.tree.CoreLink.TheOpen as layer
use Rattle.core_ast.specs.declared.tree.CoreLink.TheOpen.{CoreLink-F, CoreStat-F, CoreCase-F, CoreExpr-F}
use Rattle.core_ast.specs.declared.whole.Core.{Core}
use Rattle.core_ast.specs.declared.whole.CoreFunction.{CoreFunction}
use Rattle.core_ast.specs.Lawful.{is_generator, is_safe}
use Rattle.pass_rules.specs.pass_laws.Marks.{total}

abbrev pub Layer : (Type 0 → Type 0 → Type 0 → Type 0 → Type 0) → Type 0
Layer Of = Of ℕ ℕ ℕ ℕ

-- expressions have none
abbrev pub link_step : Layer CoreLink-F → ℕ
link_step x = 0

abbrev pub expr_step : Layer CoreExpr-F → ℕ
expr_step x = 0

abbrev pub case_step : Layer CoreCase-F → ℕ
case_step x = total x.body

-- one for each case and one behind; of a loop one for its test, one for its update and one behind; one behind a label and a yield; of a
-- try one for the handler or the last statements, and one behind
abbrev pub stat_step : Layer CoreStat-F → ℕ
stat_step (layer.Do x) = 0
stat_step (layer.If cases) = length cases + 1 + total cases
stat_step (layer.Switch subject cases) = length cases + 1 + total cases
stat_step (layer.Loop labels test update body) = 3 + total body
stat_step (layer.Labelled label body) = 1 + total body
stat_step (layer.Jump goes_on label) = 0
stat_step (layer.Return x) = 0
stat_step (layer.Throw x) = 0
stat_step (layer.TryCatch block parameter names handler) = 2 + (total block + total handler)
stat_step (layer.TryFinally block last) = 2 + (total block + total last)
stat_step (layer.Scoped names body) = total body
stat_step (layer.Yield value kind result) = 1

abbrev pub stat_states : CoreStat → ℕ
stat_states = fold-CoreStat ℕ ℕ ℕ ℕ link_step stat_step case_step expr_step

-- besides the first one
abbrev pub stats_states : List CoreStat → ℕ
stats_states stats = total (map stat_states stats)

abbrev pub has_few_states : CoreFunction → Bool
has_few_states f = not (is_generator f.kind) || is_safe (stats_states f.body)

-- The number of each state of a generator is a safe integer.
abbrev pub StatesAreFew : Core → Type 0
StatesAreFew core = IsTrue (list_all has_few_states core.functions)
