-- How many states the machine of a generator has at most, by what its body is before scopes and yields are flattened.
use Rattle.std.specs.Prelude.{ℕ, ◌+◌, Bool, not, ◌||◌, length, List, map, IsTrue}
use Rattle.std.specs.List.{list_all}
use Rattle.core_ast.specs.declared.parts.CoreOp.{CoreOp}
use Rattle.core_ast.specs.declared.parts.CoreOp.TheVariants as op
use Rattle.core_ast.specs.declared.tree.CoreStat.{CoreStat, fold-CoreStat}
use Rattle.core_ast.specs.declared.tree.CoreLink.TheOpen as layer
use Rattle.core_ast.specs.declared.tree.CoreLink.TheOpen.{CoreLink-F, CoreStat-F, CoreCase-F, CoreExpr-F}
use Rattle.core_ast.specs.declared.whole.Core.{Core}
use Rattle.core_ast.specs.declared.whole.CoreFunction.{CoreFunction}
use Rattle.core_ast.specs.Lawful.{is_generator, is_safe}
use Rattle.pass_rules.specs.pass_laws.Marks.{if_any, total}

abbrev pub Layer : (Type 0 → Type 0 → Type 0 → Type 0 → Type 0) → Type 0
Layer Of = Of ℕ ℕ ℕ ℕ

-- a yield becomes a statement, and a delegating one a loop with three choices
abbrev pub of_op : CoreOp → ℕ
of_op op.Yield = 1
of_op op.Delegate = 10
of_op o = 0

-- a branch becomes a choice
abbrev pub link_step : Layer CoreLink-F → ℕ
link_step (layer.Strict o parts site) = of_op o + total parts
link_step (layer.Lazy when taken other) = 3 + (taken + if_any other)
link_step (layer.Run body) = total body

abbrev pub expr_step : Layer CoreExpr-F → ℕ
expr_step x = total x.links

abbrev pub case_step : Layer CoreCase-F → ℕ
case_step x = if_any x.test + total x.body

-- a choice may become one for each test, under a label, behind which a switch has its cases; a loop may take in its test and its update
abbrev pub stat_step : Layer CoreStat-F → ℕ
stat_step (layer.Do x) = x
stat_step (layer.If cases) = 1 + (length cases + length cases) + total cases
stat_step (layer.Switch subject cases) = 2 + (length cases + length cases + length cases) + (subject + total cases)
stat_step (layer.Loop labels test update body) = 7 + (if_any test + if_any update + total body)
stat_step (layer.Labelled label body) = 1 + total body
stat_step (layer.Jump goes_on label) = 0
stat_step (layer.Return x) = x
stat_step (layer.Throw x) = x
stat_step (layer.TryCatch block parameter names handler) = 2 + (total block + total handler)
stat_step (layer.TryFinally block last) = 2 + (total block + total last)
stat_step (layer.Scoped names body) = total body
stat_step (layer.Yield value kind result) = 1 + value

abbrev pub stat_states : CoreStat → ℕ
stat_states = fold-CoreStat ℕ ℕ ℕ ℕ link_step stat_step case_step expr_step

abbrev pub stats_states : List CoreStat → ℕ
stats_states stats = total (map stat_states stats)

abbrev pub will_have_few_states : CoreFunction → Bool
will_have_few_states f = not (is_generator f.kind) || is_safe (stats_states f.body)

-- The number of each state that a generator will have is a safe integer.
abbrev pub StatesWillBeFew : Core → Type 0
StatesWillBeFew core = IsTrue (list_all will_have_few_states core.functions)
