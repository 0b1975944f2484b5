-- How many names the passes draw at most, by what a core is before them.
use Rattle.std.specs.Prelude.{ℕ, ◌+◌, cond, length, List, map, IsTrue}
use Rattle.core_ast.specs.declared.parts.CoreHead.{CoreHead}
use Rattle.core_ast.specs.declared.parts.CoreHead.TheVariants as head
use Rattle.core_ast.specs.declared.parts.ScopedName.{ScopedName}
use Rattle.core_ast.specs.declared.tree.CoreStat.{CoreStat, fold-CoreStat}
use Rattle.core_ast.specs.declared.tree.CoreLink.TheOpen as layer
use Rattle.core_ast.specs.declared.tree.CoreLink.TheOpen.{CoreLink-F, CoreStat-F, CoreCase-F, CoreExpr-F}
use Rattle.core_ast.specs.declared.whole.Core.{Core}
use Rattle.core_ast.specs.declared.whole.CoreFunction.{CoreFunction}
use Rattle.core_ast.specs.declared.whole.CorePart.{CorePart}
use Rattle.core_ast.specs.Lawful.{is_generator}
use Rattle.lawful_passes.specs.StatesBefore.{stats_states}
use Rattle.pass_rules.specs.pass_laws.Marks.{if_any, total}
use Rattle.writable_passes.specs.Rooms.{fits}

-- ---- slots: those of the links, cases and loops that the flattening of scopes leaves, where that of yields keeps values

abbrev pub Layer : (Type 0 → Type 0 → Type 0 → Type 0 → Type 0) → Type 0
Layer Of = Of ℕ ℕ ℕ ℕ

-- a shared name is read from its cell by a link; a copy takes the content of one, makes another and sets the name
abbrev pub of_head : CoreHead → ℕ
of_head (head.Variable x) = 4
of_head (head.Copy xs) = total (map (λ x. 17) xs)
of_head h = 0

-- at its scope's entry a shared name gets a cell, which is made and set
abbrev pub entered : List ScopedName → ℕ
entered names = total (map (λ n. 8) names)

-- a link keeps its current value, the key of a reference and the old value at most, and its parts
abbrev pub link_step : Layer CoreLink-F → ℕ
link_step (layer.Strict o parts site) = 5 + length parts + total parts
link_step (layer.Lazy when taken other) = 1 + (taken + if_any other)
link_step (layer.Run body) = total body

abbrev pub expr_step : Layer CoreExpr-F → ℕ
expr_step x = of_head x.head + total x.links

abbrev pub case_step : Layer CoreCase-F → ℕ
case_step x = if_any x.test + total x.body

-- a switch keeps its subject and the number of the case that is meant, a loop whether a turn was made
abbrev pub stat_step : Layer CoreStat-F → ℕ
stat_step (layer.Do x) = x
stat_step (layer.If cases) = total cases
stat_step (layer.Switch subject cases) = 2 + (subject + total cases)
stat_step (layer.Loop labels test update body) = 1 + (if_any test + if_any update + total body)
stat_step (layer.Labelled label body) = total body
stat_step (layer.Jump goes_on label) = 0
stat_step (layer.Return x) = x
stat_step (layer.Throw x) = x
stat_step (layer.TryCatch block parameter names handler) = total block + (entered names + total handler)
stat_step (layer.TryFinally block last) = total block + total last
stat_step (layer.Scoped names body) = entered names + total body
stat_step (layer.Yield value kind result) = value

abbrev pub stat_slots : CoreStat → ℕ
stat_slots = fold-CoreStat ℕ ℕ ℕ ℕ link_step stat_step case_step expr_step

abbrev pub stats_slots : List CoreStat → ℕ
stats_slots stats = total (map stat_slots stats)

-- ---- functions, parts and the core: a generator's machine has seven registers, and two names for each block with a `finally`, which
-- counts as two states

abbrev pub function_draws : CoreFunction → ℕ
function_draws f =
    stats_slots f.setup + stats_slots f.body + stats_slots f.step
    + cond (is_generator f.kind) (7 + stats_states f.body) 0

abbrev pub part_draws : CorePart → ℕ
part_draws p = stats_slots p.instantiate + stats_slots p.body

abbrev pub draws : Core → ℕ
draws core = total (map function_draws core.functions) + total (map part_draws core.parts)

-- The names, as many as may be drawn, and as many hosts are told apart by numbers of 64 bits.
abbrev pub NamesHaveRoom : ℕ → Core → Type 0
NamesHaveRoom hosts core = IsTrue (fits (length core.fresh.hints + draws core + hosts))
