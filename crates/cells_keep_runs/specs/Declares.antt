-- How often code declares a name as that of a scope or of a handler's pattern: at most once where code runs once, and twice in a loop.
use Rattle.std.specs.Prelude.{◌+◌, List, Option, if◌then◌else◌, nat_eq, ℕ}
use Rattle.core_ast.specs.declared.parts.ScopedName.{ScopedName}
use Rattle.core_ast.specs.declared.parts.Var.{Var}
use Rattle.core_ast.specs.declared.tree.CoreExpr.{CoreExpr, fold-CoreExpr}
use Rattle.core_ast.specs.declared.tree.CoreLink.{CoreLink, fold-CoreLink}
use Rattle.core_ast.specs.declared.tree.CoreLink.TheOpen as layer
use Rattle.core_ast.specs.declared.tree.CoreLink.TheOpen.{CoreCase-F, CoreExpr-F, CoreLink-F, CoreStat-F}
use Rattle.core_ast.specs.declared.tree.CoreStat.{CoreStat, fold-CoreStat}
use Rattle.cells_keep_runs.specs.Counted.{Measure, Measures, in_head, of_some, total}

abbrev pub is_one : Var → ScopedName → ℕ
is_one x n = if nat_eq n.var.0 x.0 then 1 else 0

abbrev pub among_names : Var → List ScopedName → ℕ
among_names x names = total (is_one x) names

abbrev pub Layer : (Type 0 → Type 0 → Type 0 → Type 0 → Type 0) → Type 0
Layer Of = Of ℕ ℕ ℕ ℕ

abbrev pub all_of : List ℕ → ℕ
all_of ns = total (λ n. n) ns

abbrev pub if_any : Option ℕ → ℕ
if_any o = of_some (λ n. n) o

abbrev pub link_step : Layer CoreLink-F → ℕ
link_step (layer.Strict o parts site) = all_of parts
link_step (layer.Lazy when taken other) = taken + if_any other
link_step (layer.Run body) = all_of body

abbrev pub expr_step : Layer CoreExpr-F → ℕ
expr_step x = in_head x.head + all_of x.links

abbrev pub case_step : Layer CoreCase-F → ℕ
case_step x = if_any x.test + all_of x.body

abbrev pub turn_step : Option ℕ → Option ℕ → List ℕ → ℕ
turn_step test update body = if_any test + (if_any update + all_of body)

abbrev pub stat_step : Var → Layer CoreStat-F → ℕ
stat_step x (layer.Do e) = e
stat_step x (layer.If cases) = all_of cases
stat_step x (layer.Switch subject cases) = subject + all_of cases
stat_step x (layer.Loop labels test update body) = turn_step test update body + turn_step test update body
stat_step x (layer.Labelled label body) = all_of body
stat_step x (layer.Jump goes_on label) = 0
stat_step x (layer.Return e) = e
stat_step x (layer.Throw e) = e
stat_step x (layer.TryCatch block parameter names handler) = all_of block + (among_names x names + all_of handler)
stat_step x (layer.TryFinally block last) = all_of block + all_of last
stat_step x (layer.Scoped names body) = among_names x names + all_of body
stat_step x (layer.Yield value kind result) = value

abbrev pub stat_declares : Var → CoreStat → ℕ
stat_declares x = fold-CoreStat ℕ ℕ ℕ ℕ link_step (stat_step x) case_step expr_step

abbrev pub link_declares : Var → CoreLink → ℕ
link_declares x = fold-CoreLink ℕ ℕ ℕ ℕ link_step (stat_step x) case_step expr_step

abbrev pub expr_declares : Var → CoreExpr → ℕ
expr_declares x = fold-CoreExpr ℕ ℕ ℕ ℕ link_step (stat_step x) case_step expr_step

abbrev pub declares : Var → Measure
declares x = record {
  stats = λ xs. total (stat_declares x) xs;
  expr = expr_declares x;
  links = λ ls. total (link_declares x) ls;
  names = among_names x;
}

-- It is such a measure as steps keep.
abbrev pub DeclaresMeasures : Type 0
DeclaresMeasures = (x : Var) → Measures (declares x)
