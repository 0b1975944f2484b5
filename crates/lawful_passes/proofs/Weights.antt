-- Sums over the nodes of a core: what weighs is a head, an operation, the parameter of a handler and the names of a scope.
use Rattle.std.specs.Prelude.{◌≡◌, ℕ, ◌+◌, Bool, true, false, List, [], ◌∷◌, map, Option, None, Some}
use Rattle.es_outside.specs.declared.events.Site.{Site}
use Rattle.core_ast.specs.declared.parts.Constant.{Constant}
use Rattle.core_ast.specs.declared.parts.CoreHead.{CoreHead}
use Rattle.core_ast.specs.declared.parts.CoreHead.TheVariants as head
use Rattle.core_ast.specs.declared.parts.CoreOp.{CoreOp}
use Rattle.core_ast.specs.declared.parts.CoreOp.TheVariants as op
use Rattle.core_ast.specs.declared.parts.Primitive.TheVariants.{CellMake, GeneratorMake}
use Rattle.core_ast.specs.declared.parts.ScopedName.{ScopedName}
use Rattle.core_ast.specs.declared.parts.Var.{Var}
use Rattle.core_ast.specs.declared.tree.CoreExpr.{CoreExpr, fold-CoreExpr}
use Rattle.core_ast.specs.declared.tree.CoreCase.{CoreCase, fold-CoreCase}
use Rattle.core_ast.specs.declared.tree.CoreLink.{CoreLink, fold-CoreLink}
use Rattle.core_ast.specs.declared.tree.CoreStat.{CoreStat, fold-CoreStat}
use Rattle.core_ast.specs.declared.tree.CoreLink.TheOpen as layer
use Rattle.core_ast.specs.declared.tree.CoreLink.TheOpen.{CoreLink-F, CoreStat-F, CoreCase-F, CoreExpr-F}
use Rattle.core_ast.specs.declared.whole.CoreFunction.{CoreFunction}
use Rattle.core_ast.specs.declared.whole.CorePart.{CorePart}

-- the operations that never weigh: all but the making of cells
abbrev pub is_quiet : CoreOp → Bool
is_quiet (op.Primitive (CellMake x)) = false
is_quiet o = true

-- a name that is read, a constant, a list of arguments, the making of a generator and a scope without names never weigh
pub record Such : Type 0 where
  pub weighs : CoreHead → ℕ
  pub acts : CoreOp → ℕ
  pub caught : Var → ℕ
  pub scoped : List ScopedName → ℕ
  pub quiet : (o : CoreOp) → is_quiet o ≡ true → acts o ≡ 0
  pub variable : (x : Var) → weighs (head.Variable x) ≡ 0
  pub constant : (c : Constant) → weighs (head.Constant c) ≡ 0
  pub list : weighs head.ArgumentList ≡ 0
  pub making : weighs (head.Primitive GeneratorMake) ≡ 0
  pub unscoped : scoped [] ≡ 0

abbrev pub mark : Such → CoreOp → Option Site → ℕ
mark such o site = such.acts o

abbrev pub total : List ℕ → ℕ
total [] = 0
total (n ∷ ns) = n + total ns

abbrev pub if_any : Option ℕ → ℕ
if_any None = 0
if_any (Some n) = n

abbrev pub Layer : (Type 0 → Type 0 → Type 0 → Type 0 → Type 0) → Type 0
Layer Of = Of ℕ ℕ ℕ ℕ

abbrev pub link_step : Such → Layer CoreLink-F → ℕ
link_step such (layer.Strict o parts site) = total parts + mark such o site
link_step such (layer.Lazy when taken other) = taken + if_any other
link_step such (layer.Run body) = total body

abbrev pub expr_step : Such → Layer CoreExpr-F → ℕ
expr_step such x = such.weighs x.head + total x.links

abbrev pub case_step : Layer CoreCase-F → ℕ
case_step x = if_any x.test + total x.body

abbrev pub stat_step : Such → Layer CoreStat-F → ℕ
stat_step such (layer.Do x) = x
stat_step such (layer.If cases) = total cases
stat_step such (layer.Switch subject cases) = subject + total cases
stat_step such (layer.Loop labels test update body) = if_any test + if_any update + total body
stat_step such (layer.Labelled label body) = total body
stat_step such (layer.Jump goes_on label) = 0
stat_step such (layer.Return x) = x
stat_step such (layer.Throw x) = x
stat_step such (layer.TryCatch block parameter names handler) = total block + total handler + (such.caught parameter + such.scoped names)
stat_step such (layer.TryFinally block last) = total block + total last
stat_step such (layer.Scoped names body) = total body + such.scoped names
stat_step such (layer.Yield value kind result) = value

abbrev pub expr_marks : Such → CoreExpr → ℕ
expr_marks such = fold-CoreExpr ℕ ℕ ℕ ℕ (link_step such) (stat_step such) case_step (expr_step such)

abbrev pub link_marks : Such → CoreLink → ℕ
link_marks such = fold-CoreLink ℕ ℕ ℕ ℕ (link_step such) (stat_step such) case_step (expr_step such)

abbrev pub stat_marks : Such → CoreStat → ℕ
stat_marks such = fold-CoreStat ℕ ℕ ℕ ℕ (link_step such) (stat_step such) case_step (expr_step such)

abbrev pub case_marks : Such → CoreCase → ℕ
case_marks such = fold-CoreCase ℕ ℕ ℕ ℕ (link_step such) (stat_step such) case_step (expr_step such)

abbrev pub stats_marks : Such → List CoreStat → ℕ
stats_marks such stats = total (map (stat_marks such) stats)

abbrev pub function_marks : Such → CoreFunction → ℕ
function_marks such f = stats_marks such f.setup + stats_marks such f.body + stats_marks such f.step

abbrev pub part_marks : Such → CorePart → ℕ
part_marks such p = stats_marks such p.instantiate + stats_marks such p.body
