-- flatten_scopes: the names of scopes become locals, which are reset where their scope is entered; a shared name holds a
-- cell, which is made there. A fold over the four types.
use Rattle.std.specs.Prelude.{ℕ, ◌+◌, true, false, cond, length, List, [], ◌∷◌, ◌++◌, map, Option, None}
use Rattle.es_outside.specs.declared.events.Site.{Site}
use Rattle.core_ast.specs.declared.parts.Var.{Var}
use Rattle.core_ast.specs.declared.parts.ScopedName.{ScopedName}
use Rattle.core_ast.specs.declared.parts.CoreHead.{CoreHead}
use Rattle.core_ast.specs.declared.parts.CoreHead.TheVariants as head
use Rattle.core_ast.specs.declared.parts.Constant.TheVariants.{Undefined}
use Rattle.core_ast.specs.declared.parts.CoreOp.{CoreOp}
use Rattle.core_ast.specs.declared.parts.CoreOp.TheVariants as op
use Rattle.core_ast.specs.declared.parts.Primitive.TheVariants.{CellMake}
use Rattle.core_ast.specs.declared.tree.CoreExpr.{CoreExpr, fold-CoreExpr}
use Rattle.core_ast.specs.declared.tree.CoreCase.{CoreCase, roll-CoreCase, fold-CoreCase}
use Rattle.core_ast.specs.declared.tree.CoreLink.{CoreLink, fold-CoreLink}
use Rattle.core_ast.specs.declared.tree.CoreLink.TheVariants as link
use Rattle.core_ast.specs.declared.tree.CoreStat.{CoreStat, fold-CoreStat}
use Rattle.core_ast.specs.declared.tree.CoreStat.TheVariants as stat
use Rattle.core_ast.specs.declared.tree.CoreLink.TheOpen as layer
use Rattle.core_ast.specs.declared.tree.CoreLink.TheOpen.{CoreLink-F, CoreStat-F, CoreCase-F, CoreExpr-F}
use Rattle.core_ast.specs.declared.whole.Core.{Core}
use Rattle.core_ast.specs.declared.whole.CoreFunction.{CoreFunction}
use Rattle.core_ast.specs.declared.whole.CorePart.{CorePart}
use Rattle.core_ast.specs.Mentions.{function_mentions, part_mentions}
use Rattle.core_ast.specs.Made.{act, acting, expression, linked}
use Rattle.core_ast.specs.Walks.{along}
use Rattle.pass_rules.specs.Cells.{all_free, cells_at, found, holders, is_shared, owners}

-- ---- what is made

-- a name at its scope's entry: it isn't initialized, and a shared one gets a fresh cell that isn't
abbrev pub reset : ScopedName → CoreStat
reset n = stat.Do (expression None head.Empty (cond n.shared
    (act (op.Primitive (CellMake n.var)) ∷ act (op.Set n.var) ∷ [])
    (act (op.Init n.var) ∷ [])))

-- x = cell_make(x.v): the name gets a cell of its own with the value
abbrev pub copied : Var → CoreLink
copied x = acting op.Then (expression None (head.Variable x)
    (act op.Content ∷ act (op.Primitive (CellMake x)) ∷ act (op.Set x) ∷ []))

abbrev pub copies : List ℕ → List Var → List CoreLink
copies owners [] = []
copies owners (x ∷ xs) = cond (is_shared owners x) (copied x ∷ copies owners xs) (copies owners xs)

-- a shared name is read from its cell; a copy of what no closure shares is nothing
unfoldable pub begun : List ℕ → Option Site → CoreHead → CoreExpr
begun owners site (head.Variable x) = expression site (head.Variable x) (cond (is_shared owners x) (act op.Content ∷ []) [])
begun owners site (head.Copy xs) = expression site (head.Constant Undefined) (copies owners xs)
begun owners site h = expression site h []

-- the cell of x takes the value
abbrev pub stored : Var → CoreExpr → CoreExpr
stored x e = expression None (head.Variable x) (acting op.SetContent e ∷ [])

unfoldable pub strict : List ℕ → CoreOp → List CoreExpr → Option Site → CoreExpr → CoreExpr
strict owners (op.Set x) parts site e = cond (is_shared owners x) (stored x e) (linked e (link.Strict (op.Set x) parts site))
strict owners (op.Init x) parts site e = cond (is_shared owners x) (stored x e) (linked e (link.Strict (op.Init x) parts site))
strict owners o parts site e = linked e (link.Strict o parts site)

-- ---- the walk: a link goes on with an expression, a statement with a list, since a scope may give many

abbrev pub Extends : Type 0 → Type 0
Extends A = A → A

abbrev pub Layer : (Type 0 → Type 0 → Type 0 → Type 0 → Type 0) → Type 0
Layer Of = Of (Extends CoreExpr) (Extends (List CoreStat)) CoreCase CoreExpr

abbrev pub link_step : List ℕ → Layer CoreLink-F → Extends CoreExpr
link_step owners (layer.Strict o parts site) x = strict owners o parts site x
link_step owners (layer.Lazy when taken other) x = linked x (link.Lazy when taken other)
link_step owners (layer.Run body) x = linked x (link.Run (along body []))

abbrev pub expr_step : List ℕ → Layer CoreExpr-F → CoreExpr
expr_step owners x = along x.links (begun owners x.site x.head)

abbrev pub case_step : Layer CoreCase-F → CoreCase
case_step x = roll-CoreCase (record { test = x.test; body = along x.body [] })

abbrev pub then : List CoreStat → CoreStat → List CoreStat
then xs x = xs ++ x ∷ []

abbrev pub entered : List ScopedName → List CoreStat → List CoreStat
entered names xs = xs ++ map reset names

abbrev pub stat_step : Layer CoreStat-F → Extends (List CoreStat)
stat_step (layer.Do x) xs = then xs (stat.Do x)
stat_step (layer.If cases) xs = then xs (stat.If cases)
stat_step (layer.Switch subject cases) xs = then xs (stat.Switch subject cases)
stat_step (layer.Loop labels test update body) xs = then xs (stat.Loop labels test update (along body []))
stat_step (layer.Labelled label body) xs = then xs (stat.Labelled label (along body []))
stat_step (layer.Jump goes_on label) xs = then xs (stat.Jump goes_on label)
stat_step (layer.Return x) xs = then xs (stat.Return x)
stat_step (layer.Throw x) xs = then xs (stat.Throw x)
stat_step (layer.TryCatch block parameter names handler) xs =
    then xs (stat.TryCatch (along block []) parameter [] (along handler (entered names [])))
stat_step (layer.TryFinally block last) xs = then xs (stat.TryFinally (along block []) (along last []))
stat_step (layer.Scoped names body) xs = along body (entered names xs)
stat_step (layer.Yield value kind result) xs = then xs (stat.Yield value kind result)

abbrev pub expr_flat : List ℕ → CoreExpr → CoreExpr
expr_flat owners =
    fold-CoreExpr (Extends CoreExpr) (Extends (List CoreStat)) CoreCase CoreExpr
    (link_step owners) stat_step case_step (expr_step owners)

abbrev pub link_flat : List ℕ → CoreLink → Extends CoreExpr
link_flat owners =
    fold-CoreLink (Extends CoreExpr) (Extends (List CoreStat)) CoreCase CoreExpr
    (link_step owners) stat_step case_step (expr_step owners)

abbrev pub stat_flat : List ℕ → CoreStat → Extends (List CoreStat)
stat_flat owners =
    fold-CoreStat (Extends CoreExpr) (Extends (List CoreStat)) CoreCase CoreExpr
    (link_step owners) stat_step case_step (expr_step owners)

abbrev pub case_flat : List ℕ → CoreCase → CoreCase
case_flat owners =
    fold-CoreCase (Extends CoreExpr) (Extends (List CoreStat)) CoreCase CoreExpr
    (link_step owners) stat_step case_step (expr_step owners)

-- a handler begins with the names of its pattern
abbrev pub caught_flat : List ℕ → List CoreStat → Var → List ScopedName → List CoreStat → CoreStat
caught_flat owners block parameter names handler =
    stat.TryCatch block parameter [] (along (map (stat_flat owners) handler) (entered names []))

abbrev pub stats_flat : List ℕ → List CoreStat → List CoreStat
stats_flat owners stats = along (map (stat_flat owners) stats) []

-- ---- functions, parts and the core

abbrev pub vars : List ScopedName → List Var
vars names = map (λ n. n.var) names

abbrev pub function_flat : List ℕ → List Var → CoreFunction → CoreFunction
function_flat owners kept f = record f {
  cells = kept;
  locals = f.locals ++ vars (function_mentions f).scoped;
  setup = stats_flat owners f.setup;
  body = stats_flat owners f.body;
  step = stats_flat owners f.step;
}

-- from this place on
abbrev pub functions_flat : List ℕ → List ℕ → List (List Var) → ℕ → List CoreFunction → List CoreFunction
functions_flat owners holders all place [] = []
functions_flat owners holders all place (f ∷ fs) =
    function_flat owners (cells_at owners holders all place) f ∷ functions_flat owners holders all (place + 1) fs

-- a name of a scope as one of its module's, which its scope's entry writes
abbrev pub local : ScopedName → ScopedName
local n = record { var = n.var; shared = false; mutable = true }

abbrev pub part_flat : List ℕ → CorePart → CorePart
part_flat owners p = record {
  names = p.names ++ map local (part_mentions p).scoped;
  instantiate = stats_flat owners p.instantiate;
  body = stats_flat owners p.body;
}

abbrev pub without_scopes : Core → Core
without_scopes core =
    let ms = found core in
    let table = owners (length core.fresh.hints) ms in
    record core {
      functions = functions_flat table (holders (length core.functions) ms) (all_free table [] ms) 0 core.functions;
      parts = map (part_flat table) core.parts;
    }
