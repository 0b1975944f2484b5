-- What the flattening of scopes makes of lists of statements, and of expressions, layer by layer.
use Rattle.std.specs.Prelude.{◌≡◌, ℕ, cond, List, [], ◌∷◌, ◌++◌, map, Option, None, Some}
use Rattle.core_ast.specs.declared.parts.CoreOp.{CoreOp}
use Rattle.core_ast.specs.declared.parts.CoreOp.TheVariants as op
use Rattle.core_ast.specs.declared.tree.CoreCase.{CoreCase}
use Rattle.core_ast.specs.declared.tree.CoreExpr.{CoreExpr, out-CoreExpr}
use Rattle.core_ast.specs.declared.tree.CoreLink.{CoreLink, out-CoreLink}
use Rattle.core_ast.specs.declared.tree.CoreLink.TheOpen as layer
use Rattle.core_ast.specs.declared.tree.CoreLink.TheOpen.{CoreLink-F, CoreStat-F}
use Rattle.core_ast.specs.declared.tree.CoreLink.TheVariants as link
use Rattle.core_ast.specs.declared.tree.CoreStat.{CoreStat, out-CoreStat}
use Rattle.core_ast.specs.declared.tree.CoreStat.TheVariants as stat
use Rattle.core_ast.specs.Made.{linked}
use Rattle.pass_rules.specs.Cells.{is_shared}
use Rattle.pass_rules.specs.Scopes.{begun, case_flat, expr_flat, reset, stats_flat, stored}

-- ---- statements

abbrev pub option_flat : List ℕ → Option CoreExpr → Option CoreExpr
option_flat owners None = None
option_flat owners (Some x) = Some (expr_flat owners x)

-- the statements that one becomes
unfoldable pub became : List ℕ → CoreStat-F CoreLink CoreStat CoreCase CoreExpr → List CoreStat
became owners (layer.Do x) = stat.Do (expr_flat owners x) ∷ []
became owners (layer.If cases) = stat.If (map (case_flat owners) cases) ∷ []
became owners (layer.Switch subject cases) = stat.Switch (expr_flat owners subject) (map (case_flat owners) cases) ∷ []
became owners (layer.Loop labels test update body) =
    stat.Loop labels (option_flat owners test) (option_flat owners update) (stats_flat owners body) ∷ []
became owners (layer.Labelled label body) = stat.Labelled label (stats_flat owners body) ∷ []
became owners (layer.Jump goes_on label) = stat.Jump goes_on label ∷ []
became owners (layer.Return x) = stat.Return (expr_flat owners x) ∷ []
became owners (layer.Throw x) = stat.Throw (expr_flat owners x) ∷ []
became owners (layer.TryCatch block parameter names handler) =
    stat.TryCatch (stats_flat owners block) parameter [] (map reset names ++ stats_flat owners handler) ∷ []
became owners (layer.TryFinally block last) = stat.TryFinally (stats_flat owners block) (stats_flat owners last) ∷ []
became owners (layer.Scoped names body) = map reset names ++ stats_flat owners body
became owners (layer.Yield value kind result) = stat.Yield (expr_flat owners value) kind result ∷ []

abbrev pub ListsAreFlattenedByParts : Type 0
ListsAreFlattenedByParts = (owners : List ℕ) (xs ys : List CoreStat)
    → stats_flat owners (xs ++ ys) ≡ stats_flat owners xs ++ stats_flat owners ys

abbrev pub StatementsBecome : Type 0
StatementsBecome = (owners : List ℕ) (x : CoreStat) (xs : List CoreStat)
    → stats_flat owners (x ∷ xs) ≡ became owners (out-CoreStat x) ++ stats_flat owners xs

-- ---- expressions

-- an expression with what a link becomes behind it, or round it
unfoldable pub strict_behind : List ℕ → CoreExpr → CoreOp → List CoreExpr → CoreLink → CoreExpr
strict_behind owners e (op.Set x) parts l = cond (is_shared owners x) (stored x e) (linked e l)
strict_behind owners e (op.Init x) parts l = cond (is_shared owners x) (stored x e) (linked e l)
strict_behind owners e o parts l = linked e l

unfoldable pub behind : List ℕ → CoreExpr → CoreLink-F CoreLink CoreStat CoreCase CoreExpr → CoreExpr
behind owners e (layer.Strict o parts site) =
    strict_behind owners e o parts (link.Strict o (map (expr_flat owners) parts) site)
behind owners e (layer.Lazy when taken other) = linked e (link.Lazy when (expr_flat owners taken) (option_flat owners other))
behind owners e (layer.Run body) = linked e (link.Run (stats_flat owners body))

abbrev pub all_behind : List ℕ → CoreExpr → List CoreLink → CoreExpr
all_behind owners e [] = e
all_behind owners e (l ∷ ls) = all_behind owners (behind owners e (out-CoreLink l)) ls

abbrev pub ExpressionsAreBegunAndLinked : Type 0
ExpressionsAreBegunAndLinked = (owners : List ℕ) (x : CoreExpr)
    → expr_flat owners x
    ≡ all_behind owners (begun owners (out-CoreExpr x).site (out-CoreExpr x).head) (out-CoreExpr x).links
