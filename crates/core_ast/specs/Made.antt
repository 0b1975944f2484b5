-- Small expressions and links, and an expression with one link more.
use Rattle.std.specs.Prelude.{List, [], ◌∷◌, ◌++◌, Option, None}
use Rattle.es_outside.specs.declared.events.Site.{Site}
use Rattle.core_ast.specs.declared.parts.Var.{Var}
use Rattle.core_ast.specs.declared.parts.Constant.{Constant}
use Rattle.core_ast.specs.declared.parts.Constant.TheVariants.{Undefined}
use Rattle.core_ast.specs.declared.parts.CoreHead.{CoreHead}
use Rattle.core_ast.specs.declared.parts.CoreHead.TheVariants as head
use Rattle.core_ast.specs.declared.parts.CoreOp.{CoreOp}
use Rattle.core_ast.specs.declared.tree.CoreExpr.{CoreExpr, roll-CoreExpr, out-CoreExpr}
use Rattle.core_ast.specs.declared.tree.CoreLink.{CoreLink}
use Rattle.core_ast.specs.declared.tree.CoreLink.TheVariants as link

abbrev pub expression : Option Site → CoreHead → List CoreLink → CoreExpr
expression site h links = roll-CoreExpr (record { site = site; head = h; links = links })

abbrev pub variable : Var → CoreExpr
variable x = expression None (head.Variable x) []

abbrev pub constant : Constant → CoreExpr
constant c = expression None (head.Constant c) []

abbrev pub undefined : CoreExpr
undefined = constant Undefined

abbrev pub act : CoreOp → CoreLink
act o = link.Strict o [] None

abbrev pub acting : CoreOp → CoreExpr → CoreLink
acting o part = link.Strict o (part ∷ []) None

abbrev pub linked : CoreExpr → CoreLink → CoreExpr
linked x l = expression (out-CoreExpr x).site (out-CoreExpr x).head ((out-CoreExpr x).links ++ l ∷ [])
