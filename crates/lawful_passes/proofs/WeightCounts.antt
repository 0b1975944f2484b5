-- What nodes weigh, one by one.
use Rattle.std.proofs.Common.{◌≡◌, ℕ, ◌+◌, Bool, List, [], ◌∷◌, ◌++◌, map, Option, None, Some, true, refl, sym, ap, arith, ◌∙◌}
use Rattle.es_outside.specs.declared.events.Site.{Site}
use Rattle.core_ast.specs.declared.parts.Var.{Var}
use Rattle.core_ast.specs.declared.parts.When.{When}
use Rattle.core_ast.specs.declared.parts.Label.{Label}
use Rattle.core_ast.specs.declared.parts.ScopedName.{ScopedName}
use Rattle.core_ast.specs.declared.parts.CoreHead.{CoreHead}
use Rattle.core_ast.specs.declared.parts.CoreHead.TheVariants as head
use Rattle.core_ast.specs.declared.parts.Constant.{Constant}
use Rattle.core_ast.specs.declared.parts.Constant.TheVariants.{Integer}
use Rattle.core_ast.specs.declared.parts.CoreOp.{CoreOp}
use Rattle.core_ast.specs.declared.parts.CoreOp.TheVariants as op
use Rattle.core_ast.specs.declared.tree.CoreLink.{CoreLink}
use Rattle.core_ast.specs.declared.tree.CoreStat.{CoreStat}
use Rattle.core_ast.specs.declared.tree.CoreCase.{CoreCase, roll-CoreCase}
use Rattle.core_ast.specs.declared.tree.CoreExpr.{CoreExpr, out-CoreExpr, fold_out-CoreExpr}
use Rattle.core_ast.specs.declared.tree.CoreLink.TheVariants as link
use Rattle.core_ast.specs.declared.tree.CoreStat.TheVariants as stat
use Rattle.core_ast.specs.declared.tree.CoreLink.TheOpen as layer
use Rattle.core_ast.specs.Made.{act, acting, constant, expression, linked, variable}
use Rattle.pass_rules.specs.yield_rules.Yields.{number, two, when}
use Rattle.lawful_passes.proofs.Weights.{Such, is_quiet, mark, total, link_step, stat_step, case_step, expr_step, link_marks, stat_marks, case_marks, expr_marks, stats_marks}
use Rattle.pass_rules.proofs.pass_laws.Related.{Fold, link_rolled, stat_rolled, case_rolled, expr_rolled}

abbrev pub counts : Such → Fold
counts such = record { Link = ℕ; Stat = ℕ; Case = ℕ; Expr = ℕ; link_step = link_step such; stat_step = stat_step such; case_step = case_step; expr_step = expr_step such }

abbrev pub links_marks : Such → List CoreLink → ℕ
links_marks such ls = total (map (link_marks such) ls)

abbrev pub exprs_marks : Such → List CoreExpr → ℕ
exprs_marks such xs = total (map (expr_marks such) xs)

abbrev pub cases_marks : Such → List CoreCase → ℕ
cases_marks such cs = total (map (case_marks such) cs)

abbrev pub option_marks : Such → Option CoreExpr → ℕ
option_marks such None = 0
option_marks such (Some x) = expr_marks such x

pub total_more : {A : Type 0} (f : A → ℕ) (xs ys : List A) → total (map f (xs ++ ys)) ≡ total (map f xs) + total (map f ys)
total_more f [] ys = omega arith
total_more f (x ∷ xs) ys = let e = total_more f xs ys in omega arith

pub total_one : {A : Type 0} (f : A → ℕ) (xs : List A) (y : A) → total (map f (xs ++ y ∷ [])) ≡ total (map f xs) + f y
total_one f xs y = let e = total_more f xs (y ∷ []) in omega arith

pub stats_one : (such : Such) (xs : List CoreStat) (y : CoreStat) → stats_marks such (xs ++ y ∷ []) ≡ stats_marks such xs + stat_marks such y
stats_one such xs y = total_one (stat_marks such) xs y

pub stats_more : (such : Such) (xs ys : List CoreStat) → stats_marks such (xs ++ ys) ≡ stats_marks such xs + stats_marks such ys
stats_more such xs ys = total_more (stat_marks such) xs ys

-- ## Nodes

pub strict_of : (such : Such) (o : CoreOp) (parts : List CoreExpr) (site : Option Site) → link_marks such (link.Strict o parts site) ≡ exprs_marks such parts + mark such o site
strict_of such o parts site = ap (link_marks such) (sym (link.rolls-Strict o parts site)) ∙ link_rolled (counts such) (layer.Strict o parts site)

pub lazy_of : (such : Such) (w : When) (x : CoreExpr) (y : Option CoreExpr) → link_marks such (link.Lazy w x y) ≡ expr_marks such x + option_marks such y
lazy_of such w x None = ap (link_marks such) (sym (link.rolls-Lazy w x None)) ∙ link_rolled (counts such) (layer.Lazy w x None)
lazy_of such w x (Some y) = ap (link_marks such) (sym (link.rolls-Lazy w x (Some y))) ∙ link_rolled (counts such) (layer.Lazy w x (Some y))

pub run_of : (such : Such) (body : List CoreStat) → link_marks such (link.Run body) ≡ stats_marks such body
run_of such body = ap (link_marks such) (sym (link.rolls-Run body)) ∙ link_rolled (counts such) (layer.Run body)

pub expression_of : (such : Such) (site : Option Site) (h : CoreHead) (ls : List CoreLink) → expr_marks such (expression site h ls) ≡ such.weighs h + links_marks such ls
expression_of such site h ls = expr_rolled (counts such) (record { site = site; head = h; links = ls })

pub case_of : (such : Such) (test : Option CoreExpr) (body : List CoreStat) → case_marks such (roll-CoreCase (record { test = test; body = body })) ≡ option_marks such test + stats_marks such body
case_of such None body = case_rolled (counts such) (record { test = None; body = body })
case_of such (Some x) body = case_rolled (counts such) (record { test = Some x; body = body })

pub do_of : (such : Such) (x : CoreExpr) → stat_marks such (stat.Do x) ≡ expr_marks such x
do_of such x = ap (stat_marks such) (sym (stat.rolls-Do x)) ∙ stat_rolled (counts such) (layer.Do x)

pub if_of : (such : Such) (cases : List CoreCase) → stat_marks such (stat.If cases) ≡ cases_marks such cases
if_of such cases = ap (stat_marks such) (sym (stat.rolls-If cases)) ∙ stat_rolled (counts such) (layer.If cases)

pub switch_of : (such : Such) (x : CoreExpr) (cases : List CoreCase) → stat_marks such (stat.Switch x cases) ≡ expr_marks such x + cases_marks such cases
switch_of such x cases = ap (stat_marks such) (sym (stat.rolls-Switch x cases)) ∙ stat_rolled (counts such) (layer.Switch x cases)

pub loop_of : (such : Such) (labels : List Label) (test update : Option CoreExpr) (body : List CoreStat) → stat_marks such (stat.Loop labels test update body) ≡ option_marks such test + option_marks such update + stats_marks such body
loop_of such labels None None body = ap (stat_marks such) (sym (stat.rolls-Loop labels None None body)) ∙ stat_rolled (counts such) (layer.Loop labels None None body)
loop_of such labels None (Some u) body = ap (stat_marks such) (sym (stat.rolls-Loop labels None (Some u) body)) ∙ stat_rolled (counts such) (layer.Loop labels None (Some u) body)
loop_of such labels (Some t) None body = ap (stat_marks such) (sym (stat.rolls-Loop labels (Some t) None body)) ∙ stat_rolled (counts such) (layer.Loop labels (Some t) None body)
loop_of such labels (Some t) (Some u) body = ap (stat_marks such) (sym (stat.rolls-Loop labels (Some t) (Some u) body)) ∙ stat_rolled (counts such) (layer.Loop labels (Some t) (Some u) body)

pub labelled_of : (such : Such) (label : Label) (body : List CoreStat) → stat_marks such (stat.Labelled label body) ≡ stats_marks such body
labelled_of such label body = ap (stat_marks such) (sym (stat.rolls-Labelled label body)) ∙ stat_rolled (counts such) (layer.Labelled label body)

pub jump_of : (such : Such) (goes_on : Bool) (label : Option Label) → stat_marks such (stat.Jump goes_on label) ≡ 0
jump_of such goes_on label = ap (stat_marks such) (sym (stat.rolls-Jump goes_on label)) ∙ stat_rolled (counts such) (layer.Jump goes_on label)

pub return_of : (such : Such) (x : CoreExpr) → stat_marks such (stat.Return x) ≡ expr_marks such x
return_of such x = ap (stat_marks such) (sym (stat.rolls-Return x)) ∙ stat_rolled (counts such) (layer.Return x)

pub throw_of : (such : Such) (x : CoreExpr) → stat_marks such (stat.Throw x) ≡ expr_marks such x
throw_of such x = ap (stat_marks such) (sym (stat.rolls-Throw x)) ∙ stat_rolled (counts such) (layer.Throw x)

pub catch_of : (such : Such) (block : List CoreStat) (parameter : Var) (names : List ScopedName) (handler : List CoreStat) → stat_marks such (stat.TryCatch block parameter names handler) ≡ stats_marks such block + stats_marks such handler + (such.caught parameter + such.scoped names)
catch_of such block parameter names handler = ap (stat_marks such) (sym (stat.rolls-TryCatch block parameter names handler)) ∙ stat_rolled (counts such) (layer.TryCatch block parameter names handler)

pub finally_of : (such : Such) (block last : List CoreStat) → stat_marks such (stat.TryFinally block last) ≡ stats_marks such block + stats_marks such last
finally_of such block last = ap (stat_marks such) (sym (stat.rolls-TryFinally block last)) ∙ stat_rolled (counts such) (layer.TryFinally block last)

pub scoped_of : (such : Such) (names : List ScopedName) (body : List CoreStat) → stat_marks such (stat.Scoped names body) ≡ stats_marks such body + such.scoped names
scoped_of such names body = ap (stat_marks such) (sym (stat.rolls-Scoped names body)) ∙ stat_rolled (counts such) (layer.Scoped names body)

pub yield_of : (such : Such) (x : CoreExpr) (kind : Option Var) (result : Var) → stat_marks such (stat.Yield x kind result) ≡ expr_marks such x
yield_of such x kind result = ap (stat_marks such) (sym (stat.rolls-Yield x kind result)) ∙ stat_rolled (counts such) (layer.Yield x kind result)

pub linked_of : (such : Such) (x : CoreExpr) (k : CoreLink) → expr_marks such (linked x k) ≡ expr_marks such x + link_marks such k
linked_of such x k =
    let o = fold_out-CoreExpr ℕ ℕ ℕ ℕ (link_step such) (stat_step such) case_step (expr_step such) x in
    let a = expression_of such (out-CoreExpr x).site (out-CoreExpr x).head ((out-CoreExpr x).links ++ k ∷ []) in
    let b = total_one (link_marks such) (out-CoreExpr x).links k in omega arith

-- ## Small expressions and statements

pub act_of : (such : Such) (o : CoreOp) → is_quiet o ≡ true → link_marks such (act o) ≡ 0
act_of such o q = strict_of such o [] None ∙ (let a = such.quiet o q in omega arith)

pub acting_of : (such : Such) (o : CoreOp) (x : CoreExpr) → is_quiet o ≡ true → link_marks such (acting o x) ≡ expr_marks such x
acting_of such o x q = let e = strict_of such o (x ∷ []) None in let a = such.quiet o q in omega arith

pub variable_of : (such : Such) (x : Var) → expr_marks such (variable x) ≡ 0
variable_of such x = let a = expression_of such None (head.Variable x) [] in let b = such.variable x in omega arith

pub constant_of : (such : Such) (c : Constant) → expr_marks such (constant c) ≡ 0
constant_of such c = let a = expression_of such None (head.Constant c) [] in let b = such.constant c in omega arith

pub number_of : (such : Such) (n : ℕ) → expr_marks such (number n) ≡ 0
number_of such n = constant_of such (Integer n)

pub two_of : (such : Such) (x : CoreExpr) (o : CoreOp) (y : CoreExpr) → is_quiet o ≡ true → expr_marks such (two x o y) ≡ expr_marks such x + expr_marks such y
two_of such x o y q = linked_of such x (acting o y) ∙ ap (λ n. expr_marks such x + n) (acting_of such o y q)

pub acted_of : (such : Such) (x : CoreExpr) (o : CoreOp) → is_quiet o ≡ true → expr_marks such (linked x (act o)) ≡ expr_marks such x
acted_of such x o q = let e = linked_of such x (act o) in let d = act_of such o q in omega arith

pub set_of : (such : Such) (x : Var) (e : CoreExpr) → stat_marks such (stat.Do (linked e (act (op.Set x)))) ≡ expr_marks such e
set_of such x e = do_of such (linked e (act (op.Set x))) ∙ acted_of such e (op.Set x) refl

pub when_of : (such : Such) (test : CoreExpr) (body : List CoreStat) → stat_marks such (when test body) ≡ expr_marks such test + stats_marks such body
when_of such test body = let e = if_of such (roll-CoreCase (record { test = Some test; body = body }) ∷ []) in let d = case_of such (Some test) body in omega arith
