-- What is within a level, node by node.
use Rattle.std.specs.List.{list_all}
use Rattle.std.proofs.Common.{◌≡◌, ℕ, Bool, true, false, ◌&&◌, ◌||◌, cond, List, [], ◌∷◌, ◌++◌, map, Option, None, Some, refl, sym, ap, ◌∙◌}
use Rattle.es_outside.specs.declared.events.Site.{Site}
use Rattle.core_ast.specs.declared.parts.Var.{Var}
use Rattle.core_ast.specs.declared.parts.When.{When}
use Rattle.core_ast.specs.declared.parts.Label.{Label}
use Rattle.core_ast.specs.declared.parts.ScopedName.{ScopedName}
use Rattle.core_ast.specs.declared.parts.CoreHead.{CoreHead}
use Rattle.core_ast.specs.declared.parts.Constant.{Constant}
use Rattle.core_ast.specs.declared.parts.Constant.TheVariants.{Integer, Undefined}
use Rattle.core_ast.specs.declared.parts.CoreHead.TheVariants as head
use Rattle.core_ast.specs.declared.parts.CoreOp.{CoreOp}
use Rattle.core_ast.specs.declared.parts.CoreOp.TheVariants as op
use Rattle.core_ast.specs.declared.tree.CoreLink.{CoreLink}
use Rattle.core_ast.specs.declared.tree.CoreStat.{CoreStat}
use Rattle.core_ast.specs.declared.tree.CoreCase.{CoreCase, roll-CoreCase}
use Rattle.core_ast.specs.declared.tree.CoreExpr.{CoreExpr, out-CoreExpr, fold_out-CoreExpr}
use Rattle.core_ast.specs.declared.tree.CoreLink.TheVariants as link
use Rattle.core_ast.specs.declared.tree.CoreStat.TheVariants as stat
use Rattle.core_ast.specs.declared.tree.CoreLink.TheOpen as layer
use Rattle.core_ast.specs.Made.{act, acting, constant, expression, linked, undefined, variable}
use Rattle.pass_rules.specs.yield_rules.Yields.{number, two, when}
use Rattle.pass_rules.specs.pass_laws.Levels.{Level, Test, all_within, is_bare, head_within, op_within, link_step, stat_step, case_step, expr_step, link_within, stat_within, case_within, expr_within, stats_within}
use Rattle.pass_rules.proofs.pass_laws.Related.{Fold, in_expr, link_rolled, stat_rolled, case_rolled, expr_rolled}

abbrev pub within : Fold
within = record { Link = Test; Stat = Test; Case = Test; Expr = Test; link_step = link_step; stat_step = stat_step; case_step = case_step; expr_step = expr_step }

-- ## Truths

pub left : (a b : Bool) → (a && b) ≡ true → a ≡ true
left true b h = refl
left false b h = h

pub right : (a b : Bool) → (a && b) ≡ true → b ≡ true
right true b h = h
right false true h = refl
right false false h = h

pub both : {a b : Bool} → a ≡ true → b ≡ true → (a && b) ≡ true
both {b = b} h k = ap (λ x. x && b) h ∙ k

pub either : {A : Type 0} (P : A → Type 0) (b : Bool) {x y : A} → P x → P y → P (cond b x y)
either P true h k = h
either P false h k = k

-- ## Lists

abbrev pub Are : Level → List CoreStat → Type 0
Are l ss = stats_within ss l ≡ true

abbrev pub Is : Level → CoreExpr → Type 0
Is l x = expr_within x l ≡ true

abbrev pub AreParts : Level → List CoreExpr → Type 0
AreParts l xs = all_within (map expr_within xs) l ≡ true

abbrev pub AreCases : Level → List CoreCase → Type 0
AreCases l cs = all_within (map case_within cs) l ≡ true

abbrev pub AreLinks : Level → List CoreLink → Type 0
AreLinks l ls = all_within (map link_within ls) l ≡ true

pub and_more : {A : Type 0} (f : A → Test) (l : Level) (xs ys : List A) → all_within (map f xs) l ≡ true → all_within (map f ys) l ≡ true → all_within (map f (xs ++ ys)) l ≡ true
and_more f l [] ys h k = k
and_more f l (x ∷ xs) ys h k = both (left _ _ h) (and_more f l xs ys (right _ _ h) k)

pub and_one : {A : Type 0} (f : A → Test) (l : Level) (xs : List A) (y : A) → all_within (map f xs) l ≡ true → f y l ≡ true → all_within (map f (xs ++ y ∷ [])) l ≡ true
and_one f l xs y h k = and_more f l xs (y ∷ []) h (both k refl)

-- ## Nodes

abbrev pub IsThere : Level → Option CoreExpr → Type 0
IsThere l None = true ≡ true
IsThere l (Some x) = Is l x

pub strict_is : (l : Level) (o : CoreOp) (parts : List CoreExpr) (site : Option Site) → op_within o (is_bare (map expr_within parts)) l ≡ true → AreParts l parts → link_within (link.Strict o parts site) l ≡ true
strict_is l o parts site h k = ap (λ x. link_within x l) (sym (link.rolls-Strict o parts site)) ∙ ap (λ t. t l) (link_rolled within (layer.Strict o parts site)) ∙ both h k

pub lazy_is : (l : Level) (w : When) (x : CoreExpr) (y : Option CoreExpr) → Is l x → IsThere l y → link_within (link.Lazy w x y) l ≡ true
lazy_is l w x None h k = ap (λ x. link_within x l) (sym (link.rolls-Lazy w x None)) ∙ ap (λ t. t l) (link_rolled within (layer.Lazy w x None)) ∙ both h k
lazy_is l w x (Some y) h k = ap (λ x. link_within x l) (sym (link.rolls-Lazy w x (Some y))) ∙ ap (λ t. t l) (link_rolled within (layer.Lazy w x (Some y))) ∙ both h k

pub run_is : (l : Level) (body : List CoreStat) → l.runs ≡ true → Are l body → link_within (link.Run body) l ≡ true
run_is l body h k = ap (λ x. link_within x l) (sym (link.rolls-Run body)) ∙ ap (λ t. t l) (link_rolled within (layer.Run body)) ∙ both h k

pub expression_is : (l : Level) (site : Option Site) (h : CoreHead) (ls : List CoreLink) → head_within h l ≡ true → AreLinks l ls → Is l (expression site h ls)
expression_is l site h ls p q = ap (λ t. t l) (expr_rolled within (record { site = site; head = h; links = ls })) ∙ both p q

pub case_is : (l : Level) (test : Option CoreExpr) (body : List CoreStat) → IsThere l test → Are l body → case_within (roll-CoreCase (record { test = test; body = body })) l ≡ true
case_is l None body h k = ap (λ t. t l) (case_rolled within (record { test = None; body = body })) ∙ k
case_is l (Some x) body h k = ap (λ t. t l) (case_rolled within (record { test = Some x; body = body })) ∙ both h k

pub do_is : (l : Level) (x : CoreExpr) → Is l x → stat_within (stat.Do x) l ≡ true
do_is l x h = ap (λ x. stat_within x l) (sym (stat.rolls-Do x)) ∙ ap (λ t. t l) (stat_rolled within (layer.Do x)) ∙ h

pub if_is : (l : Level) (cases : List CoreCase) → AreCases l cases → stat_within (stat.If cases) l ≡ true
if_is l cases h = ap (λ x. stat_within x l) (sym (stat.rolls-If cases)) ∙ ap (λ t. t l) (stat_rolled within (layer.If cases)) ∙ h

pub switch_is : (l : Level) (x : CoreExpr) (cases : List CoreCase) → Is l x → AreCases l cases → stat_within (stat.Switch x cases) l ≡ true
switch_is l x cases h k = ap (λ x. stat_within x l) (sym (stat.rolls-Switch x cases)) ∙ ap (λ t. t l) (stat_rolled within (layer.Switch x cases)) ∙ both h k

pub loop_is : (l : Level) (labels : List Label) (test update : Option CoreExpr) (body : List CoreStat) → IsThere l test → IsThere l update → Are l body → stat_within (stat.Loop labels test update body) l ≡ true
loop_is l labels None None body h k m = ap (λ x. stat_within x l) (sym (stat.rolls-Loop labels None None body)) ∙ ap (λ t. t l) (stat_rolled within (layer.Loop labels None None body)) ∙ m
loop_is l labels None (Some u) body h k m = ap (λ x. stat_within x l) (sym (stat.rolls-Loop labels None (Some u) body)) ∙ ap (λ t. t l) (stat_rolled within (layer.Loop labels None (Some u) body)) ∙ both k m
loop_is l labels (Some t) None body h k m = ap (λ x. stat_within x l) (sym (stat.rolls-Loop labels (Some t) None body)) ∙ ap (λ t. t l) (stat_rolled within (layer.Loop labels (Some t) None body)) ∙ both (both h refl) m
loop_is l labels (Some t) (Some u) body h k m = ap (λ x. stat_within x l) (sym (stat.rolls-Loop labels (Some t) (Some u) body)) ∙ ap (λ t. t l) (stat_rolled within (layer.Loop labels (Some t) (Some u) body)) ∙ both (both h k) m

pub labelled_is : (l : Level) (label : Label) (body : List CoreStat) → Are l body → stat_within (stat.Labelled label body) l ≡ true
labelled_is l label body h = ap (λ x. stat_within x l) (sym (stat.rolls-Labelled label body)) ∙ ap (λ t. t l) (stat_rolled within (layer.Labelled label body)) ∙ h

pub jump_is : (l : Level) (goes_on : Bool) (label : Option Label) → stat_within (stat.Jump goes_on label) l ≡ true
jump_is l goes_on label = ap (λ x. stat_within x l) (sym (stat.rolls-Jump goes_on label)) ∙ ap (λ t. t l) (stat_rolled within (layer.Jump goes_on label))

pub return_is : (l : Level) (x : CoreExpr) → Is l x → stat_within (stat.Return x) l ≡ true
return_is l x h = ap (λ x. stat_within x l) (sym (stat.rolls-Return x)) ∙ ap (λ t. t l) (stat_rolled within (layer.Return x)) ∙ h

pub throw_is : (l : Level) (x : CoreExpr) → Is l x → stat_within (stat.Throw x) l ≡ true
throw_is l x h = ap (λ x. stat_within x l) (sym (stat.rolls-Throw x)) ∙ ap (λ t. t l) (stat_rolled within (layer.Throw x)) ∙ h

pub catch_is : (l : Level) (block : List CoreStat) (parameter : Var) (names : List ScopedName) (handler : List CoreStat) → (is_bare names || l.scopes) ≡ true → Are l block → Are l handler → stat_within (stat.TryCatch block parameter names handler) l ≡ true
catch_is l block parameter names handler h k m = ap (λ x. stat_within x l) (sym (stat.rolls-TryCatch block parameter names handler)) ∙ ap (λ t. t l) (stat_rolled within (layer.TryCatch block parameter names handler)) ∙ both (both h k) m

pub finally_is : (l : Level) (block last : List CoreStat) → Are l block → Are l last → stat_within (stat.TryFinally block last) l ≡ true
finally_is l block last h k = ap (λ x. stat_within x l) (sym (stat.rolls-TryFinally block last)) ∙ ap (λ t. t l) (stat_rolled within (layer.TryFinally block last)) ∙ both h k

pub scoped_is : (l : Level) (names : List ScopedName) (body : List CoreStat) → l.scopes ≡ true → Are l body → stat_within (stat.Scoped names body) l ≡ true
scoped_is l names body h k = ap (λ x. stat_within x l) (sym (stat.rolls-Scoped names body)) ∙ ap (λ t. t l) (stat_rolled within (layer.Scoped names body)) ∙ both h k

pub yield_is : (l : Level) (x : CoreExpr) (kind : Option Var) (result : Var) → l.yields ≡ true → Is l x → stat_within (stat.Yield x kind result) l ≡ true
yield_is l x kind result h k = ap (λ x. stat_within x l) (sym (stat.rolls-Yield x kind result)) ∙ ap (λ t. t l) (stat_rolled within (layer.Yield x kind result)) ∙ both h k

-- ## An expression with one link more

pub out_is : (l : Level) (x : CoreExpr) → expr_within x l ≡ expr_step (in_expr within (out-CoreExpr x)) l
out_is l x = ap (λ t. t l) (fold_out-CoreExpr Test Test Test Test link_step stat_step case_step expr_step x)

pub linked_is : (l : Level) (x : CoreExpr) (k : CoreLink) → Is l x → link_within k l ≡ true → Is l (linked x k)
linked_is l x k h m = let o = sym (out_is l x) ∙ h in
    expression_is l (out-CoreExpr x).site (out-CoreExpr x).head ((out-CoreExpr x).links ++ k ∷ []) (left _ _ o) (and_one link_within l (out-CoreExpr x).links k (right _ _ o) m)

-- ## Small expressions and statements

pub act_is : (l : Level) (o : CoreOp) → op_within o true l ≡ true → link_within (act o) l ≡ true
act_is l o h = strict_is l o [] None h refl

pub acting_is : (l : Level) (o : CoreOp) (x : CoreExpr) → op_within o false l ≡ true → Is l x → link_within (acting o x) l ≡ true
acting_is l o x h k = strict_is l o (x ∷ []) None h (both k refl)

pub variable_is : (l : Level) (x : Var) → Is l (variable x)
variable_is l x = expression_is l None (head.Variable x) [] refl refl

pub constant_is : (l : Level) (c : Constant) → Is l (constant c)
constant_is l c = expression_is l None (head.Constant c) [] refl refl

pub set_is : (l : Level) (x : Var) (e : CoreExpr) → Is l e → stat_within (stat.Do (linked e (act (op.Set x)))) l ≡ true
set_is l x e h = do_is l _ (linked_is l e _ h (act_is l (op.Set x) refl))

pub number_is : (l : Level) (n : ℕ) → Is l (number n)
number_is l n = constant_is l (Integer n)

pub two_is : (l : Level) (x : CoreExpr) (o : CoreOp) (y : CoreExpr) → op_within o false l ≡ true → Is l x → Is l y → Is l (two x o y)
two_is l x o y h k m = linked_is l x _ k (acting_is l o y h m)

pub when_is : (l : Level) (test : CoreExpr) (body : List CoreStat) → Is l test → Are l body → stat_within (when test body) l ≡ true
when_is l test body h k = if_is l _ (both (case_is l (Some test) body h k) refl)

pub undefined_is : (l : Level) → Is l undefined
undefined_is l = constant_is l Undefined

-- ## Lists of functions and parts

pub more : {A : Type 0} (t : A → Bool) (xs : List A) (y : A) → list_all t xs ≡ true → t y ≡ true → list_all t (xs ++ y ∷ []) ≡ true
more t [] y h k = both k refl
more t (x ∷ xs) y h k = both (left _ _ h) (more t xs y (right _ _ h) k)
