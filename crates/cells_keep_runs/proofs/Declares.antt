-- How often code declares a name is a measure that steps keep.
use Rattle.std.proofs.Common.{◌≡◌, ◌+◌, ℕ, List, [], ◌∷◌, ◌++◌, map, Option, None, Some, refl, ap, arith, ◌∙◌}
use Rattle.core_ast.specs.declared.parts.Var.{Var}
use Rattle.core_ast.specs.declared.tree.CoreCase.{CoreCase, fold-CoreCase, fold_out-CoreCase, out-CoreCase}
use Rattle.core_ast.specs.declared.tree.CoreExpr.{CoreExpr, fold_out-CoreExpr, out-CoreExpr}
use Rattle.core_ast.specs.declared.tree.CoreLink.{CoreLink, fold_out-CoreLink, out-CoreLink}
use Rattle.core_ast.specs.declared.tree.CoreLink.TheOpen as layer
use Rattle.core_ast.specs.declared.tree.CoreLink.TheOpen.{CoreCase-F, CoreExpr-F, CoreLink-F, CoreStat-F}
use Rattle.core_ast.specs.declared.tree.CoreStat.{CoreStat, fold_out-CoreStat, out-CoreStat}
use Rattle.pass_rules.proofs.pass_laws.Related.{Fold, in_case, in_expr as expr_in, in_link as link_in, in_stat as stat_in}
use Rattle.cells_keep_runs.specs.Counted.{Measure, Measures, bodies, in_cases, in_head, in_link, in_stat, of_some, tests, total}
use Rattle.cells_keep_runs.specs.Declares.{DeclaresMeasures, all_of, among_names, case_step, declares, expr_declares, expr_step, link_declares, link_step, stat_declares, stat_step}

all_map : {A : Type 0} (f : A → ℕ) (xs : List A) → all_of (map f xs) ≡ total f xs
all_map f [] = refl
all_map f (x ∷ xs) = let h : all_of (map f xs) ≡ total f xs = all_map f xs in omega arith

total_append : {A : Type 0} (f : A → ℕ) (xs ys : List A) → total f (xs ++ ys) ≡ total f xs + total f ys
total_append f [] ys = omega arith
total_append f (x ∷ xs) ys = let h : total f (xs ++ ys) ≡ total f xs + total f ys = total_append f xs ys in omega arith

module _ (x : Var) where
  abbrev m : Measure
  m = declares x

  abbrev fold : Fold
  fold = record {
    Link = ℕ;
    Stat = ℕ;
    Case = ℕ;
    Expr = ℕ;
    link_step = link_step;
    stat_step = stat_step x;
    case_step = case_step;
    expr_step = expr_step;
  }

  abbrev case_declares : CoreCase → ℕ
  case_declares c = fold-CoreCase ℕ ℕ ℕ ℕ link_step (stat_step x) case_step expr_step c

  stat_out : (y : CoreStat) → stat_declares x y ≡ stat_step x (stat_in fold (out-CoreStat y))
  stat_out y = fold_out-CoreStat ℕ ℕ ℕ ℕ link_step (stat_step x) case_step expr_step y

  expr_out : (y : CoreExpr) → expr_declares x y ≡ expr_step (expr_in fold (out-CoreExpr y))
  expr_out y = fold_out-CoreExpr ℕ ℕ ℕ ℕ link_step (stat_step x) case_step expr_step y

  link_out : (l : CoreLink) → link_declares x l ≡ link_step (link_in fold (out-CoreLink l))
  link_out l = fold_out-CoreLink ℕ ℕ ℕ ℕ link_step (stat_step x) case_step expr_step l

  -- ---- each layer

  link_by : (y : CoreLink-F CoreLink CoreStat CoreCase CoreExpr) → link_step (link_in fold y) ≡ in_link m y
  link_by (layer.Strict o parts site) = all_map (expr_declares x) parts
  link_by (layer.Lazy when taken None) = refl
  link_by (layer.Lazy when taken (Some other)) = refl
  link_by (layer.Run body) = all_map (stat_declares x) body

  expr_by : (y : CoreExpr-F CoreLink CoreStat CoreCase CoreExpr) → expr_step (expr_in fold y) ≡ in_head y.head + m.links y.links
  expr_by y = ap (λ n. in_head y.head + n) (all_map (link_declares x) y.links)

  case_by : (test : Option CoreExpr) (body : List CoreStat) → case_step (in_case fold (record { test = test; body = body })) ≡ of_some m.expr test + m.stats body
  case_by None body = ap (λ n. 0 + n) (all_map (stat_declares x) body)
  case_by (Some e) body = ap (λ n. expr_declares x e + n) (all_map (stat_declares x) body)

  case_of : (y : CoreCase-F CoreLink CoreStat CoreCase CoreExpr) → case_step (in_case fold y) ≡ of_some m.expr y.test + m.stats y.body
  case_of y = case_by y.test y.body

  case_is : (c : CoreCase) → case_declares c ≡ of_some m.expr (out-CoreCase c).test + m.stats (out-CoreCase c).body
  case_is c = fold_out-CoreCase ℕ ℕ ℕ ℕ link_step (stat_step x) case_step expr_step c ∙ case_of (out-CoreCase c)

  cases_are : (cs : List CoreCase) → all_of (map case_declares cs) ≡ in_cases m cs
  cases_are [] = refl
  cases_are (c ∷ cs) =
      let h : case_declares c ≡ of_some m.expr (out-CoreCase c).test + m.stats (out-CoreCase c).body = case_is c in
      let k : all_of (map case_declares cs) ≡ tests m cs + bodies m cs = cases_are cs in
      omega arith

  body_is : (body : List CoreStat) → all_of (map (stat_declares x) body) ≡ m.stats body
  body_is body = all_map (stat_declares x) body

  twice : (a b : ℕ) → a ≡ b → a + a ≡ b + b
  twice a b h = omega arith

  two : (a b c d : ℕ) → a ≡ c → b ≡ d → a + b ≡ c + d
  two a b c d h k = omega arith

  stat_by : (y : CoreStat-F CoreLink CoreStat CoreCase CoreExpr) → stat_step x (stat_in fold y) ≡ in_stat m y
  stat_by (layer.Do e) = refl
  stat_by (layer.If cases) = cases_are cases
  stat_by (layer.Switch subject cases) = ap (λ n. expr_declares x subject + n) (cases_are cases)
  stat_by (layer.Loop labels None None body) = twice _ _ (ap (λ n. 0 + (0 + n)) (body_is body))
  stat_by (layer.Loop labels None (Some u) body) = twice _ _ (ap (λ n. 0 + (expr_declares x u + n)) (body_is body))
  stat_by (layer.Loop labels (Some t) None body) = twice _ _ (ap (λ n. expr_declares x t + (0 + n)) (body_is body))
  stat_by (layer.Loop labels (Some t) (Some u) body) = twice _ _ (ap (λ n. expr_declares x t + (expr_declares x u + n)) (body_is body))
  stat_by (layer.Labelled label body) = body_is body
  stat_by (layer.Jump goes_on label) = refl
  stat_by (layer.Return e) = refl
  stat_by (layer.Throw e) = refl
  stat_by (layer.TryCatch block parameter names handler) =
      ap (λ n. n + (among_names x names + all_of (map (stat_declares x) handler))) (body_is block) ∙ ap (λ n. m.stats block + (among_names x names + n)) (body_is handler)
  stat_by (layer.TryFinally block last) = ap (λ n. n + all_of (map (stat_declares x) last)) (body_is block) ∙ ap (λ n. m.stats block + n) (body_is last)
  stat_by (layer.Scoped names body) = ap (λ n. among_names x names + n) (body_is body)
  stat_by (layer.Yield value kind result) = refl

  measures_of : Measures m
  measures_of = record {
    none = refl;
    joined = λ xs ys. (let h : m.stats (xs ++ ys) ≡ m.stats xs + m.stats ys = total_append (stat_declares x) xs ys in omega arith);
    stat = λ y xs. (let h : stat_declares x y ≡ in_stat m (out-CoreStat y) = stat_out y ∙ stat_by (out-CoreStat y) in omega arith);
    expr = λ y. (let h : expr_declares x y ≡ in_head (out-CoreExpr y).head + m.links (out-CoreExpr y).links = expr_out y ∙ expr_by (out-CoreExpr y) in omega arith);
    link = λ l ls. (let h : link_declares x l ≡ in_link m (out-CoreLink l) = link_out l ∙ link_by (out-CoreLink l) in omega arith);
  }

pub declares_measures : DeclaresMeasures
declares_measures x = measures_of x
