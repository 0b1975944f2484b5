-- Code that fits stands where it may.
use Rattle.std.proofs.Common.{◌≡◌, Bool, true, false, List, [], ◌∷◌, ◌++◌, map, Option, None, Some, refl, sym, subst, ap, ◌∙◌}
use Rattle.std.specs.Prelude.{◌&&◌, not}
use Rattle.std.proofs.lemmas.Bool.{and_parts}
use Rattle.core_ast.specs.declared.parts.CoreHead.{CoreHead}
use Rattle.core_ast.specs.declared.parts.CoreHead.TheVariants as head
use Rattle.core_ast.specs.declared.parts.CoreOp.{CoreOp}
use Rattle.core_ast.specs.declared.parts.CoreOp.TheVariants as op
use Rattle.core_ast.specs.declared.parts.FunctionId.{FunctionId}
use Rattle.core_ast.specs.declared.parts.Primitive.{Primitive}
use Rattle.core_ast.specs.declared.parts.Primitive.TheVariants as primitive
use Rattle.core_ast.specs.declared.parts.Var.{Var}
use Rattle.core_ast.specs.declared.tree.CoreCase.{CoreCase, fold_out-CoreCase, out-CoreCase}
use Rattle.core_ast.specs.declared.tree.CoreExpr.{CoreExpr, fold_out-CoreExpr, out-CoreExpr}
use Rattle.core_ast.specs.declared.tree.CoreLink.{CoreLink, fold_out-CoreLink, out-CoreLink}
use Rattle.core_ast.specs.declared.tree.CoreLink.TheOpen as layer
use Rattle.core_ast.specs.declared.tree.CoreLink.TheOpen.{CoreCase-F, CoreExpr-F, CoreLink-F, CoreStat-F}
use Rattle.core_ast.specs.declared.tree.CoreStat.{CoreStat, fold_out-CoreStat, out-CoreStat}
use Rattle.core_ast.specs.declared.whole.Core.{Core}
use Rattle.core_ast.specs.declared.whole.CoreFunction.{CoreFunction}
use Rattle.core_ast.specs.declared.whole.CoreKind.{CoreKind}
use Rattle.core_ast.specs.declared.whole.CoreKind.TheVariants as kind
use Rattle.core_meaning.specs.Expressions.{function_at}
use Rattle.core_meaning.specs.State.{Environment}
use Rattle.pass_rules.proofs.pass_laws.Related.{Fold, in_case, in_expr, in_link, in_stat}
use Rattle.cells_keep_runs.specs.Fitting.{ExprTest, Joint, ListTest, Naming, all_at, case_fits, case_step, caught_fits, expr_fits, expr_step, exprs_at, fit_with, function_fits, head_fits, is_held, is_none, joint_of, joints_fit, kind_fits, link_step, list_fits, op_fits, primitive_fits, stat_fits, stat_step, wanted_of}
use Rattle.cells_keep_runs.specs.Floors.{AllOf, CaseAt, HeadAt, KindFits, LinkAt, NoCells, NotHeld, OpAt, Perhaps, Placed, Standing, StatAt, ToHold, ToMake, ToUse, Wanted, part_wanted, wanted_along, wanted_in}
use Rattle.cells_keep_runs.proofs.Floored.{some_is}

pub not_true : (b : Bool) → not b ≡ true → b ≡ false
not_true true is = cc
not_true false is = refl

pub not_held : (w : Wanted) → not (is_held w) ≡ true → NotHeld w
not_held ToHold is = cc
not_held ToUse is = tt
not_held ToMake is = tt

module _ (core : Core) (k : Naming) (shapes : List (List Var) → Type 0) where
  abbrev pub K : Standing
  K = fit_with core k shapes

  abbrev pub test_fold : Fold
  test_fold = record {
    Link = Joint;
    Stat = ListTest;
    Case = ListTest;
    Expr = ExprTest;
    link_step = link_step k;
    stat_step = stat_step k;
    case_step = case_step;
    expr_step = expr_step core;
  }

  -- ---- each layer

  stat_out : (x : CoreStat) (own : Bool) → stat_fits core k x own ≡ stat_step k (in_stat test_fold (out-CoreStat x)) own
  stat_out x own = ap (λ f. f own) (fold_out-CoreStat Joint ListTest ListTest ExprTest (link_step k) (stat_step k) case_step (expr_step core) x)

  case_out : (c : CoreCase) (own : Bool) → case_fits core k c own ≡ case_step (in_case test_fold (out-CoreCase c)) own
  case_out c own = ap (λ f. f own) (fold_out-CoreCase Joint ListTest ListTest ExprTest (link_step k) (stat_step k) case_step (expr_step core) c)

  expr_out : (x : CoreExpr) (w : Wanted) (in_scope : Bool) → expr_fits core k x w in_scope ≡ expr_step core (in_expr test_fold (out-CoreExpr x)) w in_scope
  expr_out x w in_scope = ap (λ f. f w in_scope) (fold_out-CoreExpr Joint ListTest ListTest ExprTest (link_step k) (stat_step k) case_step (expr_step core) x)

  pub link_out : (l : CoreLink) → joint_of core k l ≡ link_step k (in_link test_fold (out-CoreLink l))
  link_out l = fold_out-CoreLink Joint ListTest ListTest ExprTest (link_step k) (stat_step k) case_step (expr_step core) l

  -- ---- lists and parts

  abbrev Joints : List CoreLink → List Joint
  Joints ls = map (joint_of core k) ls

  exprs_of : (e : Environment) (w : Wanted) (xs : List CoreExpr) → exprs_at (map (expr_fits core k) xs) w ≡ true → AllOf (K.expr e w false) xs
  exprs_of e w [] is = tt
  exprs_of e w (x ∷ xs) is =
      let both = and_parts (expr_fits core k x w false) (exprs_at (map (expr_fits core k) xs) w) is in
      (both.0, exprs_of e w xs both.1)

  case_by : (e : Environment) (own : Bool) (test : Option CoreExpr) (body : List CoreStat) → case_step (in_case test_fold (record { test = test; body = body })) own ≡ true → Perhaps (K.expr e ToUse false) test × K.stats e own body
  case_by e own None body is = (tt, is)
  case_by e own (Some x) body is =
      let both = and_parts (expr_fits core k x ToUse false) (list_fits core k body own) is in
      (both.0, both.1)

  case_of : (e : Environment) (own : Bool) (c : CoreCase-F CoreLink CoreStat CoreCase CoreExpr) → case_step (in_case test_fold c) own ≡ true → Perhaps (K.expr e ToUse false) c.test × K.stats e own c.body
  case_of e own c is = case_by e own c.test c.body is

  cases_of : (e : Environment) (own : Bool) (cs : List CoreCase) → all_at (map (case_fits core k) cs) own ≡ true → AllOf (CaseAt K e own) cs
  cases_of e own [] is = tt
  cases_of e own (c ∷ cs) is =
      let both = and_parts (case_fits core k c own) (all_at (map (case_fits core k) cs) own) is in
      (case_of e own (out-CoreCase c) (sym (case_out c own) ∙ both.0), cases_of e own cs both.1)

  -- ---- statements

  stat_of : (e : Environment) (own : Bool) (y : CoreStat-F CoreLink CoreStat CoreCase CoreExpr) → stat_step k (in_stat test_fold y) own ≡ true → StatAt K e own y
  stat_of e own (layer.Do x) is = is
  stat_of e own (layer.If cases) is = cases_of e false cases is
  stat_of e own (layer.Switch subject cases) is =
      let both = and_parts (expr_fits core k subject ToUse false) (all_at (map (case_fits core k) cases) false) is in
      (both.0, cases_of e false cases both.1)
  stat_of e own (layer.Loop labels None None body) is = (tt, tt, is)
  stat_of e own (layer.Loop labels None (Some u) body) is =
      let both = and_parts (expr_fits core k u ToUse own) (list_fits core k body false) is in
      (tt, both.0, both.1)
  stat_of e own (layer.Loop labels (Some t) None body) is =
      let both = and_parts (expr_fits core k t ToUse false) (list_fits core k body false) is in
      (both.0, tt, both.1)
  stat_of e own (layer.Loop labels (Some t) (Some u) body) is =
      let both = and_parts (expr_fits core k t ToUse false) (expr_fits core k u ToUse own && list_fits core k body false) is in
      let more = and_parts (expr_fits core k u ToUse own) (list_fits core k body false) both.1 in
      (both.0, more.0, more.1)
  stat_of e own (layer.Labelled label body) is = is
  stat_of e own (layer.Jump goes_on label) is = tt
  stat_of e own (layer.Return x) is = is
  stat_of e own (layer.Throw x) is = is
  stat_of e own (layer.TryCatch block x names handler) is =
      let both = and_parts (list_fits core k block false) (caught_fits k x names (map (stat_fits core k) handler)) is in
      (both.0, both.1)
  stat_of e own (layer.TryFinally block last) is =
      let both = and_parts (list_fits core k block false) (list_fits core k last false) is in
      (both.0, both.1)
  stat_of e own (layer.Scoped names body) is = tt
  stat_of e own (layer.Yield value kind result) is = cc

  -- the first statement of a list fits, and so do the others
  first_of : (x : CoreStat) (xs : List CoreStat) (own : Bool) → list_fits core k (x ∷ xs) own ≡ true → (stat_fits core k x own ≡ true) × (list_fits core k xs own ≡ true)
  first_of x xs own is =
      let both = and_parts (stat_fits core k x own) (list_fits core k xs own) is in
      (both.0, both.1)

  pub stat_fitting : (x : CoreStat) (xs : List CoreStat) (own : Bool) → list_fits core k (x ∷ xs) own ≡ true → stat_step k (in_stat test_fold (out-CoreStat x)) own ≡ true
  stat_fitting x xs own is = sym (stat_out x own) ∙ (first_of x xs own is).0

  both_true : (a b : Bool) → a ≡ true → b ≡ true → a && b ≡ true
  both_true true b at is = is
  both_true false b at is = cc

  joined_of : (own : Bool) (xs ys : List CoreStat) → list_fits core k xs own ≡ true → list_fits core k ys own ≡ true → list_fits core k (xs ++ ys) own ≡ true
  joined_of own [] ys is at = at
  joined_of own (x ∷ xs) ys is at =
      let first = first_of x xs own is in
      both_true (stat_fits core k x own) (list_fits core k (xs ++ ys) own) first.0 (joined_of own xs ys first.1 at)

  -- ---- links

  wants_of : (y : CoreLink-F CoreLink CoreStat CoreCase CoreExpr) (w : Wanted) → (link_step k (in_link test_fold y)).wants w ≡ wanted_in y w
  wants_of (layer.Strict o parts site) w = refl
  wants_of (layer.Lazy when taken other) w = refl
  wants_of (layer.Run body) w = refl

  pub want_is : (ls : List CoreLink) (w : Wanted) → wanted_of (Joints ls) w ≡ wanted_along ls w
  want_is [] w = refl
  want_is (l ∷ ls) w =
      ap (λ v. (joint_of core k l).wants v) (want_is ls w) ∙ ap (λ j. j.wants (wanted_along ls w)) (link_out l) ∙ wants_of (out-CoreLink l) (wanted_along ls w)

  set_of : (parts : List CoreExpr) (b : Bool) → is_none (map (expr_fits core k) parts) && not b ≡ true → (parts ≡ []) × (b ≡ false)
  set_of [] b is = (refl, not_true b is)
  set_of (x ∷ xs) b is = cc

  init_of : (parts : List CoreExpr) → is_none (map (expr_fits core k) parts) ≡ true → parts ≡ []
  init_of [] is = refl
  init_of (x ∷ xs) is = cc

  primitive_of : (q : Primitive) (parts : List CoreExpr) → primitive_fits q ≡ true → OpAt K (op.Primitive q) parts
  primitive_of (primitive.CellMake x) parts is = cc
  primitive_of q parts is = tt

  op_of : (o : CoreOp) (parts : List CoreExpr) → op_fits k.fixed o (is_none (map (expr_fits core k) parts)) ≡ true → OpAt K o parts
  op_of (op.Set x) parts is = set_of parts (k.fixed x) is
  op_of (op.Init x) parts is = init_of parts is
  op_of (op.StepVariable u x) parts is = cc
  op_of op.Content parts is = cc
  op_of op.SetContent parts is = cc
  op_of (op.Primitive q) parts is = primitive_of q parts is
  op_of o parts is = tt

  pub link_of : (e : Environment) (w : Wanted) (y : CoreLink-F CoreLink CoreStat CoreCase CoreExpr) → (link_step k (in_link test_fold y)).fits w ≡ true → LinkAt K e w y
  link_of e w (layer.Strict o parts site) is =
      let both = and_parts (op_fits k.fixed o (is_none (map (expr_fits core k) parts))) (exprs_at (map (expr_fits core k) parts) (part_wanted o w)) is in
      (op_of o parts both.0, exprs_of e (part_wanted o w) parts both.1)
  link_of e w (layer.Lazy when taken None) is =
      let both = and_parts (expr_fits core k taken w false) true is in
      (both.0, tt)
  link_of e w (layer.Lazy when taken (Some other)) is =
      let both = and_parts (expr_fits core k taken w false) (expr_fits core k other w false) is in
      (both.0, both.1)
  link_of e w (layer.Run body) is =
      let both = and_parts (not (is_held w)) (list_fits core k body false) is in
      (not_held w both.0, both.1)

  pub first_link : (l : CoreLink) (ls : List CoreLink) (w : Wanted) → joints_fit (Joints (l ∷ ls)) w ≡ true → ((joint_of core k l).fits (wanted_of (Joints ls) w) ≡ true) × (joints_fit (Joints ls) w ≡ true)
  first_link l ls w is =
      let both = and_parts ((joint_of core k l).fits (wanted_of (Joints ls) w)) (joints_fit (Joints ls) w) is in
      (both.0, both.1)

  pub link_fitting : (l : CoreLink) (ls : List CoreLink) (w : Wanted) → joints_fit (Joints (l ∷ ls)) w ≡ true → (link_step k (in_link test_fold (out-CoreLink l))).fits (wanted_along ls w) ≡ true
  link_fitting l ls w is =
      ap (λ j. j.fits (wanted_along ls w)) (sym (link_out l)) ∙ ap (λ v. (joint_of core k l).fits v) (sym (want_is ls w)) ∙ (first_link l ls w is).0

  -- ---- heads

  kind_of : (w : Wanted) (q : CoreKind) → kind_fits w q ≡ true → KindFits w q
  kind_of ToMake q is = tt
  kind_of ToUse (kind.Class derived) is = cc
  kind_of ToUse q is = tt
  kind_of ToHold (kind.Class derived) is = cc
  kind_of ToHold q is = tt

  function_of : (e : Environment) (w : Wanted) (f : FunctionId) (o : Option CoreFunction) → function_at core f ≡ o → function_fits w o ≡ true
      → K.unmade e f × ((function : CoreFunction) → function_at core f ≡ Some function → KindFits w function.kind)
  function_of e w f None at is = cc
  function_of e w f (Some g) at is = ((g, at), λ function there. subst (λ h. KindFits w h.kind) (some_is g function (sym at ∙ there)) (kind_of w g.kind is))

  scope_of : (a b : Bool) → a && b ≡ true → a ≡ true
  scope_of true b is = refl
  scope_of false b is = cc

  pub head_of : (e : Environment) (w : Wanted) (in_scope : Bool) (js : List Joint) (h : CoreHead) → head_fits core w in_scope js h ≡ true → HeadAt K core e w in_scope h
  head_of e w c js (head.Function f) is = function_of e w f (function_at core f) refl is
  head_of e w c js head.ArgumentList is = not_held w is
  head_of e w c js (head.Primitive primitive.GeneratorMake) is = cc
  head_of e w c js (head.Primitive q) is = tt
  head_of e w c js (head.Copy xs) is = scope_of c _ is
  head_of e w c js h is = tt

  pub expr_fitting : (x : CoreExpr) (w : Wanted) (in_scope : Bool) → expr_fits core k x w in_scope ≡ true
      → (head_fits core (wanted_along (out-CoreExpr x).links w) in_scope (Joints (out-CoreExpr x).links) (out-CoreExpr x).head ≡ true) × (joints_fit (Joints (out-CoreExpr x).links) w ≡ true)
  expr_fitting x w c is =
      let ls = (out-CoreExpr x).links in
      let both = and_parts (head_fits core (wanted_of (Joints ls) w) c (Joints ls) (out-CoreExpr x).head) (joints_fit (Joints ls) w) (sym (expr_out x w c) ∙ is) in
      (ap (λ v. head_fits core v c (Joints ls) (out-CoreExpr x).head) (sym (want_is ls w)) ∙ both.0, both.1)

  -- Code that fits may stand where it does, whatever the environment.
  pub fitted : NoCells core → Placed core K
  fitted uncelled = record {
    uncelled = uncelled;
    made = λ e f at. at;
    none = λ e own. refl;
    back = λ e o leads inside. tt;
    joined = λ e own xs ys is at. joined_of own xs ys is at;
    rest = λ e own x xs is. (first_of x xs own is).1;
    stat = λ e own x xs is. stat_of e own (out-CoreStat x) (stat_fitting x xs own is);
    head = λ e w c x is. head_of e (wanted_along (out-CoreExpr x).links w) c (Joints (out-CoreExpr x).links) (out-CoreExpr x).head (expr_fitting x w c is).0;
    links = λ e w c x is. (expr_fitting x w c is).1;
    further = λ e w l ls is. (first_link l ls w is).1;
    link = λ e w l ls is. link_of e (wanted_along ls w) (out-CoreLink l) (link_fitting l ls w is);
  }
