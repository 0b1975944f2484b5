-- Where what is round code is as it should be, this is so of its parts.
use Rattle.std.proofs.Common.{◌≡◌, Bool, true, false, List, [], ◌∷◌, map, Option, None, Some, refl, sym, ap, ◌∙◌}
use Rattle.std.specs.Prelude.{◌&&◌}
use Rattle.std.proofs.lemmas.Bool.{and_parts}
use Rattle.core_ast.specs.declared.parts.CoreHead.{CoreHead}
use Rattle.core_ast.specs.declared.parts.CoreHead.TheVariants as head
use Rattle.core_ast.specs.declared.parts.FunctionId.{FunctionId}
use Rattle.core_ast.specs.declared.parts.Var.{Var}
use Rattle.core_ast.specs.declared.tree.CoreCase.{CoreCase, fold_out-CoreCase, out-CoreCase}
use Rattle.core_ast.specs.declared.tree.CoreExpr.{CoreExpr, fold_out-CoreExpr, out-CoreExpr}
use Rattle.core_ast.specs.declared.tree.CoreLink.{CoreLink, fold_out-CoreLink, out-CoreLink}
use Rattle.core_ast.specs.declared.tree.CoreLink.TheOpen as layer
use Rattle.core_ast.specs.declared.tree.CoreLink.TheOpen.{CoreCase-F, CoreLink-F, CoreStat-F}
use Rattle.core_ast.specs.declared.tree.CoreStat.{CoreStat, fold_out-CoreStat, out-CoreStat}
use Rattle.core_meaning.specs.State.{Environment}
use Rattle.pass_rules.proofs.pass_laws.Related.{Fold, in_case, in_expr, in_link, in_stat}
use Rattle.cells_keep_runs.specs.Floors.{AllOf, CaseAt, Perhaps, Standing, ToUse, Wanted, wanted_along}
use Rattle.cells_keep_runs.specs.MayBeFlattened.{Round, Test, Whole, case_may, case_step, closure_may, each, expr_may, expr_step, head_may, in_handler, link_may, link_step, looped, op_may, parameter_may, scope_may, stat_may, stat_step}
use Rattle.cells_keep_runs.specs.Placing.{Handler}
use Rattle.cells_keep_runs.proofs.Both.{HasParts, HeadParts, LinkParts, StatParts}
use Rattle.cells_keep_runs.proofs.Floored.{all_joined}

-- what is round a handler
abbrev pub handler_may : Whole → Handler → Test
handler_may whole h r =
    parameter_may whole h.parameter h.names r && scope_may whole h.names r && each (map (stat_may whole) h.body) (in_handler h.parameter h.names r)

-- code is round as it may be, along an environment
abbrev pub StatRound : Whole → (Environment → Round → Type 0) → Environment → CoreStat → Type 0
StatRound whole Around e x = (r : Round) × (stat_may whole x r ≡ true) × Around e r

abbrev pub ExprRound : Whole → (Environment → Round → Type 0) → Environment → CoreExpr → Type 0
ExprRound whole Around e x = (r : Round) × (expr_may whole x r ≡ true) × Around e r

abbrev pub LinkRound : Whole → (Environment → Round → Type 0) → Environment → CoreLink → Type 0
LinkRound whole Around e l = (r : Round) × (link_may whole l r ≡ true) × Around e r

abbrev pub HandlerRound : Whole → (Environment → Round → Type 0) → Environment → Handler → Type 0
HandlerRound whole Around e h = (r : Round) × (handler_may whole h r ≡ true) × Around e r

-- what besides code a standing says
pub record Besides : Type 1 where
  pub unmade : Environment → FunctionId → Type 0
  pub makes : Environment → FunctionId → Type 0
  pub inside : Environment → Type 0
  pub leads : Environment → Environment → Type 0
  pub outermost : Environment → Type 0
  pub shapes : List (List Var) → Type 0
  pub fixed : Var → Bool

abbrev pub round_standing : Whole → (Environment → Round → Type 0) → Besides → Standing
round_standing whole Around b = record {
  stats = λ (e : Environment) (own : Bool) (xs : List CoreStat). AllOf (StatRound whole Around e) xs;
  expr = λ (e : Environment) (w : Wanted) (in_scope : Bool) (x : CoreExpr). ExprRound whole Around e x;
  links = λ (e : Environment) (w : Wanted) (ls : List CoreLink). AllOf (LinkRound whole Around e) ls;
  handler = λ (e : Environment) (h : Handler). HandlerRound whole Around e h;
  unmade = b.unmade;
  makes = b.makes;
  inside = b.inside;
  leads = b.leads;
  outermost = b.outermost;
  shapes = b.shapes;
  fixed = b.fixed;
}

-- a loop is round no other names, and a closure that may be made there is one; one goes back to environments of contexts
pub record RoundLaws (whole : Whole) (Around : Environment → Round → Type 0) (b : Besides) : Type 0 where
  pub loops : (e : Environment) (r : Round) → Around e r → Around e (looped r)
  pub closures : (e : Environment) (r : Round) (f : FunctionId) → closure_may whole f r ≡ true → Around e r → b.unmade e f
  pub made : (e : Environment) (f : FunctionId) → b.unmade e f → b.makes e f
  pub back : (e o : Environment) → b.leads e o → b.inside e → b.inside o

module _ (whole : Whole) (Around : Environment → Round → Type 0) (b : Besides) (laws : RoundLaws whole Around b) where
  abbrev A : Standing
  A = round_standing whole Around b

  abbrev test_fold : Fold
  test_fold = record {
    Link = Test;
    Stat = Test;
    Case = Test;
    Expr = Test;
    link_step = link_step whole;
    stat_step = stat_step whole;
    case_step = case_step whole;
    expr_step = expr_step whole;
  }

  stat_out : (x : CoreStat) (r : Round) → stat_may whole x r ≡ stat_step whole (in_stat test_fold (out-CoreStat x)) r
  stat_out x r = ap (λ f. f r) (fold_out-CoreStat Test Test Test Test (link_step whole) (stat_step whole) (case_step whole) (expr_step whole) x)

  case_out : (c : CoreCase) (r : Round) → case_may whole c r ≡ case_step whole (in_case test_fold (out-CoreCase c)) r
  case_out c r = ap (λ f. f r) (fold_out-CoreCase Test Test Test Test (link_step whole) (stat_step whole) (case_step whole) (expr_step whole) c)

  expr_out : (x : CoreExpr) (r : Round) → expr_may whole x r ≡ expr_step whole (in_expr test_fold (out-CoreExpr x)) r
  expr_out x r = ap (λ f. f r) (fold_out-CoreExpr Test Test Test Test (link_step whole) (stat_step whole) (case_step whole) (expr_step whole) x)

  link_out : (l : CoreLink) (r : Round) → link_may whole l r ≡ link_step whole (in_link test_fold (out-CoreLink l)) r
  link_out l r = ap (λ f. f r) (fold_out-CoreLink Test Test Test Test (link_step whole) (stat_step whole) (case_step whole) (expr_step whole) l)

  -- ---- lists

  each_of : {X : Type 0} (t : X → Test) (P : X → Type 0) (r : Round) → ((x : X) → t x r ≡ true → P x) → (xs : List X) → each (map t xs) r ≡ true → AllOf P xs
  each_of t P r h [] is = tt
  each_of t P r h (x ∷ xs) is =
      let both = and_parts (t x r) (each (map t xs) r) is in
      (h x both.0, each_of t P r h xs both.1)

  stats_of : (e : Environment) (r : Round) (xs : List CoreStat) → Around e r → each (map (stat_may whole) xs) r ≡ true → AllOf (StatRound whole Around e) xs
  stats_of e r xs at is = each_of (stat_may whole) (StatRound whole Around e) r (λ x may. (r, may, at)) xs is

  exprs_of : (e : Environment) (r : Round) (xs : List CoreExpr) → Around e r → each (map (expr_may whole) xs) r ≡ true → AllOf (ExprRound whole Around e) xs
  exprs_of e r xs at is = each_of (expr_may whole) (ExprRound whole Around e) r (λ x may. (r, may, at)) xs is

  case_by : (e : Environment) (own : Bool) (r : Round) (test : Option CoreExpr) (body : List CoreStat) → Around e r → case_step whole (in_case test_fold (record { test = test; body = body })) r ≡ true
      → Perhaps (A.expr e ToUse false) test × A.stats e own body
  case_by e own r None body at is = (tt, stats_of e r body at is)
  case_by e own r (Some x) body at is =
      let both = and_parts (expr_may whole x r) (each (map (stat_may whole) body) r) is in
      ((r, both.0, at), stats_of e r body at both.1)

  cases_of : (e : Environment) (own : Bool) (r : Round) (cs : List CoreCase) → Around e r → each (map (case_may whole) cs) r ≡ true → AllOf (CaseAt A e own) cs
  cases_of e own r cs at is =
      each_of (case_may whole) (CaseAt A e own) r (λ c may. case_by e own r (out-CoreCase c).test (out-CoreCase c).body at (sym (case_out c r) ∙ may)) cs is

  -- ---- statements

  handler_of : (e : Environment) (r : Round) (block : Bool) (h : Handler) → Around e r
      → block && parameter_may whole h.parameter h.names r && scope_may whole h.names r && each (map (stat_may whole) h.body) (in_handler h.parameter h.names r) ≡ true
      → (block ≡ true) × A.handler e h
  handler_of e r true h at is = (refl, (r, is, at))
  handler_of e r false h at is = cc

  stat_of : (e : Environment) (own : Bool) (r : Round) (y : CoreStat-F CoreLink CoreStat CoreCase CoreExpr) → Around e r → stat_step whole (in_stat test_fold y) r ≡ true → StatParts A e own y
  stat_of e own r (layer.Do x) at is = (r, is, at)
  stat_of e own r (layer.If cases) at is = cases_of e false r cases at is
  stat_of e own r (layer.Switch subject cases) at is =
      let both = and_parts (expr_may whole subject r) (each (map (case_may whole) cases) r) is in
      ((r, both.0, at), cases_of e false r cases at both.1)
  stat_of e own r (layer.Loop labels None None body) at is = (tt, tt, stats_of e (looped r) body (laws.loops e r at) is)
  stat_of e own r (layer.Loop labels None (Some u) body) at is =
      let q = looped r in
      let around = laws.loops e r at in
      let both = and_parts (expr_may whole u q) (each (map (stat_may whole) body) q) is in
      (tt, (q, both.0, around), stats_of e q body around both.1)
  stat_of e own r (layer.Loop labels (Some t) None body) at is =
      let q = looped r in
      let around = laws.loops e r at in
      let both = and_parts (expr_may whole t q && true) (each (map (stat_may whole) body) q) is in
      let first = and_parts (expr_may whole t q) true both.0 in
      ((q, first.0, around), tt, stats_of e q body around both.1)
  stat_of e own r (layer.Loop labels (Some t) (Some u) body) at is =
      let q = looped r in
      let around = laws.loops e r at in
      let both = and_parts (expr_may whole t q && expr_may whole u q) (each (map (stat_may whole) body) q) is in
      let first = and_parts (expr_may whole t q) (expr_may whole u q) both.0 in
      ((q, first.0, around), (q, first.1, around), stats_of e q body around both.1)
  stat_of e own r (layer.Labelled label body) at is = stats_of e r body at is
  stat_of e own r (layer.Jump goes_on label) at is = tt
  stat_of e own r (layer.Return x) at is = (r, is, at)
  stat_of e own r (layer.Throw x) at is = (r, is, at)
  stat_of e own r (layer.TryCatch block x names handler) at is =
      let h : Handler = record { parameter = x; names = names; body = handler } in
      let both = handler_of e r (each (map (stat_may whole) block) r) h at is in
      (stats_of e r block at both.0, both.1)
  stat_of e own r (layer.TryFinally block last) at is =
      let both = and_parts (each (map (stat_may whole) block) r) (each (map (stat_may whole) last) r) is in
      (stats_of e r block at both.0, stats_of e r last at both.1)
  stat_of e own r (layer.Scoped names body) at is = tt
  stat_of e own r (layer.Yield value kind result) at is = tt

  -- ---- links and heads

  link_of : (e : Environment) (w : Wanted) (r : Round) (y : CoreLink-F CoreLink CoreStat CoreCase CoreExpr) → Around e r → link_step whole (in_link test_fold y) r ≡ true → LinkParts A e w y
  link_of e w r (layer.Strict o parts site) at is =
      let both = and_parts (op_may o r) (each (map (expr_may whole) parts) r) is in
      exprs_of e r parts at both.1
  link_of e w r (layer.Lazy when taken None) at is =
      let both = and_parts (expr_may whole taken r) true is in
      ((r, both.0, at), tt)
  link_of e w r (layer.Lazy when taken (Some other)) at is =
      let both = and_parts (expr_may whole taken r) (expr_may whole other r) is in
      ((r, both.0, at), (r, both.1, at))
  link_of e w r (layer.Run body) at is = stats_of e r body at is

  head_of : (e : Environment) (r : Round) (h : CoreHead) → Around e r → head_may whole h r ≡ true → HeadParts A e h
  head_of e r (head.Function f) at is = laws.closures e r f is at
  head_of e r h at is = tt

  expr_parts : (x : CoreExpr) (r : Round) → expr_may whole x r ≡ true → (head_may whole (out-CoreExpr x).head r ≡ true) × (each (map (link_may whole) (out-CoreExpr x).links) r ≡ true)
  expr_parts x r is =
      let both = and_parts (head_may whole (out-CoreExpr x).head r) (each (map (link_may whole) (out-CoreExpr x).links) r) (sym (expr_out x r) ∙ is) in
      (both.0, both.1)

  -- Code that is round as it may be has such parts.
  pub round_parts : HasParts A
  round_parts = record {
    made = laws.made;
    none = λ e own. tt;
    back = laws.back;
    joined = λ e own xs ys at at2. all_joined (StatRound whole Around e) xs ys at at2;
    rest = λ e own x xs at. at.1;
    stat = λ e own x xs at. stat_of e own at.0.0 (out-CoreStat x) at.0.2 (sym (stat_out x at.0.0) ∙ at.0.1);
    head = λ e w c x at. head_of e at.0 (out-CoreExpr x).head at.2 (expr_parts x at.0 at.1).0;
    links = λ e w c x at. each_of (link_may whole) (LinkRound whole Around e) at.0 (λ l may. (at.0, may, at.2)) (out-CoreExpr x).links (expr_parts x at.0 at.1).1;
    further = λ e w l ls at. at.1;
    link = λ e w l ls at. link_of e (wanted_along ls w) at.0.0 (out-CoreLink l) at.0.2 (sym (link_out l at.0.0) ∙ at.0.1);
  }
