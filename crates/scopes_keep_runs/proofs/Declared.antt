-- Code that fits, and that may stand where no scope is to have a name, doesn't declare it.
use Rattle.std.proofs.Common.{◌≡◌, ◌+◌, ℕ, Bool, true, false, not, ◌&&◌, ◌||◌, List, [], ◌∷◌, map, Option, None, Some, nat_eq, refl, sym, ap, arith, ◌∙◌}
use Rattle.std.specs.Prelude.{if◌then◌else◌}
use Rattle.std.proofs.lemmas.Bool.{and_parts}
use Rattle.core_ast.specs.declared.parts.CoreHead.{CoreHead}
use Rattle.core_ast.specs.declared.parts.CoreHead.TheVariants as head
use Rattle.core_ast.specs.declared.parts.Primitive.TheVariants as primitive
use Rattle.core_ast.specs.declared.parts.ScopedName.{ScopedName}
use Rattle.core_ast.specs.declared.parts.Var.{Var}
use Rattle.core_ast.specs.declared.tree.CoreCase.{CoreCase, roll-CoreCase}
use Rattle.core_ast.specs.declared.tree.CoreExpr.{CoreExpr, roll-CoreExpr}
use Rattle.core_ast.specs.declared.tree.CoreLink.{CoreLink, roll-CoreLink}
use Rattle.core_ast.specs.declared.tree.CoreLink.TheOpen as layer
use Rattle.core_ast.specs.declared.tree.CoreLink.TheOpen.{CoreCase-F, CoreExpr-F, CoreLink-F, CoreStat-F}
use Rattle.core_ast.specs.declared.tree.CoreStat.{CoreStat, roll-CoreStat}
use Rattle.core_ast.specs.declared.whole.Core.{Core}
use Rattle.pass_rules.specs.Cells.{is_among}
use Rattle.pass_rules.specs.Scopes.{vars}
use Rattle.pass_rules.proofs.pass_laws.Induced.{Cases, Exprs, Keeps, Links, Shows, Stats, case_first, case_second, expr_first, expr_second, link_first, link_second, stat_first, stat_induced, stat_second}
use Rattle.pass_rules.proofs.pass_laws.Related.{Fold, Pair, case_rolled, expr_rolled, in_case, in_expr, in_link, in_stat, link_rolled, stat_rolled}
use Rattle.cells_keep_runs.specs.Counted.{in_head}
use Rattle.cells_keep_runs.specs.Declares.{all_of, among_names, case_step as case_declares, declares, expr_step as expr_declares, link_step as link_declares, stat_declares, stat_step as stat_declared}
use Rattle.cells_keep_runs.specs.Fitting.{ExprTest, Joint, ListTest, Naming, all_at, are_some, case_fits, case_step, caught_fits, expr_fits, expr_step, exprs_at, head_fits, is_held, is_none, joint_of, joints_fit, link_step, list_fits, names_fit, op_fits, stat_fits, stat_step, wanted_of}
use Rattle.cells_keep_runs.specs.Floors.{ToHold, ToUse, Wanted, part_wanted}
use Rattle.cells_keep_runs.specs.MayBeFlattened.{Round, Whole, case_may, each, expr_may, head_may, in_handler, link_may, looped, op_may, parameter_may, scope_may, stat_may, stats_may, within}
use Rattle.cells_keep_runs.proofs.Writes.{differ}
use Rattle.scopes_keep_runs.proofs.Small.{round_fold, scope_local}

-- a name that isn't there counts nothing
pub none_count : (x : Var) (names : List ScopedName) → is_among x (vars names) ≡ false → among_names x names ≡ 0
none_count x [] away = refl
none_count x (n ∷ names) away = by_name (nat_eq n.var.0 x.0) away (λ further. none_count x names further)
  where
    by_name : (b : Bool) → b || is_among x (vars names) ≡ false → (is_among x (vars names) ≡ false → among_names x names ≡ 0) → (if b then 1 else 0) + among_names x names ≡ 0
    by_name true h on = absurd (differ true refl h)
    by_name false h on = let z : among_names x names ≡ 0 = on h in omega arith

module _ (core : Core) (k : Naming) (whole : Whole) (x : Var) where
  abbrev declares_fold : Fold
  declares_fold = record { Link = ℕ; Stat = ℕ; Case = ℕ; Expr = ℕ; link_step = link_declares; stat_step = stat_declared x; case_step = case_declares; expr_step = expr_declares }

  abbrev fits_fold : Fold
  fits_fold = record { Link = Joint; Stat = ListTest; Case = ListTest; Expr = ExprTest; link_step = link_step k; stat_step = stat_step k; case_step = case_step; expr_step = expr_step core }

  abbrev may_fold : Fold
  may_fold = round_fold whole

  -- no scope there is to have the name
  abbrev Away : Round → Type 0
  Away r = is_among x r.locals ≡ false

  abbrev LinkNone : CoreLink → ℕ → Type 0
  LinkNone l n = (r : Round) → Away r → link_may whole l r ≡ true → (w : Wanted) → (joint_of core k l).fits w ≡ true → n ≡ 0

  abbrev StatNone : CoreStat → ℕ → Type 0
  StatNone y n = (r : Round) → Away r → stat_may whole y r ≡ true → (own : Bool) → stat_fits core k y own ≡ true → n ≡ 0

  abbrev CaseNone : CoreCase → ℕ → Type 0
  CaseNone c n = (r : Round) → Away r → case_may whole c r ≡ true → (own : Bool) → case_fits core k c own ≡ true → n ≡ 0

  abbrev ExprNone : CoreExpr → ℕ → Type 0
  ExprNone e n = (r : Round) → Away r → expr_may whole e r ≡ true → (w : Wanted) (c : Bool) → expr_fits core k e w c ≡ true → n ≡ 0

  abbrev shows : Shows declares_fold
  shows = record { Link = LinkNone; Stat = StatNone; Case = CaseNone; Expr = ExprNone }

  two : (a b : ℕ) → a ≡ 0 → b ≡ 0 → a + b ≡ 0
  two a b p q = omega arith

  -- ---- lists

  exprs_none : (ps : List (Pair ExprNone)) (r : Round) → Away r → each (map (expr_may whole) (map (λ p. p.0) ps)) r ≡ true → (w : Wanted) → exprs_at (map (expr_fits core k) (map (λ p. p.0) ps)) w ≡ true → all_of (map (λ p. p.1) ps) ≡ 0
  exprs_none [] r away may w fits = refl
  exprs_none ((e, n, none) ∷ ps) r away may w fits =
      let m = and_parts (expr_may whole e r) (each (map (expr_may whole) (map (λ p. p.0) ps)) r) may in
      let f = and_parts (expr_fits core k e w false) (exprs_at (map (expr_fits core k) (map (λ p. p.0) ps)) w) fits in
      two n (all_of (map (λ p. p.1) ps)) (none r away m.0 w false f.0) (exprs_none ps r away m.1 w f.1)

  stats_none : (ps : List (Pair StatNone)) (r : Round) → Away r → each (map (stat_may whole) (map (λ p. p.0) ps)) r ≡ true → (own : Bool) → all_at (map (stat_fits core k) (map (λ p. p.0) ps)) own ≡ true → all_of (map (λ p. p.1) ps) ≡ 0
  stats_none [] r away may own fits = refl
  stats_none ((y, n, none) ∷ ps) r away may own fits =
      let m = and_parts (stat_may whole y r) (each (map (stat_may whole) (map (λ p. p.0) ps)) r) may in
      let f = and_parts (stat_fits core k y own) (all_at (map (stat_fits core k) (map (λ p. p.0) ps)) own) fits in
      two n (all_of (map (λ p. p.1) ps)) (none r away m.0 own f.0) (stats_none ps r away m.1 own f.1)

  cases_none : (ps : List (Pair CaseNone)) (r : Round) → Away r → each (map (case_may whole) (map (λ p. p.0) ps)) r ≡ true → (own : Bool) → all_at (map (case_fits core k) (map (λ p. p.0) ps)) own ≡ true → all_of (map (λ p. p.1) ps) ≡ 0
  cases_none [] r away may own fits = refl
  cases_none ((c, n, none) ∷ ps) r away may own fits =
      let m = and_parts (case_may whole c r) (each (map (case_may whole) (map (λ p. p.0) ps)) r) may in
      let f = and_parts (case_fits core k c own) (all_at (map (case_fits core k) (map (λ p. p.0) ps)) own) fits in
      two n (all_of (map (λ p. p.1) ps)) (none r away m.0 own f.0) (cases_none ps r away m.1 own f.1)

  links_none : (ps : List (Pair LinkNone)) (r : Round) → Away r → each (map (link_may whole) (map (λ p. p.0) ps)) r ≡ true → (w : Wanted) → joints_fit (map (joint_of core k) (map (λ p. p.0) ps)) w ≡ true → all_of (map (λ p. p.1) ps) ≡ 0
  links_none [] r away may w fits = refl
  links_none ((l, n, none) ∷ ps) r away may w fits =
      let js = map (joint_of core k) (map (λ p. p.0) ps) in
      let m = and_parts (link_may whole l r) (each (map (link_may whole) (map (λ p. p.0) ps)) r) may in
      let f = and_parts ((joint_of core k l).fits (wanted_of js w)) (joints_fit js w) fits in
      two n (all_of (map (λ p. p.1) ps)) (none r away m.0 (wanted_of js w) f.0) (links_none ps r away m.1 w f.1)

  -- the names of a scope are others
  names_none : (names : List ScopedName) (r : Round) → Away r → scope_may whole names r ≡ true → among_names x names ≡ 0
  names_none names r away may = none_count x names (by_there (is_among x (vars names)) refl)
    where
      by_there : (b : Bool) → is_among x (vars names) ≡ b → b ≡ false
      by_there true is = absurd (differ (is_among x r.locals) (scope_local whole names r x may is) away)
      by_there false is = refl

  -- ---- nodes

  -- what a node's tests say of its layer
  link_by : (y : CoreLink-F CoreLink CoreStat CoreCase CoreExpr) (n : ℕ)
      → ((r : Round) → Away r → may_fold.link_step (in_link may_fold y) r ≡ true → (w : Wanted) → (fits_fold.link_step (in_link fits_fold y)).fits w ≡ true → n ≡ 0) → LinkNone (roll-CoreLink y) n
  link_by y n none r away may w fits = none r away (sym (ap (λ t. t r) (link_rolled may_fold y)) ∙ may) w (sym (ap (λ (j : Joint). j.fits w) (link_rolled fits_fold y)) ∙ fits)

  stat_by : (y : CoreStat-F CoreLink CoreStat CoreCase CoreExpr) (n : ℕ)
      → ((r : Round) → Away r → may_fold.stat_step (in_stat may_fold y) r ≡ true → (own : Bool) → fits_fold.stat_step (in_stat fits_fold y) own ≡ true → n ≡ 0) → StatNone (roll-CoreStat y) n
  stat_by y n none r away may own fits = none r away (sym (ap (λ t. t r) (stat_rolled may_fold y)) ∙ may) own (sym (ap (λ t. t own) (stat_rolled fits_fold y)) ∙ fits)

  case_by : (y : CoreCase-F CoreLink CoreStat CoreCase CoreExpr) (n : ℕ)
      → ((r : Round) → Away r → may_fold.case_step (in_case may_fold y) r ≡ true → (own : Bool) → fits_fold.case_step (in_case fits_fold y) own ≡ true → n ≡ 0) → CaseNone (roll-CoreCase y) n
  case_by y n none r away may own fits = none r away (sym (ap (λ t. t r) (case_rolled may_fold y)) ∙ may) own (sym (ap (λ t. t own) (case_rolled fits_fold y)) ∙ fits)

  expr_by : (y : CoreExpr-F CoreLink CoreStat CoreCase CoreExpr) (n : ℕ)
      → ((r : Round) → Away r → may_fold.expr_step (in_expr may_fold y) r ≡ true → (w : Wanted) (c : Bool) → fits_fold.expr_step (in_expr fits_fold y) w c ≡ true → n ≡ 0) → ExprNone (roll-CoreExpr y) n
  expr_by y n none r away may w c fits = none r away (sym (ap (λ t. t r) (expr_rolled may_fold y)) ∙ may) w c (sym (ap (λ t. t w c) (expr_rolled fits_fold y)) ∙ fits)

  link_none : (z : Links shows) → LinkNone (roll-CoreLink (link_first shows z)) (declares_fold.link_step (link_second shows z))
  link_none (layer.Strict o ps site) = link_by (link_first shows (layer.Strict o ps site)) (all_of (map (λ p. p.1) ps)) (λ r away may w fits.
      (let m = and_parts (op_may o r) (each (map (expr_may whole) (map (λ p. p.0) ps)) r) may in
      let f = and_parts (op_fits k.fixed o (is_none (map (expr_fits core k) (map (λ p. p.0) ps)))) (exprs_at (map (expr_fits core k) (map (λ p. p.0) ps)) (part_wanted o w)) fits in
      exprs_none ps r away m.1 (part_wanted o w) f.1))
  link_none (layer.Lazy v (e, n, none) None) = link_by (link_first shows (layer.Lazy v (e, n, none) None)) (n + 0) (λ r away may w fits.
      (let m = and_parts (expr_may whole e r) true may in
      let f = and_parts (expr_fits core k e w false) true fits in
      two n 0 (none r away m.0 w false f.0) refl))
  link_none (layer.Lazy v (e, n, none) (Some (e2, n2, none2))) = link_by (link_first shows (layer.Lazy v (e, n, none) (Some (e2, n2, none2)))) (n + n2) (λ r away may w fits.
      (let m = and_parts (expr_may whole e r) (expr_may whole e2 r) may in
      let f = and_parts (expr_fits core k e w false) (expr_fits core k e2 w false) fits in
      two n n2 (none r away m.0 w false f.0) (none2 r away m.1 w false f.1)))
  link_none (layer.Run ps) = link_by (link_first shows (layer.Run ps)) (all_of (map (λ p. p.1) ps)) (λ r away may w fits.
      (let f = and_parts (not (is_held w)) (all_at (map (stat_fits core k) (map (λ p. p.0) ps)) false) fits in
      stats_none ps r away may false f.1))

  case_of : (test : Option (Pair ExprNone)) (ps : List (Pair StatNone)) → CaseNone (roll-CoreCase (case_first shows (record { test = test; body = ps }))) (declares_fold.case_step (case_second shows (record { test = test; body = ps })))
  case_of None ps = case_by (case_first shows (record { test = None; body = ps })) (0 + all_of (map (λ p. p.1) ps)) (λ r away may own fits.
      two 0 (all_of (map (λ p. p.1) ps)) refl (stats_none ps r away may own fits))
  case_of (Some (e, n, none)) ps = case_by (case_first shows (record { test = Some (e, n, none); body = ps })) (n + all_of (map (λ p. p.1) ps)) (λ r away may own fits.
      (let m = and_parts (expr_may whole e r) (each (map (stat_may whole) (map (λ p. p.0) ps)) r) may in
      let f = and_parts (expr_fits core k e ToUse false) (all_at (map (stat_fits core k) (map (λ p. p.0) ps)) own) fits in
      two n (all_of (map (λ p. p.1) ps)) (none r away m.0 ToUse false f.0) (stats_none ps r away m.1 own f.1)))

  case_none : (z : Cases shows) → CaseNone (roll-CoreCase (case_first shows z)) (declares_fold.case_step (case_second shows z))
  case_none z = case_of z.test z.body

  head_none : (h : CoreHead) (w : Wanted) (c : Bool) (js : List Joint) → head_fits core w c js h ≡ true → in_head h ≡ 0
  head_none (head.Primitive primitive.GeneratorMake) w c js is = cc
  head_none (head.Primitive p) w c js is = refl
  head_none h w c js is = refl

  expr_none : (z : Exprs shows) → ExprNone (roll-CoreExpr (expr_first shows z)) (declares_fold.expr_step (expr_second shows z))
  expr_none z = expr_by (expr_first shows z) (in_head z.head + all_of (map (λ p. p.1) z.links)) (λ r away may w c fits.
      (let js = map (joint_of core k) (map (λ p. p.0) z.links) in
      let m = and_parts (head_may whole z.head r) (each (map (link_may whole) (map (λ p. p.0) z.links)) r) may in
      let f = and_parts (head_fits core (wanted_of js w) c js z.head) (joints_fit js w) fits in
      two (in_head z.head) (all_of (map (λ p. p.1) z.links)) (head_none z.head (wanted_of js w) c js f.0) (links_none z.links r away m.1 w f.1)))

  -- a loop declares in a turn what its parts do
  turn_none : (a b c : ℕ) → a ≡ 0 → b ≡ 0 → c ≡ 0 → (a + (b + c)) + (a + (b + c)) ≡ 0
  turn_none a b c p q h = omega arith

  stat_none : (z : Stats shows) → StatNone (roll-CoreStat (stat_first shows z)) (declares_fold.stat_step (stat_second shows z))
  stat_none (layer.Do (e, n, none)) = stat_by (stat_first shows (layer.Do (e, n, none))) n (λ r away may own fits. none r away may ToUse own fits)
  stat_none (layer.If ps) = stat_by (stat_first shows (layer.If ps)) (all_of (map (λ p. p.1) ps)) (λ r away may own fits. cases_none ps r away may false fits)
  stat_none (layer.Switch (e, n, none) ps) = stat_by (stat_first shows (layer.Switch (e, n, none) ps)) (n + all_of (map (λ p. p.1) ps)) (λ r away may own fits.
      (let m = and_parts (expr_may whole e r) (each (map (case_may whole) (map (λ p. p.0) ps)) r) may in
      let f = and_parts (expr_fits core k e ToUse false) (all_at (map (case_fits core k) (map (λ p. p.0) ps)) false) fits in
      two n (all_of (map (λ p. p.1) ps)) (none r away m.0 ToUse false f.0) (cases_none ps r away m.1 false f.1)))
  stat_none (layer.Loop labels None None ps) = stat_by (stat_first shows (layer.Loop labels None None ps)) ((0 + (0 + all_of (map (λ p. p.1) ps))) + (0 + (0 + all_of (map (λ p. p.1) ps)))) (λ r away may own fits.
      turn_none 0 0 (all_of (map (λ p. p.1) ps)) refl refl (stats_none ps (looped r) away may false fits))
  stat_none (layer.Loop labels None (Some (u, i, none2)) ps) = stat_by (stat_first shows (layer.Loop labels None (Some (u, i, none2)) ps)) ((0 + (i + all_of (map (λ p. p.1) ps))) + (0 + (i + all_of (map (λ p. p.1) ps)))) (λ r away may own fits.
      (let m = and_parts (expr_may whole u (looped r)) (each (map (stat_may whole) (map (λ p. p.0) ps)) (looped r)) may in
      let f = and_parts (expr_fits core k u ToUse own) (all_at (map (stat_fits core k) (map (λ p. p.0) ps)) false) fits in
      turn_none 0 i (all_of (map (λ p. p.1) ps)) refl (none2 (looped r) away m.0 ToUse own f.0) (stats_none ps (looped r) away m.1 false f.1)))
  stat_none (layer.Loop labels (Some (t, n, none)) None ps) = stat_by (stat_first shows (layer.Loop labels (Some (t, n, none)) None ps)) ((n + (0 + all_of (map (λ p. p.1) ps))) + (n + (0 + all_of (map (λ p. p.1) ps)))) (λ r away may own fits.
      (let m = and_parts (expr_may whole t (looped r) && true) (each (map (stat_may whole) (map (λ p. p.0) ps)) (looped r)) may in
      let m2 = and_parts (expr_may whole t (looped r)) true m.0 in
      let f = and_parts (expr_fits core k t ToUse false) (true && all_at (map (stat_fits core k) (map (λ p. p.0) ps)) false) fits in
      turn_none n 0 (all_of (map (λ p. p.1) ps)) (none (looped r) away m2.0 ToUse false f.0) refl (stats_none ps (looped r) away m.1 false f.1)))
  stat_none (layer.Loop labels (Some (t, n, none)) (Some (u, i, none2)) ps) = stat_by (stat_first shows (layer.Loop labels (Some (t, n, none)) (Some (u, i, none2)) ps)) ((n + (i + all_of (map (λ p. p.1) ps))) + (n + (i + all_of (map (λ p. p.1) ps)))) (λ r away may own fits.
      (let m = and_parts (expr_may whole t (looped r) && expr_may whole u (looped r)) (each (map (stat_may whole) (map (λ p. p.0) ps)) (looped r)) may in
      let m2 = and_parts (expr_may whole t (looped r)) (expr_may whole u (looped r)) m.0 in
      let f = and_parts (expr_fits core k t ToUse false) (expr_fits core k u ToUse own && all_at (map (stat_fits core k) (map (λ p. p.0) ps)) false) fits in
      let f2 = and_parts (expr_fits core k u ToUse own) (all_at (map (stat_fits core k) (map (λ p. p.0) ps)) false) f.1 in
      turn_none n i (all_of (map (λ p. p.1) ps)) (none (looped r) away m2.0 ToUse false f.0) (none2 (looped r) away m2.1 ToUse own f2.0) (stats_none ps (looped r) away m.1 false f2.1)))
  stat_none (layer.Labelled label ps) = stat_by (stat_first shows (layer.Labelled label ps)) (all_of (map (λ p. p.1) ps)) (λ r away may own fits. stats_none ps r away may false fits)
  stat_none (layer.Jump goes_on label) = stat_by (stat_first shows (layer.Jump goes_on label)) 0 (λ r away may own fits. refl)
  stat_none (layer.Return (e, n, none)) = stat_by (stat_first shows (layer.Return (e, n, none))) n (λ r away may own fits. none r away may ToHold false fits)
  stat_none (layer.Throw (e, n, none)) = stat_by (stat_first shows (layer.Throw (e, n, none))) n (λ r away may own fits. none r away may ToUse false fits)
  stat_none (layer.TryCatch ps y names qs) = stat_by (stat_first shows (layer.TryCatch ps y names qs)) (all_of (map (λ p. p.1) ps) + (among_names x names + all_of (map (λ p. p.1) qs))) (λ r away may own fits.
      (let block = each (map (stat_may whole) (map (λ p. p.0) ps)) r in
      let m = and_parts (block && parameter_may whole y names r && scope_may whole names r) (each (map (stat_may whole) (map (λ p. p.0) qs)) (in_handler y names r)) may in
      let m2 = and_parts (block && parameter_may whole y names r) (scope_may whole names r) m.0 in
      let m3 = and_parts block (parameter_may whole y names r) m2.0 in
      let f = and_parts (all_at (map (stat_fits core k) (map (λ p. p.0) ps)) false) (caught_fits k y names (map (stat_fits core k) (map (λ p. p.0) qs))) fits in
      let f2 = and_parts (names_fit k names) (not (is_among y (vars names)) && all_at (map (stat_fits core k) (map (λ p. p.0) qs)) true) f.1 in
      let f3 = and_parts (not (is_among y (vars names))) (all_at (map (stat_fits core k) (map (λ p. p.0) qs)) true) f2.1 in
      two (all_of (map (λ p. p.1) ps)) (among_names x names + all_of (map (λ p. p.1) qs)) (stats_none ps r away m3.0 false f.0)
      (two (among_names x names) (all_of (map (λ p. p.1) qs)) (names_none names r away m2.1) (stats_none qs (in_handler y names r) away m.1 true f3.1))))
  stat_none (layer.TryFinally ps qs) = stat_by (stat_first shows (layer.TryFinally ps qs)) (all_of (map (λ p. p.1) ps) + all_of (map (λ p. p.1) qs)) (λ r away may own fits.
      (let m = and_parts (each (map (stat_may whole) (map (λ p. p.0) ps)) r) (each (map (stat_may whole) (map (λ p. p.0) qs)) r) may in
      let f = and_parts (all_at (map (stat_fits core k) (map (λ p. p.0) ps)) false) (all_at (map (stat_fits core k) (map (λ p. p.0) qs)) false) fits in
      two (all_of (map (λ p. p.1) ps)) (all_of (map (λ p. p.1) qs)) (stats_none ps r away m.0 false f.0) (stats_none qs r away m.1 false f.1)))
  stat_none (layer.Scoped names ps) = stat_by (stat_first shows (layer.Scoped names ps)) (among_names x names + all_of (map (λ p. p.1) ps)) (λ r away may own fits.
      (let m = and_parts (scope_may whole names r) (each (map (stat_may whole) (map (λ p. p.0) ps)) (within names r)) may in
      let f = and_parts (are_some names) (names_fit k names && all_at (map (stat_fits core k) (map (λ p. p.0) ps)) true) fits in
      let f2 = and_parts (names_fit k names) (all_at (map (stat_fits core k) (map (λ p. p.0) ps)) true) f.1 in
      two (among_names x names) (all_of (map (λ p. p.1) ps)) (names_none names r away m.0) (stats_none ps (within names r) away m.1 true f2.1)))
  stat_none (layer.Yield (e, n, none) kind result) = stat_by (stat_first shows (layer.Yield (e, n, none) kind result)) n (λ r away may own fits. cc)

  keeps : Keeps shows
  keeps = record { link = link_none; stat = stat_none; case = case_none; expr = expr_none }

  -- ---- statements

  pub none_declared : (ys : List CoreStat) (r : Round) → Away r → stats_may whole ys r ≡ true → (own : Bool) → list_fits core k ys own ≡ true → (declares x).stats ys ≡ 0
  none_declared [] r away may own fits = refl
  none_declared (y ∷ ys) r away may own fits =
      let m = and_parts (stat_may whole y r) (each (map (stat_may whole) ys) r) may in
      let f = and_parts (stat_fits core k y own) (all_at (map (stat_fits core k) ys) own) fits in
      two (stat_declares x y) ((declares x).stats ys) (stat_induced shows keeps y r away m.0 own f.0) (none_declared ys r away m.1 own f.1)
