-- What a fold gives of nodes, by induction over these: each node comes with what the fold gives of it.
use Rattle.std.proofs.Common.{◌≡◌, sym, ap, subst, ◌∙◌}
use Rattle.core_ast.specs.declared.tree.CoreLink.{CoreLink, roll-CoreLink, map-CoreLink}
use Rattle.core_ast.specs.declared.tree.CoreStat.{CoreStat, roll-CoreStat, map-CoreStat, ind-CoreStat}
use Rattle.core_ast.specs.declared.tree.CoreCase.{CoreCase, roll-CoreCase, map-CoreCase}
use Rattle.core_ast.specs.declared.tree.CoreExpr.{CoreExpr, roll-CoreExpr, map-CoreExpr}
use Rattle.core_ast.specs.declared.tree.CoreLink.TheOpen.{CoreLink-F, CoreStat-F, CoreCase-F, CoreExpr-F}
use Rattle.pass_rules.proofs.pass_laws.Related.{Fold, Pair, With, of_link, of_stat, of_case, of_expr, link_rolled, stat_rolled, case_rolled, expr_rolled, links_twice, stats_twice, cases_twice, exprs_twice}

-- what is shown of a node and of what the fold gives of it
pub record Shows (g : Fold) : Type 1 where
  pub Link : CoreLink → g.Link → Type 0
  pub Stat : CoreStat → g.Stat → Type 0
  pub Case : CoreCase → g.Case → Type 0
  pub Expr : CoreExpr → g.Expr → Type 0

abbrev pub Links : {g : Fold} → Shows g → Type 0
Links r = CoreLink-F (Pair r.Link) (Pair r.Stat) (Pair r.Case) (Pair r.Expr)

abbrev pub link_first : {g : Fold} (r : Shows g) → Links r → CoreLink-F CoreLink CoreStat CoreCase CoreExpr
link_first r = map-CoreLink (Pair r.Link) (Pair r.Stat) (Pair r.Case) (Pair r.Expr) CoreLink CoreStat CoreCase CoreExpr (λ p. p.0) (λ p. p.0) (λ p. p.0) (λ p. p.0)

abbrev pub link_second : {g : Fold} (r : Shows g) → Links r → CoreLink-F g.Link g.Stat g.Case g.Expr
link_second {g} r = map-CoreLink (Pair r.Link) (Pair r.Stat) (Pair r.Case) (Pair r.Expr) g.Link g.Stat g.Case g.Expr (λ p. p.1) (λ p. p.1) (λ p. p.1) (λ p. p.1)

abbrev pub Stats : {g : Fold} → Shows g → Type 0
Stats r = CoreStat-F (Pair r.Link) (Pair r.Stat) (Pair r.Case) (Pair r.Expr)

abbrev pub stat_first : {g : Fold} (r : Shows g) → Stats r → CoreStat-F CoreLink CoreStat CoreCase CoreExpr
stat_first r = map-CoreStat (Pair r.Link) (Pair r.Stat) (Pair r.Case) (Pair r.Expr) CoreLink CoreStat CoreCase CoreExpr (λ p. p.0) (λ p. p.0) (λ p. p.0) (λ p. p.0)

abbrev pub stat_second : {g : Fold} (r : Shows g) → Stats r → CoreStat-F g.Link g.Stat g.Case g.Expr
stat_second {g} r = map-CoreStat (Pair r.Link) (Pair r.Stat) (Pair r.Case) (Pair r.Expr) g.Link g.Stat g.Case g.Expr (λ p. p.1) (λ p. p.1) (λ p. p.1) (λ p. p.1)

abbrev pub Cases : {g : Fold} → Shows g → Type 0
Cases r = CoreCase-F (Pair r.Link) (Pair r.Stat) (Pair r.Case) (Pair r.Expr)

abbrev pub case_first : {g : Fold} (r : Shows g) → Cases r → CoreCase-F CoreLink CoreStat CoreCase CoreExpr
case_first r = map-CoreCase (Pair r.Link) (Pair r.Stat) (Pair r.Case) (Pair r.Expr) CoreLink CoreStat CoreCase CoreExpr (λ p. p.0) (λ p. p.0) (λ p. p.0) (λ p. p.0)

abbrev pub case_second : {g : Fold} (r : Shows g) → Cases r → CoreCase-F g.Link g.Stat g.Case g.Expr
case_second {g} r = map-CoreCase (Pair r.Link) (Pair r.Stat) (Pair r.Case) (Pair r.Expr) g.Link g.Stat g.Case g.Expr (λ p. p.1) (λ p. p.1) (λ p. p.1) (λ p. p.1)

abbrev pub Exprs : {g : Fold} → Shows g → Type 0
Exprs r = CoreExpr-F (Pair r.Link) (Pair r.Stat) (Pair r.Case) (Pair r.Expr)

abbrev pub expr_first : {g : Fold} (r : Shows g) → Exprs r → CoreExpr-F CoreLink CoreStat CoreCase CoreExpr
expr_first r = map-CoreExpr (Pair r.Link) (Pair r.Stat) (Pair r.Case) (Pair r.Expr) CoreLink CoreStat CoreCase CoreExpr (λ p. p.0) (λ p. p.0) (λ p. p.0) (λ p. p.0)

abbrev pub expr_second : {g : Fold} (r : Shows g) → Exprs r → CoreExpr-F g.Link g.Stat g.Case g.Expr
expr_second {g} r = map-CoreExpr (Pair r.Link) (Pair r.Stat) (Pair r.Case) (Pair r.Expr) g.Link g.Stat g.Case g.Expr (λ p. p.1) (λ p. p.1) (λ p. p.1) (λ p. p.1)

-- the steps keep it
pub record Keeps {g : Fold} (r : Shows g) : Type 0 where
  pub link : (z : Links r) → r.Link (roll-CoreLink (link_first r z)) (g.link_step (link_second r z))
  pub stat : (z : Stats r) → r.Stat (roll-CoreStat (stat_first r z)) (g.stat_step (stat_second r z))
  pub case : (z : Cases r) → r.Case (roll-CoreCase (case_first r z)) (g.case_step (case_second r z))
  pub expr : (z : Exprs r) → r.Expr (roll-CoreExpr (expr_first r z)) (g.expr_step (expr_second r z))

abbrev OfLink : {g : Fold} → Shows g → CoreLink → Type 0
OfLink {g} r x = r.Link x (of_link g x)

abbrev link_pair : {g : Fold} (r : Shows g) → With (OfLink r) → Pair r.Link
link_pair {g} r e = (e.0, of_link g e.0, e.1)

abbrev OfStat : {g : Fold} → Shows g → CoreStat → Type 0
OfStat {g} r x = r.Stat x (of_stat g x)

abbrev stat_pair : {g : Fold} (r : Shows g) → With (OfStat r) → Pair r.Stat
stat_pair {g} r e = (e.0, of_stat g e.0, e.1)

abbrev OfCase : {g : Fold} → Shows g → CoreCase → Type 0
OfCase {g} r x = r.Case x (of_case g x)

abbrev case_pair : {g : Fold} (r : Shows g) → With (OfCase r) → Pair r.Case
case_pair {g} r e = (e.0, of_case g e.0, e.1)

abbrev OfExpr : {g : Fold} → Shows g → CoreExpr → Type 0
OfExpr {g} r x = r.Expr x (of_expr g x)

abbrev expr_pair : {g : Fold} (r : Shows g) → With (OfExpr r) → Pair r.Expr
expr_pair {g} r e = (e.0, of_expr g e.0, e.1)

over : {A B : Type 0} (R : A → B → Type 0) {a a2 : A} {b b2 : B} → a ≡ a2 → b ≡ b2 → R a2 b2 → R a b
over R {a} {b2 = b2} p q h = subst (λ y. R a y) (sym q) (subst (λ x. R x b2) (sym p) h)

abbrev ShownLink : {g : Fold} → Shows g → Type 0
ShownLink r = CoreLink-F (With (OfLink r)) (With (OfStat r)) (With (OfCase r)) (With (OfExpr r))

abbrev bare_link : {g : Fold} (r : Shows g) → ShownLink r → CoreLink-F CoreLink CoreStat CoreCase CoreExpr
bare_link r = map-CoreLink (With (OfLink r)) (With (OfStat r)) (With (OfCase r)) (With (OfExpr r)) CoreLink CoreStat CoreCase CoreExpr (λ e. e.0) (λ e. e.0) (λ e. e.0) (λ e. e.0)

abbrev paired_link : {g : Fold} (r : Shows g) → ShownLink r → Links r
paired_link r = map-CoreLink (With (OfLink r)) (With (OfStat r)) (With (OfCase r)) (With (OfExpr r)) (Pair r.Link) (Pair r.Stat) (Pair r.Case) (Pair r.Expr) (link_pair r) (stat_pair r) (case_pair r) (expr_pair r)

abbrev ShownStat : {g : Fold} → Shows g → Type 0
ShownStat r = CoreStat-F (With (OfLink r)) (With (OfStat r)) (With (OfCase r)) (With (OfExpr r))

abbrev bare_stat : {g : Fold} (r : Shows g) → ShownStat r → CoreStat-F CoreLink CoreStat CoreCase CoreExpr
bare_stat r = map-CoreStat (With (OfLink r)) (With (OfStat r)) (With (OfCase r)) (With (OfExpr r)) CoreLink CoreStat CoreCase CoreExpr (λ e. e.0) (λ e. e.0) (λ e. e.0) (λ e. e.0)

abbrev paired_stat : {g : Fold} (r : Shows g) → ShownStat r → Stats r
paired_stat r = map-CoreStat (With (OfLink r)) (With (OfStat r)) (With (OfCase r)) (With (OfExpr r)) (Pair r.Link) (Pair r.Stat) (Pair r.Case) (Pair r.Expr) (link_pair r) (stat_pair r) (case_pair r) (expr_pair r)

abbrev ShownCase : {g : Fold} → Shows g → Type 0
ShownCase r = CoreCase-F (With (OfLink r)) (With (OfStat r)) (With (OfCase r)) (With (OfExpr r))

abbrev bare_case : {g : Fold} (r : Shows g) → ShownCase r → CoreCase-F CoreLink CoreStat CoreCase CoreExpr
bare_case r = map-CoreCase (With (OfLink r)) (With (OfStat r)) (With (OfCase r)) (With (OfExpr r)) CoreLink CoreStat CoreCase CoreExpr (λ e. e.0) (λ e. e.0) (λ e. e.0) (λ e. e.0)

abbrev paired_case : {g : Fold} (r : Shows g) → ShownCase r → Cases r
paired_case r = map-CoreCase (With (OfLink r)) (With (OfStat r)) (With (OfCase r)) (With (OfExpr r)) (Pair r.Link) (Pair r.Stat) (Pair r.Case) (Pair r.Expr) (link_pair r) (stat_pair r) (case_pair r) (expr_pair r)

abbrev ShownExpr : {g : Fold} → Shows g → Type 0
ShownExpr r = CoreExpr-F (With (OfLink r)) (With (OfStat r)) (With (OfCase r)) (With (OfExpr r))

abbrev bare_expr : {g : Fold} (r : Shows g) → ShownExpr r → CoreExpr-F CoreLink CoreStat CoreCase CoreExpr
bare_expr r = map-CoreExpr (With (OfLink r)) (With (OfStat r)) (With (OfCase r)) (With (OfExpr r)) CoreLink CoreStat CoreCase CoreExpr (λ e. e.0) (λ e. e.0) (λ e. e.0) (λ e. e.0)

abbrev paired_expr : {g : Fold} (r : Shows g) → ShownExpr r → Exprs r
paired_expr r = map-CoreExpr (With (OfLink r)) (With (OfStat r)) (With (OfCase r)) (With (OfExpr r)) (Pair r.Link) (Pair r.Stat) (Pair r.Case) (Pair r.Expr) (link_pair r) (stat_pair r) (case_pair r) (expr_pair r)

link_shown : {g : Fold} (r : Shows g) → Keeps r → (y : ShownLink r) → OfLink r (roll-CoreLink (bare_link r y))
link_shown {g} r k y = over r.Link
    (ap (λ z. roll-CoreLink z) (sym (links_twice (link_pair r) (stat_pair r) (case_pair r) (expr_pair r) (λ p. p.0) (λ p. p.0) (λ p. p.0) (λ p. p.0) y)))
    (link_rolled g (bare_link r y) ∙ ap g.link_step (links_twice (λ e. e.0) (λ e. e.0) (λ e. e.0) (λ e. e.0) (of_link g) (of_stat g) (of_case g) (of_expr g) y
    ∙ sym (links_twice (link_pair r) (stat_pair r) (case_pair r) (expr_pair r) (λ p. p.1) (λ p. p.1) (λ p. p.1) (λ p. p.1) y)))
    (k.link (paired_link r y))

stat_shown : {g : Fold} (r : Shows g) → Keeps r → (y : ShownStat r) → OfStat r (roll-CoreStat (bare_stat r y))
stat_shown {g} r k y = over r.Stat
    (ap (λ z. roll-CoreStat z) (sym (stats_twice (link_pair r) (stat_pair r) (case_pair r) (expr_pair r) (λ p. p.0) (λ p. p.0) (λ p. p.0) (λ p. p.0) y)))
    (stat_rolled g (bare_stat r y) ∙ ap g.stat_step (stats_twice (λ e. e.0) (λ e. e.0) (λ e. e.0) (λ e. e.0) (of_link g) (of_stat g) (of_case g) (of_expr g) y
    ∙ sym (stats_twice (link_pair r) (stat_pair r) (case_pair r) (expr_pair r) (λ p. p.1) (λ p. p.1) (λ p. p.1) (λ p. p.1) y)))
    (k.stat (paired_stat r y))

case_shown : {g : Fold} (r : Shows g) → Keeps r → (y : ShownCase r) → OfCase r (roll-CoreCase (bare_case r y))
case_shown {g} r k y = over r.Case
    (ap (λ z. roll-CoreCase z) (sym (cases_twice (link_pair r) (stat_pair r) (case_pair r) (expr_pair r) (λ p. p.0) (λ p. p.0) (λ p. p.0) (λ p. p.0) y)))
    (case_rolled g (bare_case r y) ∙ ap g.case_step (cases_twice (λ e. e.0) (λ e. e.0) (λ e. e.0) (λ e. e.0) (of_link g) (of_stat g) (of_case g) (of_expr g) y
    ∙ sym (cases_twice (link_pair r) (stat_pair r) (case_pair r) (expr_pair r) (λ p. p.1) (λ p. p.1) (λ p. p.1) (λ p. p.1) y)))
    (k.case (paired_case r y))

expr_shown : {g : Fold} (r : Shows g) → Keeps r → (y : ShownExpr r) → OfExpr r (roll-CoreExpr (bare_expr r y))
expr_shown {g} r k y = over r.Expr
    (ap (λ z. roll-CoreExpr z) (sym (exprs_twice (link_pair r) (stat_pair r) (case_pair r) (expr_pair r) (λ p. p.0) (λ p. p.0) (λ p. p.0) (λ p. p.0) y)))
    (expr_rolled g (bare_expr r y) ∙ ap g.expr_step (exprs_twice (λ e. e.0) (λ e. e.0) (λ e. e.0) (λ e. e.0) (of_link g) (of_stat g) (of_case g) (of_expr g) y
    ∙ sym (exprs_twice (link_pair r) (stat_pair r) (case_pair r) (expr_pair r) (λ p. p.1) (λ p. p.1) (λ p. p.1) (λ p. p.1) y)))
    (k.expr (paired_expr r y))

pub stat_induced : {g : Fold} (r : Shows g) → Keeps r → (x : CoreStat) → r.Stat x (of_stat g x)
stat_induced r k = ind-CoreStat (OfLink r) (OfStat r) (OfCase r) (OfExpr r)
    (λ x y is. subst (λ z. OfLink r (roll-CoreLink z)) is (link_shown r k y))
    (λ x y is. subst (λ z. OfStat r (roll-CoreStat z)) is (stat_shown r k y))
    (λ x y is. subst (λ z. OfCase r (roll-CoreCase z)) is (case_shown r k y))
    (λ x y is. subst (λ z. OfExpr r (roll-CoreExpr z)) is (expr_shown r k y))
