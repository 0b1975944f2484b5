-- Two folds over the trees of cores whose steps keep relations between what they give, give what is related.
use Rattle.std.proofs.Common.{◌≡◌, List, [], ◌∷◌, map, Option, None, Some, refl, sym, ap, subst, ◌∙◌}
use Rattle.core_ast.specs.declared.tree.CoreLink.{CoreLink, roll-CoreLink, map-CoreLink, fold-CoreLink, fold-roll-CoreLink, ind-CoreLink}
use Rattle.core_ast.specs.declared.tree.CoreStat.{CoreStat, roll-CoreStat, map-CoreStat, fold-CoreStat, fold-roll-CoreStat, ind-CoreStat}
use Rattle.core_ast.specs.declared.tree.CoreCase.{CoreCase, roll-CoreCase, map-CoreCase, fold-CoreCase, fold-roll-CoreCase}
use Rattle.core_ast.specs.declared.tree.CoreExpr.{CoreExpr, roll-CoreExpr, map-CoreExpr, fold-CoreExpr, fold-roll-CoreExpr, ind-CoreExpr}
use Rattle.core_ast.specs.declared.tree.CoreLink.TheOpen as layer
use Rattle.core_ast.specs.declared.tree.CoreLink.TheOpen.{CoreLink-F, CoreStat-F, CoreCase-F, CoreExpr-F}

abbrev pub With : {A : Type 0} → (A → Type 0) → Type 0
With {A} P = (x : A) × P x

-- what two folds give, with what relates it
abbrev pub Pair : {A B : Type 0} → (A → B → Type 0) → Type 0
Pair {A} {B} R = (a : A) × (b : B) × R a b

-- ## Layers: a map after a map

lists : {A B C : Type 0} (f : A → B) (g : B → C) (xs : List A) → map g (map f xs) ≡ map (λ x. g (f x)) xs
lists f g [] = refl
lists f g (x ∷ xs) = ap (λ ys. g (f x) ∷ ys) (lists f g xs)

two : {A B C : Type 0} (f : A → B → C) {a a2 : A} {b b2 : B} → a ≡ a2 → b ≡ b2 → f a b ≡ f a2 b2
two f {a2 = a2} {b = b} p q = ap (λ x. f x b) p ∙ ap (λ y. f a2 y) q

pub links_twice : {A B C D A' B' C' D' A'' B'' C'' D'' : Type 0} (a : A → A') (b : B → B') (c : C → C') (d : D → D') (a2 : A' → A'') (b2 : B' → B'') (c2 : C' → C'') (d2 : D' → D'') (y : CoreLink-F A B C D)
    → map-CoreLink A' B' C' D' A'' B'' C'' D'' a2 b2 c2 d2 (map-CoreLink A B C D A' B' C' D' a b c d y)
    ≡ map-CoreLink A B C D A'' B'' C'' D'' (λ x. a2 (a x)) (λ x. b2 (b x)) (λ x. c2 (c x)) (λ x. d2 (d x)) y
links_twice a b c d a2 b2 c2 d2 (layer.Strict o parts site) = ap (λ ps. layer.Strict o ps site) (lists d d2 parts)
links_twice a b c d a2 b2 c2 d2 (layer.Lazy w taken None) = refl
links_twice a b c d a2 b2 c2 d2 (layer.Lazy w taken (Some other)) = refl
links_twice a b c d a2 b2 c2 d2 (layer.Run body) = ap (λ ss. layer.Run ss) (lists b b2 body)

pub stats_twice : {A B C D A' B' C' D' A'' B'' C'' D'' : Type 0} (a : A → A') (b : B → B') (c : C → C') (d : D → D') (a2 : A' → A'') (b2 : B' → B'') (c2 : C' → C'') (d2 : D' → D'') (y : CoreStat-F A B C D)
    → map-CoreStat A' B' C' D' A'' B'' C'' D'' a2 b2 c2 d2 (map-CoreStat A B C D A' B' C' D' a b c d y)
    ≡ map-CoreStat A B C D A'' B'' C'' D'' (λ x. a2 (a x)) (λ x. b2 (b x)) (λ x. c2 (c x)) (λ x. d2 (d x)) y
stats_twice a b c d a2 b2 c2 d2 (layer.Do x) = refl
stats_twice a b c d a2 b2 c2 d2 (layer.If cases) = ap (λ cs. layer.If cs) (lists c c2 cases)
stats_twice a b c d a2 b2 c2 d2 (layer.Switch subject cases) = ap (λ cs. layer.Switch (d2 (d subject)) cs) (lists c c2 cases)
stats_twice a b c d a2 b2 c2 d2 (layer.Loop labels None None body) = ap (λ ss. layer.Loop labels None None ss) (lists b b2 body)
stats_twice a b c d a2 b2 c2 d2 (layer.Loop labels None (Some u) body) = ap (λ ss. layer.Loop labels None (Some (d2 (d u))) ss) (lists b b2 body)
stats_twice a b c d a2 b2 c2 d2 (layer.Loop labels (Some t) None body) = ap (λ ss. layer.Loop labels (Some (d2 (d t))) None ss) (lists b b2 body)
stats_twice a b c d a2 b2 c2 d2 (layer.Loop labels (Some t) (Some u) body) = ap (λ ss. layer.Loop labels (Some (d2 (d t))) (Some (d2 (d u))) ss) (lists b b2 body)
stats_twice a b c d a2 b2 c2 d2 (layer.Labelled l body) = ap (λ ss. layer.Labelled l ss) (lists b b2 body)
stats_twice a b c d a2 b2 c2 d2 (layer.Jump goes_on l) = refl
stats_twice a b c d a2 b2 c2 d2 (layer.Return x) = refl
stats_twice a b c d a2 b2 c2 d2 (layer.Throw x) = refl
stats_twice a b c d a2 b2 c2 d2 (layer.TryCatch block parameter names handler) =
    two (λ ss ts. layer.TryCatch ss parameter names ts) (lists b b2 block) (lists b b2 handler)
stats_twice a b c d a2 b2 c2 d2 (layer.TryFinally block last) =
    two (λ ss ts. layer.TryFinally ss ts) (lists b b2 block) (lists b b2 last)
stats_twice a b c d a2 b2 c2 d2 (layer.Scoped names body) = ap (λ ss. layer.Scoped names ss) (lists b b2 body)
stats_twice a b c d a2 b2 c2 d2 (layer.Yield value kind result) = refl

case_twice : {A B C D A' B' C' D' A'' B'' C'' D'' : Type 0} (a : A → A') (b : B → B') (c : C → C') (d : D → D') (a2 : A' → A'') (b2 : B' → B'') (c2 : C' → C'') (d2 : D' → D'') (test : Option D) (body : List B)
    → map-CoreCase A' B' C' D' A'' B'' C'' D'' a2 b2 c2 d2 (map-CoreCase A B C D A' B' C' D' a b c d (record { test = test; body = body }))
    ≡ map-CoreCase A B C D A'' B'' C'' D'' (λ x. a2 (a x)) (λ x. b2 (b x)) (λ x. c2 (c x)) (λ x. d2 (d x)) (record { test = test; body = body })
case_twice a b c d a2 b2 c2 d2 None body = ap (λ ss. record { test = None; body = ss }) (lists b b2 body)
case_twice a b c d a2 b2 c2 d2 (Some t) body = ap (λ ss. record { test = Some (d2 (d t)); body = ss }) (lists b b2 body)

pub cases_twice : {A B C D A' B' C' D' A'' B'' C'' D'' : Type 0} (a : A → A') (b : B → B') (c : C → C') (d : D → D') (a2 : A' → A'') (b2 : B' → B'') (c2 : C' → C'') (d2 : D' → D'') (y : CoreCase-F A B C D)
    → map-CoreCase A' B' C' D' A'' B'' C'' D'' a2 b2 c2 d2 (map-CoreCase A B C D A' B' C' D' a b c d y)
    ≡ map-CoreCase A B C D A'' B'' C'' D'' (λ x. a2 (a x)) (λ x. b2 (b x)) (λ x. c2 (c x)) (λ x. d2 (d x)) y
cases_twice a b c d a2 b2 c2 d2 y = case_twice a b c d a2 b2 c2 d2 y.test y.body

pub exprs_twice : {A B C D A' B' C' D' A'' B'' C'' D'' : Type 0} (a : A → A') (b : B → B') (c : C → C') (d : D → D') (a2 : A' → A'') (b2 : B' → B'') (c2 : C' → C'') (d2 : D' → D'') (y : CoreExpr-F A B C D)
    → map-CoreExpr A' B' C' D' A'' B'' C'' D'' a2 b2 c2 d2 (map-CoreExpr A B C D A' B' C' D' a b c d y)
    ≡ map-CoreExpr A B C D A'' B'' C'' D'' (λ x. a2 (a x)) (λ x. b2 (b x)) (λ x. c2 (c x)) (λ x. d2 (d x)) y
exprs_twice a b c d a2 b2 c2 d2 y = ap (λ ls. record { site = y.site; head = y.head; links = ls }) (lists a a2 y.links)

-- ## Folds by what they give of a link, a statement, a case and an expression

pub record Fold : Type 1 where
  pub Link : Type 0
  pub Stat : Type 0
  pub Case : Type 0
  pub Expr : Type 0
  pub link_step : CoreLink-F Link Stat Case Expr → Link
  pub stat_step : CoreStat-F Link Stat Case Expr → Stat
  pub case_step : CoreCase-F Link Stat Case Expr → Case
  pub expr_step : CoreExpr-F Link Stat Case Expr → Expr

abbrev pub of_link : (f : Fold) → CoreLink → f.Link
of_link f = fold-CoreLink f.Link f.Stat f.Case f.Expr f.link_step f.stat_step f.case_step f.expr_step

abbrev pub of_stat : (f : Fold) → CoreStat → f.Stat
of_stat f = fold-CoreStat f.Link f.Stat f.Case f.Expr f.link_step f.stat_step f.case_step f.expr_step

abbrev pub of_case : (f : Fold) → CoreCase → f.Case
of_case f = fold-CoreCase f.Link f.Stat f.Case f.Expr f.link_step f.stat_step f.case_step f.expr_step

abbrev pub of_expr : (f : Fold) → CoreExpr → f.Expr
of_expr f = fold-CoreExpr f.Link f.Stat f.Case f.Expr f.link_step f.stat_step f.case_step f.expr_step

abbrev pub in_link : (f : Fold) → CoreLink-F CoreLink CoreStat CoreCase CoreExpr → CoreLink-F f.Link f.Stat f.Case f.Expr
in_link f = map-CoreLink CoreLink CoreStat CoreCase CoreExpr f.Link f.Stat f.Case f.Expr (of_link f) (of_stat f) (of_case f) (of_expr f)

abbrev pub in_stat : (f : Fold) → CoreStat-F CoreLink CoreStat CoreCase CoreExpr → CoreStat-F f.Link f.Stat f.Case f.Expr
in_stat f = map-CoreStat CoreLink CoreStat CoreCase CoreExpr f.Link f.Stat f.Case f.Expr (of_link f) (of_stat f) (of_case f) (of_expr f)

abbrev pub in_case : (f : Fold) → CoreCase-F CoreLink CoreStat CoreCase CoreExpr → CoreCase-F f.Link f.Stat f.Case f.Expr
in_case f = map-CoreCase CoreLink CoreStat CoreCase CoreExpr f.Link f.Stat f.Case f.Expr (of_link f) (of_stat f) (of_case f) (of_expr f)

abbrev pub in_expr : (f : Fold) → CoreExpr-F CoreLink CoreStat CoreCase CoreExpr → CoreExpr-F f.Link f.Stat f.Case f.Expr
in_expr f = map-CoreExpr CoreLink CoreStat CoreCase CoreExpr f.Link f.Stat f.Case f.Expr (of_link f) (of_stat f) (of_case f) (of_expr f)

-- what a fold gives of a node is the step's of its layer
pub link_rolled : (f : Fold) (y : CoreLink-F CoreLink CoreStat CoreCase CoreExpr) → of_link f (roll-CoreLink y) ≡ f.link_step (in_link f y)
link_rolled f = fold-roll-CoreLink f.Link f.Stat f.Case f.Expr f.link_step f.stat_step f.case_step f.expr_step

pub stat_rolled : (f : Fold) (y : CoreStat-F CoreLink CoreStat CoreCase CoreExpr) → of_stat f (roll-CoreStat y) ≡ f.stat_step (in_stat f y)
stat_rolled f = fold-roll-CoreStat f.Link f.Stat f.Case f.Expr f.link_step f.stat_step f.case_step f.expr_step

pub case_rolled : (f : Fold) (y : CoreCase-F CoreLink CoreStat CoreCase CoreExpr) → of_case f (roll-CoreCase y) ≡ f.case_step (in_case f y)
case_rolled f = fold-roll-CoreCase f.Link f.Stat f.Case f.Expr f.link_step f.stat_step f.case_step f.expr_step

pub expr_rolled : (f : Fold) (y : CoreExpr-F CoreLink CoreStat CoreCase CoreExpr) → of_expr f (roll-CoreExpr y) ≡ f.expr_step (in_expr f y)
expr_rolled f = fold-roll-CoreExpr f.Link f.Stat f.Case f.Expr f.link_step f.stat_step f.case_step f.expr_step

-- ## Relations between what two folds give

pub record Relates (f g : Fold) : Type 1 where
  pub Link : f.Link → g.Link → Type 0
  pub Stat : f.Stat → g.Stat → Type 0
  pub Case : f.Case → g.Case → Type 0
  pub Expr : f.Expr → g.Expr → Type 0

abbrev pub Links : {f g : Fold} → Relates f g → Type 0
Links r = CoreLink-F (Pair r.Link) (Pair r.Stat) (Pair r.Case) (Pair r.Expr)

abbrev pub Stats : {f g : Fold} → Relates f g → Type 0
Stats r = CoreStat-F (Pair r.Link) (Pair r.Stat) (Pair r.Case) (Pair r.Expr)

abbrev pub Cases : {f g : Fold} → Relates f g → Type 0
Cases r = CoreCase-F (Pair r.Link) (Pair r.Stat) (Pair r.Case) (Pair r.Expr)

abbrev pub Exprs : {f g : Fold} → Relates f g → Type 0
Exprs r = CoreExpr-F (Pair r.Link) (Pair r.Stat) (Pair r.Case) (Pair r.Expr)

abbrev pub link_first : {f g : Fold} (r : Relates f g) → Links r → CoreLink-F f.Link f.Stat f.Case f.Expr
link_first {f} r = map-CoreLink (Pair r.Link) (Pair r.Stat) (Pair r.Case) (Pair r.Expr) f.Link f.Stat f.Case f.Expr (λ p. p.0) (λ p. p.0) (λ p. p.0) (λ p. p.0)

abbrev pub link_second : {f g : Fold} (r : Relates f g) → Links r → CoreLink-F g.Link g.Stat g.Case g.Expr
link_second {g = g} r = map-CoreLink (Pair r.Link) (Pair r.Stat) (Pair r.Case) (Pair r.Expr) g.Link g.Stat g.Case g.Expr (λ p. p.1) (λ p. p.1) (λ p. p.1) (λ p. p.1)

abbrev pub stat_first : {f g : Fold} (r : Relates f g) → Stats r → CoreStat-F f.Link f.Stat f.Case f.Expr
stat_first {f} r = map-CoreStat (Pair r.Link) (Pair r.Stat) (Pair r.Case) (Pair r.Expr) f.Link f.Stat f.Case f.Expr (λ p. p.0) (λ p. p.0) (λ p. p.0) (λ p. p.0)

abbrev pub stat_second : {f g : Fold} (r : Relates f g) → Stats r → CoreStat-F g.Link g.Stat g.Case g.Expr
stat_second {g = g} r = map-CoreStat (Pair r.Link) (Pair r.Stat) (Pair r.Case) (Pair r.Expr) g.Link g.Stat g.Case g.Expr (λ p. p.1) (λ p. p.1) (λ p. p.1) (λ p. p.1)

abbrev pub case_first : {f g : Fold} (r : Relates f g) → Cases r → CoreCase-F f.Link f.Stat f.Case f.Expr
case_first {f} r = map-CoreCase (Pair r.Link) (Pair r.Stat) (Pair r.Case) (Pair r.Expr) f.Link f.Stat f.Case f.Expr (λ p. p.0) (λ p. p.0) (λ p. p.0) (λ p. p.0)

abbrev pub case_second : {f g : Fold} (r : Relates f g) → Cases r → CoreCase-F g.Link g.Stat g.Case g.Expr
case_second {g = g} r = map-CoreCase (Pair r.Link) (Pair r.Stat) (Pair r.Case) (Pair r.Expr) g.Link g.Stat g.Case g.Expr (λ p. p.1) (λ p. p.1) (λ p. p.1) (λ p. p.1)

abbrev pub expr_first : {f g : Fold} (r : Relates f g) → Exprs r → CoreExpr-F f.Link f.Stat f.Case f.Expr
expr_first {f} r = map-CoreExpr (Pair r.Link) (Pair r.Stat) (Pair r.Case) (Pair r.Expr) f.Link f.Stat f.Case f.Expr (λ p. p.0) (λ p. p.0) (λ p. p.0) (λ p. p.0)

abbrev pub expr_second : {f g : Fold} (r : Relates f g) → Exprs r → CoreExpr-F g.Link g.Stat g.Case g.Expr
expr_second {g = g} r = map-CoreExpr (Pair r.Link) (Pair r.Stat) (Pair r.Case) (Pair r.Expr) g.Link g.Stat g.Case g.Expr (λ p. p.1) (λ p. p.1) (λ p. p.1) (λ p. p.1)

-- the steps keep the relations
pub record Keeps {f g : Fold} (r : Relates f g) : Type 0 where
  pub link : (z : Links r) → r.Link (f.link_step (link_first r z)) (g.link_step (link_second r z))
  pub stat : (z : Stats r) → r.Stat (f.stat_step (stat_first r z)) (g.stat_step (stat_second r z))
  pub case : (z : Cases r) → r.Case (f.case_step (case_first r z)) (g.case_step (case_second r z))
  pub expr : (z : Exprs r) → r.Expr (f.expr_step (expr_first r z)) (g.expr_step (expr_second r z))

-- ## So the folds give what is related

abbrev OfLink : {f g : Fold} → Relates f g → CoreLink → Type 0
OfLink {f} {g} r x = r.Link (of_link f x) (of_link g x)

abbrev OfStat : {f g : Fold} → Relates f g → CoreStat → Type 0
OfStat {f} {g} r x = r.Stat (of_stat f x) (of_stat g x)

abbrev OfCase : {f g : Fold} → Relates f g → CoreCase → Type 0
OfCase {f} {g} r x = r.Case (of_case f x) (of_case g x)

abbrev OfExpr : {f g : Fold} → Relates f g → CoreExpr → Type 0
OfExpr {f} {g} r x = r.Expr (of_expr f x) (of_expr g x)

abbrev link_pair : {f g : Fold} (r : Relates f g) → With (OfLink r) → Pair r.Link
link_pair {f} {g} r e = (of_link f e.0, of_link g e.0, e.1)

abbrev stat_pair : {f g : Fold} (r : Relates f g) → With (OfStat r) → Pair r.Stat
stat_pair {f} {g} r e = (of_stat f e.0, of_stat g e.0, e.1)

abbrev case_pair : {f g : Fold} (r : Relates f g) → With (OfCase r) → Pair r.Case
case_pair {f} {g} r e = (of_case f e.0, of_case g e.0, e.1)

abbrev expr_pair : {f g : Fold} (r : Relates f g) → With (OfExpr r) → Pair r.Expr
expr_pair {f} {g} r e = (of_expr f e.0, of_expr g e.0, e.1)

-- a relation of what is equal to related things
over : {A B : Type 0} (R : A → B → Type 0) {a a2 : A} {b b2 : B} → a ≡ a2 → b ≡ b2 → R a2 b2 → R a b
over R {a} {b2 = b2} p q h = subst (λ y. R a y) (sym q) (subst (λ x. R x b2) (sym p) h)

abbrev ShownLink : {f g : Fold} → Relates f g → Type 0
ShownLink r = CoreLink-F (With (OfLink r)) (With (OfStat r)) (With (OfCase r)) (With (OfExpr r))

abbrev ShownStat : {f g : Fold} → Relates f g → Type 0
ShownStat r = CoreStat-F (With (OfLink r)) (With (OfStat r)) (With (OfCase r)) (With (OfExpr r))

abbrev ShownCase : {f g : Fold} → Relates f g → Type 0
ShownCase r = CoreCase-F (With (OfLink r)) (With (OfStat r)) (With (OfCase r)) (With (OfExpr r))

abbrev ShownExpr : {f g : Fold} → Relates f g → Type 0
ShownExpr r = CoreExpr-F (With (OfLink r)) (With (OfStat r)) (With (OfCase r)) (With (OfExpr r))

abbrev bare_link : {f g : Fold} (r : Relates f g) → ShownLink r → CoreLink-F CoreLink CoreStat CoreCase CoreExpr
bare_link r = map-CoreLink (With (OfLink r)) (With (OfStat r)) (With (OfCase r)) (With (OfExpr r)) CoreLink CoreStat CoreCase CoreExpr (λ e. e.0) (λ e. e.0) (λ e. e.0) (λ e. e.0)

abbrev bare_stat : {f g : Fold} (r : Relates f g) → ShownStat r → CoreStat-F CoreLink CoreStat CoreCase CoreExpr
bare_stat r = map-CoreStat (With (OfLink r)) (With (OfStat r)) (With (OfCase r)) (With (OfExpr r)) CoreLink CoreStat CoreCase CoreExpr (λ e. e.0) (λ e. e.0) (λ e. e.0) (λ e. e.0)

abbrev bare_case : {f g : Fold} (r : Relates f g) → ShownCase r → CoreCase-F CoreLink CoreStat CoreCase CoreExpr
bare_case r = map-CoreCase (With (OfLink r)) (With (OfStat r)) (With (OfCase r)) (With (OfExpr r)) CoreLink CoreStat CoreCase CoreExpr (λ e. e.0) (λ e. e.0) (λ e. e.0) (λ e. e.0)

abbrev bare_expr : {f g : Fold} (r : Relates f g) → ShownExpr r → CoreExpr-F CoreLink CoreStat CoreCase CoreExpr
bare_expr r = map-CoreExpr (With (OfLink r)) (With (OfStat r)) (With (OfCase r)) (With (OfExpr r)) CoreLink CoreStat CoreCase CoreExpr (λ e. e.0) (λ e. e.0) (λ e. e.0) (λ e. e.0)

abbrev paired_link : {f g : Fold} (r : Relates f g) → ShownLink r → Links r
paired_link r = map-CoreLink (With (OfLink r)) (With (OfStat r)) (With (OfCase r)) (With (OfExpr r)) (Pair r.Link) (Pair r.Stat) (Pair r.Case) (Pair r.Expr) (link_pair r) (stat_pair r) (case_pair r) (expr_pair r)

abbrev paired_stat : {f g : Fold} (r : Relates f g) → ShownStat r → Stats r
paired_stat r = map-CoreStat (With (OfLink r)) (With (OfStat r)) (With (OfCase r)) (With (OfExpr r)) (Pair r.Link) (Pair r.Stat) (Pair r.Case) (Pair r.Expr) (link_pair r) (stat_pair r) (case_pair r) (expr_pair r)

abbrev paired_case : {f g : Fold} (r : Relates f g) → ShownCase r → Cases r
paired_case r = map-CoreCase (With (OfLink r)) (With (OfStat r)) (With (OfCase r)) (With (OfExpr r)) (Pair r.Link) (Pair r.Stat) (Pair r.Case) (Pair r.Expr) (link_pair r) (stat_pair r) (case_pair r) (expr_pair r)

abbrev paired_expr : {f g : Fold} (r : Relates f g) → ShownExpr r → Exprs r
paired_expr r = map-CoreExpr (With (OfLink r)) (With (OfStat r)) (With (OfCase r)) (With (OfExpr r)) (Pair r.Link) (Pair r.Stat) (Pair r.Case) (Pair r.Expr) (link_pair r) (stat_pair r) (case_pair r) (expr_pair r)

link_shown : {f g : Fold} (r : Relates f g) → Keeps r → (y : ShownLink r) → OfLink r (roll-CoreLink (bare_link r y))
link_shown {f} {g} r k y = over r.Link
    (link_rolled f (bare_link r y) ∙ ap f.link_step (links_twice (λ e. e.0) (λ e. e.0) (λ e. e.0) (λ e. e.0) (of_link f) (of_stat f) (of_case f) (of_expr f) y
    ∙ sym (links_twice (link_pair r) (stat_pair r) (case_pair r) (expr_pair r) (λ p. p.0) (λ p. p.0) (λ p. p.0) (λ p. p.0) y)))
    (link_rolled g (bare_link r y) ∙ ap g.link_step (links_twice (λ e. e.0) (λ e. e.0) (λ e. e.0) (λ e. e.0) (of_link g) (of_stat g) (of_case g) (of_expr g) y
    ∙ sym (links_twice (link_pair r) (stat_pair r) (case_pair r) (expr_pair r) (λ p. p.1) (λ p. p.1) (λ p. p.1) (λ p. p.1) y)))
    (k.link (paired_link r y))

stat_shown : {f g : Fold} (r : Relates f g) → Keeps r → (y : ShownStat r) → OfStat r (roll-CoreStat (bare_stat r y))
stat_shown {f} {g} r k y = over r.Stat
    (stat_rolled f (bare_stat r y) ∙ ap f.stat_step (stats_twice (λ e. e.0) (λ e. e.0) (λ e. e.0) (λ e. e.0) (of_link f) (of_stat f) (of_case f) (of_expr f) y
    ∙ sym (stats_twice (link_pair r) (stat_pair r) (case_pair r) (expr_pair r) (λ p. p.0) (λ p. p.0) (λ p. p.0) (λ p. p.0) y)))
    (stat_rolled g (bare_stat r y) ∙ ap g.stat_step (stats_twice (λ e. e.0) (λ e. e.0) (λ e. e.0) (λ e. e.0) (of_link g) (of_stat g) (of_case g) (of_expr g) y
    ∙ sym (stats_twice (link_pair r) (stat_pair r) (case_pair r) (expr_pair r) (λ p. p.1) (λ p. p.1) (λ p. p.1) (λ p. p.1) y)))
    (k.stat (paired_stat r y))

case_shown : {f g : Fold} (r : Relates f g) → Keeps r → (y : ShownCase r) → OfCase r (roll-CoreCase (bare_case r y))
case_shown {f} {g} r k y = over r.Case
    (case_rolled f (bare_case r y) ∙ ap f.case_step (cases_twice (λ e. e.0) (λ e. e.0) (λ e. e.0) (λ e. e.0) (of_link f) (of_stat f) (of_case f) (of_expr f) y
    ∙ sym (cases_twice (link_pair r) (stat_pair r) (case_pair r) (expr_pair r) (λ p. p.0) (λ p. p.0) (λ p. p.0) (λ p. p.0) y)))
    (case_rolled g (bare_case r y) ∙ ap g.case_step (cases_twice (λ e. e.0) (λ e. e.0) (λ e. e.0) (λ e. e.0) (of_link g) (of_stat g) (of_case g) (of_expr g) y
    ∙ sym (cases_twice (link_pair r) (stat_pair r) (case_pair r) (expr_pair r) (λ p. p.1) (λ p. p.1) (λ p. p.1) (λ p. p.1) y)))
    (k.case (paired_case r y))

expr_shown : {f g : Fold} (r : Relates f g) → Keeps r → (y : ShownExpr r) → OfExpr r (roll-CoreExpr (bare_expr r y))
expr_shown {f} {g} r k y = over r.Expr
    (expr_rolled f (bare_expr r y) ∙ ap f.expr_step (exprs_twice (λ e. e.0) (λ e. e.0) (λ e. e.0) (λ e. e.0) (of_link f) (of_stat f) (of_case f) (of_expr f) y
    ∙ sym (exprs_twice (link_pair r) (stat_pair r) (case_pair r) (expr_pair r) (λ p. p.0) (λ p. p.0) (λ p. p.0) (λ p. p.0) y)))
    (expr_rolled g (bare_expr r y) ∙ ap g.expr_step (exprs_twice (λ e. e.0) (λ e. e.0) (λ e. e.0) (λ e. e.0) (of_link g) (of_stat g) (of_case g) (of_expr g) y
    ∙ sym (exprs_twice (link_pair r) (stat_pair r) (case_pair r) (expr_pair r) (λ p. p.1) (λ p. p.1) (λ p. p.1) (λ p. p.1) y)))
    (k.expr (paired_expr r y))

pub expr_related : {f g : Fold} (r : Relates f g) → Keeps r → (x : CoreExpr) → r.Expr (of_expr f x) (of_expr g x)
expr_related r k = ind-CoreExpr (OfLink r) (OfStat r) (OfCase r) (OfExpr r)
    (λ x y is. subst (λ z. OfLink r (roll-CoreLink z)) is (link_shown r k y))
    (λ x y is. subst (λ z. OfStat r (roll-CoreStat z)) is (stat_shown r k y))
    (λ x y is. subst (λ z. OfCase r (roll-CoreCase z)) is (case_shown r k y))
    (λ x y is. subst (λ z. OfExpr r (roll-CoreExpr z)) is (expr_shown r k y))

pub link_related : {f g : Fold} (r : Relates f g) → Keeps r → (x : CoreLink) → r.Link (of_link f x) (of_link g x)
link_related r k = ind-CoreLink (OfLink r) (OfStat r) (OfCase r) (OfExpr r)
    (λ x y is. subst (λ z. OfLink r (roll-CoreLink z)) is (link_shown r k y))
    (λ x y is. subst (λ z. OfStat r (roll-CoreStat z)) is (stat_shown r k y))
    (λ x y is. subst (λ z. OfCase r (roll-CoreCase z)) is (case_shown r k y))
    (λ x y is. subst (λ z. OfExpr r (roll-CoreExpr z)) is (expr_shown r k y))

pub stat_related : {f g : Fold} (r : Relates f g) → Keeps r → (x : CoreStat) → r.Stat (of_stat f x) (of_stat g x)
stat_related r k = ind-CoreStat (OfLink r) (OfStat r) (OfCase r) (OfExpr r)
    (λ x y is. subst (λ z. OfLink r (roll-CoreLink z)) is (link_shown r k y))
    (λ x y is. subst (λ z. OfStat r (roll-CoreStat z)) is (stat_shown r k y))
    (λ x y is. subst (λ z. OfCase r (roll-CoreCase z)) is (case_shown r k y))
    (λ x y is. subst (λ z. OfExpr r (roll-CoreExpr z)) is (expr_shown r k y))
