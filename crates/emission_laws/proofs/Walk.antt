-- What is emitted of lawful nodes that may be written.
use Rattle.std.specs.List.{filter_map}
use Rattle.std.proofs.Common.{◌≡◌, ℕ, ◌+◌, ◌≤◌, Bool, true, ◌&&◌, ◌||◌, not, nat_eq, List, [], ◌∷◌, ◌++◌, map, length, Option, None, Some, is_some, refl, sym, ap, arith, subst, ◌∙◌}
use Rattle.std.proofs.lemmas.Bool.{leb-true, ltb-true}
use Rattle.es_outside.specs.declared.events.Site.{Site}
use Rattle.core_ast.specs.declared.parts.Label.{Label}
use Rattle.core_ast.specs.declared.tree.CoreLink.{CoreLink, roll-CoreLink}
use Rattle.core_ast.specs.declared.tree.CoreStat.{CoreStat, roll-CoreStat}
use Rattle.core_ast.specs.declared.tree.CoreCase.{CoreCase, roll-CoreCase}
use Rattle.core_ast.specs.declared.tree.CoreExpr.{CoreExpr, roll-CoreExpr}
use Rattle.core_ast.specs.declared.tree.CoreLink.TheOpen as layer
use Rattle.core_ast.specs.Lawful as lawful
use Rattle.core_ast.specs.Lawful.{Round, Joint}
use Rattle.es5_ast.specs.declared.tree.Expr5.{Expr5}
use Rattle.es5_ast.specs.declared.tree.Stat5.{Stat5}
use Rattle.es5_ast.specs.declared.tree.Stat5.TheVariants as stat5
use Rattle.es5_ast.specs.declared.tree.Case5.{Case5, out-Case5, out-roll-Case5}
use Rattle.es5_printable.specs.Printable.{case_fit}
use Rattle.emission_rules.specs.declared.scene.Current.{Current}
use Rattle.emission_rules.specs.declared.scene.Scene.{Scene}
use Rattle.emission_rules.specs.Emission as m
use Rattle.emission_rules.specs.Emission.{Goes}
use Rattle.emission_rules.specs.Nodes as n
use Rattle.emission_rules.specs.Nodes.{nowhere}
use Rattle.emission_rules.specs.Scenes.{Emits, Made, in_turn, threaded}
use Rattle.emission_laws.specs.Writable as w
use Rattle.emission_laws.specs.Writable.{Piece, Choice}
use Rattle.pass_rules.proofs.pass_laws.Related.{Fold, Pair, of_link, of_stat, of_case, of_expr, in_link, in_stat, in_case, in_expr, link_rolled, stat_rolled, case_rolled, expr_rolled}
use Rattle.pass_rules.proofs.pass_laws.Induced.{Shows, Keeps, Links, Stats, Cases, Exprs, link_first, link_second, stat_first, stat_second, case_first, case_second, expr_first, expr_second, stat_induced}
use Rattle.pass_rules.proofs.pass_laws.Starts.{laws}
use Rattle.pass_rules.proofs.pass_laws.Within as b
use Rattle.pass_rules.proofs.pass_laws.Within.{both}
use Rattle.emission_laws.proofs.Good.{Good, Goods, goods_more, site_count}
use Rattle.emission_laws.proofs.Ready.{Ready, Done, Far, head_done, option_good}
use Rattle.emission_laws.proofs.Acts.{op_done, lazy_far, kept_far, more_sites}
use Rattle.emission_laws.proofs.Texts.{or_second, or_map}
use Rattle.emission_laws.proofs.Stats.{StatIn, StatsIn, Tidy, CaseIn, CasesIn, OneDefault, no_stats, then_in, expression_in, return_in, throw_in, labelled_in, looped_in, jumped_in, case_in, cases_one, chosen_in, switch_in, default_is, caught_in, finished_in}

abbrev pub emits : Fold
emits = record { Link = Goes Current; Stat = Goes (List Stat5); Case = Emits Case5; Expr = Emits Expr5; link_step = m.link_step; stat_step = m.stat_step; case_step = m.case_step; expr_step = m.expr_step }

abbrev pub writes : Fold
writes = record { Link = Piece; Stat = Bool; Case = Choice; Expr = Bool; link_step = w.link_step; stat_step = w.stat_step; case_step = w.case_step; expr_step = w.expr_step }

-- ## What is shown of each node

record GoodMade (round : Round) (made : Made Expr5) : Type 0 where
  good : Good made.value
  ready : Ready round.names round.hosts made.scene

pub record StatsMade (round : Round) (made : Made (List Stat5)) : Type 0 where
  pub stats : StatsIn round made.value
  pub ready : Ready round.names round.hosts made.scene

record CaseMade (round : Round) (is_default : Bool) (made : Made Case5) : Type 0 where
  case : CaseIn round made.value
  default : not (is_some (out-Case5 made.value).test) ≡ is_default
  ready : Ready round.names round.hosts made.scene

abbrev OfLink : CoreLink → Goes Current → Type 0
OfLink y f = (round : Round) (at : lawful.Current) (i : ℕ) (ks : List (List ℕ)) → Tidy round → lawful.behind at (of_link laws y).ends ≡ true → (of_link laws y).lawful round ≡ true
    → (of_link writes y).fits ≡ true → w.is_new ks (of_link writes y).key ≡ true → i + site_count (of_link laws y).site ≤ 1 → (c : Current) (s : Scene) → Ready round.names round.hosts s → Far at i ks c.value
    → Done round.names round.hosts (lawful.after (of_link laws y).ends) (i + site_count (of_link laws y).site) (w.with_key ks (of_link writes y).key) (f c s)

abbrev OfStat : CoreStat → Goes (List Stat5) → Type 0
OfStat y f = (round : Round) → Tidy round → of_stat laws y round ≡ true → of_stat writes y ≡ true → (xs : List Stat5) (s : Scene) → Ready round.names round.hosts s → StatsIn round xs → StatsMade round (f xs s)

abbrev OfCase : CoreCase → Emits Case5 → Type 0
OfCase y f = (round : Round) → Tidy round → of_case laws y round ≡ true → (of_case writes y).fits ≡ true → (s : Scene) → Ready round.names round.hosts s → CaseMade round (of_case writes y).is_default (f s)

abbrev OfExpr : CoreExpr → Emits Expr5 → Type 0
OfExpr y f = (round : Round) → Tidy round → of_expr laws y round ≡ true → of_expr writes y ≡ true → (s : Scene) → Ready round.names round.hosts s → GoodMade round (f s)

abbrev shown : Shows emits
shown = record { Link = OfLink; Stat = OfStat; Case = OfCase; Expr = OfExpr }

-- ## Lists

stats_walk : (ps : List (Pair OfStat)) (round : Round) → Tidy round → lawful.all_lawful (map (of_stat laws) (map (λ p. p.0) ps)) round ≡ true → w.every (map (of_stat writes) (map (λ p. p.0) ps)) ≡ true
    → (xs : List Stat5) (s : Scene) → Ready round.names round.hosts s → StatsIn round xs → StatsMade round (threaded (map (λ p. p.1) ps) xs s)
stats_walk [] round t h u xs s r k = record { stats = k; ready = r }
stats_walk (p ∷ ps) round t h u xs s r k =
    let d = p.2 round t (b.left _ _ h) (b.left _ _ u) xs s r k in
    stats_walk ps round t (b.right _ _ h) (b.right _ _ u) _ _ d.ready d.stats

record GoodsMade (round : Round) (made : Made (List Expr5)) : Type 0 where
  good : Goods made.value
  ready : Ready round.names round.hosts made.scene

parts_walk : (ps : List (Pair OfExpr)) (round : Round) → Tidy round → lawful.all_lawful (map (of_expr laws) (map (λ p. p.0) ps)) round ≡ true → w.every (map (of_expr writes) (map (λ p. p.0) ps)) ≡ true
    → (ys : List Expr5) (s : Scene) → Ready round.names round.hosts s → Goods ys → GoodsMade round (in_turn (map (λ p. p.1) ps) ys s)
parts_walk [] round t h u ys s r k = record { good = k; ready = r }
parts_walk (p ∷ ps) round t h u ys s r k =
    let d = p.2 round t (b.left _ _ h) (b.left _ _ u) s r in
    parts_walk ps round t (b.right _ _ h) (b.right _ _ u) _ _ d.ready (goods_more ys _ k d.good)

-- at most one default among these and those behind
abbrev Defaults : Bool → List Case5 → List Choice → Type 0
Defaults may [] ds = w.one_default may ds ≡ true
Defaults may (c ∷ cs) ds = ((not (case_fit c).is_default || may) ≡ true) × Defaults (not (case_fit c).is_default && may) cs ds

defaults_one : (may : Bool) (cs : List Case5) (c : Case5) (d : Choice) (ds : List Choice) → (case_fit c).is_default ≡ d.is_default → Defaults may cs (d ∷ ds) → Defaults may (cs ++ c ∷ []) ds
defaults_one may [] c d ds e h = subst (λ v. ((not v || may) ≡ true) × (w.one_default (not v && may) ds ≡ true)) (sym e) (b.left _ _ h, b.right _ _ h)
defaults_one may (a ∷ cs) c d ds e h = (h.0, defaults_one (not (case_fit a).is_default && may) cs c d ds e h.1)

defaults_done : (may : Bool) (cs : List Case5) → Defaults may cs [] → OneDefault may cs
defaults_done may [] h = tt
defaults_done may (c ∷ cs) h = (h.0, defaults_done (not (case_fit c).is_default && may) cs h.1)

record CasesMade (round : Round) (made : Made (List Case5)) : Type 0 where
  cases : CasesIn round made.value
  ready : Ready round.names round.hosts made.scene

cases_walk : (ps : List (Pair OfCase)) (round : Round) → Tidy round → lawful.all_lawful (map (of_case laws) (map (λ p. p.0) ps)) round ≡ true → w.choices_fit (map (of_case writes) (map (λ p. p.0) ps)) ≡ true
    → (cs : List Case5) (s : Scene) → Ready round.names round.hosts s → CasesIn round cs → CasesMade round (in_turn (map (λ p. p.1) ps) cs s)
cases_walk [] round t h u cs s r k = record { cases = k; ready = r }
cases_walk (p ∷ ps) round t h u cs s r k =
    let d = p.2 round t (b.left _ _ h) (b.left _ _ u) s r in
    cases_walk ps round t (b.right _ _ h) (b.right _ _ u) _ _ d.ready (cases_one round cs _ k d.case)

defaults_walk : (ps : List (Pair OfCase)) (round : Round) → Tidy round → lawful.all_lawful (map (of_case laws) (map (λ p. p.0) ps)) round ≡ true → w.choices_fit (map (of_case writes) (map (λ p. p.0) ps)) ≡ true
    → (cs : List Case5) (s : Scene) → Ready round.names round.hosts s → Defaults true cs (map (of_case writes) (map (λ p. p.0) ps)) → OneDefault true (in_turn (map (λ p. p.1) ps) cs s).value
defaults_walk [] round t h u cs s r k = defaults_done true cs k
defaults_walk (p ∷ ps) round t h u cs s r k =
    let d = p.2 round t (b.left _ _ h) (b.left _ _ u) s r in
    defaults_walk ps round t (b.right _ _ h) (b.right _ _ u) _ _ d.ready (defaults_one true cs _ (of_case writes p.0) _ (default_is (p.1 s).value ∙ d.default) k)

-- ## Expressions

abbrev sites : List Joint → ℕ
sites ls = length (filter_map (λ l. l.site) ls)

sites_by : (k : Joint) (site : Option Site) (ls : List Joint) → k.site ≡ site → sites (k ∷ ls) ≡ site_count site + sites ls
sites_by k None ls e = rw e (omega arith)
sites_by k (Some site) ls e = rw e (omega arith)

record LinksMade (round : Round) (made : Made Current) : Type 0 where
  good : Good made.value.value
  ready : Ready round.names round.hosts made.scene

links_walk : (ps : List (Pair OfLink)) (at : lawful.Current) (i : ℕ) (ks : List (List ℕ)) (round : Round) → Tidy round → lawful.links_lawful at (map (of_link laws) (map (λ p. p.0) ps)) round ≡ true → w.links_fit ks (map (of_link writes) (map (λ p. p.0) ps)) ≡ true
    → i + sites (map (of_link laws) (map (λ p. p.0) ps)) ≤ 1 → (c : Current) (s : Scene) → Ready round.names round.hosts s → Far at i ks c.value → LinksMade round (threaded (map (λ p. p.1) ps) c s)
links_walk [] at i ks round t h u l c s r k = record { good = k.good; ready = r }
links_walk (p ∷ ps) at i ks round t h u l c s r k =
    let a = sites_by (of_link laws p.0) (of_link laws p.0).site (map (of_link laws) (map (λ p2. p2.0) ps)) refl in
    let d = p.2 round at i ks t (b.left _ _ (b.left _ _ h)) (b.right _ _ (b.left _ _ h)) (b.left _ _ (b.left _ _ u)) (b.right _ _ (b.left _ _ u)) (omega arith) c s r k in
    links_walk ps _ _ _ round t (b.right _ _ h) (b.right _ _ u) (omega arith) _ _ d.ready d.far

expr_by : (z : Exprs shown) (round : Round) → Tidy round → lawful.expr_step (in_expr laws (expr_first shown z)) round ≡ true → w.expr_step (in_expr writes (expr_first shown z)) ≡ true → (s : Scene) → Ready round.names round.hosts s
    → GoodMade round (m.expr_step (expr_second shown z) s)
expr_by z round t h u s r =
    let d = head_done z.head s round (b.right _ _ (b.left _ _ (b.left _ _ h))) (b.left _ _ u) r in
    let e = links_walk z.links (lawful.begins z.head) 0 [] round t (b.right _ _ (b.left _ _ h)) (b.right _ _ u) (let a = leb-true (sites (map (of_link laws) (map (λ p. p.0) z.links))) 1 (b.right _ _ h) in omega arith) _ _ d.ready d.far in
    record { good = e.good; ready = e.ready }

expr_kept : (z : Exprs shown) → OfExpr (roll-CoreExpr (expr_first shown z)) (m.expr_step (expr_second shown z))
expr_kept z round t h u s r = expr_by z round t (ap (λ f. f round) (sym (expr_rolled laws (expr_first shown z))) ∙ h) (sym (expr_rolled writes (expr_first shown z)) ∙ u) s r

-- ## Links

link_by : (z : Links shown) (round : Round) (at : lawful.Current) (i : ℕ) (ks : List (List ℕ)) → Tidy round → lawful.behind at (lawful.link_step (in_link laws (link_first shown z))).ends ≡ true → (lawful.link_step (in_link laws (link_first shown z))).lawful round ≡ true
    → (w.link_step (in_link writes (link_first shown z))).fits ≡ true → w.is_new ks (w.link_step (in_link writes (link_first shown z))).key ≡ true → i + site_count (lawful.link_step (in_link laws (link_first shown z))).site ≤ 1 → (c : Current) (s : Scene) → Ready round.names round.hosts s → Far at i ks c.value
    → Done round.names round.hosts (lawful.after (lawful.link_step (in_link laws (link_first shown z))).ends) (i + site_count (lawful.link_step (in_link laws (link_first shown z))).site) (w.with_key ks (w.link_step (in_link writes (link_first shown z))).key) (m.link_step (link_second shown z) c s)
link_by (layer.Strict o parts site) round at i ks t d h u v l c s r k =
    let g = parts_walk parts round t (b.right _ _ h) (b.right _ _ u) [] s r tt in
    op_done o _ site c _ round at i ks d (b.right _ _ (b.left _ _ h)) (b.left _ _ u) v l g.good g.ready k
link_by (layer.Lazy o taken None) round at i ks t d h u v l c s r k =
    let a = taken.2 round t (b.left _ _ h) (b.left _ _ u) s r in
    record { far = lazy_far o (taken.1 s).value None c (i + 0) ks k.good a.good (option_good None tt); ready = a.ready }
link_by (layer.Lazy o taken (Some other)) round at i ks t d h u v l c s r k =
    let a = taken.2 round t (b.left _ _ h) (b.left _ _ u) s r in let e = other.2 round t (b.right _ _ h) (b.right _ _ u) _ a.ready in
    record { far = lazy_far o (taken.1 s).value (Some _) c (i + 0) ks k.good a.good e.good; ready = e.ready }
link_by (layer.Run body) round at i ks t d h u v l c s r k = record { far = kept_far at (i + 0) ks c.value (more_sites at i 0 ks c.value k); ready = r }

link_kept : (z : Links shown) → OfLink (roll-CoreLink (link_first shown z)) (m.link_step (link_second shown z))
link_kept z round at i ks t d h u v l c s r k =
    let j = link_rolled laws (link_first shown z) in let g = link_rolled writes (link_first shown z) in
    subst (λ p. Done round.names round.hosts (lawful.after (of_link laws (roll-CoreLink (link_first shown z))).ends) (i + site_count (of_link laws (roll-CoreLink (link_first shown z))).site) (w.with_key ks p.key) (m.link_step (link_second shown z) c s)) (sym g)
    (subst (λ p. Done round.names round.hosts (lawful.after p.ends) (i + site_count p.site) (w.with_key ks (w.link_step (in_link writes (link_first shown z))).key) (m.link_step (link_second shown z) c s)) (sym j)
    (link_by z round at i ks t (ap (λ p. lawful.behind at p.ends) (sym j) ∙ d) (ap (λ p. p.lawful round) (sym j) ∙ h) (ap (λ p. p.fits) (sym g) ∙ u) (ap (λ p. w.is_new ks p.key) (sym g) ∙ v) (subst (λ p. i + site_count p.site ≤ 1) j l) c s r k))

-- ## Cases

case_by : (test : Option (Pair OfExpr)) (body : List (Pair OfStat)) (round : Round) → Tidy round → lawful.case_step (in_case laws (case_first shown (record { test = test; body = body }))) round ≡ true → (w.case_step (in_case writes (case_first shown (record { test = test; body = body })))).fits ≡ true
    → (s : Scene) → Ready round.names round.hosts s → CaseMade round (w.case_step (in_case writes (case_first shown (record { test = test; body = body })))).is_default (m.case_step (case_second shown (record { test = test; body = body })) s)
case_by None body round t h u s r =
    let d = stats_walk body round t h u [] s r (no_stats round) in
    record { case = case_in round None _ tt d.stats; default = ap (λ c. not (is_some c.test)) (out-roll-Case5 (record { span = nowhere; test = None; body = (threaded (map (λ p. p.1) body) [] s).value })); ready = d.ready }
case_by (Some y) body round t h u s r =
    let a = y.2 round t (b.left _ _ h) (b.left _ _ u) s r in let d = stats_walk body round t (b.right _ _ h) (b.right _ _ u) [] _ a.ready (no_stats round) in
    record { case = case_in round (Some (y.1 s).value) _ a.good d.stats; default = ap (λ c. not (is_some c.test)) (out-roll-Case5 (record { span = nowhere; test = Some (y.1 s).value; body = (threaded (map (λ p. p.1) body) [] (y.1 s).scene).value })); ready = d.ready }

case_kept : (z : Cases shown) → OfCase (roll-CoreCase (case_first shown z)) (m.case_step (case_second shown z))
case_kept z round t h u s r =
    let g = case_rolled writes (case_first shown z) in
    subst (λ p. CaseMade round p.is_default (m.case_step (case_second shown z) s)) (sym g)
    (case_by z.test z.body round t (ap (λ f. f round) (sym (case_rolled laws (case_first shown z))) ∙ h) (ap (λ p. p.fits) (sym g) ∙ u) s r)

-- ## Statements

label_tidy : (round : Round) (l : Label) → Tidy round → Tidy (lawful.under l round)
label_tidy round l t = record { loops = λ k h. or_second (nat_eq k.0 l.0) _ (t.loops k h) }

has_more : (k : Label) (ls is js : List Label) → (lawful.has_label k is ≡ true → lawful.has_label k js ≡ true) → lawful.has_label k (ls ++ is) ≡ true → lawful.has_label k (ls ++ js) ≡ true
has_more k [] is js f h = f h
has_more k (l ∷ ls) is js f h = or_map (nat_eq k.0 l.0) _ _ (has_more k ls is js f) h

loop_tidy : (round : Round) (ls : List Label) → Tidy round → Tidy (lawful.in_loop ls round)
loop_tidy round ls t = record { loops = λ k h. has_more k ls round.loops round.labels (t.loops k) h }

one_walk : (y : Pair OfExpr) (f : Expr5 → Stat5) (round : Round) → ((z : Expr5) → Good z → StatIn round (f z)) → Tidy round → of_expr laws y.0 round ≡ true → of_expr writes y.0 ≡ true → (xs : List Stat5) (s : Scene) → Ready round.names round.hosts s → StatsIn round xs → StatsMade round (m.one f y.1 xs s)
one_walk y f round g t h u xs s r k = let d = y.2 round t h u s r in record { stats = then_in round xs _ k (g _ d.good); ready = d.ready }

stat_by : (z : Stats shown) (round : Round) → Tidy round → lawful.stat_step (in_stat laws (stat_first shown z)) round ≡ true → w.stat_step (in_stat writes (stat_first shown z)) ≡ true → (xs : List Stat5) (s : Scene) → Ready round.names round.hosts s → StatsIn round xs
    → StatsMade round (m.stat_step (stat_second shown z) xs s)
stat_by (layer.Do y) round t h u xs s r k = one_walk y n.expression round (expression_in round) t h u xs s r k
stat_by (layer.If cases) round t h u xs s r k =
    let d = cases_walk cases round t h u [] s r tt in
    record { stats = chosen_in round _ xs d.cases k; ready = d.ready }
stat_by (layer.Switch subject cases) round t h u xs s r k =
    let a = subject.2 round t (b.left _ _ h) (b.left _ _ (b.left _ _ u)) s r in
    let d = cases_walk cases round t (b.right _ _ h) (b.right _ _ (b.left _ _ u)) [] _ a.ready tt in
    let o = defaults_walk cases round t (b.right _ _ h) (b.right _ _ (b.left _ _ u)) [] _ a.ready (b.right _ _ u) in
    record { stats = then_in round xs _ k (switch_in round _ _ a.good d.cases o); ready = d.ready }
stat_by (layer.Loop labels None None body) round t h u xs s r k =
    let d = stats_walk body (lawful.in_loop labels round) (loop_tidy round labels t) (b.right _ _ h) (b.right _ _ u) [] s r (no_stats _) in let l = b.left _ _ (b.left _ _ (b.left _ _ h)) in
    record { stats = then_in round xs _ k (looped_in round labels None None _ (b.left _ _ (b.left _ _ (b.left _ _ u))) (b.left _ _ l) (b.right _ _ l) tt tt d.stats); ready = d.ready }
stat_by (layer.Loop labels None (Some v) body) round t h u xs s r k =
    let a = v.2 round t (b.right _ _ (b.left _ _ h)) (b.right _ _ (b.left _ _ u)) s r in
    let d = stats_walk body (lawful.in_loop labels round) (loop_tidy round labels t) (b.right _ _ h) (b.right _ _ u) [] _ a.ready (no_stats _) in let l = b.left _ _ (b.left _ _ (b.left _ _ h)) in
    record { stats = then_in round xs _ k (looped_in round labels None (Some _) _ (b.left _ _ (b.left _ _ (b.left _ _ u))) (b.left _ _ l) (b.right _ _ l) tt a.good d.stats); ready = d.ready }
stat_by (layer.Loop labels (Some y) None body) round t h u xs s r k =
    let a = y.2 round t (b.right _ _ (b.left _ _ (b.left _ _ h))) (b.right _ _ (b.left _ _ (b.left _ _ u))) s r in
    let d = stats_walk body (lawful.in_loop labels round) (loop_tidy round labels t) (b.right _ _ h) (b.right _ _ u) [] _ a.ready (no_stats _) in let l = b.left _ _ (b.left _ _ (b.left _ _ h)) in
    record { stats = then_in round xs _ k (looped_in round labels (Some _) None _ (b.left _ _ (b.left _ _ (b.left _ _ u))) (b.left _ _ l) (b.right _ _ l) a.good tt d.stats); ready = d.ready }
stat_by (layer.Loop labels (Some y) (Some v) body) round t h u xs s r k =
    let a = y.2 round t (b.right _ _ (b.left _ _ (b.left _ _ h))) (b.right _ _ (b.left _ _ (b.left _ _ u))) s r in
    let e = v.2 round t (b.right _ _ (b.left _ _ h)) (b.right _ _ (b.left _ _ u)) _ a.ready in
    let d = stats_walk body (lawful.in_loop labels round) (loop_tidy round labels t) (b.right _ _ h) (b.right _ _ u) [] _ e.ready (no_stats _) in let l = b.left _ _ (b.left _ _ (b.left _ _ h)) in
    record { stats = then_in round xs _ k (looped_in round labels (Some _) (Some _) _ (b.left _ _ (b.left _ _ (b.left _ _ u))) (b.left _ _ l) (b.right _ _ l) a.good e.good d.stats); ready = d.ready }
stat_by (layer.Labelled label body) round t h u xs s r k =
    let d = stats_walk body (lawful.under label round) (label_tidy round label t) (b.right _ _ h) (b.right _ _ u) [] s r (no_stats _) in
    record { stats = then_in round xs _ k (labelled_in round label _ (b.left _ _ u) (b.left _ _ h) d.stats); ready = d.ready }
stat_by (layer.Jump goes_on label) round t h u xs s r k = record { stats = then_in round xs _ k (jumped_in round goes_on label t h); ready = r }
stat_by (layer.Return y) round t h u xs s r k = one_walk y (λ v. stat5.Return nowhere (Some v)) round (return_in round) t (b.right _ _ h) u xs s r k
stat_by (layer.Throw y) round t h u xs s r k = one_walk y (λ v. stat5.Throw nowhere v) round (throw_in round) t h u xs s r k
stat_by (layer.TryCatch block parameter names handler) round t h u xs s r k =
    let d = stats_walk block round t (b.left _ _ (b.left _ _ (b.left _ _ h))) (b.left _ _ u) [] s r (no_stats _) in
    let e = stats_walk handler round t (b.right _ _ h) (b.right _ _ u) [] _ d.ready (no_stats _) in
    let g = e.ready.names parameter.0 (ltb-true parameter.0 round.names (b.right _ _ (b.left _ _ (b.left _ _ h)))) in
    record { stats = then_in round xs _ k (caught_in round _ _ _ g d.stats e.stats); ready = e.ready }
stat_by (layer.TryFinally block last) round t h u xs s r k =
    let d = stats_walk block round t (b.left _ _ h) (b.left _ _ u) [] s r (no_stats _) in
    let e = stats_walk last round t (b.right _ _ h) (b.right _ _ u) [] _ d.ready (no_stats _) in
    record { stats = then_in round xs _ k (finished_in round _ _ d.stats e.stats); ready = e.ready }
stat_by (layer.Scoped names body) round t h u xs s r k = stats_walk body round t (b.right _ _ h) u xs s r k
stat_by (layer.Yield value kind result) round t h u xs s r k = one_walk value n.expression round (expression_in round) t (b.right _ _ (b.left _ _ (b.left _ _ h))) u xs s r k

stat_kept : (z : Stats shown) → OfStat (roll-CoreStat (stat_first shown z)) (m.stat_step (stat_second shown z))
stat_kept z round t h u xs s r k = stat_by z round t (ap (λ f. f round) (sym (stat_rolled laws (stat_first shown z))) ∙ h) (sym (stat_rolled writes (stat_first shown z)) ∙ u) xs s r k

keeps : Keeps shown
keeps = record { link = link_kept; stat = stat_kept; case = case_kept; expr = expr_kept }

-- statements that are lawful and may be written
pub stats_emitted_in : (ss : List CoreStat) (round : Round) → Tidy round → lawful.stats_lawful ss round ≡ true → w.stats_fit ss ≡ true → (xs : List Stat5) (s : Scene) → Ready round.names round.hosts s → StatsIn round xs → StatsMade round (m.stats_emitted ss xs s)
stats_emitted_in [] round t h u xs s r k = record { stats = k; ready = r }
stats_emitted_in (y ∷ ss) round t h u xs s r k =
    let d = stat_induced shown keeps y round t (b.left _ _ h) (b.left _ _ u) xs s r k in
    stats_emitted_in ss round t (b.right _ _ h) (b.right _ _ u) _ _ d.ready d.stats
