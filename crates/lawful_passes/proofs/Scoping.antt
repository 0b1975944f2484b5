-- The flattening of scopes makes no label, and no case.
use Rattle.std.specs.List.{list_all}
use Rattle.std.proofs.Common.{◌≡◌, ℕ, ◌+◌, ◌≤◌, true, suc, List, [], ◌∷◌, ◌++◌, map, length, Option, None, Some, refl, sym, ap, arith, subst, ◌∙◌}
use Rattle.es_outside.specs.declared.events.Site.{Site}
use Rattle.core_ast.specs.declared.parts.Var.{Var}
use Rattle.core_ast.specs.declared.parts.Label.{Label}
use Rattle.core_ast.specs.declared.parts.ScopedName.{ScopedName}
use Rattle.core_ast.specs.declared.parts.Constant.TheVariants.{Undefined}
use Rattle.core_ast.specs.declared.parts.CoreHead.{CoreHead}
use Rattle.core_ast.specs.declared.parts.CoreHead.TheVariants as head
use Rattle.core_ast.specs.declared.parts.CoreOp.{CoreOp}
use Rattle.core_ast.specs.declared.parts.CoreOp.TheVariants as op
use Rattle.core_ast.specs.declared.parts.Primitive.TheVariants.{CellMake}
use Rattle.core_ast.specs.declared.tree.CoreLink.{CoreLink, roll-CoreLink}
use Rattle.core_ast.specs.declared.tree.CoreStat.{CoreStat, roll-CoreStat}
use Rattle.core_ast.specs.declared.tree.CoreCase.{CoreCase, roll-CoreCase}
use Rattle.core_ast.specs.declared.tree.CoreExpr.{CoreExpr, out-CoreExpr, fold_out-CoreExpr}
use Rattle.core_ast.specs.declared.tree.CoreLink.TheVariants as link
use Rattle.core_ast.specs.declared.tree.CoreStat.TheVariants as stat
use Rattle.core_ast.specs.declared.tree.CoreLink.TheOpen as layer
use Rattle.core_ast.specs.declared.tree.CoreLink.TheOpen.{CoreStat-F}
use Rattle.core_ast.specs.declared.whole.CoreFunction.{CoreFunction}
use Rattle.core_ast.specs.declared.whole.CorePart.{CorePart}
use Rattle.core_ast.specs.Lawful.{is_safe}
use Rattle.core_ast.specs.Made.{act, acting, expression, linked}
use Rattle.core_ast.specs.Walks.{along}
use Rattle.pass_rules.specs.Cells.{cells_at, is_shared}
use Rattle.pass_rules.specs.Scopes as s
use Rattle.pass_rules.specs.Scopes.{Extends}
use Rattle.pass_rules.proofs.pass_laws.Distinct.{count, count_more, each_once, all_differ_by}
use Rattle.pass_rules.proofs.pass_laws.FlatCores.{scopes_keep_law}
use Rattle.pass_rules.proofs.pass_laws.Related.{Pair, of_link, of_stat, of_case, of_expr, in_stat, link_rolled, stat_rolled, case_rolled, expr_rolled}
use Rattle.pass_rules.proofs.pass_laws.Induced.{Shows, Keeps, Links, Stats, Exprs, link_first, link_second, stat_first, stat_second, case_first, case_second, expr_first, expr_second, stat_induced}
use Rattle.pass_rules.proofs.pass_laws.Scopes.{flat}
use Rattle.pass_rules.proofs.pass_laws.Within.{left, right, both, either}
use Rattle.lawful_passes.specs.Laws.{ScopesKeepLabels, BothKeepLaw}
use Rattle.lawful_passes.specs.Told as t
use Rattle.lawful_passes.specs.Told.{LabelsDiffer, Told, function_told, part_told, stats_told, tells_apart}
use Rattle.lawful_passes.proofs.Kept.{yields_keep_law}
use Rattle.lawful_passes.proofs.Turned.{tells}

-- no more labels than both have, and few cases where they have few
record Sum (c a b : Told) : Type 0 where
  labels : (i : ℕ) → count i c.labels ≤ count i a.labels + count i b.labels
  few : a.few ≡ true → b.few ≡ true → c.few ≡ true

pub record Less (b a : Told) : Type 0 where
  pub labels : (i : ℕ) → count i b.labels ≤ count i a.labels
  pub few : a.few ≡ true → b.few ≡ true

less_same : (a : Told) → Less a a
less_same a = record { labels = λ i. omega arith; few = λ h. h }

less_by : (a b c : Told) → a ≡ b → Less b c → Less a c
less_by a b c e h = subst (λ x. Less x c) (sym e) h

sum_less : (c a b d : Told) → Less b d → Sum c a b → Sum c a d
sum_less c a b d l h = record { labels = λ i. (let x = l.labels i in let y = h.labels i in omega arith); few = λ p q. h.few p (l.few q) }

sum_first : (d c a b : Told) → Sum d c b → Less c a → Sum d a b
sum_first d c a b h l = record { labels = λ i. (let x = l.labels i in let y = h.labels i in omega arith); few = λ p q. h.few (l.few p) q }

-- two after another
sum_both : (e c a b d : Told) → Sum c a b → Sum e c d → Sum e a (t.both b d)
sum_both e c a b d h k = record {
  labels = λ i. (let x = h.labels i in let y = k.labels i in let z = count_more i b.labels d.labels in omega arith);
  few = λ p q. k.few (h.few p (left _ _ q)) (right _ _ q);
}

pub less_both : (a b c d : Told) → Less a b → Less c d → Less (t.both a c) (t.both b d)
less_both a b c d h k = record {
  labels = λ i. (let x = h.labels i in let y = k.labels i in let z = count_more i a.labels c.labels in let w = count_more i b.labels d.labels in omega arith);
  few = λ q. both (h.few (left _ _ q)) (k.few (right _ _ q));
}

all_one : (xs : List Told) (x : Told) → Sum (t.all (xs ++ x ∷ [])) (t.all xs) x
all_one [] x = record { labels = λ i. (let z = count_more i x.labels [] in omega arith); few = λ p q. both q refl }
all_one (y ∷ xs) x =
    let h = all_one xs x in
    record {
      labels = λ i. (let a = h.labels i in let b = count_more i y.labels (t.all (xs ++ x ∷ [])).labels in let c = count_more i y.labels (t.all xs).labels in omega arith);
      few = λ p q. both (left _ _ p) (h.few (right _ _ p) q);
    }

map_one : {A : Type 0} (f : A → Told) (xs : List A) (x : A) → map f (xs ++ x ∷ []) ≡ map f xs ++ f x ∷ []
map_one f [] x = refl
map_one f (y ∷ xs) x = ap (λ zs. f y ∷ zs) (map_one f xs x)

-- ## Nodes

strict_told : (o : CoreOp) (parts : List CoreExpr) (site : Option Site) → of_link tells (link.Strict o parts site) ≡ t.link_step (layer.Strict o (map (of_expr tells) parts) site)
strict_told o parts site = ap (of_link tells) (sym (link.rolls-Strict o parts site)) ∙ link_rolled tells (layer.Strict o parts site)

expression_told : (site : Option Site) (h : CoreHead) (ls : List CoreLink) → of_expr tells (expression site h ls) ≡ t.all (map (of_link tells) ls)
expression_told site h ls = expr_rolled tells (record { site = site; head = h; links = ls })

out_told : (x : CoreExpr) → of_expr tells x ≡ t.all (map (of_link tells) (out-CoreExpr x).links)
out_told x = fold_out-CoreExpr Told Told Told Told t.link_step t.stat_step t.case_step t.expr_step x

linked_sum : (x : CoreExpr) (k : CoreLink) → Sum (of_expr tells (linked x k)) (of_expr tells x) (of_link tells k)
linked_sum x k =
    subst (λ c. Sum c (of_expr tells x) (of_link tells k)) (sym (expression_told (out-CoreExpr x).site (out-CoreExpr x).head ((out-CoreExpr x).links ++ k ∷ []) ∙ ap t.all (map_one (of_link tells) (out-CoreExpr x).links k)))
    (subst (λ a. Sum (t.all (map (of_link tells) (out-CoreExpr x).links ++ of_link tells k ∷ [])) a (of_link tells k)) (sym (out_told x)) (all_one (map (of_link tells) (out-CoreExpr x).links) (of_link tells k)))

-- what has no labels and no switch
record Silent (a : Told) : Type 0 where
  labels : a.labels ≡ []
  few : a.few ≡ true

silent_less : (a b : Told) → Silent a → Less a b
silent_less a b h = record { labels = λ i. (let z = ap (count i) h.labels in omega arith); few = λ q. h.few }

all_silent : (k : Told) (ks : List Told) → Silent k → Silent (t.all ks) → Silent (t.all (k ∷ ks))
all_silent k ks h l = record { labels = ap (λ ls. ls ++ (t.all ks).labels) h.labels ∙ l.labels; few = both h.few l.few }

silent_by : (a b : Told) → a ≡ b → Silent b → Silent a
silent_by a b e h = subst Silent (sym e) h

act_silent : (o : CoreOp) → Silent (of_link tells (act o))
act_silent o = silent_by _ _ (strict_told o [] None) (record { labels = refl; few = refl })

-- an expression whose links are silent
silent_expression : (site : Option Site) (h : CoreHead) (ls : List CoreLink) → Silent (t.all (map (of_link tells) ls)) → Silent (of_expr tells (expression site h ls))
silent_expression site h ls k = silent_by _ _ (expression_told site h ls) k

none_silent : Silent t.nothing
none_silent = record { labels = refl; few = refl }

reset_silent : (n : ScopedName) → Silent (of_stat tells (s.reset n))
reset_silent n = silent_by _ _ (ap (of_stat tells) (sym (stat.rolls-Do _)) ∙ stat_rolled tells (layer.Do _))
    (either (λ ls. Silent (of_expr tells (expression None head.Empty ls))) n.shared
    (silent_expression None head.Empty _ (all_silent _ (of_link tells (act (op.Set n.var)) ∷ []) (act_silent (op.Primitive (CellMake n.var))) (all_silent _ [] (act_silent (op.Set n.var)) none_silent)))
    (silent_expression None head.Empty _ (all_silent _ [] (act_silent (op.Init n.var)) none_silent)))

acting_silent : (o : CoreOp) (x : CoreExpr) → Silent (of_expr tells x) → Silent (of_link tells (acting o x))
acting_silent o x h = silent_by _ _ (strict_told o (x ∷ []) None) (record { labels = (all_silent (of_expr tells x) [] h none_silent).labels; few = (all_silent (of_expr tells x) [] h none_silent).few })

copies_silent : (owners : List ℕ) (xs : List Var) → Silent (t.all (map (of_link tells) (s.copies owners xs)))
copies_silent owners [] = none_silent
copies_silent owners (x ∷ xs) = either (λ ls. Silent (t.all (map (of_link tells) ls))) (is_shared owners x)
    (all_silent _ (map (of_link tells) (s.copies owners xs)) (acting_silent op.Then _ (silent_expression None (head.Variable x) (act op.Content ∷ act (op.Primitive (CellMake x)) ∷ act (op.Set x) ∷ [])
    (all_silent _ (of_link tells (act (op.Primitive (CellMake x))) ∷ of_link tells (act (op.Set x)) ∷ []) (act_silent op.Content)
    (all_silent _ (of_link tells (act (op.Set x)) ∷ []) (act_silent (op.Primitive (CellMake x))) (all_silent _ [] (act_silent (op.Set x)) none_silent))))) (copies_silent owners xs))
    (copies_silent owners xs)

begun_silent : (owners : List ℕ) (site : Option Site) (h : CoreHead) → Silent (of_expr tells (s.begun owners site h))
unfolding s.begun
begun_silent owners site (head.Variable x) = either (λ ls. Silent (of_expr tells (expression site (head.Variable x) ls))) (is_shared owners x) (silent_expression site (head.Variable x) _ (all_silent _ [] (act_silent op.Content) none_silent)) (silent_expression site (head.Variable x) [] none_silent)
begun_silent owners site (head.Copy xs) = silent_expression site (head.Constant Undefined) (s.copies owners xs) (copies_silent owners xs)
begun_silent owners site h = silent_expression site h [] none_silent

stored_less : (x : Var) (e : CoreExpr) → Less (of_expr tells (s.stored x e)) (of_expr tells e)
stored_less x e = less_by _ _ _ (expression_told None (head.Variable x) (acting op.SetContent e ∷ []) ∙ ap (λ k. t.all (k ∷ [])) (strict_told op.SetContent (e ∷ []) None))
    (record { labels = λ i. (let a = count_more i ((of_expr tells e).labels ++ []) [] in let b = count_more i (of_expr tells e).labels [] in omega arith); few = λ q. both (both q refl) refl })

-- ## What is shown of each node

abbrev OfLink : CoreLink → Extends CoreExpr → Type 0
OfLink y f = (e : CoreExpr) → Sum (of_expr tells (f e)) (of_expr tells e) (of_link tells y)

abbrev OfStat : CoreStat → Extends (List CoreStat) → Type 0
OfStat y f = (xs : List CoreStat) → Sum (stats_told (f xs)) (stats_told xs) (of_stat tells y)

abbrev OfCase : CoreCase → CoreCase → Type 0
OfCase y c = Less (of_case tells c) (of_case tells y)

abbrev OfExpr : CoreExpr → CoreExpr → Type 0
OfExpr y e = Less (of_expr tells e) (of_expr tells y)

abbrev shown : (owners : List ℕ) → Shows (flat owners)
shown owners = record { Link = OfLink; Stat = OfStat; Case = OfCase; Expr = OfExpr }

nothing_sum : (a : Told) → Sum a a t.nothing
nothing_sum a = record { labels = λ i. omega arith; few = λ p q. p }

stats_sum : (ps : List (Pair OfStat)) (xs : List CoreStat) → Sum (stats_told (along (map (λ q. q.1) ps) xs)) (stats_told xs) (t.all (map (of_stat tells) (map (λ q. q.0) ps)))
stats_sum [] xs = nothing_sum (stats_told xs)
stats_sum (y ∷ ps) xs = sum_both _ (stats_told (y.1 xs)) _ _ _ (y.2 xs) (stats_sum ps (y.1 xs))

-- from nothing
sum_alone : (c b : Told) → Sum c t.nothing b → Less c b
sum_alone c b h = record { labels = λ i. (let x = h.labels i in let y : count i c.labels ≤ 0 + count i b.labels = x in omega arith); few = λ q. h.few refl q }

body_less : (ps : List (Pair OfStat)) → Less (stats_told (along (map (λ q. q.1) ps) [])) (t.all (map (of_stat tells) (map (λ q. q.0) ps)))
body_less ps = sum_alone _ _ (stats_sum ps [])

parts_less : (ps : List (Pair OfExpr)) → Less (t.all (map (of_expr tells) (map (λ q. q.1) ps))) (t.all (map (of_expr tells) (map (λ q. q.0) ps)))
parts_less [] = less_same t.nothing
parts_less (y ∷ ps) = less_both _ _ _ _ y.2 (parts_less ps)

cases_less : (ps : List (Pair OfCase)) → Less (t.all (map (of_case tells) (map (λ q. q.1) ps))) (t.all (map (of_case tells) (map (λ q. q.0) ps)))
cases_less [] = less_same t.nothing
cases_less (y ∷ ps) = less_both _ _ _ _ y.2 (cases_less ps)

cases_length : (ps : List (Pair OfCase)) → length (map (of_case tells) (map (λ q. q.1) ps)) ≡ length (map (of_case tells) (map (λ q. q.0) ps))
cases_length [] = refl
cases_length (y ∷ ps) = ap (λ n. suc n) (cases_length ps)

links_sum : (ps : List (Pair OfLink)) (e : CoreExpr) → Sum (of_expr tells (along (map (λ q. q.1) ps) e)) (of_expr tells e) (t.all (map (of_link tells) (map (λ q. q.0) ps)))
links_sum [] e = nothing_sum (of_expr tells e)
links_sum (y ∷ ps) e = sum_both _ (of_expr tells (y.1 e)) _ _ _ (y.2 e) (links_sum ps (y.1 e))

-- ## The steps

then_sum : (xs : List CoreStat) (x : CoreStat) (b : Told) → Less (of_stat tells x) b → Sum (stats_told (s.then xs x)) (stats_told xs) b
then_sum xs x b l = sum_less _ _ (of_stat tells x) b l (subst (λ c. Sum c (stats_told xs) (of_stat tells x)) (sym (ap t.all (map_one (of_stat tells) xs x))) (all_one (map (of_stat tells) xs) (of_stat tells x)))

linked_less : (e : CoreExpr) (k : CoreLink) (b : Told) → Less (of_link tells k) b → Sum (of_expr tells (linked e k)) (of_expr tells e) b
linked_less e k b l = sum_less _ _ (of_link tells k) b l (linked_sum e k)

first_sum : (c a b : Told) → Less c a → Sum c a b
first_sum c a b l = record { labels = λ i. (let x = l.labels i in omega arith); few = λ p q. l.few p }

strict_sum : (owners : List ℕ) (o : CoreOp) (parts : List CoreExpr) (site : Option Site) (e : CoreExpr) (b : Told) → Less (of_link tells (link.Strict o parts site)) b → Sum (of_expr tells (s.strict owners o parts site e)) (of_expr tells e) b
unfolding s.strict
strict_sum owners (op.Set x) parts site e b l = either (λ v. Sum (of_expr tells v) (of_expr tells e) b) (is_shared owners x) (first_sum _ _ b (stored_less x e)) (linked_less e _ b l)
strict_sum owners (op.Init x) parts site e b l = either (λ v. Sum (of_expr tells v) (of_expr tells e) b) (is_shared owners x) (first_sum _ _ b (stored_less x e)) (linked_less e _ b l)
strict_sum owners o parts site e b l = linked_less e _ b l

needing_less : (n m : ℕ) (a b : Told) → Less a b → Less (t.needing n a) (t.needing m b)
needing_less n m a b l = record { labels = l.labels; few = l.few }

link_by : (owners : List ℕ) (z : Links (shown owners)) (e : CoreExpr) → Sum (of_expr tells (s.link_step owners (link_second (shown owners) z) e)) (of_expr tells e) (of_link tells (roll-CoreLink (link_first (shown owners) z)))
link_by owners (layer.Strict o parts site) e = strict_sum owners o (map (λ q. q.1) parts) site e _
    (less_by _ _ _ (strict_told o (map (λ q. q.1) parts) site) (subst (λ b. Less (t.link_step (layer.Strict o (map (of_expr tells) (map (λ q. q.1) parts)) site)) b) (sym (link_rolled tells (link_first (shown owners) (layer.Strict o parts site)))) (needing_less _ _ _ _ (parts_less parts))))
link_by owners (layer.Lazy w taken None) e = linked_less e _ _
    (less_by _ _ _ (ap (of_link tells) (sym (link.rolls-Lazy w taken.1 None)) ∙ link_rolled tells (layer.Lazy w taken.1 None)) (subst (λ b. Less (t.link_step (layer.Lazy w (of_expr tells taken.1) None)) b) (sym (link_rolled tells (link_first (shown owners) (layer.Lazy w taken None)))) (needing_less 1 1 _ _ (less_both _ _ _ _ taken.2 (less_same t.nothing)))))
link_by owners (layer.Lazy w taken (Some other)) e = linked_less e _ _
    (less_by _ _ _ (ap (of_link tells) (sym (link.rolls-Lazy w taken.1 (Some other.1))) ∙ link_rolled tells (layer.Lazy w taken.1 (Some other.1))) (subst (λ b. Less (t.link_step (layer.Lazy w (of_expr tells taken.1) (Some (of_expr tells other.1)))) b) (sym (link_rolled tells (link_first (shown owners) (layer.Lazy w taken (Some other))))) (needing_less 1 1 _ _ (less_both _ _ _ _ taken.2 other.2))))
link_by owners (layer.Run body) e = linked_less e _ _
    (less_by _ _ _ (ap (of_link tells) (sym (link.rolls-Run (along (map (λ q. q.1) body) []))) ∙ link_rolled tells (layer.Run (along (map (λ q. q.1) body) []))) (subst (λ b. Less (stats_told (along (map (λ q. q.1) body) [])) b) (sym (link_rolled tells (link_first (shown owners) (layer.Run body)))) (body_less body)))

expr_by : (owners : List ℕ) (z : Exprs (shown owners)) → Less (of_expr tells (s.expr_step owners (expr_second (shown owners) z))) (t.all (map (of_link tells) (map (λ q. q.0) z.links)))
expr_by owners z =
    let h = links_sum z.links (s.begun owners z.site z.head) in let k = begun_silent owners z.site z.head in
    record { labels = λ i. (let a = h.labels i in let b = ap (count i) k.labels in omega arith); few = λ q. h.few k.few q }

case_by : (owners : List ℕ) (test : Option (Pair OfExpr)) (body : List (Pair OfStat)) → Less (of_case tells (s.case_step (case_second (shown owners) (record { test = test; body = body })))) (of_case tells (roll-CoreCase (case_first (shown owners) (record { test = test; body = body }))))
case_by owners None body = less_by _ _ _ (case_rolled tells (record { test = None; body = along (map (λ q. q.1) body) [] }))
    (subst (λ b. Less (t.both t.nothing (stats_told (along (map (λ q. q.1) body) []))) b) (sym (case_rolled tells (case_first (shown owners) (record { test = None; body = body })))) (less_both _ _ _ _ (less_same t.nothing) (body_less body)))
case_by owners (Some y) body = less_by _ _ _ (case_rolled tells (record { test = Some y.1; body = along (map (λ q. q.1) body) [] }))
    (subst (λ b. Less (t.both (of_expr tells y.1) (stats_told (along (map (λ q. q.1) body) []))) b) (sym (case_rolled tells (case_first (shown owners) (record { test = Some y; body = body })))) (less_both _ _ _ _ y.2 (body_less body)))

-- a statement that is made of a layer, beside that of another
stat_less : (x : CoreStat) (y : CoreStat-F CoreLink CoreStat CoreCase CoreExpr) (b : Told) → roll-CoreStat y ≡ x → Less (t.stat_step (in_stat tells y)) b → Less (of_stat tells x) b
stat_less x y b e h = less_by _ _ b (ap (of_stat tells) (sym e) ∙ stat_rolled tells y) h

labelled_less : (ls : List Label) (a b : Told) → Less a b → Less (t.labelled ls a) (t.labelled ls b)
labelled_less ls a b l = record {
  labels = λ i. (let x = l.labels i in let y = count_more i (map (λ (k : Label). k.0) ls) a.labels in let z = count_more i (map (λ (k : Label). k.0) ls) b.labels in omega arith);
  few = l.few;
}

few_less : (cs ds : List Told) (a b : Told) → length cs ≡ length ds → Less a b → Less (t.few_cases cs a) (t.few_cases ds b)
few_less cs ds a b e l = record { labels = l.labels; few = λ q. both (ap is_safe e ∙ left _ _ q) (l.few (right _ _ q)) }

entered_sum : (names : List ScopedName) (xs : List CoreStat) → Less (stats_told (s.entered names xs)) (stats_told xs)
entered_sum names [] = resets names
  where
    resets : (names : List ScopedName) → Less (stats_told (map s.reset names)) t.nothing
    resets [] = less_same t.nothing
    resets (n ∷ names) = let h = reset_silent n in let k = resets names in record {
      labels = λ i. (let a = count_more i (of_stat tells (s.reset n)).labels (stats_told (map s.reset names)).labels in let b = ap (count i) h.labels in let c = k.labels i in omega arith);
      few = λ q. both h.few (k.few refl);
    }
entered_sum names (x ∷ xs) = less_both _ _ _ _ (less_same (of_stat tells x)) (entered_sum names xs)

stat_by : (owners : List ℕ) (z : Stats (shown owners)) (xs : List CoreStat) → Sum (stats_told (s.stat_step (stat_second (shown owners) z) xs)) (stats_told xs) (t.stat_step (in_stat tells (stat_first (shown owners) z)))
stat_by owners (layer.Do x) xs = then_sum xs _ _ (stat_less _ (layer.Do x.1) _ (stat.rolls-Do x.1) x.2)
stat_by owners (layer.If cases) xs = then_sum xs _ _ (stat_less _ (layer.If (map (λ q. q.1) cases)) _ (stat.rolls-If (map (λ q. q.1) cases)) (cases_less cases))
stat_by owners (layer.Switch subject cases) xs = then_sum xs _ _ (stat_less _ (layer.Switch subject.1 (map (λ q. q.1) cases)) _ (stat.rolls-Switch subject.1 (map (λ q. q.1) cases)) (few_less _ _ _ _ (cases_length cases) (needing_less 2 2 _ _ (less_both _ _ _ _ subject.2 (cases_less cases)))))
stat_by owners (layer.Loop labels None None body) xs = let ys = along (map (λ q. q.1) body) [] in then_sum xs _ _ (stat_less _ (layer.Loop labels None None ys) _ (stat.rolls-Loop labels None None ys)
    (labelled_less labels _ _ (needing_less 1 1 _ _ (less_both _ _ _ _ (less_same (t.both t.nothing t.nothing)) (body_less body)))))
stat_by owners (layer.Loop labels None (Some v) body) xs = let ys = along (map (λ q. q.1) body) [] in then_sum xs _ _ (stat_less _ (layer.Loop labels None (Some v.1) ys) _ (stat.rolls-Loop labels None (Some v.1) ys)
    (labelled_less labels _ _ (needing_less 1 1 _ _ (less_both _ _ _ _ (less_both _ _ _ _ (less_same t.nothing) v.2) (body_less body)))))
stat_by owners (layer.Loop labels (Some u) None body) xs = let ys = along (map (λ q. q.1) body) [] in then_sum xs _ _ (stat_less _ (layer.Loop labels (Some u.1) None ys) _ (stat.rolls-Loop labels (Some u.1) None ys)
    (labelled_less labels _ _ (needing_less 1 1 _ _ (less_both _ _ _ _ (less_both _ _ _ _ u.2 (less_same t.nothing)) (body_less body)))))
stat_by owners (layer.Loop labels (Some u) (Some v) body) xs = let ys = along (map (λ q. q.1) body) [] in then_sum xs _ _ (stat_less _ (layer.Loop labels (Some u.1) (Some v.1) ys) _ (stat.rolls-Loop labels (Some u.1) (Some v.1) ys)
    (labelled_less labels _ _ (needing_less 1 1 _ _ (less_both _ _ _ _ (less_both _ _ _ _ u.2 v.2) (body_less body)))))
stat_by owners (layer.Labelled label body) xs = let ys = along (map (λ q. q.1) body) [] in then_sum xs _ _ (stat_less _ (layer.Labelled label ys) _ (stat.rolls-Labelled label ys) (labelled_less (label ∷ []) _ _ (body_less body)))
stat_by owners (layer.Jump goes_on label) xs = then_sum xs _ _ (stat_less _ (layer.Jump goes_on label) _ (stat.rolls-Jump goes_on label) (less_same t.nothing))
stat_by owners (layer.Return x) xs = then_sum xs _ _ (stat_less _ (layer.Return x.1) _ (stat.rolls-Return x.1) x.2)
stat_by owners (layer.Throw x) xs = then_sum xs _ _ (stat_less _ (layer.Throw x.1) _ (stat.rolls-Throw x.1) x.2)
stat_by owners (layer.TryCatch block parameter names handler) xs =
    let ys = along (map (λ q. q.1) block) [] in let zs = along (map (λ q. q.1) handler) (s.entered names []) in
    then_sum xs _ _ (stat_less _ (layer.TryCatch ys parameter [] zs) _ (stat.rolls-TryCatch ys parameter [] zs)
    (less_both _ _ _ _ (body_less block) (sum_alone _ _ (sum_first _ (stats_told (s.entered names [])) _ _ (stats_sum handler (s.entered names [])) (entered_sum names [])))))
stat_by owners (layer.TryFinally block last) xs = let ys = along (map (λ q. q.1) block) [] in let zs = along (map (λ q. q.1) last) [] in then_sum xs _ _ (stat_less _ (layer.TryFinally ys zs) _ (stat.rolls-TryFinally ys zs) (less_both _ _ _ _ (body_less block) (body_less last)))
stat_by owners (layer.Scoped names body) xs = sum_first _ (stats_told (s.entered names xs)) _ _ (stats_sum body (s.entered names xs)) (entered_sum names xs)
stat_by owners (layer.Yield value kind result) xs = then_sum xs _ _ (stat_less _ (layer.Yield value.1 kind result) _ (stat.rolls-Yield value.1 kind result) value.2)

keeps : (owners : List ℕ) → Keeps (shown owners)
keeps owners = record {
  link = λ z e. link_by owners z e;
  stat = λ z xs. subst (λ b. Sum (stats_told (s.stat_step (stat_second (shown owners) z) xs)) (stats_told xs) b) (sym (stat_rolled tells (stat_first (shown owners) z))) (stat_by owners z xs);
  case = λ z. case_by owners z.test z.body;
  expr = λ z. subst (λ b. Less (of_expr tells (s.expr_step owners (expr_second (shown owners) z))) b) (sym (expr_rolled tells (expr_first (shown owners) z))) (expr_by owners z);
}

flat_sum : (owners : List ℕ) (ss xs : List CoreStat) → Sum (stats_told (along (map (s.stat_flat owners) ss) xs)) (stats_told xs) (stats_told ss)
flat_sum owners [] xs = nothing_sum (stats_told xs)
flat_sum owners (y ∷ ss) xs = sum_both _ (stats_told (s.stat_flat owners y xs)) _ _ _ (stat_induced (shown owners) (keeps owners) y xs) (flat_sum owners ss (s.stat_flat owners y xs))

pub flat_less : (owners : List ℕ) (ss : List CoreStat) → Less (stats_told (s.stats_flat owners ss)) (stats_told ss)
flat_less owners ss = sum_alone _ _ (flat_sum owners ss [])

-- ## Functions, parts and the core

apart_less : (a b : Told) → Less a b → tells_apart b ≡ true → tells_apart a ≡ true
apart_less a b l h = both (all_differ_by a.labels (λ i. (let x = l.labels i in let y = each_once b.labels (left _ _ h) i in omega arith))) (l.few (right _ _ h))

functions_apart : (owners holders : List ℕ) (all : List (List Var)) (place : ℕ) (fs : List CoreFunction) → list_all (λ f. tells_apart (function_told f)) fs ≡ true → list_all (λ f. tells_apart (function_told f)) (s.functions_flat owners holders all place fs) ≡ true
functions_apart owners holders all place [] h = refl
functions_apart owners holders all place (f ∷ fs) h = both
    (apart_less (function_told (s.function_flat owners (cells_at owners holders all place) f)) (function_told f) (less_both _ _ _ _ (less_both _ _ _ _ (flat_less owners f.setup) (flat_less owners f.body)) (flat_less owners f.step)) (left _ _ h))
    (functions_apart owners holders all (place + 1) fs (right _ _ h))

parts_apart : (owners : List ℕ) (ps : List CorePart) → list_all (λ p. tells_apart (part_told p)) ps ≡ true → list_all (λ p. tells_apart (part_told p)) (map (s.part_flat owners) ps) ≡ true
parts_apart owners [] h = refl
parts_apart owners (p ∷ ps) h = both (apart_less (part_told (s.part_flat owners p)) (part_told p) (less_both _ _ _ _ (flat_less owners p.instantiate) (flat_less owners p.body)) (left _ _ h)) (parts_apart owners ps (right _ _ h))

pub scopes_keep_labels : ScopesKeepLabels
scopes_keep_labels core h = (functions_apart _ _ _ 0 core.functions h.0, parts_apart _ core.parts h.1)

pub both_keep_law : BothKeepLaw
both_keep_law hosts core h u d = yields_keep_law hosts (s.without_scopes core) (scopes_keep_law hosts core h u) (scopes_keep_labels core d)
