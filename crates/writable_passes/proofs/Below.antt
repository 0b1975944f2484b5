-- Labels below a number, as what is told of nodes has them and as the writing of nodes asks.
use Rattle.std.specs.List.{list_all}
use Rattle.std.proofs.Common.{◌≡◌, ℕ, ◌+◌, ◌≤◌, ◌<◌, max, Bool, true, false, ◌&&◌, ◌||◌, not, nat_eq, List, [], ◌∷◌, ◌++◌, map, Option, None, Some, refl, sym, ap, arith, subst, ◌∙◌}
use Rattle.std.proofs.lemmas.Bool.{false≢true, eq-eqb, eqb-true, lt-ltb, ltb-true}
use Rattle.core_ast.specs.declared.parts.Label.{Label}
use Rattle.core_ast.specs.declared.tree.CoreCase.{CoreCase, roll-CoreCase}
use Rattle.core_ast.specs.declared.tree.CoreExpr.{roll-CoreExpr}
use Rattle.core_ast.specs.declared.tree.CoreLink.{CoreLink, roll-CoreLink}
use Rattle.core_ast.specs.declared.tree.CoreLink.TheOpen as layer
use Rattle.core_ast.specs.declared.tree.CoreStat.{CoreStat}
use Rattle.core_ast.specs.Lawful.{has_number}
use Rattle.emission_laws.specs.Writable as w
use Rattle.emission_laws.specs.Writable.{Choice, Piece}
use Rattle.lawful_passes.specs.Told as t
use Rattle.lawful_passes.specs.Told.{Told}
use Rattle.lawful_passes.proofs.Labels.{has_left, has_right, numbers_of, or_first, or_second}
use Rattle.lawful_passes.proofs.Turned.{tells}
use Rattle.pass_rules.specs.yield_rules.Yields.{label_behind}
use Rattle.pass_rules.proofs.pass_laws.Induced as induced
use Rattle.pass_rules.proofs.pass_laws.Induced.{Shows, stat_induced}
use Rattle.pass_rules.proofs.pass_laws.Related as related
use Rattle.pass_rules.proofs.pass_laws.Related.{Pair, Relates, of_case, of_expr, of_link, of_stat, in_case, in_expr, in_link, in_stat, case_rolled, expr_rolled, link_rolled, stat_rolled, stat_related}
use Rattle.pass_rules.proofs.pass_laws.Within.{left, right, both}
use Rattle.writable_passes.proofs.Fits.{Are, Fits, Is, Keys, below, piece, pieces, stat_step, writes}

abbrev pub Under : ℕ → Told → Type 0
Under n a = (i : ℕ) → has_number i a.labels ≡ true → i < n

number_split : {A : Type 0} (i : ℕ) (xs ys : List ℕ) → (has_number i xs ≡ true → A) → (has_number i ys ≡ true → A) → has_number i (xs ++ ys) ≡ true → A
number_split i [] ys f g h = g h
number_split {A} i (x ∷ xs) ys f g h = split_by (nat_eq i x) (λ e. f (or_first _ _ e)) (number_split i xs ys (λ e. f (or_second (nat_eq i x) _ e)) g) h
  where
    split_by : (c : Bool) → (c ≡ true → A) → (has_number i (xs ++ ys) ≡ true → A) → (c || has_number i (xs ++ ys)) ≡ true → A
    split_by true f g h = f refl
    split_by false f g h = g h

under_both : (n : ℕ) (a b : Told) → Under n a → Under n b → Under n (t.both a b)
under_both n a b h k i e = number_split i a.labels b.labels (h i) (k i) e

under_first : (n : ℕ) (a b : Told) → Under n (t.both a b) → Under n a
under_first n a b h i e = h i (has_left i a.labels b.labels e)

under_second : (n : ℕ) (a b : Told) → Under n (t.both a b) → Under n b
under_second n a b h i e = h i (has_right i a.labels b.labels e)

under_nothing : (n : ℕ) → Under n t.nothing
under_nothing n i e = absurd (false≢true e)

labels_under : (n : ℕ) (ls : List Label) → list_all (below n) ls ≡ true → (i : ℕ) → has_number i (numbers_of ls) ≡ true → i < n
labels_under n [] h i e = absurd (false≢true e)
labels_under n (l ∷ ls) h i e = by_first (nat_eq i l.0) refl e (labels_under n ls (right _ _ h) i)
  where
    by_first : (c : Bool) → nat_eq i l.0 ≡ c → (c || has_number i (numbers_of ls)) ≡ true → (has_number i (numbers_of ls) ≡ true → i < n) → i < n
    by_first true d e f = let a = eqb-true i l.0 d in let b = ltb-true l.0 n (left _ _ h) in omega arith
    by_first false d e f = f e

under_labelled : (n : ℕ) (ls : List Label) (a : Told) → list_all (below n) ls ≡ true → Under n a → Under n (t.labelled ls a)
under_labelled n ls a h k i e = number_split i (numbers_of ls) a.labels (labels_under n ls h i) (k i) e

labels_below : (n : ℕ) (ls : List Label) → ((i : ℕ) → has_number i (numbers_of ls) ≡ true → i < n) → list_all (below n) ls ≡ true
labels_below n [] h = refl
labels_below n (l ∷ ls) h = both (lt-ltb l.0 n (h l.0 (or_first _ _ (eq-eqb l.0 l.0 refl)))) (labels_below n ls (λ i e. h i (or_second (nat_eq i l.0) _ e)))

own_labels : (n : ℕ) (ls : List Label) (a : Told) → Under n (t.labelled ls a) → list_all (below n) ls ≡ true
own_labels n ls a h = labels_below n ls (λ i e. h i (has_left i (numbers_of ls) a.labels e))

under_inner : (n : ℕ) (ls : List Label) (a : Told) → Under n (t.labelled ls a) → Under n a
under_inner n ls a h i e = h i (has_right i (numbers_of ls) a.labels e)

-- ## What can be written with labels below a number has no others

abbrev told : (n : ℕ) → Relates tells (writes n)
told n = record { Link = λ a p. p.fits ≡ true → Under n a; Stat = λ a b. b ≡ true → Under n a; Case = λ a c. c.fits ≡ true → Under n a; Expr = λ a b. b ≡ true → Under n a }

stats_told : (n : ℕ) (ps : List (Pair (told n).Stat)) → w.every (map (λ q. q.1) ps) ≡ true → Under n (t.all (map (λ q. q.0) ps))
stats_told n [] h = under_nothing n
stats_told n (q ∷ ps) h = under_both n q.0 (t.all (map (λ p. p.0) ps)) (q.2 (left _ _ h)) (stats_told n ps (right _ _ h))

cases_told : (n : ℕ) (ps : List (Pair (told n).Case)) → w.choices_fit (map (λ q. q.1) ps) ≡ true → Under n (t.all (map (λ q. q.0) ps))
cases_told n [] h = under_nothing n
cases_told n (q ∷ ps) h = under_both n q.0 (t.all (map (λ p. p.0) ps)) (q.2 (left _ _ h)) (cases_told n ps (right _ _ h))

links_told : (n : ℕ) (ps : List (Pair (told n).Link)) (keys : Keys) → w.links_fit keys (map (λ q. q.1) ps) ≡ true → Under n (t.all (map (λ q. q.0) ps))
links_told n [] keys h = under_nothing n
links_told n (q ∷ ps) keys h = under_both n q.0 (t.all (map (λ p. p.0) ps)) (q.2 (left _ _ (left _ _ h))) (links_told n ps _ (right _ _ h))

link_told : (n : ℕ) (z : related.Links (told n)) → (told n).Link (t.link_step (related.link_first (told n) z)) (w.link_step (related.link_second (told n) z))
link_told n (layer.Strict o parts site) h = stats_told n parts (right _ _ h)
link_told n (layer.Lazy x taken None) h = under_both n taken.0 t.nothing (taken.2 (left _ _ h)) (under_nothing n)
link_told n (layer.Lazy x taken (Some other)) h = under_both n taken.0 other.0 (taken.2 (left _ _ h)) (other.2 (right _ _ h))
link_told n (layer.Run body) h = stats_told n body h

case_told : (n : ℕ) (test : Option (Pair (told n).Expr)) (body : List (Pair (told n).Stat)) → (told n).Case (t.case_step (related.case_first (told n) (record { test = test; body = body }))) (w.case_step (related.case_second (told n) (record { test = test; body = body })))
case_told n None body h = under_both n t.nothing (t.all (map (λ q. q.0) body)) (under_nothing n) (stats_told n body h)
case_told n (Some x) body h = under_both n x.0 (t.all (map (λ q. q.0) body)) (x.2 (left _ _ h)) (stats_told n body (right _ _ h))

loop_told : (n : ℕ) (labels : List Label) (u v a : Told) → list_all (below n) labels ≡ true → Under n u → Under n v → Under n a → Under n (t.labelled labels (t.needing 1 (t.both (t.both u v) a)))
loop_told n labels u v a h i j k = under_labelled n labels (t.needing 1 (t.both (t.both u v) a)) h (under_both n (t.both u v) a (under_both n u v i j) k)

stat_told : (n : ℕ) (z : related.Stats (told n)) → (told n).Stat (t.stat_step (related.stat_first (told n) z)) (stat_step n (related.stat_second (told n) z))
stat_told n (layer.Do x) h = x.2 h
stat_told n (layer.If cases) h = cases_told n cases h
stat_told n (layer.Switch subject cases) h = under_both n subject.0 (t.all (map (λ q. q.0) cases)) (subject.2 (left _ _ (left _ _ h))) (cases_told n cases (right _ _ (left _ _ h)))
stat_told n (layer.Loop labels None None body) h = loop_told n labels t.nothing t.nothing (t.all (map (λ q. q.0) body)) (left _ _ (left _ _ (left _ _ h))) (under_nothing n) (under_nothing n) (stats_told n body (right _ _ h))
stat_told n (layer.Loop labels None (Some v) body) h = loop_told n labels t.nothing v.0 (t.all (map (λ q. q.0) body)) (left _ _ (left _ _ (left _ _ h))) (under_nothing n) (v.2 (right _ _ (left _ _ h))) (stats_told n body (right _ _ h))
stat_told n (layer.Loop labels (Some u) None body) h = loop_told n labels u.0 t.nothing (t.all (map (λ q. q.0) body)) (left _ _ (left _ _ (left _ _ h))) (u.2 (right _ _ (left _ _ (left _ _ h)))) (under_nothing n) (stats_told n body (right _ _ h))
stat_told n (layer.Loop labels (Some u) (Some v) body) h = loop_told n labels u.0 v.0 (t.all (map (λ q. q.0) body)) (left _ _ (left _ _ (left _ _ h))) (u.2 (right _ _ (left _ _ (left _ _ h)))) (v.2 (right _ _ (left _ _ h))) (stats_told n body (right _ _ h))
stat_told n (layer.Labelled label body) h = under_labelled n (label ∷ []) (t.all (map (λ q. q.0) body)) (both (left _ _ h) refl) (stats_told n body (right _ _ h))
stat_told n (layer.Jump goes_on label) h = under_nothing n
stat_told n (layer.Return x) h = x.2 h
stat_told n (layer.Throw x) h = x.2 h
stat_told n (layer.TryCatch block parameter names handler) h = under_both n (t.all (map (λ q. q.0) block)) (t.all (map (λ q. q.0) handler)) (stats_told n block (left _ _ h)) (stats_told n handler (right _ _ h))
stat_told n (layer.TryFinally block last) h = under_both n (t.all (map (λ q. q.0) block)) (t.all (map (λ q. q.0) last)) (stats_told n block (left _ _ h)) (stats_told n last (right _ _ h))
stat_told n (layer.Scoped names body) h = stats_told n body h
stat_told n (layer.Yield value kind result) h = value.2 h

told_kept : (n : ℕ) → related.Keeps (told n)
told_kept n = record { link = link_told n; stat = stat_told n; case = λ z. case_told n z.test z.body; expr = λ z h. links_told n z.links [] (right _ _ h) }

pub stats_under : (n : ℕ) (ss : List CoreStat) → Are n ss → Under n (t.stats_told ss)
stats_under n [] h = under_nothing n
stats_under n (y ∷ ss) h = under_both n (of_stat tells y) (t.stats_told ss) (stat_related (told n) (told_kept n) y (left _ _ h)) (stats_under n ss (right _ _ h))

-- ## What can be written, and has labels below a number, can be written with them

record PieceIs (n : ℕ) (y : CoreLink) (p : Piece) : Type 0 where
  fits : (piece n y).fits ≡ true
  key : (piece n y).key ≡ p.key

record ChoiceIs (n : ℕ) (y : CoreCase) (c : Choice) : Type 0 where
  fits : (of_case (writes n) y).fits ≡ true
  default : (of_case (writes n) y).is_default ≡ c.is_default

abbrev lowered : (m n : ℕ) → Shows (writes m)
lowered m n = record {
  Link = λ y p. Under n (of_link tells y) → p.fits ≡ true → PieceIs n y p;
  Stat = λ y b. Under n (of_stat tells y) → b ≡ true → Is n y;
  Case = λ y c. Under n (of_case tells y) → c.fits ≡ true → ChoiceIs n y c;
  Expr = λ y b. Under n (of_expr tells y) → b ≡ true → Fits n y;
}

stats_lowered : (m n : ℕ) (ps : List (Pair (lowered m n).Stat)) → Under n (t.all (map (of_stat tells) (map (λ q. q.0) ps))) → w.every (map (λ q. q.1) ps) ≡ true → Are n (map (λ q. q.0) ps)
stats_lowered m n [] u h = refl
stats_lowered m n (q ∷ ps) u h = let a = of_stat tells q.0 in let b = t.all (map (of_stat tells) (map (λ p. p.0) ps)) in both (q.2 (under_first n a b u) (left _ _ h)) (stats_lowered m n ps (under_second n a b u) (right _ _ h))

parts_lowered : (m n : ℕ) (ps : List (Pair (lowered m n).Expr)) → Under n (t.all (map (of_expr tells) (map (λ q. q.0) ps))) → w.every (map (λ q. q.1) ps) ≡ true → w.every (map (of_expr (writes n)) (map (λ q. q.0) ps)) ≡ true
parts_lowered m n [] u h = refl
parts_lowered m n (q ∷ ps) u h = let a = of_expr tells q.0 in let b = t.all (map (of_expr tells) (map (λ p. p.0) ps)) in both (q.2 (under_first n a b u) (left _ _ h)) (parts_lowered m n ps (under_second n a b u) (right _ _ h))

cases_lowered : (m n : ℕ) (ps : List (Pair (lowered m n).Case)) → Under n (t.all (map (of_case tells) (map (λ q. q.0) ps))) → w.choices_fit (map (λ q. q.1) ps) ≡ true → w.choices_fit (map (of_case (writes n)) (map (λ q. q.0) ps)) ≡ true
cases_lowered m n [] u h = refl
cases_lowered m n (q ∷ ps) u h = let a = of_case tells q.0 in let b = t.all (map (of_case tells) (map (λ p. p.0) ps)) in both (q.2 (under_first n a b u) (left _ _ h)).fits (cases_lowered m n ps (under_second n a b u) (right _ _ h))

default_lowered : (m n : ℕ) (ps : List (Pair (lowered m n).Case)) (may : Bool) → Under n (t.all (map (of_case tells) (map (λ q. q.0) ps))) → w.choices_fit (map (λ q. q.1) ps) ≡ true → w.one_default may (map (λ q. q.1) ps) ≡ true
    → w.one_default may (map (of_case (writes n)) (map (λ q. q.0) ps)) ≡ true
default_lowered m n [] may u h k = refl
default_lowered m n (q ∷ ps) may u h k =
    let a = of_case tells q.0 in let b = t.all (map (of_case tells) (map (λ p. p.0) ps)) in
    subst (λ d. ((not d || may) && w.one_default (not d && may) (map (of_case (writes n)) (map (λ p. p.0) ps))) ≡ true) (sym (q.2 (under_first n a b u) (left _ _ h)).default)
    (both (left _ _ k) (default_lowered m n ps _ (under_second n a b u) (right _ _ h) (right _ _ k)))

links_lowered : (m n : ℕ) (ps : List (Pair (lowered m n).Link)) (keys : Keys) → Under n (t.all (map (of_link tells) (map (λ q. q.0) ps))) → w.links_fit keys (map (λ q. q.1) ps) ≡ true → w.links_fit keys (pieces n (map (λ q. q.0) ps)) ≡ true
links_lowered m n [] keys u h = refl
links_lowered m n (q ∷ ps) keys u h =
    let a = of_link tells q.0 in let b = t.all (map (of_link tells) (map (λ p. p.0) ps)) in let k = q.2 (under_first n a b u) (left _ _ (left _ _ h)) in
    both (both k.fits (ap (w.is_new keys) k.key ∙ right _ _ (left _ _ h))) (subst (λ key. w.links_fit (w.with_key keys key) (pieces n (map (λ p. p.0) ps)) ≡ true) (sym k.key) (links_lowered m n ps _ (under_second n a b u) (right _ _ h)))

record LinkBy (p q : Piece) : Type 0 where
  fits : p.fits ≡ true
  key : p.key ≡ q.key

link_by : (m n : ℕ) (z : induced.Links (lowered m n)) → Under n (t.link_step (in_link tells (induced.link_first (lowered m n) z))) → (w.link_step (induced.link_second (lowered m n) z)).fits ≡ true → LinkBy (w.link_step (in_link (writes n) (induced.link_first (lowered m n) z))) (w.link_step (induced.link_second (lowered m n) z))
link_by m n (layer.Strict o parts site) u h = record { fits = both (left _ _ h) (parts_lowered m n parts u (right _ _ h)); key = refl }
link_by m n (layer.Lazy x taken None) u h = record { fits = both (taken.2 (under_first n (of_expr tells taken.0) t.nothing u) (left _ _ h)) refl; key = refl }
link_by m n (layer.Lazy x taken (Some other)) u h = record {
  fits = both (taken.2 (under_first n (of_expr tells taken.0) (of_expr tells other.0) u) (left _ _ h)) (other.2 (under_second n (of_expr tells taken.0) (of_expr tells other.0) u) (right _ _ h));
  key = refl;
}
link_by m n (layer.Run body) u h = record { fits = stats_lowered m n body u h; key = refl }

link_kept : (m n : ℕ) (z : induced.Links (lowered m n)) → (lowered m n).Link (roll-CoreLink (induced.link_first (lowered m n) z)) (w.link_step (induced.link_second (lowered m n) z))
link_kept m n z u h =
    let y = induced.link_first (lowered m n) z in let e = link_rolled (writes n) y in let k = link_by m n z (subst (Under n) (link_rolled tells y) u) h in
    record { fits = ap (λ p. p.fits) e ∙ k.fits; key = ap (λ p. p.key) e ∙ k.key }

expr_kept : (m n : ℕ) (z : induced.Exprs (lowered m n)) → (lowered m n).Expr (roll-CoreExpr (induced.expr_first (lowered m n) z)) (w.expr_step (induced.expr_second (lowered m n) z))
expr_kept m n z u h = let y = induced.expr_first (lowered m n) z in expr_rolled (writes n) y ∙ both (left _ _ h) (links_lowered m n z.links [] (subst (Under n) (expr_rolled tells y) u) (right _ _ h))

record ChoiceBy (c d : Choice) : Type 0 where
  fits : c.fits ≡ true
  default : c.is_default ≡ d.is_default

case_by : (m n : ℕ) (test : Option (Pair (lowered m n).Expr)) (body : List (Pair (lowered m n).Stat)) → let z : induced.Cases (lowered m n) = record { test = test; body = body } in
    Under n (t.case_step (in_case tells (induced.case_first (lowered m n) z))) → (w.case_step (induced.case_second (lowered m n) z)).fits ≡ true → ChoiceBy (w.case_step (in_case (writes n) (induced.case_first (lowered m n) z))) (w.case_step (induced.case_second (lowered m n) z))
case_by m n None body u h = record { fits = stats_lowered m n body (under_second n t.nothing (t.all (map (of_stat tells) (map (λ q. q.0) body))) u) h; default = refl }
case_by m n (Some x) body u h =
    let a = of_expr tells x.0 in let b = t.all (map (of_stat tells) (map (λ q. q.0) body)) in
    record { fits = both (x.2 (under_first n a b u) (left _ _ h)) (stats_lowered m n body (under_second n a b u) (right _ _ h)); default = refl }

case_kept : (m n : ℕ) (z : induced.Cases (lowered m n)) → (lowered m n).Case (roll-CoreCase (induced.case_first (lowered m n) z)) (w.case_step (induced.case_second (lowered m n) z))
case_kept m n z u h =
    let y = induced.case_first (lowered m n) z in let e = case_rolled (writes n) y in let k = case_by m n z.test z.body (subst (Under n) (case_rolled tells y) u) h in
    record { fits = ap (λ c. c.fits) e ∙ k.fits; default = ap (λ c. c.is_default) e ∙ k.default }

body_lowered : (m n : ℕ) (labels : List Label) (u v : Told) (body : List (Pair (lowered m n).Stat)) → Under n (t.labelled labels (t.needing 1 (t.both (t.both u v) (t.all (map (of_stat tells) (map (λ q. q.0) body)))))) → w.every (map (λ q. q.1) body) ≡ true → Are n (map (λ q. q.0) body)
body_lowered m n labels u v body h k = let a = t.all (map (of_stat tells) (map (λ q. q.0) body)) in stats_lowered m n body (under_second n (t.both u v) a (under_inner n labels (t.needing 1 (t.both (t.both u v) a)) h)) k

test_under : (n : ℕ) (labels : List Label) (u v a : Told) → Under n (t.labelled labels (t.needing 1 (t.both (t.both u v) a))) → Under n u
test_under n labels u v a h = under_first n u v (under_first n (t.both u v) a (under_inner n labels (t.needing 1 (t.both (t.both u v) a)) h))

update_under : (n : ℕ) (labels : List Label) (u v a : Told) → Under n (t.labelled labels (t.needing 1 (t.both (t.both u v) a))) → Under n v
update_under n labels u v a h = under_second n u v (under_first n (t.both u v) a (under_inner n labels (t.needing 1 (t.both (t.both u v) a)) h))

stat_by : (m n : ℕ) (z : induced.Stats (lowered m n)) → Under n (t.stat_step (in_stat tells (induced.stat_first (lowered m n) z))) → stat_step m (induced.stat_second (lowered m n) z) ≡ true → stat_step n (in_stat (writes n) (induced.stat_first (lowered m n) z)) ≡ true
stat_by m n (layer.Do x) u h = x.2 u h
stat_by m n (layer.If cases) u h = cases_lowered m n cases u h
stat_by m n (layer.Switch subject cases) u h =
    let a = of_expr tells subject.0 in let b = t.all (map (of_case tells) (map (λ q. q.0) cases)) in
    both (both (subject.2 (under_first n a b u) (left _ _ (left _ _ h))) (cases_lowered m n cases (under_second n a b u) (right _ _ (left _ _ h)))) (default_lowered m n cases true (under_second n a b u) (right _ _ (left _ _ h)) (right _ _ h))
stat_by m n (layer.Loop labels None None body) u h =
    let a = t.all (map (of_stat tells) (map (λ q. q.0) body)) in
    both (both (both (own_labels n labels (t.needing 1 (t.both (t.both t.nothing t.nothing) a)) u) refl) refl) (body_lowered m n labels t.nothing t.nothing body u (right _ _ h))
stat_by m n (layer.Loop labels None (Some y) body) u h =
    let a = t.all (map (of_stat tells) (map (λ q. q.0) body)) in let c = of_expr tells y.0 in
    both (both (both (own_labels n labels (t.needing 1 (t.both (t.both t.nothing c) a)) u) refl) (y.2 (update_under n labels t.nothing c a u) (right _ _ (left _ _ h)))) (body_lowered m n labels t.nothing c body u (right _ _ h))
stat_by m n (layer.Loop labels (Some x) None body) u h =
    let a = t.all (map (of_stat tells) (map (λ q. q.0) body)) in let b = of_expr tells x.0 in
    both (both (both (own_labels n labels (t.needing 1 (t.both (t.both b t.nothing) a)) u) (x.2 (test_under n labels b t.nothing a u) (right _ _ (left _ _ (left _ _ h))))) refl) (body_lowered m n labels b t.nothing body u (right _ _ h))
stat_by m n (layer.Loop labels (Some x) (Some y) body) u h =
    let a = t.all (map (of_stat tells) (map (λ q. q.0) body)) in let b = of_expr tells x.0 in let c = of_expr tells y.0 in
    both (both (both (own_labels n labels (t.needing 1 (t.both (t.both b c) a)) u) (x.2 (test_under n labels b c a u) (right _ _ (left _ _ (left _ _ h))))) (y.2 (update_under n labels b c a u) (right _ _ (left _ _ h)))) (body_lowered m n labels b c body u (right _ _ h))
stat_by m n (layer.Labelled label body) u h =
    let a = t.all (map (of_stat tells) (map (λ q. q.0) body)) in both (left _ _ (own_labels n (label ∷ []) a u)) (stats_lowered m n body (under_inner n (label ∷ []) a u) (right _ _ h))
stat_by m n (layer.Jump goes_on label) u h = refl
stat_by m n (layer.Return x) u h = x.2 u h
stat_by m n (layer.Throw x) u h = x.2 u h
stat_by m n (layer.TryCatch block parameter names handler) u h =
    let a = t.all (map (of_stat tells) (map (λ q. q.0) block)) in let b = t.all (map (of_stat tells) (map (λ q. q.0) handler)) in both (stats_lowered m n block (under_first n a b u) (left _ _ h)) (stats_lowered m n handler (under_second n a b u) (right _ _ h))
stat_by m n (layer.TryFinally block last) u h =
    let a = t.all (map (of_stat tells) (map (λ q. q.0) block)) in let b = t.all (map (of_stat tells) (map (λ q. q.0) last)) in both (stats_lowered m n block (under_first n a b u) (left _ _ h)) (stats_lowered m n last (under_second n a b u) (right _ _ h))
stat_by m n (layer.Scoped names body) u h = stats_lowered m n body u h
stat_by m n (layer.Yield value kind result) u h = value.2 u h

lowered_kept : (m n : ℕ) → induced.Keeps (lowered m n)
lowered_kept m n = record {
  link = link_kept m n;
  stat = λ z u h. stat_rolled (writes n) (induced.stat_first (lowered m n) z) ∙ stat_by m n z (subst (Under n) (stat_rolled tells (induced.stat_first (lowered m n) z)) u) h;
  case = case_kept m n;
  expr = expr_kept m n;
}

pub stats_below : (m n : ℕ) (ss : List CoreStat) → Under n (t.stats_told ss) → Are m ss → Are n ss
stats_below m n [] u h = refl
stats_below m n (y ∷ ss) u h = let a = of_stat tells y in let b = t.stats_told ss in both (stat_induced (lowered m n) (lowered_kept m n) y (under_first n a b u) (left _ _ h)) (stats_below m n ss (under_second n a b u) (right _ _ h))

-- ## The first label behind

pub behind_below : (ls : List Label) (k n : ℕ) → k ≤ n → ((i : ℕ) → has_number i (numbers_of ls) ≡ true → i < n) → label_behind ls k ≤ n
behind_below [] k n l h = l
behind_below (x ∷ ls) k n l h = let a = h x.0 (or_first _ _ (eq-eqb x.0 x.0 refl)) in behind_below ls (max k (x.0 + 1)) n (omega arith) (λ i e. h i (or_second (nat_eq i x.0) _ e))
