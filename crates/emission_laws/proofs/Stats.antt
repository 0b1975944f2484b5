-- Statements that are emitted.
use Rattle.std.specs.List.{list_all}
use Rattle.std.proofs.Common.{◌≡◌, ℕ, Bool, true, false, ◌&&◌, ◌||◌, not, nat_eq, nat_lt, List, [], ◌∷◌, ◌++◌, map, Option, None, Some, is_some, refl, sym, ap, subst, ◌∙◌}
use Rattle.std.proofs.lemmas.Bool.{false≢true, eqb-true}
use Rattle.es_text.specs.declared.Span.{Span}
use Rattle.core_ast.specs.declared.parts.Label.{Label}
use Rattle.core_ast.specs.Lawful as lawful
use Rattle.core_ast.specs.Lawful.{Round, has_label, all_differ, has_number}
use Rattle.es5_ast.specs.declared.tree.Expr5.{Expr5}
use Rattle.es5_ast.specs.declared.tree.ForFirst5.TheVariants as for_first
use Rattle.es5_ast.specs.declared.tree.Stat5.{Stat5, roll-Stat5}
use Rattle.es5_ast.specs.declared.tree.Stat5.TheVariants as stat
use Rattle.es5_ast.specs.declared.tree.Case5.{Case5, out-Case5, out-roll-Case5}
use Rattle.es5_ast.specs.declared.tree.Catch5.{Catch5, roll-Catch5}
use Rattle.es5_ast.specs.declared.tree.Condition5.{Condition5}
use Rattle.es5_ast.specs.declared.tree.Element5.TheOpen as layer
use Rattle.es5_ast.specs.declared.tree.Element5.TheOpen.{Stat5-F, Catch5-F, Condition5-F}
use Rattle.es5_ast.specs.Lexical.{is_one_of}
use Rattle.es5_ast.specs.Early as e
use Rattle.es5_ast.specs.Early.{Around, Found5, Inside, Pair5, Round5}
use Rattle.es5_printable.specs.Printable as p
use Rattle.es5_printable.specs.Printable.{FitStat, FitCase, expr_fit, for_first_fit, stat_fit, block_fit, case_fit, catch_fit, condition_fit}
use Rattle.emission_rules.specs.Emission as m
use Rattle.emission_rules.specs.Emission.{label_text}
use Rattle.emission_rules.specs.Nodes as n
use Rattle.emission_rules.specs.Nodes.{nowhere}
use Rattle.emission_laws.specs.Writable as w
use Rattle.pass_rules.proofs.pass_laws.Within as b
use Rattle.pass_rules.proofs.pass_laws.Within.{both}
use Rattle.emission_laws.proofs.Layers.{Open, expr_found, for_first_found, stat_found, block_found, case_found, condition_found, fit_stat, found_stat, fit_case, found_case, fit_stat-roll, found_stat-roll, fit_block-roll, found_block-roll, fit_catch-roll, found_catch-roll, fit_condition-roll, found_condition-roll, fit_for_first-roll, found_for_first-roll, fit_case-out, found_case-out}
use Rattle.emission_laws.proofs.Good.{Good, GoodName, none, when_not}
use Rattle.emission_laws.proofs.Texts.{or_both, or_left, or_right, unnot, texts, label_name, label_there, label_absent}

-- ## What is round a statement

pub record Stands (round : Round) (r : Round5) : Type 0 where
  pub inside : r.inside ≡ true
  pub labels : r.labels ≡ texts round.labels
  pub loops : r.loops ≡ texts round.loops
  pub before : r.before ≡ []
  pub small : list_all w.label_fits round.labels ≡ true

under_stands : (round : Round) (r : Round5) → Stands round r → Stands round (e.under r)
under_stands round r h = record { inside = h.inside; labels = h.labels; loops = h.loops; before = refl; small = h.small }

switch_stands : (round : Round) (r : Round5) → Stands round r → Stands round (e.under_switch r)
switch_stands round r h = record { inside = h.inside; labels = h.labels; loops = h.loops; before = refl; small = h.small }

label_stands : (round : Round) (r : Round5) (l : Label) → w.label_fits l ≡ true → Stands round r → Stands (lawful.under l round) (e.under (e.under_label (label_text l) r))
label_stands round r l f h = record { inside = h.inside; labels = ap (λ ls. label_text l ∷ ls) h.labels; loops = h.loops; before = refl; small = both f h.small }

-- ## Nodes

pub record GoodStat (r : Round5) (s : Stat5) : Type 0 where
  pub fits : (top : Bool) → (stat_fit s).fits true top ≡ true
  pub pairs : stat_found s r ≡ []

pub stat_by : (r : Round5) (s : Stat5) (y : Open Stat5-F) → roll-Stat5 y ≡ s → ((top : Bool) → (p.stat_step (fit_stat y)).fits true top ≡ true) → e.stat_step (found_stat y) r ≡ [] → GoodStat r s
stat_by r s y q f u = record {
  fits = λ top. ap (λ z. (stat_fit z).fits true top) (sym q) ∙ ap (λ v. v.fits true top) (fit_stat-roll y) ∙ f top;
  pairs = ap (λ z. stat_found z r) (sym q) ∙ ap (λ v. v r) (found_stat-roll y) ∙ u;
}

abbrev pub GoodStats : Round5 → List Stat5 → Type 0
GoodStats r [] = Unit {0}
GoodStats r (s ∷ ss) = GoodStat r s × GoodStats r ss

pub stats_fit_by : (r : Round5) (ss : List Stat5) (top : Bool) → GoodStats r ss → p.stats_fit true top (map stat_fit ss) ≡ true
stats_fit_by r [] top h = refl
stats_fit_by r (s ∷ ss) top h = both (h.0.fits top) (stats_fit_by r ss top h.1)

pub stats_pairs : (r : Round5) (ss : List Stat5) → GoodStats r ss → e.joined (λ (s : Around). s r) (map stat_found ss) ≡ []
stats_pairs r [] h = refl
stats_pairs r (s ∷ ss) h = none h.0.pairs (stats_pairs r ss h.1)

pub stats_one : (r : Round5) (ss : List Stat5) (s : Stat5) → GoodStats r ss → GoodStat r s → GoodStats r (ss ++ s ∷ [])
stats_one r [] s h k = (k, tt)
stats_one r (t ∷ ss) s h k = (h.0, stats_one r ss s h.1 k)

pub stats_more : (r : Round5) (ss ts : List Stat5) → GoodStats r ss → GoodStats r ts → GoodStats r (ss ++ ts)
stats_more r [] ts h k = k
stats_more r (s ∷ ss) ts h k = (h.0, stats_more r ss ts h.1 k)

block_fits : (r : Round5) (ss : List Stat5) → GoodStats r ss → block_fit (n.block ss) true ≡ true
block_fits r ss h = ap (λ f. f true) (fit_block-roll (record { span = nowhere; statements = ss })) ∙ stats_fit_by r ss false h

block_pairs : (r : Round5) (ss : List Stat5) → GoodStats r ss → block_found (n.block ss) r ≡ []
block_pairs r ss h = ap (λ f. f r) (found_block-roll (record { span = nowhere; statements = ss })) ∙ stats_pairs r ss h

block_good : (r : Round5) (ss : List Stat5) → GoodStats (e.under r) ss → GoodStat r (stat.Block (n.block ss))
block_good r ss h = stat_by r _ (layer.Block (n.block ss)) (stat.rolls-Block (n.block ss)) (λ top. block_fits (e.under r) ss h) (block_pairs (e.under r) ss h)

closed_block : (ss : List Stat5) → ((stat_fit (stat.Block (n.block ss))).is_open ≡ false) × ((stat_fit (stat.Block (n.block ss))).is_if ≡ false)
closed_block ss =
    let a = ap stat_fit (sym (stat.rolls-Block (n.block ss))) ∙ fit_stat-roll (layer.Block (n.block ss)) in
    (ap (λ (v : FitStat). v.is_open) a, ap (λ (v : FitStat). v.is_if) a)

-- an expression, where a function is round it
at_inside : (r : Round5) (x : Expr5) → r.inside ≡ true → Good x → (expr_found x).pairs r.inside ≡ []
at_inside r x i h = ap (λ c. (expr_found x).pairs c) i ∙ h.pairs

pub expression_good : (r : Round5) (x : Expr5) → r.inside ≡ true → Good x → GoodStat r (n.expression x)
expression_good r x i h = stat_by r _ (layer.Expression nowhere x) (stat.rolls-Expression nowhere x) (λ top. h.fits) (at_inside r x i h)

pub return_good : (r : Round5) (x : Expr5) → r.inside ≡ true → Good x → GoodStat r (stat.Return nowhere (Some x))
return_good r x i h = stat_by r _ (layer.Return nowhere (Some x)) (stat.rolls-Return nowhere (Some x)) (λ top. h.fits) (at_inside r x i h)

throw_good : (r : Round5) (x : Expr5) → r.inside ≡ true → Good x → GoodStat r (stat.Throw nowhere x)
throw_good r x i h = stat_by r _ (layer.Throw nowhere x) (stat.rolls-Throw nowhere x) (λ top. h.fits) (at_inside r x i h)

-- ## Statements wherever they stand in this round

abbrev pub StatIn : Round → Stat5 → Type 0
StatIn round s = (r : Round5) → Stands round r → GoodStat r s

abbrev pub StatsIn : Round → List Stat5 → Type 0
StatsIn round ss = (r : Round5) → Stands round r → GoodStats r ss

pub no_stats : (round : Round) → StatsIn round []
no_stats round r h = tt

pub then_in : (round : Round) (ss : List Stat5) (s : Stat5) → StatsIn round ss → StatIn round s → StatsIn round (m.then ss s)
then_in round ss s h k r a = stats_one r ss s (h r a) (k r a)

pub expression_in : (round : Round) (x : Expr5) → Good x → StatIn round (n.expression x)
expression_in round x h r a = expression_good r x a.inside h

pub return_in : (round : Round) (x : Expr5) → Good x → StatIn round (stat.Return nowhere (Some x))
return_in round x h r a = return_good r x a.inside h

pub throw_in : (round : Round) (x : Expr5) → Good x → StatIn round (stat.Throw nowhere x)
throw_in round x h r a = throw_good r x a.inside h

block_in : (round : Round) (ss : List Stat5) → StatsIn round ss → StatIn round (stat.Block (n.block ss))
block_in round ss h r a = block_good r ss (h (e.under r) (under_stands round r a))

-- ## Labels (12.12)

label_good : (r : Round5) (l : Label) (s : Stat5) → w.label_fits l ≡ true → is_one_of (label_text l) r.labels ≡ false → GoodStat (e.under_label (label_text l) r) s → GoodStat r (m.labelled l s)
label_good r l s f k h = stat_by r _ (layer.Labelled nowhere (m.label l) s) (stat.rolls-Labelled nowhere (m.label l) s) (λ top. both (label_name l f) (h.fits false)) (none (when_not _ (e.F 6) 0 k) h.pairs)

fresh_label : (round : Round) (r : Round5) (l : Label) → w.label_fits l ≡ true → lawful.is_new round l ≡ true → Stands round r → is_one_of (label_text l) r.labels ≡ false
fresh_label round r l f k a = ap (is_one_of (label_text l)) a.labels ∙ label_absent l round.labels f a.small (unnot (has_label l round.labels) k)

pub labelled_in : (round : Round) (l : Label) (ss : List Stat5) → w.label_fits l ≡ true → lawful.is_new round l ≡ true → StatsIn (lawful.under l round) ss → StatIn round (m.labelled l (stat.Block (n.block ss)))
labelled_in round l ss f k h r a = label_good r l _ f (fresh_label round r l f k a) (block_good (e.under_label (label_text l) r) ss (h _ (label_stands round r l f a)))

-- inside these labels, of which the last stands first
abbrev deep : List Label → Round5 → Round5
deep [] r = r
deep (l ∷ ls) r = e.under_label (label_text l) (deep ls r)

deep_labels : (ls : List Label) (r : Round5) → (deep ls r).labels ≡ texts ls ++ r.labels
deep_labels [] r = refl
deep_labels (l ∷ ls) r = ap (λ ts. label_text l ∷ ts) (deep_labels ls r)

deep_before : (ls : List Label) (r : Round5) → (deep ls r).before ≡ texts ls ++ r.before
deep_before [] r = refl
deep_before (l ∷ ls) r = ap (λ ts. label_text l ∷ ts) (deep_before ls r)

deep_loops : (ls : List Label) (r : Round5) → (deep ls r).loops ≡ r.loops
deep_loops [] r = refl
deep_loops (l ∷ ls) r = deep_loops ls r

deep_inside : (ls : List Label) (r : Round5) → (deep ls r).inside ≡ r.inside
deep_inside [] r = refl
deep_inside (l ∷ ls) r = deep_inside ls r

one_of_more : (k : List ℕ) (xs ys : List (List ℕ)) → is_one_of k xs ≡ false → is_one_of k ys ≡ false → is_one_of k (xs ++ ys) ≡ false
one_of_more k [] ys h i = i
one_of_more k (x ∷ xs) ys h i = or_both _ _ (or_left _ _ h) (one_of_more k xs ys (or_right _ _ h) i)

number_label : (l : Label) (ls : List Label) → has_number l.0 (map (λ (m : Label). m.0) ls) ≡ has_label l ls
number_label l [] = refl
number_label l (m ∷ ls) = ap (λ c. nat_eq l.0 m.0 || c) (number_label l ls)

labels_good : (round : Round) (r : Round5) (ls : List Label) (s : Stat5) → list_all w.label_fits ls ≡ true → list_all (lawful.is_new round) ls ≡ true → all_differ (map (λ (l : Label). l.0) ls) ≡ true → Stands round r → GoodStat (deep ls r) s → GoodStat r (m.labelled_by ls s)
labels_good round r [] s f k d a h = h
labels_good round r (l ∷ ls) s f k d a h = labels_good round r ls (m.labelled l s) (b.right _ _ f) (b.right _ _ k) (b.right _ _ d) a
    (label_good (deep ls r) l s (b.left _ _ f)
    (ap (is_one_of (label_text l)) (deep_labels ls r) ∙ one_of_more (label_text l) (texts ls) r.labels
    (label_absent l ls (b.left _ _ f) (b.right _ _ f) (sym (number_label l ls) ∙ unnot _ (b.left _ _ d))) (fresh_label round r l (b.left _ _ f) (b.left _ _ k) a)) h)

texts_more : (ls ks : List Label) → texts (ls ++ ks) ≡ texts ls ++ texts ks
texts_more [] ks = refl
texts_more (l ∷ ls) ks = ap (λ ts. label_text l ∷ ts) (texts_more ls ks)

nothing_more : {A : Type 0} (xs : List A) → xs ++ [] ≡ xs
nothing_more [] = refl
nothing_more (x ∷ xs) = ap (λ ys. x ∷ ys) (nothing_more xs)

all_more : (ls ks : List Label) → list_all w.label_fits ls ≡ true → list_all w.label_fits ks ≡ true → list_all w.label_fits (ls ++ ks) ≡ true
all_more [] ks h k = k
all_more (l ∷ ls) ks h k = both (b.left _ _ h) (all_more ls ks (b.right _ _ h) k)

loop_stands : (round : Round) (r : Round5) (ls : List Label) → list_all w.label_fits ls ≡ true → Stands round r → Stands (lawful.in_loop ls round) (e.under (e.under_loop (deep ls r)))
loop_stands round r ls f a = record {
  inside = deep_inside ls r ∙ a.inside;
  labels = deep_labels ls r ∙ ap (λ ts. texts ls ++ ts) a.labels ∙ sym (texts_more ls round.labels);
  loops = ap (λ ts. ts ++ (deep ls r).loops) (deep_before ls r ∙ ap (λ ts. texts ls ++ ts) a.before ∙ nothing_more (texts ls)) ∙ ap (λ ts. texts ls ++ ts) (deep_loops ls r ∙ a.loops) ∙ sym (texts_more ls round.loops);
  before = refl;
  small = all_more ls round.labels f a.small;
}

-- ## Loops (12.6)

abbrev pub IfGood : Option Expr5 → Type 0
IfGood None = Unit {0}
IfGood (Some x) = Good x

no_first_fits : for_first_fit for_first.NoFirst ≡ true
no_first_fits = ap for_first_fit (sym for_first.rolls-NoFirst) ∙ fit_for_first-roll layer.NoFirst

no_first_pairs : (r : Round5) → for_first_found for_first.NoFirst r ≡ []
no_first_pairs r = ap (λ z. for_first_found z r) (sym for_first.rolls-NoFirst) ∙ ap (λ f. f r) (found_for_first-roll layer.NoFirst)

for_good : (r : Round5) (test update : Option Expr5) (s : Stat5) → r.inside ≡ true → IfGood test → IfGood update → GoodStat (e.under_loop r) s → GoodStat r (stat.For nowhere for_first.NoFirst test update s)
for_good r None None s i t u h = stat_by r _ (layer.For nowhere for_first.NoFirst None None s) (stat.rolls-For nowhere for_first.NoFirst None None s)
    (λ top. both (both (both no_first_fits refl) refl) (h.fits false)) (none (none (none (no_first_pairs r) refl) refl) h.pairs)
for_good r None (Some y) s i t u h = stat_by r _ (layer.For nowhere for_first.NoFirst None (Some y) s) (stat.rolls-For nowhere for_first.NoFirst None (Some y) s)
    (λ top. both (both (both no_first_fits refl) u.fits) (h.fits false)) (none (none (none (no_first_pairs r) refl) (at_inside r y i u)) h.pairs)
for_good r (Some x) None s i t u h = stat_by r _ (layer.For nowhere for_first.NoFirst (Some x) None s) (stat.rolls-For nowhere for_first.NoFirst (Some x) None s)
    (λ top. both (both (both no_first_fits t.fits) refl) (h.fits false)) (none (none (none (no_first_pairs r) (at_inside r x i t)) refl) h.pairs)
for_good r (Some x) (Some y) s i t u h = stat_by r _ (layer.For nowhere for_first.NoFirst (Some x) (Some y) s) (stat.rolls-For nowhere for_first.NoFirst (Some x) (Some y) s)
    (λ top. both (both (both no_first_fits t.fits) u.fits) (h.fits false)) (none (none (none (no_first_pairs r) (at_inside r x i t)) (at_inside r y i u)) h.pairs)

pub looped_in : (round : Round) (ls : List Label) (test update : Option Expr5) (ss : List Stat5) → list_all w.label_fits ls ≡ true → list_all (lawful.is_new round) ls ≡ true → all_differ (map (λ (l : Label). l.0) ls) ≡ true
    → IfGood test → IfGood update → StatsIn (lawful.in_loop ls round) ss → StatIn round (m.looped ls test update ss)
looped_in round ls test update ss f k d t u h r a = labels_good round r ls _ f k d a
    (for_good (deep ls r) test update _ (deep_inside ls r ∙ a.inside) t u (block_good (e.under_loop (deep ls r)) ss (h _ (loop_stands round r ls f a))))

-- ## Jumps (12.7, 12.8)

continue_good : (r : Round5) (l : Label) → w.label_fits l ≡ true → is_one_of (label_text l) r.loops ≡ true → GoodStat r (stat.Continue nowhere (Some (m.label l)))
continue_good r l f h = stat_by r _ (layer.Continue nowhere (Some (m.label l))) (stat.rolls-Continue nowhere (Some (m.label l))) (λ top. label_name l f) (when_not _ (e.F 7) 0 (ap not h))

break_good : (r : Round5) (l : Label) → w.label_fits l ≡ true → is_one_of (label_text l) r.labels ≡ true → GoodStat r (stat.Break nowhere (Some (m.label l)))
break_good r l f h = stat_by r _ (layer.Break nowhere (Some (m.label l))) (stat.rolls-Break nowhere (Some (m.label l))) (λ top. label_name l f) (when_not _ (e.F 7) 0 (ap not h))

fits_there : (l : Label) (ls : List Label) → list_all w.label_fits ls ≡ true → has_label l ls ≡ true → w.label_fits l ≡ true
fits_there l [] h k = absurd (false≢true k)
fits_there l (j ∷ ls) h k = there_by (nat_eq l.0 j.0) refl k (fits_there l ls (b.right _ _ h))
  where
    there_by : (c : Bool) → nat_eq l.0 j.0 ≡ c → (c || has_label l ls) ≡ true → (has_label l ls ≡ true → w.label_fits l ≡ true) → w.label_fits l ≡ true
    there_by true i k f = ap (λ v. nat_lt v 18446744073709551616) (eqb-true l.0 j.0 i) ∙ b.left _ _ h
    there_by false i k f = f k

-- the labels of loops are among those of statements
pub record Tidy (round : Round) : Type 0 where
  pub loops : (l : Label) → has_label l round.loops ≡ true → has_label l round.labels ≡ true

pub jumped_in : (round : Round) (goes_on : Bool) (label : Option Label) → Tidy round → lawful.jump_lawful goes_on label round ≡ true → StatIn round (m.jumped goes_on label)
unfolding m.jumped m.label_if
jumped_in round goes_on None t h r a = absurd (false≢true h)
jumped_in round true (Some l) t h r a = continue_good r l (fits_there l round.labels a.small (t.loops l h)) (ap (is_one_of (label_text l)) a.loops ∙ label_there l round.loops h)
jumped_in round false (Some l) t h r a = break_good r l (fits_there l round.labels a.small h) (ap (is_one_of (label_text l)) a.labels ∙ label_there l round.labels h)

-- ## Cases

pub record CaseIn (round : Round) (c : Case5) : Type 0 where
  pub test : IfGood (out-Case5 c).test
  pub body : StatsIn round (out-Case5 c).body

abbrev pub CasesIn : Round → List Case5 → Type 0
CasesIn round [] = Unit {0}
CasesIn round (c ∷ cs) = CaseIn round c × CasesIn round cs

pub cases_one : (round : Round) (cs : List Case5) (c : Case5) → CasesIn round cs → CaseIn round c → CasesIn round (cs ++ c ∷ [])
cases_one round [] c h k = (k, tt)
cases_one round (d ∷ cs) c h k = (h.0, cases_one round cs c h.1 k)

pub case_in : (round : Round) (test : Option Expr5) (ss : List Stat5) → IfGood test → StatsIn round ss → CaseIn round (m.case test ss)
case_in round test ss t h =
    let q = out-roll-Case5 (record { span = nowhere; test = test; body = ss }) in
    record { test = subst (λ c. IfGood c.test) (sym q) t; body = subst (λ c. StatsIn round c.body) (sym q) h }

-- ## If (12.5)

record GoodCondition (r : Round5) (c : Condition5) : Type 0 where
  fits : (condition_fit c).fits true ≡ true
  closed : (condition_fit c).is_open ≡ false
  pairs : condition_found c r ≡ []

abbrev GoodConditions : Round5 → List Condition5 → Type 0
GoodConditions r [] = Unit {0}
GoodConditions r (c ∷ cs) = GoodCondition r c × GoodConditions r cs

record OtherIn (round : Round) (s : Stat5) : Type 0 where
  good : StatIn round s
  is : (stat_fit s).is_if ≡ false

abbrev IfOther : Round → Option Stat5 → Type 0
IfOther round None = Unit {0}
IfOther round (Some s) = OtherIn round s

abbrev ConditionsIn : Round → List Condition5 → Type 0
ConditionsIn round cs = (r : Round5) → Stands round r → GoodConditions r cs

conditions_by : (round : Round) (test : Option Expr5) (ss : List Stat5) (cs : List Condition5) → IfGood test → StatsIn round ss → ConditionsIn round cs → ConditionsIn round (m.conditions_from test ss cs)
conditions_by round None ss cs t h k r a = tt
conditions_by round (Some x) ss cs t h k r a =
    let y : Open Condition5-F = record { span = nowhere; test = x; body = stat.Block (n.block ss) } in let g = block_in round ss h r a in let f = fit_condition-roll y in let u = found_condition-roll y in
    (record { fits = ap (λ v. v.fits true) f ∙ both t.fits (g.fits false); closed = ap (λ v. v.is_open) f ∙ (closed_block ss).0; pairs = ap (λ v. v r) u ∙ none (at_inside r x a.inside t) g.pairs }, k r a)

other_by : (round : Round) (test : Option Expr5) (ss : List Stat5) (s : Option Stat5) → StatsIn round ss → IfOther round s → IfOther round (m.otherwise_from test ss s)
other_by round None ss s h k = record { good = block_in round ss h; is = (closed_block ss).1 }
other_by round (Some x) ss s h k = k

conditions_in : (round : Round) (cs : List Case5) → CasesIn round cs → ConditionsIn round (m.conditions cs)
conditions_in round [] h = λ r a. tt
conditions_in round (c ∷ cs) h = conditions_by round (out-Case5 c).test (out-Case5 c).body (m.conditions cs) h.0.test h.0.body (conditions_in round cs h.1)

other_in : (round : Round) (cs : List Case5) → CasesIn round cs → IfOther round (m.otherwise cs)
other_in round [] h = tt
other_in round (c ∷ cs) h = other_by round (out-Case5 c).test (out-Case5 c).body (m.otherwise cs) h.0.body (other_in round cs h.1)

conditions_pairs : (r : Round5) (cs : List Condition5) → GoodConditions r cs → e.joined (λ (c : Around). c r) (map condition_found cs) ≡ []
conditions_pairs r [] h = refl
conditions_pairs r (c ∷ cs) h = none h.0.pairs (conditions_pairs r cs h.1)

no_else_fits : (r : Round5) (c : Condition5) (cs : List Condition5) → GoodConditions r (c ∷ cs) → p.if_fits true (condition_fit c) (map condition_fit cs) None ≡ true
no_else_fits r c [] h = h.0.fits
no_else_fits r c (d ∷ cs) h = both (both h.0.fits (ap not h.0.closed)) (no_else_fits r d cs h.1)

else_fits : (r : Round5) (c : Condition5) (cs : List Condition5) (s : Stat5) → GoodConditions r (c ∷ cs) → GoodStat r s → (stat_fit s).is_if ≡ false → p.if_fits true (condition_fit c) (map condition_fit cs) (Some (stat_fit s)) ≡ true
else_fits r c [] s h g i = both (both (both h.0.fits (ap not h.0.closed)) (g.fits false)) (ap not i)
else_fits r c (d ∷ cs) s h g i = both (both h.0.fits (ap not h.0.closed)) (else_fits r d cs s h.1 g i)

if_in : (round : Round) (c : Condition5) (cs : List Condition5) (s : Option Stat5) → ConditionsIn round (c ∷ cs) → IfOther round s → StatIn round (stat.If nowhere c cs s)
if_in round c cs None h o r a =
    let g = h (e.under r) (under_stands round r a) in
    stat_by r _ (layer.If nowhere c cs None) (stat.rolls-If nowhere c cs None) (λ top. no_else_fits (e.under r) c cs g) (none (none g.0.pairs (conditions_pairs (e.under r) cs g.1)) refl)
if_in round c cs (Some s) h o r a =
    let g = h (e.under r) (under_stands round r a) in let k = o.good (e.under r) (under_stands round r a) in
    stat_by r _ (layer.If nowhere c cs (Some s)) (stat.rolls-If nowhere c cs (Some s)) (λ top. else_fits (e.under r) c cs s g k o.is) (none (none g.0.pairs (conditions_pairs (e.under r) cs g.1)) k.pairs)

chosen_by_in : (round : Round) (cs : List Condition5) (s : Option Stat5) (ss : List Stat5) → ConditionsIn round cs → IfOther round s → StatsIn round ss → StatsIn round (m.chosen_by cs s ss)
chosen_by_in round [] None ss h o k = k
chosen_by_in round [] (Some s) ss h o k = then_in round ss s k o.good
chosen_by_in round (c ∷ cs) s ss h o k = then_in round ss _ k (if_in round c cs s h o)

pub chosen_in : (round : Round) (cs : List Case5) (ss : List Stat5) → CasesIn round cs → StatsIn round ss → StatsIn round (m.chosen cs ss)
unfolding m.chosen
chosen_in round cs ss h k = chosen_by_in round (m.conditions cs) (m.otherwise cs) ss (conditions_in round cs h) (other_in round cs h) k

-- ## Switch (12.11)

case_fits_by : (r : Round5) (span : Span) (test : Option Expr5) (ss : List Stat5) → IfGood test → GoodStats r ss → (p.case_step (fit_case (record { span = span; test = test; body = ss }))).fits true ≡ true
case_fits_by r span None ss t h = stats_fit_by r ss false h
case_fits_by r span (Some x) ss t h = both t.fits (stats_fit_by r ss false h)

case_pairs_by : (r : Round5) (span : Span) (test : Option Expr5) (ss : List Stat5) → r.inside ≡ true → IfGood test → GoodStats r ss → e.case_step (found_case (record { span = span; test = test; body = ss })) r ≡ []
case_pairs_by r span None ss i t h = stats_pairs r ss h
case_pairs_by r span (Some x) ss i t h = none (at_inside r x i t) (stats_pairs r ss h)

default_by : (span : Span) (test : Option Expr5) (ss : List Stat5) → (p.case_step (fit_case (record { span = span; test = test; body = ss }))).is_default ≡ not (is_some test)
default_by span None ss = refl
default_by span (Some x) ss = refl

pub default_is : (c : Case5) → (case_fit c).is_default ≡ not (is_some (out-Case5 c).test)
default_is c = ap (λ v. v.is_default) (fit_case-out c) ∙ default_by (out-Case5 c).span (out-Case5 c).test (out-Case5 c).body

case_fits : (round : Round) (r : Round5) (c : Case5) → Stands round r → CaseIn round c → (case_fit c).fits true ≡ true
case_fits round r c a h = ap (λ v. v.fits true) (fit_case-out c) ∙ case_fits_by r (out-Case5 c).span (out-Case5 c).test (out-Case5 c).body h.test (h.body r a)

case_pairs : (round : Round) (r : Round5) (c : Case5) → Stands round r → CaseIn round c → case_found c r ≡ []
case_pairs round r c a h = ap (λ v. v r) (found_case-out c) ∙ case_pairs_by r (out-Case5 c).span (out-Case5 c).test (out-Case5 c).body a.inside h.test (h.body r a)

-- at most one is the default
abbrev pub OneDefault : Bool → List Case5 → Type 0
OneDefault may [] = Unit {0}
OneDefault may (c ∷ cs) = ((not (case_fit c).is_default || may) ≡ true) × OneDefault (not (case_fit c).is_default && may) cs

cases_fit_by : (round : Round) (r : Round5) (may : Bool) (cs : List Case5) → Stands round r → CasesIn round cs → OneDefault may cs → p.cases_fit true may (map case_fit cs) ≡ true
cases_fit_by round r may [] a h o = refl
cases_fit_by round r may (c ∷ cs) a h o = both (both (case_fits round r c a h.0) o.0) (cases_fit_by round r (not (case_fit c).is_default && may) cs a h.1 o.1)

cases_pairs : (round : Round) (r : Round5) (cs : List Case5) → Stands round r → CasesIn round cs → e.joined (λ (c : Around). c r) (map case_found cs) ≡ []
cases_pairs round r [] a h = refl
cases_pairs round r (c ∷ cs) a h = none (case_pairs round r c a h.0) (cases_pairs round r cs a h.1)

pub switch_in : (round : Round) (x : Expr5) (cs : List Case5) → Good x → CasesIn round cs → OneDefault true cs → StatIn round (stat.Switch nowhere x cs)
switch_in round x cs g h o r a = stat_by r _ (layer.Switch nowhere x cs) (stat.rolls-Switch nowhere x cs)
    (λ top. both g.fits (cases_fit_by round (e.under_switch r) true cs (switch_stands round r a) h o)) (none (at_inside r x a.inside g) (cases_pairs round (e.under_switch r) cs (switch_stands round r a) h))

-- ## Try (12.14)

pub caught_in : (round : Round) (ss : List Stat5) (t : List ℕ) (hs : List Stat5) → GoodName t → StatsIn round ss → StatsIn round hs → StatIn round (m.caught ss t hs)
caught_in round ss t hs g h k r a =
    let c : Catch5 = roll-Catch5 (record { span = nowhere; parameter = n.identifier t; body = n.block hs }) in let y : Open Catch5-F = record { span = nowhere; parameter = n.identifier t; body = n.block hs } in
    let f = fit_catch-roll y in let u = found_catch-roll y in let d = under_stands round r a in
    stat_by r _ (layer.Try nowhere (n.block ss) (Some c) None) (stat.rolls-Try nowhere (n.block ss) (Some c) None)
    (λ top. both (block_fits (e.under r) ss (h _ d)) (ap (λ v. v true) f ∙ both g.is (block_fits (e.under r) hs (k _ d))))
    (none (none (block_pairs (e.under r) ss (h _ d)) (ap (λ v. v (e.under r)) u ∙ none (when_not _ (e.F 2) 0 g.free) (block_pairs (e.under r) hs (k _ d)))) refl)

pub finished_in : (round : Round) (ss ls : List Stat5) → StatsIn round ss → StatsIn round ls → StatIn round (m.finished ss ls)
finished_in round ss ls h k r a =
    let d = under_stands round r a in
    stat_by r _ (layer.Try nowhere (n.block ss) None (Some (n.block ls))) (stat.rolls-Try nowhere (n.block ss) None (Some (n.block ls)))
    (λ top. both (block_fits (e.under r) ss (h _ d)) (block_fits (e.under r) ls (k _ d))) (none (none (block_pairs (e.under r) ss (h _ d)) refl) (block_pairs (e.under r) ls (k _ d)))
