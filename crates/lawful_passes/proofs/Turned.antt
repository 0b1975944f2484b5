-- The flattening of yields makes lawful statements of lawful ones, wherever labels differ.
use Rattle.std.specs.List.{list_all}
use Rattle.std.proofs.Common.{◌≡◌, ℕ, ◌+◌, ◌≤◌, Bool, true, false, ◌||◌, nat_eq, nat_lt, suc, List, [], ◌∷◌, ◌++◌, map, length, Option, None, Some, refl, sym, ap, arith, subst, ◌∙◌}
use Rattle.std.proofs.lemmas.Bool.{false≢true, lt-ltb, leb-true, eq-eqb, eqb-true}
use Rattle.es_outside.specs.declared.events.Site.{Site}
use Rattle.core_ast.specs.declared.parts.Var.{Var}
use Rattle.core_ast.specs.declared.parts.Label.{Label}
use Rattle.core_ast.specs.declared.parts.CoreHead.{CoreHead}
use Rattle.core_ast.specs.declared.parts.CoreHead.TheVariants as head
use Rattle.core_ast.specs.declared.parts.CoreOp.{CoreOp}
use Rattle.core_ast.specs.declared.parts.CoreOp.TheVariants as op
use Rattle.core_ast.specs.declared.tree.CoreLink.{CoreLink, roll-CoreLink}
use Rattle.core_ast.specs.declared.tree.CoreStat.{CoreStat, roll-CoreStat}
use Rattle.core_ast.specs.declared.tree.CoreCase.{CoreCase, roll-CoreCase}
use Rattle.core_ast.specs.declared.tree.CoreExpr.{CoreExpr, roll-CoreExpr}
use Rattle.core_ast.specs.declared.tree.CoreStat.TheVariants as stat
use Rattle.core_ast.specs.declared.tree.CoreLink.TheOpen as layer
use Rattle.core_ast.specs.Lawful as lawful
use Rattle.core_ast.specs.Lawful.{Round, Joint, Current, Plain, is_empty, all_differ, has_label, has_number}
use Rattle.core_ast.specs.Made.{undefined}
use Rattle.pass_rules.specs.declared.yield_rules.spilling.Chain.{Chain}
use Rattle.pass_rules.specs.declared.yield_rules.spilling.Place.{Place}
use Rattle.pass_rules.specs.declared.yield_rules.spilling.Spilled.{Spilled}
use Rattle.pass_rules.specs.yield_rules.Yields as s
use Rattle.pass_rules.specs.yield_rules.Yields.{Adds, Cased, Spills, Turns}
use Rattle.pass_rules.proofs.pass_laws.Related.{Fold, Pair, of_link, of_stat, of_case, of_expr, in_link, in_stat, in_case, in_expr, link_rolled, stat_rolled, case_rolled, expr_rolled}
use Rattle.pass_rules.proofs.pass_laws.Induced.{Shows, Keeps, Links, Stats, Cases, Exprs, link_first, link_second, stat_first, stat_second, case_first, case_second, expr_first, expr_second, stat_induced}
use Rattle.pass_rules.proofs.pass_laws.Starts.{laws}
use Rattle.pass_rules.proofs.pass_laws.Within.{left, right, both, either}
use Rattle.pass_rules.proofs.pass_laws.YieldMarks.{by_test}
use Rattle.lawful_passes.specs.Told as t
use Rattle.lawful_passes.specs.Told.{Told}
use Rattle.lawful_passes.proofs.Far.{Are, site_count, sites, sites_by, more_sites, begun_far, constant_far, one, rolled_is, do_is, labelled_is, return_is}
use Rattle.lawful_passes.proofs.Labels.{or_first, or_both, no_by, has_left, has_right, differ_left, apart_turned, numbers_of, number_label, label_left, label_right, label_split, label_none}
use Rattle.lawful_passes.proofs.Places.{At, IsPart, at_part, at_more, itself, needed, first_part, second_part, part_of, under_labels, drawn_at, scoped_at, head_at, op_at, jump_at, label_is_new, labels_are_new}
use Rattle.lawful_passes.proofs.Spilling.{SpilledIs, AllSpilled, ChainFar, Room, same, length_map, settled_is, settled_length, more_chain, rest_whole, gone_far, effects_are, statements_are, value_is, room_first, room_drawn, yield_is, not_hosted}
use Rattle.lawful_passes.proofs.Cases.{CaseSound, CasesSound, MaybeIs, LoopParts, one_branch_is, two_branches_is, said_are, chosen_are, switched_are, looped_are}

abbrev pub tells : Fold
tells = record { Link = Told; Stat = Told; Case = Told; Expr = Told; link_step = t.link_step; stat_step = t.stat_step; case_step = t.case_step; expr_step = t.expr_step }

abbrev pub spills : Fold
spills = record { Link = Turns; Stat = Adds; Case = Cased; Expr = Spills; link_step = s.link_step; stat_step = s.stat_step; case_step = s.case_step; expr_step = s.expr_step }

-- ## What is shown of each node

abbrev OfLink : CoreLink → Turns → Type 0
OfLink y f = (round r : Round) (p : Place) (at : Current) (n : ℕ) → At round r (of_link tells y) p → lawful.behind at (of_link laws y).ends ≡ true → (of_link laws y).lawful round ≡ true → n + site_count (of_link laws y).site ≤ 1 → (c : Chain) → ChainFar r at n c
    → ChainFar r (lawful.after (of_link laws y).ends) (n + site_count (of_link laws y).site) (f p c)

abbrev OfStat : CoreStat → Adds → Type 0
OfStat y f = (round r : Round) (p : Place) → At round r (of_stat tells y) p → of_stat laws y round ≡ true → (xs : List CoreStat) → Are r xs → Are r (f p xs)

abbrev OfCase : CoreCase → Cased → Type 0
OfCase y f = (round r : Round) (q p : Place) → At round r (of_case tells y) q → At round r (of_case tells y) p → of_case laws y round ≡ true → CaseSound r (f q p)

abbrev OfExpr : CoreExpr → Spills → Type 0
OfExpr y f = (round r : Round) (p : Place) → At round r (of_expr tells y) p → of_expr laws y round ≡ true → SpilledIs r (f p)

abbrev shown : Shows spills
shown = record { Link = OfLink; Stat = OfStat; Case = OfCase; Expr = OfExpr }

abbrev parts_told : List (Pair OfExpr) → List Told
parts_told ps = map (of_expr tells) (map (λ q. q.0) ps)

abbrev stats_told : List (Pair OfStat) → List Told
stats_told ps = map (of_stat tells) (map (λ q. q.0) ps)

abbrev cases_told : List (Pair OfCase) → List Told
cases_told ps = map (of_case tells) (map (λ q. q.0) ps)

abbrev links_told : List (Pair OfLink) → List Told
links_told ps = map (of_link tells) (map (λ q. q.0) ps)

-- ## The same node at a part

-- the first of two, and the second
at_first : (round r : Round) (a b : Told) (p : Place) → At round r (t.both a b) p → At round r a p
at_first round r a b p h = at_part round r (t.both a b) a p p (first_part a b) (let z = h.slots in omega arith) (omega arith) h

at_second : (round r : Round) (a b : Told) (p : Place) → At round r (t.both a b) p → At round r b p
at_second round r a b p h = at_part round r (t.both a b) b p p (second_part a b) (let z = h.slots in omega arith) (omega arith) h

-- with slots taken
at_deeper : (round r : Round) (a : Told) (k m : ℕ) (p : Place) → k ≤ m → At round r (t.needing m a) p → At round r a (s.deeper k p)
at_deeper round r a k m p l h = at_part round r (t.needing m a) a p (s.deeper k p) (itself a m) (let z = h.slots in omega arith) (omega arith) h

at_under : (round r : Round) (a : Told) (p : Place) → At round r a p → At round r a (s.under p)
at_under round r a p h = at_part round r a a p (s.under p) (record { labels = λ i e. e; differ = λ e. e; few = λ e. e }) (let z = h.slots in omega arith) (omega arith) h

at_same : (round r : Round) (a : Told) (m : ℕ) (p : Place) → At round r (t.needing m a) p → At round r a p
at_same round r a m p h = at_part round r (t.needing m a) a p p (itself a m) (let z = h.slots in omega arith) (omega arith) h

-- ## Lists

stats_walk : (ps : List (Pair OfStat)) (round r : Round) (p : Place) → At round r (t.all (stats_told ps)) p → lawful.all_lawful (map (of_stat laws) (map (λ q. q.0) ps)) round ≡ true → (xs : List CoreStat) → Are r xs → Are r (s.all_at (map (λ q. q.1) ps) p xs)
stats_walk [] round r p a h xs k = k
stats_walk (y ∷ ps) round r p a h xs k =
    stats_walk ps round r p (at_second round r (of_stat tells y.0) (t.all (stats_told ps)) p a) (right _ _ h) (y.1 p xs) (y.2 round r p (at_first round r (of_stat tells y.0) (t.all (stats_told ps)) p a) (left _ _ h) xs k)

parts_walk : (ps : List (Pair OfExpr)) (round r : Round) (p : Place) → At round r (t.needing (length (parts_told ps)) (t.all (parts_told ps))) p → lawful.all_lawful (map (of_expr laws) (map (λ q. q.0) ps)) round ≡ true → AllSpilled r (s.each_at (map (λ q. q.1) ps) p)
parts_walk [] round r p a h = tt
parts_walk (y ∷ ps) round r p a h =
    let n = length (parts_told ps) in let u = of_expr tells y.0 in let v = t.all (parts_told ps) in (
      y.2 round r p (at_first round r u v p (at_same round r (t.both u v) (suc n) p a)) (left _ _ h),
      parts_walk ps round r (s.deeper 1 p) (at_part round r (t.needing (suc n) (t.both u v)) (t.needing n v) p (s.deeper 1 p) (part_of (t.needing n v) v (t.needing (suc n) (t.both u v)) (needed v n) (part_of v (t.both u v) (t.needing (suc n) (t.both u v)) (second_part u v) (itself (t.both u v) (suc n)))) (let z = a.slots in omega arith) (omega arith) a) (right _ _ h),
    )

each_length : (ps : List (Pair OfExpr)) (p : Place) → length (s.each_at (map (λ q. q.1) ps) p) ≡ length (parts_told ps)
each_length [] p = refl
each_length (y ∷ ps) p = ap (λ n. suc n) (each_length ps (s.deeper 1 p))

laws_length : (ps : List (Pair OfExpr)) → length (map (of_expr laws) (map (λ q. q.0) ps)) ≡ length (parts_told ps)
laws_length [] = refl
laws_length (y ∷ ps) = ap (λ n. suc n) (laws_length ps)

cases_walk : (ps : List (Pair OfCase)) (round r : Round) (q p : Place) → At round r (t.all (cases_told ps)) q → At round r (t.all (cases_told ps)) p → lawful.all_lawful (map (of_case laws) (map (λ x. x.0) ps)) round ≡ true → CasesSound r (s.cases_at (map (λ x. x.1) ps) q p)
cases_walk [] round r q p a b h = tt
cases_walk (y ∷ ps) round r q p a b h =
    let u = of_case tells y.0 in let v = t.all (cases_told ps) in
    (y.2 round r q p (at_first round r u v q a) (at_first round r u v p b) (left _ _ h), cases_walk ps round r q p (at_second round r u v q a) (at_second round r u v p b) (right _ _ h))

cases_length : (ps : List (Pair OfCase)) (q p : Place) → length (s.cases_at (map (λ x. x.1) ps) q p) ≡ length (cases_told ps)
cases_length [] q p = refl
cases_length (y ∷ ps) q p = ap (λ n. suc n) (cases_length ps q p)

-- ## Links

room_small : (o : CoreOp) → s.room o ≤ 3
unfolding s.room
room_small op.Call = omega arith
room_small op.Put = omega arith
room_small (op.Update b) = omega arith
room_small o = omega arith

room_of : (round r : Round) (a : Told) (m : ℕ) (p : Place) → 4 ≤ m → At round r (t.needing m a) p → Room r p
room_of round r a m p l h = record { slots = let z = h.slots in omega arith; new = label_is_new round r (t.needing m a) p h; yields = h.hands }

none_before : (q : Place) (xs : List Spilled) → length xs ≡ 0 → is_empty (s.settled q xs).before ≡ true
none_before q [] h = refl
none_before q (x ∷ xs) h = absurd (let z : ⊥ = omega arith in z)

strict_by : (ps : List (Pair OfExpr)) (round r : Round) (p : Place) (o : CoreOp) (site : Option Site) (at : Current) (n : ℕ) (c : Chain) → At round r (t.needing (4 + length (parts_told ps)) (t.all (parts_told ps))) p → lawful.may_stand_behind at o ≡ true
    → lawful.takes o (length (map (of_expr laws) (map (λ q. q.0) ps))) ≡ true → lawful.op_lawful o round ≡ true → lawful.all_lawful (map (of_expr laws) (map (λ q. q.0) ps)) round ≡ true → n + site_count site ≤ 1 → ChainFar r at n c
    → ChainFar r (lawful.gives o) (n + site_count site) (s.strict p o (s.parts_settled p o (map (λ q. q.1) ps)) site c)
strict_by ps round r p o site at n c a b tk m h l k =
    let count = length (parts_told ps) in let all = t.all (parts_told ps) in let small = room_small o in
    let q = s.deeper (s.room o) p in
    let inner = at_part round r (t.needing (4 + count) all) (t.needing count all) p q (part_of (t.needing count all) all (t.needing (4 + count) all) (record { labels = λ i e. e; differ = λ e. e; few = λ e. e }) (itself all (4 + count))) (let z = a.slots in omega arith) (omega arith) a in
    let xs = s.each_at (map (λ y. y.1) ps) q in
    let spilled = parts_walk ps round r q inner h in
    let long = each_length ps q in
    let settled = settled_is r q xs (let z = inner.slots in omega arith) spilled in
    let room = room_of round r all (4 + count) p (omega arith) a in
    let size : length (map (of_expr laws) (s.settled q xs).parts) ≡ length (map (of_expr laws) (map (λ y. y.0) ps)) = length_map (s.settled q xs).parts ∙ settled_length q xs ∙ long ∙ sym (laws_length ps) in
    let tk2 = ap (lawful.takes o) size ∙ tk in let m2 = op_at round r (t.needing (4 + count) all) p o a m in
    by_test (ChainFar r (lawful.gives o) (n + site_count site)) (is_empty (s.settled q xs).before) (s.behind_value p o (s.settled q xs).parts site c) (s.behind_statements p o (s.settled q xs) site c)
    (λ e. value_is r p o (s.settled q xs).parts site at n c l b room tk2 m2 settled.parts k)
    (λ e. statements_are r p o (s.settled q xs) site at n c l b (room_first r p room) (room_drawn r p 1 (omega arith) room) (room_drawn r p 2 (omega arith) room) (record { settled = settled; takes = tk2; op = m2 })
    (λ z. false≢true (sym e ∙ none_before q xs (sym (settled_length q xs) ∙ sym (length_map (s.settled q xs).parts) ∙ z))) k)

link_by : (z : Links shown) (round r : Round) (p : Place) (at : Current) (n : ℕ) → At round r (t.link_step (in_link tells (link_first shown z))) p → lawful.behind at (lawful.link_step (in_link laws (link_first shown z))).ends ≡ true → (lawful.link_step (in_link laws (link_first shown z))).lawful round ≡ true
    → n + site_count (lawful.link_step (in_link laws (link_first shown z))).site ≤ 1 → (c : Chain) → ChainFar r at n c
    → ChainFar r (lawful.after (lawful.link_step (in_link laws (link_first shown z))).ends) (n + site_count (lawful.link_step (in_link laws (link_first shown z))).site) (s.link_step (link_second shown z) p c)
link_by (layer.Strict o parts site) round r p at n a b h l c k = strict_by parts round r p o site at n c a b (left _ _ (left _ _ h)) (right _ _ (left _ _ h)) (right _ _ h) l k
link_by (layer.Lazy o taken None) round r p at n a b h l c k =
    let u = of_expr tells taken.0 in
    let x = taken.2 round r (s.deeper 1 p) (at_first round r u t.nothing (s.deeper 1 p) (at_deeper round r (t.both u t.nothing) 1 1 p (omega arith) a)) (left _ _ h) in
    more_chain r n (n + 0) _ (omega arith) (one_branch_is r p o (taken.1 (s.deeper 1 p)) at n c (omega arith) (not_hosted at b) (lt-ltb p.slot r.names (let z = a.slots in omega arith)) x k)
link_by (layer.Lazy o taken (Some other)) round r p at n a b h l c k =
    let u = of_expr tells taken.0 in let v = of_expr tells other.0 in let inner = at_deeper round r (t.both u v) 1 1 p (omega arith) a in
    let x = taken.2 round r (s.deeper 1 p) (at_first round r u v (s.deeper 1 p) inner) (left _ _ h) in
    let y = other.2 round r (s.deeper 1 p) (at_second round r u v (s.deeper 1 p) inner) (right _ _ h) in
    more_chain r n (n + 0) _ (omega arith) (two_branches_is r p o (taken.1 (s.deeper 1 p)) (other.1 (s.deeper 1 p)) at n c (omega arith) (not_hosted at b) (lt-ltb p.slot r.names (let z = a.slots in omega arith)) x y k)
link_by (layer.Run body) round r p at n a b h l c k =
    let e = effects_are r (s.rest c) c.before (rest_whole r at n c (omega arith) (not_hosted at b) k) k.before in
    gone_far r (n + 0) _ undefined Plain refl (stats_walk body round r p a h (s.with_effects (s.rest c) c.before) e) (more_sites r Plain 0 (n + 0) _ (omega arith) (constant_far r _ refl))

link_kept : (z : Links shown) → OfLink (roll-CoreLink (link_first shown z)) (s.link_step (link_second shown z))
link_kept z round r p at n a b h l c k =
    let j = link_rolled laws (link_first shown z) in
    subst (λ i. ChainFar r (lawful.after i.ends) (n + site_count i.site) (s.link_step (link_second shown z) p c)) (sym j)
    (link_by z round r p at n (subst (λ u. At round r u p) (link_rolled tells (link_first shown z)) a) (ap (λ i. lawful.behind at i.ends) (sym j) ∙ b) (ap (λ i. i.lawful round) (sym j) ∙ h) (subst (λ i. n + site_count i.site ≤ 1) j l) c k)

-- ## Expressions

done_chain : (r : Round) (at : Current) (n : ℕ) (c : Chain) → n ≤ 1 → lawful.is_hosted at ≡ false → ChainFar r at n c → SpilledIs r (s.finished c)
done_chain r at n c l a h = record { before = h.before; rest = rest_whole r at n c l a h }

links_walk : (ps : List (Pair OfLink)) (at : Current) (n : ℕ) (round r : Round) (p : Place) → At round r (t.all (links_told ps)) p → lawful.links_lawful at (map (of_link laws) (map (λ q. q.0) ps)) round ≡ true → n + sites (map (of_link laws) (map (λ q. q.0) ps)) ≤ 1
    → (c : Chain) → ChainFar r at n c → SpilledIs r (s.finished (s.all_at (map (λ q. q.1) ps) p c))
links_walk [] at n round r p a h l c k = done_chain r at n c (omega arith) (not_hosted at h) k
links_walk (y ∷ ps) at n round r p a h l c k =
    let u = of_link tells y.0 in let v = t.all (links_told ps) in
    let e = sites_by (of_link laws y.0) (of_link laws y.0).site (map (of_link laws) (map (λ q. q.0) ps)) refl in
    links_walk ps (lawful.after (of_link laws y.0).ends) (n + site_count (of_link laws y.0).site) round r p (at_second round r u v p a) (right _ _ h) (omega arith) (y.1 p c)
    (y.2 round r p at n (at_first round r u v p a) (left _ _ (left _ _ h)) (right _ _ (left _ _ h)) (omega arith) c k)

begins_no_property : (h : CoreHead) → lawful.is_property (lawful.begins h) ≡ false
begins_no_property (head.Variable x) = refl
begins_no_property (head.Host i) = refl
begins_no_property h = refl

expr_by : (z : Exprs shown) (round r : Round) (p : Place) → At round r (t.expr_step (in_expr tells (expr_first shown z))) p → lawful.expr_step (in_expr laws (expr_first shown z)) round ≡ true → SpilledIs r (s.expr_step (expr_second shown z) p)
expr_by z round r p a h =
    let m = leb-true (sites (map (of_link laws) (map (λ q. q.0) z.links))) 1 (right _ _ h) in
    links_walk z.links (lawful.begins z.head) 0 round r p a (right _ _ (left _ _ h)) (omega arith) (s.begun z.site z.head)
    (record { before = refl; based = record { current = lawful.begins z.head; fits = same; no_reference = begins_no_property z.head; far = begun_far r z.site z.head (left _ _ (left _ _ (left _ _ h))) (head_at round r (t.all (links_told z.links)) p z.head a (right _ _ (left _ _ (left _ _ h)))) } })

expr_kept : (z : Exprs shown) → OfExpr (roll-CoreExpr (expr_first shown z)) (s.expr_step (expr_second shown z))
expr_kept z round r p a h = expr_by z round r p (subst (λ u. At round r u p) (expr_rolled tells (expr_first shown z)) a) (ap (λ f. f round) (sym (expr_rolled laws (expr_first shown z))) ∙ h)

-- ## Cases

case_by : (test : Option (Pair OfExpr)) (body : List (Pair OfStat)) (round r : Round) (q p : Place) → At round r (t.case_step (in_case tells (case_first shown (record { test = test; body = body })))) q → At round r (t.case_step (in_case tells (case_first shown (record { test = test; body = body })))) p
    → lawful.case_step (in_case laws (case_first shown (record { test = test; body = body }))) round ≡ true → CaseSound r (s.case_step (case_second shown (record { test = test; body = body })) q p)
case_by None body round r q p a e h = record { before = refl; test = tt; body = stats_walk body round r p (at_second round r t.nothing (t.all (stats_told body)) p e) h [] refl }
case_by (Some y) body round r q p a e h =
    let u = of_expr tells y.0 in let v = t.all (stats_told body) in let x = y.2 round r q (at_first round r u v q a) (left _ _ h) in
    record { before = x.before; test = x.rest; body = stats_walk body round r p (at_second round r u v p e) (right _ _ h) [] refl }

case_kept : (z : Cases shown) → OfCase (roll-CoreCase (case_first shown z)) (s.case_step (case_second shown z))
case_kept z round r q p a e h =
    let j = case_rolled tells (case_first shown z) in
    case_by z.test z.body round r q p (subst (λ u. At round r u q) j a) (subst (λ u. At round r u p) j e) (ap (λ f. f round) (sym (case_rolled laws (case_first shown z))) ∙ h)

-- ## Under labels

one_is : (k l : Label) → has_label k (l ∷ []) ≡ true → k.0 ≡ l.0
one_is k l e = by_two (nat_eq k.0 l.0) refl e
  where
    by_two : (c : Bool) → nat_eq k.0 l.0 ≡ c → (c || false) ≡ true → k.0 ≡ l.0
    by_two true d e = eqb-true k.0 l.0 d
    by_two false d e = absurd (false≢true e)

-- under the place's own label
at_label : (round r : Round) (a : Told) (p q : Place) → q.slot + a.slots ≤ r.names → q.label ≡ p.label + 1 → At round r a p → At round (lawful.under (s.label p) r) a q
at_label round r a p q m l h = at_more round r a a p q round.labels round.loops (s.label p ∷ []) [] (record { labels = λ i e. e; differ = λ e. e; few = λ e. e }) m (omega arith)
    (λ k e. label_right k (s.label p ∷ []) r.labels (h.labels k e)) h.loops
    (λ k e. let z = one_is k (s.label p) e in omega arith)
    (λ k e. or_both _ _ (no_by _ (λ d. let z = eqb-true k.0 p.label d in let y = h.under k.0 e in let x : ⊥ = omega arith in x)) refl) h

-- under a label of the node's own
at_own : (round r : Round) (a : Told) (p : Place) (l : Label) → At round r (t.labelled (l ∷ []) a) p → At (lawful.under l round) (lawful.under l r) a p
at_own round r a p l h = at_more round r (t.labelled (l ∷ []) a) a p p (l ∷ round.labels) round.loops (l ∷ []) [] (under_labels (l ∷ []) a) h.slots (omega arith)
    (λ k e. split k e) h.loops
    (λ k e. let z = one_is k l e in let y = h.under l.0 (or_first _ _ (eq-eqb l.0 l.0 refl)) in omega arith)
    (λ k e. apart_label k e) h
  where
    split : (k : Label) → has_label k (l ∷ round.labels) ≡ true → has_label k (l ∷ r.labels) ≡ true
    split k e = label_split k (l ∷ []) round.labels (λ d. label_left k (l ∷ []) r.labels d) (λ d. label_right k (l ∷ []) r.labels (h.labels k d)) e

    apart_label : (k : Label) → has_number k.0 a.labels ≡ true → has_label k (l ∷ []) ≡ false
    apart_label k e = sym (number_label k (l ∷ [])) ∙ apart_turned k.0 (l.0 ∷ []) a.labels h.differ e

loop_sub : (labels : List Label) (k : Label) → has_label k labels ≡ true → has_number k.0 (numbers_of labels) ≡ true
loop_sub labels k e = number_label k labels ∙ e

-- a part of a loop, in a round with its labels, and maybe one more
at_loop : (round r : Round) (a b : Told) (p q : Place) (labels ls lps : List Label) (more : List Label) → IsPart b a → q.slot + b.slots ≤ r.names → q.label ≡ p.label + 1 → ((k : Label) → has_label k more ≡ true → k.0 ≡ p.label) → At round r (t.labelled labels a) p
    → ((k : Label) → has_label k ls ≡ true → has_label k ((labels ++ more) ++ r.labels) ≡ true) → ((k : Label) → has_label k lps ≡ true → has_label k ((labels ++ more) ++ r.loops) ≡ true)
    → At (record round { labels = ls; loops = lps }) (lawful.in_loop (labels ++ more) r) b q
at_loop round r a b p q labels ls lps more i m l only h f g = at_more round r (t.labelled labels a) b p q ls lps (labels ++ more) (labels ++ more) (part_of b a (t.labelled labels a) i (under_labels labels a)) m (omega arith) f g
    (λ k e. label_split k labels more (λ d. let z = h.under k.0 (has_left k.0 (numbers_of labels) a.labels (loop_sub labels k d)) in omega arith) (λ d. let z = only k d in omega arith) e)
    (λ k e. none_by k e) h
  where
    none_by : (k : Label) → has_number k.0 b.labels ≡ true → has_label k (labels ++ more) ≡ false
    none_by k e = label_none k labels more
        (sym (number_label k labels) ∙ apart_turned k.0 (numbers_of labels) a.labels h.differ (i.labels k.0 e))
        (no_by _ (λ d. let z = only k d in let y = h.under k.0 (has_right k.0 (numbers_of labels) a.labels (i.labels k.0 e)) in let x : ⊥ = omega arith in x))

no_more : (p : Place) (k : Label) → has_label k [] ≡ true → k.0 ≡ p.label
no_more p k e = absurd (false≢true e)

own_more : (p : Place) (k : Label) → has_label k (s.label p ∷ []) ≡ true → k.0 ≡ p.label
own_more p k e = one_is k (s.label p) e

-- ## Statements

with_nothing : (ls : List Label) → ls ++ [] ≡ ls
with_nothing [] = refl
with_nothing (l ∷ ls) = ap (λ ks. l ∷ ks) (with_nothing ls)

-- the body of a loop, and what stood in its head, in the round of the body
at_body : (round r : Round) (a b : Told) (p q : Place) (labels more : List Label) → IsPart b a → q.slot + b.slots ≤ r.names → q.label ≡ p.label + 1 → ((k : Label) → has_label k more ≡ true → k.0 ≡ p.label) → At round r (t.labelled labels a) p
    → At (lawful.in_loop labels round) (lawful.in_loop (labels ++ more) r) b q
at_body round r a b p q labels more i m l only h = at_loop round r a b p q labels (labels ++ round.labels) (labels ++ round.loops) more i m l only h
    (λ k e. label_split k labels round.labels (λ d. label_left k (labels ++ more) r.labels (label_left k labels more d)) (λ d. label_right k (labels ++ more) r.labels (h.labels k d)) e)
    (λ k e. label_split k labels round.loops (λ d. label_left k (labels ++ more) r.loops (label_left k labels more d)) (λ d. label_right k (labels ++ more) r.loops (h.loops k d)) e)

at_head : (round r : Round) (a b : Told) (p q : Place) (labels more : List Label) → IsPart b a → q.slot + b.slots ≤ r.names → q.label ≡ p.label + 1 → ((k : Label) → has_label k more ≡ true → k.0 ≡ p.label) → At round r (t.labelled labels a) p
    → At round (lawful.in_loop (labels ++ more) r) b q
at_head round r a b p q labels more i m l only h = at_loop round r a b p q labels round.labels round.loops more i m l only h
    (λ k e. label_right k (labels ++ more) r.labels (h.labels k e)) (λ k e. label_right k (labels ++ more) r.loops (h.loops k e))

-- a part of the loop where it stands
at_outside : (round r : Round) (a b : Told) (p q : Place) (labels : List Label) → IsPart b a → q.slot + b.slots ≤ r.names → q.label ≡ p.label + 1 → At round r (t.labelled labels a) p → At round r b q
at_outside round r a b p q labels i m l h = at_part round r (t.labelled labels a) b p q (part_of b a (t.labelled labels a) i (under_labels labels a)) m (omega arith) h

loop_kept : (round r : Round) (p q : Place) (labels : List Label) (u v : Told) (body : List (Pair OfStat)) (test update : Option Spilled) → q.slot ≤ p.slot + 1 → q.label ≡ p.label + 1
    → At round r (t.labelled labels (t.needing 1 (t.both (t.both u v) (t.all (stats_told body))))) p → lawful.all_lawful (map (of_stat laws) (map (λ x. x.0) body)) (lawful.in_loop labels round) ≡ true
    → ((r3 : Round) → At round r3 u q → MaybeIs r3 test) → ((r3 : Round) → At round r3 v (s.deeper 1 (s.under p)) → MaybeIs r3 update) → LoopParts r p labels test update (s.all_at (map (λ x. x.1) body) q [])
loop_kept round r p q labels u v body test update m l h b f g =
    let w = t.all (stats_told body) in let both = t.both (t.both u v) w in let a = t.needing 1 both in
    let iu : IsPart u a = part_of u both a (part_of u (t.both u v) both (first_part u v) (first_part (t.both u v) w)) (itself both 1) in
    let iv : IsPart v a = part_of v both a (part_of v (t.both u v) both (second_part u v) (first_part (t.both u v) w)) (itself both 1) in
    let iw : IsPart w a = part_of w both a (second_part (t.both u v) w) (itself both 1) in
    let z = h.slots in
    let mine = s.label p ∷ [] in
    let inner = subst (λ ls. At (lawful.in_loop labels round) (lawful.in_loop ls r) w q) (with_nothing labels) (at_body round r a w p q labels [] iw (omega arith) l (no_more p) h) in
    record {
      new = labels_are_new round r a p labels h;
      own = label_is_new round r (t.labelled labels a) p h;
      differ = differ_left (numbers_of labels) a.labels h.differ;
      other = no_by _ (λ d. let y = h.under p.label (has_left p.label (numbers_of labels) a.labels d) in let x : ⊥ = omega arith in x);
      drawn = lt-ltb p.slot r.names (omega arith);
      test = f r (at_outside round r a u p q labels iu (omega arith) l h);
      update = g r (at_outside round r a v p (s.deeper 1 (s.under p)) labels iv (omega arith) refl h);
      test_inside = f (lawful.in_loop (labels ++ mine) r) (at_head round r a u p q labels mine iu (omega arith) l (own_more p) h);
      update_inside = g (lawful.in_loop (labels ++ mine) r) (at_head round r a v p (s.deeper 1 (s.under p)) labels mine iv (omega arith) refl (own_more p) h);
      body = stats_walk body (lawful.in_loop labels round) (lawful.in_loop labels r) q inner b [] refl;
      body_inside = stats_walk body (lawful.in_loop labels round) (lawful.in_loop (labels ++ mine) r) q (at_body round r a w p q labels mine iw (omega arith) l (own_more p) h) b [] refl;
    }

place_slot : (p : Place) (u : Option Spilled) → (s.loop_place p u).slot ≤ p.slot + 1
place_slot p u = either (λ (q : Place). q.slot ≤ p.slot + 1) (s.has_maybe u) (omega arith) (omega arith)

place_label : (p : Place) (u : Option Spilled) → (s.loop_place p u).label ≡ p.label + 1
place_label p u = either (λ (q : Place). q.label ≡ p.label + 1) (s.has_maybe u) refl refl

kinds_at : (round r : Round) (a : Told) (p : Place) (kind : Option Var) → At round r a p → list_all (λ i. nat_lt i round.names) (lawful.number_of kind) ≡ true → list_all (λ i. nat_lt i r.names) (lawful.number_of kind) ≡ true
kinds_at round r a p None h d = refl
kinds_at round r a p (Some x) h d = both (drawn_at round r a p x h (left _ _ d)) refl

switch_part : (ps : List (Pair OfCase)) (a : Told) → IsPart a (t.few_cases (cases_told ps) a)
switch_part ps a = record { labels = λ i e. e; differ = λ e. e; few = λ e. right _ _ e }

stat_by : (z : Stats shown) (round r : Round) (p : Place) → At round r (t.stat_step (in_stat tells (stat_first shown z))) p → lawful.stat_step (in_stat laws (stat_first shown z)) round ≡ true → (xs : List CoreStat) → Are r xs → Are r (s.stat_step (stat_second shown z) p xs)
stat_by (layer.Do x) round r p a h xs k = said_are r (λ e. stat.Do e) (x.1 p) xs (x.2 round r p a h) (λ e g. do_is r e g) k
stat_by (layer.If cases) round r p a h xs k =
    let u = t.all (cases_told cases) in let i = at_under round r u p a in let j = at_label round r u p (s.under p) (let z = a.slots in omega arith) refl a in
    chosen_are r p _ xs (label_is_new round r u p a) (cases_walk cases round r (s.under p) (s.under p) i i h) (cases_walk cases round (lawful.under (s.label p) r) (s.under p) (s.under p) j j h) k
stat_by (layer.Switch subject cases) round r p a h xs k =
    let u = of_expr tells subject.0 in let v = t.all (cases_told cases) in let c = t.needing 2 (t.both u v) in let z = a.slots in
    let b = at_part round r (t.few_cases (cases_told cases) c) c p p (switch_part cases c) (omega arith) (omega arith) a in
    let iv : IsPart v c = part_of v (t.both u v) c (second_part u v) (itself (t.both u v) 2) in
    let near = at_part round r c v p (s.under p) iv (omega arith) (omega arith) b in let far = at_part round r c v p (s.deeper 2 (s.under p)) iv (omega arith) (omega arith) b in
    let base = at_part round r c v p p iv (omega arith) (omega arith) b in
    let near_in = at_label round r v p (s.under p) (omega arith) refl base in let far_in = at_label round r v p (s.deeper 2 (s.under p)) (omega arith) refl base in
    let n = ap lawful.is_safe (cases_length cases (s.deeper 2 (s.under p)) (s.under p)) ∙ left _ _ a.few in
    switched_are r p (subject.1 p) _ xs (label_is_new round r c p b) n (lt-ltb p.slot r.names (omega arith)) (lt-ltb (p.slot + 1) r.names (omega arith))
    (subject.2 round r p (at_first round r u v p (at_same round r (t.both u v) 2 p b)) (left _ _ h))
    (cases_walk cases round r (s.deeper 2 (s.under p)) (s.under p) far near (right _ _ h))
    (cases_walk cases round (lawful.under (s.label p) r) (s.deeper 2 (s.under p)) (s.under p) far_in near_in (right _ _ h)) k
stat_by (layer.Loop labels None None body) round r p a h xs k =
    looped_are r p labels None None _ xs (loop_kept round r p (s.under p) labels t.nothing t.nothing body None None (omega arith) refl a (right _ _ h) (λ r3 e. tt) (λ r3 e. tt)) k
stat_by (layer.Loop labels None (Some y) body) round r p a h xs k =
    let u = Some (y.1 (s.deeper 1 (s.under p))) in
    looped_are r p labels None u _ xs (loop_kept round r p (s.loop_place p u) labels t.nothing (of_expr tells y.0) body None u (place_slot p u) (place_label p u) a (right _ _ h) (λ r3 e. tt) (λ r3 e. y.2 round r3 (s.deeper 1 (s.under p)) e (right _ _ (left _ _ h)))) k
stat_by (layer.Loop labels (Some x) None body) round r p a h xs k =
    looped_are r p labels (Some (x.1 (s.under p))) None _ xs (loop_kept round r p (s.under p) labels (of_expr tells x.0) t.nothing body (Some (x.1 (s.under p))) None (omega arith) refl a (right _ _ h) (λ r3 e. x.2 round r3 (s.under p) e (right _ _ (left _ _ (left _ _ h)))) (λ r3 e. tt)) k
stat_by (layer.Loop labels (Some x) (Some y) body) round r p a h xs k =
    let u = Some (y.1 (s.deeper 1 (s.under p))) in let q = s.loop_place p u in
    looped_are r p labels (Some (x.1 q)) u _ xs (loop_kept round r p q labels (of_expr tells x.0) (of_expr tells y.0) body (Some (x.1 q)) u (place_slot p u) (place_label p u) a (right _ _ h)
    (λ r3 e. x.2 round r3 q e (right _ _ (left _ _ (left _ _ h)))) (λ r3 e. y.2 round r3 (s.deeper 1 (s.under p)) e (right _ _ (left _ _ h)))) k
stat_by (layer.Labelled label body) round r p a h xs k =
    let u = t.all (stats_told body) in
    one r xs _ k (labelled_is r label _ (left _ _ (labels_are_new round r u p (label ∷ []) a)) (stats_walk body (lawful.under label round) (lawful.under label r) p (at_own round r u p label a) (right _ _ h) [] refl))
stat_by (layer.Jump goes_on label) round r p a h xs k = one r xs _ k (rolled_is r _ (layer.Jump goes_on label) (stat.rolls-Jump goes_on label) (jump_at round r t.nothing p goes_on label a h))
stat_by (layer.Return x) round r p a h xs k = said_are r (λ e. stat.Return e) (x.1 p) xs (x.2 round r p a (right _ _ h)) (λ e g. return_is r e (a.returns (left _ _ h)) g) k
stat_by (layer.Throw x) round r p a h xs k = said_are r (λ e. stat.Throw e) (x.1 p) xs (x.2 round r p a h) (λ e g. rolled_is r _ (layer.Throw e) (stat.rolls-Throw e) g) k
stat_by (layer.TryCatch block parameter names handler) round r p a h xs k =
    let u = t.all (stats_told block) in let v = t.all (stats_told handler) in
    let b = stats_walk block round r p (at_first round r u v p a) (left _ _ (left _ _ (left _ _ h))) [] refl in let c = stats_walk handler round r p (at_second round r u v p a) (right _ _ h) [] refl in
    one r xs _ k (rolled_is r _ (layer.TryCatch (s.all_at (map (λ x. x.1) block) p []) parameter names (s.all_at (map (λ x. x.1) handler) p [])) (stat.rolls-TryCatch (s.all_at (map (λ x. x.1) block) p []) parameter names (s.all_at (map (λ x. x.1) handler) p []))
    (both (both (both b (drawn_at round r (t.both u v) p parameter a (right _ _ (left _ _ (left _ _ h))))) (scoped_at round r (t.both u v) p names a (right _ _ (left _ _ h)))) c))
stat_by (layer.TryFinally block last) round r p a h xs k =
    let u = t.all (stats_told block) in let v = t.all (stats_told last) in
    let b = stats_walk block round r p (at_first round r u v p a) (left _ _ h) [] refl in let c = stats_walk last round r p (at_second round r u v p a) (right _ _ h) [] refl in
    one r xs _ k (rolled_is r _ (layer.TryFinally (s.all_at (map (λ x. x.1) block) p []) (s.all_at (map (λ x. x.1) last) p [])) (stat.rolls-TryFinally (s.all_at (map (λ x. x.1) block) p []) (s.all_at (map (λ x. x.1) last) p [])) (both b c))
stat_by (layer.Scoped names body) round r p a h xs k =
    let b = stats_walk body round r p a (right _ _ h) [] refl in
    one r xs _ k (rolled_is r _ (layer.Scoped names (s.all_at (map (λ x. x.1) body) p [])) (stat.rolls-Scoped names (s.all_at (map (λ x. x.1) body) p [])) (both (scoped_at round r (t.all (stats_told body)) p names a (left _ _ h)) b))
stat_by (layer.Yield value kind result) round r p a h xs k =
    let y = a.yields (left _ _ (left _ _ (left _ _ h))) in let u = of_expr tells value.0 in
    said_are r (λ e. stat.Yield e kind result) (value.1 p) xs (value.2 round r p a (right _ _ (left _ _ (left _ _ h))))
    (λ e g. yield_is r e kind result y g (drawn_at round r u p result a (right _ _ (left _ _ h))) (kinds_at round r u p kind a (right _ _ h))) k

stat_kept : (z : Stats shown) → OfStat (roll-CoreStat (stat_first shown z)) (s.stat_step (stat_second shown z))
stat_kept z round r p a h xs k = stat_by z round r p (subst (λ u. At round r u p) (stat_rolled tells (stat_first shown z)) a) (ap (λ f. f round) (sym (stat_rolled laws (stat_first shown z))) ∙ h) xs k

keeps : Keeps shown
keeps = record { link = link_kept; stat = stat_kept; case = case_kept; expr = expr_kept }

-- statements that are turned at a place, in a round of their labels and others
pub stats_turned : (ss : List CoreStat) (round r : Round) (p : Place) → At round r (t.stats_told ss) p → lawful.stats_lawful ss round ≡ true → (xs : List CoreStat) → Are r xs → Are r (s.all_at (map s.stat_spilled ss) p xs)
stats_turned [] round r p a h xs k = k
stats_turned (y ∷ ss) round r p a h xs k =
    let u = of_stat tells y in let v = t.stats_told ss in
    stats_turned ss round r p (at_second round r u v p a) (right _ _ h) (s.stat_spilled y p xs) (stat_induced shown keeps y round r p (at_first round r u v p a) (left _ _ h) xs k)
