-- The flattening of yields keeps what nodes weigh: statements.
use Rattle.std.proofs.Common.{◌≡◌, ℕ, ◌+◌, Bool, true, false, cond, not, nat_eq, suc, List, [], ◌∷◌, ◌++◌, map, length, Option, None, Some, refl, sym, ap, arith, subst, ◌∙◌}
use Rattle.std.proofs.lemmas.Bool.{eqb-true, false≢true}
use Rattle.es_outside.specs.declared.events.Site.{Site}
use Rattle.core_ast.specs.declared.parts.Label.{Label}
use Rattle.core_ast.specs.declared.parts.Binary.TheVariants as binary
use Rattle.core_ast.specs.declared.parts.Unary.TheVariants.{Not}
use Rattle.core_ast.specs.declared.parts.Constant.TheVariants.{Truth, Undefined}
use Rattle.core_ast.specs.declared.parts.CoreHead.{CoreHead}
use Rattle.core_ast.specs.declared.parts.CoreHead.TheVariants as head
use Rattle.core_ast.specs.declared.parts.CoreOp.{CoreOp}
use Rattle.core_ast.specs.declared.parts.CoreOp.TheVariants as op
use Rattle.core_ast.specs.declared.tree.CoreLink.{CoreLink, roll-CoreLink}
use Rattle.core_ast.specs.declared.tree.CoreStat.{CoreStat, roll-CoreStat}
use Rattle.core_ast.specs.declared.tree.CoreCase.{CoreCase, roll-CoreCase}
use Rattle.core_ast.specs.declared.tree.CoreExpr.{CoreExpr, roll-CoreExpr}
use Rattle.core_ast.specs.declared.tree.CoreStat.TheVariants as stat
use Rattle.core_ast.specs.declared.tree.CoreLink.TheOpen as layer
use Rattle.core_ast.specs.Lawful as lawful
use Rattle.core_ast.specs.Lawful.{Round, Joint, Current, IsLawful, is_empty, is_generator}
use Rattle.core_ast.specs.Made.{act, linked, undefined}
use Rattle.pass_rules.specs.declared.yield_rules.spilling.Chain.{Chain}
use Rattle.pass_rules.specs.declared.yield_rules.spilling.Matching.{Matching}
use Rattle.pass_rules.specs.declared.yield_rules.spilling.Place.{Place}
use Rattle.pass_rules.specs.declared.yield_rules.spilling.Spilled.{Spilled}
use Rattle.pass_rules.specs.declared.yield_rules.spilling.SpilledCase.{SpilledCase}
use Rattle.pass_rules.specs.yield_rules.Yields as s
use Rattle.pass_rules.specs.yield_rules.Yields.{Spills, Turns, Adds, Cased, number, two, when}
use Rattle.lawful_passes.proofs.Weights.{Such, mark, total, link_marks, case_marks, stat_marks, expr_marks, stats_marks}
use Rattle.pass_rules.proofs.pass_laws.Related.{Pair, of_link, of_stat, of_case, of_expr, in_link, in_stat, in_case, in_expr, link_rolled, stat_rolled, case_rolled, expr_rolled}
use Rattle.pass_rules.proofs.pass_laws.Induced.{Shows, Keeps, Links, Stats, Cases, Exprs, link_first, link_second, stat_first, stat_second, case_first, case_second, expr_first, expr_second, stat_induced}
use Rattle.pass_rules.proofs.pass_laws.Starts.{laws, not_bare}
use Rattle.pass_rules.proofs.pass_laws.Within.{left, right}
use Rattle.pass_rules.proofs.pass_laws.Yields.{spills}
use Rattle.lawful_passes.proofs.WeightCounts.{counts, links_marks, exprs_marks, cases_marks, option_marks, total_one, stats_one, stats_more, expression_of, case_of, do_of, if_of, switch_of, loop_of, labelled_of, jump_of, return_of, throw_of, catch_of, finally_of, scoped_of, yield_of, variable_of, constant_of, number_of, two_of, acted_of, when_of}
use Rattle.lawful_passes.proofs.WeightYields.{by_test, empty_is, chain_marks, IsKeyed, ChainOf, rest_of, kept_of, goes_on_of, effects_of, spilled_marks, settled_of, only_part, IsOnly, statements_of, undefined_bare, is_yield, value_of, has_none, one_branch_of, two_branches_of}

abbrev Quiet : Such → Option CoreExpr → List CoreStat → Type 0
Quiet such None xs = stats_marks such xs ≡ 0
Quiet such (Some x) xs = true ≡ true

abbrev cased_marks : Such → SpilledCase → ℕ
cased_marks such c = stats_marks such c.before + option_marks such c.test + stats_marks such c.body

record CaseOf (such : Such) (n : ℕ) (c : SpilledCase) : Type 0 where
  count : cased_marks such c ≡ n
  quiet : Quiet such c.test c.before

abbrev FitsIn : Current → Chain → Type 0
FitsIn at c = lawful.is_hosted at ≡ false → s.is_bare_host (s.rest c) ≡ false

abbrev OfLink : Such → CoreLink → Turns → Type 0
OfLink such x f = (round : Round) (at : Current) → lawful.behind at (of_link laws x).ends ≡ true → (of_link laws x).lawful round ≡ true → (p : Place) (c : Chain) → FitsIn at c → IsKeyed such c.base c.reference
    → ChainOf such (chain_marks such c + link_marks such x) (f p c)

abbrev OfStat : Such → CoreStat → Adds → Type 0
OfStat such x f = (round : Round) → of_stat laws x round ≡ true → (p : Place) (xs : List CoreStat) → stats_marks such (f p xs) ≡ stats_marks such xs + stat_marks such x

abbrev OfCase : Such → CoreCase → Cased → Type 0
OfCase such x f = (round : Round) → of_case laws x round ≡ true → (q p : Place) → CaseOf such (case_marks such x) (f q p)

abbrev OfExpr : Such → CoreExpr → Spills → Type 0
OfExpr such x f = (round : Round) → of_expr laws x round ≡ true → (p : Place) → spilled_marks such (f p) ≡ expr_marks such x

abbrev shown : Such → Shows spills
shown such = record { Link = OfLink such; Stat = OfStat such; Case = OfCase such; Expr = OfExpr such }

-- ## Lists

stats_kept : (such : Such) (ps : List (Pair (OfStat such))) (round : Round) → lawful.all_lawful (map (of_stat laws) (map (λ q. q.0) ps)) round ≡ true → (p : Place) (xs : List CoreStat)
    → stats_marks such (s.all_at (map (λ q. q.1) ps) p xs) ≡ stats_marks such xs + stats_marks such (map (λ q. q.0) ps)
stats_kept such [] round h p xs = omega arith
stats_kept such (q ∷ ps) round h p xs = let a = q.2 round (left _ _ h) p xs in let b = stats_kept such ps round (right _ _ h) p (q.1 p xs) in omega arith

links_kept : (such : Such) (ps : List (Pair (OfLink such))) (at : Current) (round : Round) → lawful.links_lawful at (map (of_link laws) (map (λ q. q.0) ps)) round ≡ true → (p : Place) (c : Chain) → FitsIn at c → IsKeyed such c.base c.reference
    → chain_marks such (s.all_at (map (λ q. q.1) ps) p c) ≡ chain_marks such c + links_marks such (map (λ q. q.0) ps)
links_kept such [] at round h p c f k = omega arith
links_kept such (q ∷ ps) at round h p c f k =
    let r = q.2 round at (left _ _ (left _ _ h)) (right _ _ (left _ _ h)) p c f k in
    let a = links_kept such ps (lawful.after (of_link laws q.0).ends) round (right _ _ h) p (q.1 p c) (λ e. r.bare) r.keyed in let b = r.count in omega arith

each_of : (such : Such) (ps : List (Pair (OfExpr such))) (round : Round) → lawful.all_lawful (map (of_expr laws) (map (λ q. q.0) ps)) round ≡ true → (p : Place) → total (map (spilled_marks such) (s.each_at (map (λ q. q.1) ps) p)) ≡ exprs_marks such (map (λ q. q.0) ps)
each_of such [] round h p = refl
each_of such (q ∷ ps) round h p = let a = q.2 round (left _ _ h) p in let b = each_of such ps round (right _ _ h) (s.deeper 1 p) in omega arith

-- ## Strict links

no_more : (o : CoreOp) (n : ℕ) → is_yield o ≡ true → lawful.takes o (suc n) ≡ true → ⊥
no_more op.Yield n e h = not_bare n h
no_more op.Delegate n e h = not_bare n h
no_more o n e h = absurd (false≢true e)

not_one : (n : ℕ) → nat_eq (suc (suc n)) 1 ≡ true → ⊥
not_one n h = let e : suc (suc n) ≡ 1 = eqb-true (suc (suc n)) 1 h in omega arith

only_if : (such : Such) (p : Place) (o : CoreOp) (x : Pair (OfExpr such)) (xs : List (Pair (OfExpr such))) → lawful.takes o (length (map (of_expr laws) (map (λ q. q.0) (x ∷ xs)))) ≡ true → IsOnly such o (s.parts_settled p o (map (λ q. q.1) (x ∷ xs)))
only_if such p o x [] h e = only_part such (s.deeper (s.room o) p) (x.1 (s.deeper (s.room o) p))
only_if such p o x (y ∷ ys) h e = absurd (not_one _ (subst (λ q. lawful.takes q (length (map (of_expr laws) (map (λ r. r.0) (x ∷ y ∷ ys)))) ≡ true) e h))

unhosted : (b : Bool) → not b ≡ true → b ≡ false
unhosted true h = sym h
unhosted false h = refl

indexes : (at : Current) (o : CoreOp) → lawful.behind at (Some o) ≡ true → o ≡ op.Index → lawful.is_hosted at ≡ false
indexes at o h e = unhosted (lawful.is_hosted at) (subst (λ q. lawful.behind at (Some q) ≡ true) e h)

strict_kept : (such : Such) (p : Place) (o : CoreOp) (ps : List (Pair (OfExpr such))) (site : Option Site) (c : Chain) (at : Current) (round : Round) → lawful.behind at (Some o) ≡ true → lawful.takes o (length (map (of_expr laws) (map (λ q. q.0) ps))) ≡ true
    → lawful.all_lawful (map (of_expr laws) (map (λ q. q.0) ps)) round ≡ true → FitsIn at c → IsKeyed such c.base c.reference
    → ChainOf such (chain_marks such c + (exprs_marks such (map (λ q. q.0) ps) + mark such o site)) (s.strict p o (s.parts_settled p o (map (λ q. q.1) ps)) site c)
strict_kept such p o [] site c at round b h m f k = subst (λ n. ChainOf such n (s.behind_value p o [] site c)) (omega arith)
    (value_of such p o [] site c (λ e. refl) (λ e. (f (indexes at o b e), refl)))
strict_kept such p o (x ∷ xs) site c at round b h m f k =
    let t = s.parts_settled p o (map (λ q. q.1) (x ∷ xs)) in
    let n = exprs_marks such (map (λ q. q.0) (x ∷ xs)) in
    let d = settled_of such (s.deeper (s.room o) p) (s.each_at (map (λ q. q.1) (x ∷ xs)) (s.deeper (s.room o) p)) in
    let e = each_of such (x ∷ xs) round m (s.deeper (s.room o) p) in
    by_test (ChainOf such (chain_marks such c + (n + mark such o site))) (is_empty t.before) (s.behind_value p o t.parts site c) (s.behind_statements p o t site c)
    (λ g. subst (λ k2. ChainOf such k2 (s.behind_value p o t.parts site c)) (let i = ap (stats_marks such) (empty_is t.before g) in omega arith)
    (value_of such p o t.parts site c (λ y. absurd (no_more o _ y h)) (λ y. (f (indexes at o b y), only_if such p o x xs h y))))
    (λ g. subst (λ k2. ChainOf such k2 (s.behind_statements p o t site c)) (omega arith) (statements_of such p o t site c (only_if such p o x xs h) k))

-- ## The steps of expressions

link_by : (such : Such) (z : Links (shown such)) (round : Round) (at : Current) → lawful.behind at (lawful.link_step (in_link laws (link_first (shown such) z))).ends ≡ true → (lawful.link_step (in_link laws (link_first (shown such) z))).lawful round ≡ true
    → (p : Place) (c : Chain) → FitsIn at c → IsKeyed such c.base c.reference → ChainOf such (chain_marks such c + (counts such).link_step (in_link (counts such) (link_first (shown such) z))) (s.link_step (link_second (shown such) z) p c)
link_by such (layer.Strict o parts site) round at b h p c f k = strict_kept such p o parts site c at round b (left _ _ (left _ _ h)) (right _ _ h) f k
link_by such (layer.Lazy w taken None) round at b h p c f k = subst (λ n. ChainOf such n (s.one_branch p w (taken.1 (s.deeper 1 p)) c)) (let a = taken.2 round (left _ _ h) (s.deeper 1 p) in omega arith)
    (one_branch_of such p w (taken.1 (s.deeper 1 p)) c)
link_by such (layer.Lazy w taken (Some other)) round at b h p c f k = subst (λ n. ChainOf such n (s.two_branches p w (taken.1 (s.deeper 1 p)) (other.1 (s.deeper 1 p)) c))
    (let a = taken.2 round (left _ _ h) (s.deeper 1 p) in let d = other.2 round (right _ _ h) (s.deeper 1 p) in omega arith)
    (two_branches_of such p w (taken.1 (s.deeper 1 p)) (other.1 (s.deeper 1 p)) c)
link_by such (layer.Run body) round at b h p c f k = goes_on_of such (s.all_at (map (λ q. q.1) body) p (s.with_effects (s.rest c) c.before)) undefined _
    (let a = stats_kept such body round h p (s.with_effects (s.rest c) c.before) in let d = effects_of such (s.rest c) c.before in let e = rest_of such c in let g = constant_of such Undefined in omega arith) undefined_bare

link_kept : (such : Such) (z : Links (shown such)) → OfLink such (roll-CoreLink (link_first (shown such) z)) (s.link_step (link_second (shown such) z))
link_kept such z round at b h p c f k =
    let e = link_rolled laws (link_first (shown such) z) in
    subst (λ n. ChainOf such n (s.link_step (link_second (shown such) z) p c)) (ap (λ n. chain_marks such c + n) (sym (link_rolled (counts such) (link_first (shown such) z))))
    (link_by such z round at (ap (λ j. lawful.behind at j.ends) (sym e) ∙ b) (ap (λ j. j.lawful round) (sym e) ∙ h) p c f k)

head_fits : (such : Such) (site : Option Site) (h : CoreHead) → FitsIn (lawful.begins h) (s.begun site h)
unfolding s.is_host
head_fits such site (head.Host n) e = absurd (false≢true (sym e))
head_fits such site h e = refl

expr_by : (such : Such) (z : Exprs (shown such)) (round : Round) → lawful.expr_step (in_expr laws (expr_first (shown such) z)) round ≡ true → (p : Place)
    → spilled_marks such (s.expr_step (expr_second (shown such) z) p) ≡ (counts such).expr_step (in_expr (counts such) (expr_first (shown such) z))
expr_by such z round h p =
    let c = s.all_at (map (λ q. q.1) z.links) p (s.begun z.site z.head) in
    let a = links_kept such z.links (lawful.begins z.head) round (right _ _ (left _ _ h)) p (s.begun z.site z.head) (head_fits such z.site z.head) refl in
    let b = rest_of such c in let d = expression_of such z.site z.head [] in omega arith

expr_kept : (such : Such) (z : Exprs (shown such)) → OfExpr such (roll-CoreExpr (expr_first (shown such) z)) (s.expr_step (expr_second (shown such) z))
expr_kept such z round h p = expr_by such z round (ap (λ t. t round) (sym (expr_rolled laws (expr_first (shown such) z))) ∙ h) p ∙ sym (expr_rolled (counts such) (expr_first (shown such) z))

case_by : (such : Such) (test : Option (Pair (OfExpr such))) (body : List (Pair (OfStat such))) (round : Round) → lawful.case_step (in_case laws (case_first (shown such) (record { test = test; body = body }))) round ≡ true → (q p : Place)
    → CaseOf such ((counts such).case_step (in_case (counts such) (case_first (shown such) (record { test = test; body = body })))) (s.case_step (case_second (shown such) (record { test = test; body = body })) q p)
case_by such None body round h q p = record { count = let a = stats_kept such body round h p [] in omega arith; quiet = refl }
case_by such (Some t) body round h q p = record { count = let a = stats_kept such body round (right _ _ h) p [] in let b = t.2 round (left _ _ h) q in omega arith; quiet = refl }

case_kept : (such : Such) (z : Cases (shown such)) → OfCase such (roll-CoreCase (case_first (shown such) z)) (s.case_step (case_second (shown such) z))
case_kept such z round h q p = subst (λ n. CaseOf such n (s.case_step (case_second (shown such) z) q p)) (sym (case_rolled (counts such) (case_first (shown such) z)))
    (case_by such z.test z.body round (ap (λ t. t round) (sym (case_rolled laws (case_first (shown such) z))) ∙ h) q p)

-- ## Cases of statements

said_of : (such : Such) (f : CoreExpr → CoreStat) (x : Spilled) (xs : List CoreStat) (n : ℕ) → ((e : CoreExpr) → stat_marks such (f e) ≡ expr_marks such e) → spilled_marks such x ≡ n → stats_marks such (s.said f x xs) ≡ stats_marks such xs + n
said_of such f x xs n h k = let a = stats_one such (xs ++ x.before) (f x.rest) in let b = stats_more such xs x.before in let c = h x.rest in omega arith

abbrev AllCases : Such → List SpilledCase → Type 0
AllCases such [] = true ≡ true
AllCases such (c ∷ cs) = Quiet such c.test c.before × AllCases such cs

abbrev all_marks : Such → List SpilledCase → ℕ
all_marks such cs = total (map (cased_marks such) cs)

cases_quiet : (such : Such) (ps : List (Pair (OfCase such))) (round : Round) → lawful.all_lawful (map (of_case laws) (map (λ r. r.0) ps)) round ≡ true → (q p : Place) → AllCases such (s.cases_at (map (λ r. r.1) ps) q p)
cases_quiet such [] round h q p = refl
cases_quiet such (c ∷ ps) round h q p = ((c.2 round (left _ _ h) q p).quiet, cases_quiet such ps round (right _ _ h) q p)

cases_count : (such : Such) (ps : List (Pair (OfCase such))) (round : Round) → lawful.all_lawful (map (of_case laws) (map (λ r. r.0) ps)) round ≡ true → (q p : Place) → all_marks such (s.cases_at (map (λ r. r.1) ps) q p) ≡ cases_marks such (map (λ r. r.0) ps)
cases_count such [] round h q p = refl
cases_count such (c ∷ ps) round h q p = let a = (c.2 round (left _ _ h) q p).count in let b = cases_count such ps round (right _ _ h) q p in omega arith

abbrev before_marks : Such → List SpilledCase → ℕ
before_marks such cs = total (map (λ c. stats_marks such c.before) cs)

left_of : (such : Such) (cs : List SpilledCase) → before_marks such cs + cases_marks such (s.cases_left cs) ≡ all_marks such cs
left_of such [] = refl
left_of such (c ∷ cs) = let a = case_of such c.test c.body in let b = left_of such cs in omega arith

before_of : (such : Such) (cs : List SpilledCase) (xs : List CoreStat) → stats_marks such (s.cases_before cs xs) ≡ stats_marks such xs + before_marks such cs
before_of such [] xs = omega arith
before_of such (c ∷ cs) xs = let a = before_of such cs (xs ++ c.before) in let b = stats_more such xs c.before in omega arith

leave_of : (such : Such) (p : Place) → stat_marks such (s.leave p) ≡ 0
leave_of such p = jump_of such false (Some (s.label p))

tested_of : (such : Such) (p : Place) (c : SpilledCase) (test : Option CoreExpr) (xs : List CoreStat) → Quiet such test c.before → stats_marks such (s.tested p c test xs) ≡ stats_marks such xs + (stats_marks such c.before + option_marks such test + stats_marks such c.body)
tested_of such p c None xs h = let a = stats_more such xs c.body in omega arith
tested_of such p c (Some t) xs h =
    let a = stats_one such (xs ++ c.before) (when t (c.body ++ s.leave p ∷ [])) in let b = stats_more such xs c.before in let d = when_of such t (c.body ++ s.leave p ∷ []) in
    let e = stats_one such c.body (s.leave p) in let f = leave_of such p in omega arith

all_tested_of : (such : Such) (p : Place) (cs : List SpilledCase) (xs : List CoreStat) → AllCases such cs → stats_marks such (s.all_tested p cs xs) ≡ stats_marks such xs + all_marks such cs
all_tested_of such p [] xs h = omega arith
all_tested_of such p (c ∷ cs) xs h = let a = all_tested_of such p cs (s.tested p c c.test xs) h.1 in let b = tested_of such p c c.test xs h.0 in omega arith

chosen_of : (such : Such) (p : Place) (cs : List SpilledCase) (xs : List CoreStat) → AllCases such cs → stats_marks such (s.chosen p cs xs) ≡ stats_marks such xs + all_marks such cs
chosen_of such p cs xs h = by_test (λ ys. stats_marks such ys ≡ stats_marks such xs + all_marks such cs) (s.later_has cs)
    (xs ++ stat.Labelled (s.label p) (s.all_tested p cs []) ∷ []) (s.cases_before cs xs ++ stat.If (s.cases_left cs) ∷ [])
    (λ e. let a = stats_one such xs (stat.Labelled (s.label p) (s.all_tested p cs [])) in let b = labelled_of such (s.label p) (s.all_tested p cs []) in let c = all_tested_of such p cs [] h in omega arith)
    (λ e. let a = stats_one such (s.cases_before cs xs) (stat.If (s.cases_left cs)) in let b = if_of such (s.cases_left cs) in let c = before_of such cs xs in let d = left_of such cs in omega arith)

abbrev matching_marks : Such → Matching → ℕ
matching_marks such m = stats_marks such m.tests + cases_marks such m.cases

numbered_of : (such : Such) (n : ℕ) (ss : List CoreStat) → case_marks such (s.case_of (Some (number n)) ss) ≡ stats_marks such ss
numbered_of such n ss = let a = case_of such (Some (number n)) ss in let b = number_of such n in omega arith

match_case_of : (such : Such) (p : Place) (i : ℕ) (before : List CoreStat) (t : CoreExpr) (xs : List CoreStat) → stats_marks such (s.match_case p i before t xs) ≡ stats_marks such xs + stats_marks such before + expr_marks such t
match_case_of such p i before t xs =
    let w = when (s.is_same (s.in_slot p) t) (s.kept (s.deeper 1 p) (number i) ∷ s.leave p ∷ []) in
    let a = stats_one such (xs ++ before) w in let b = stats_more such xs before in let c = when_of such (s.is_same (s.in_slot p) t) (s.kept (s.deeper 1 p) (number i) ∷ s.leave p ∷ []) in
    let d = two_of such (s.in_slot p) (op.Operator binary.Same) t refl in let e = variable_of such (s.slot p) in let f = kept_of such (s.deeper 1 p) (number i) in let g = number_of such i in let h = leave_of such p in omega arith

matched_of : (such : Such) (p : Place) (i : ℕ) (c : SpilledCase) (test : Option CoreExpr) (m : Matching) → Quiet such test c.before → matching_marks such (s.matched_test p i c test m) ≡ matching_marks such m + (stats_marks such c.before + option_marks such test + stats_marks such c.body)
matched_of such p i c None m h = let a = total_one (case_marks such) m.cases (s.case_of (Some (number i)) c.body) in let b = numbered_of such i c.body in omega arith
matched_of such p i c (Some t) m h =
    let a = total_one (case_marks such) m.cases (s.case_of (Some (number i)) c.body) in let b = numbered_of such i c.body in let d = match_case_of such p i c.before t m.tests in omega arith

all_matched_of : (such : Such) (p : Place) (i : ℕ) (cs : List SpilledCase) (m : Matching) → AllCases such cs → matching_marks such (s.all_matched p i cs m) ≡ matching_marks such m + all_marks such cs
all_matched_of such p i [] m h = omega arith
all_matched_of such p i (c ∷ cs) m h = let a = all_matched_of such p (i + 1) cs (s.matched_test p i c c.test m) h.1 in let b = matched_of such p i c c.test m h.0 in omega arith

late_of : (such : Such) (p : Place) (m : Matching) (count : ℕ) → stats_marks such (s.switched_late p m count) ≡ matching_marks such m
late_of such p m count =
    let k = s.kept (s.deeper 1 p) (number (s.default_number count m.default)) in
    let a = labelled_of such (s.label p) (m.tests ++ k ∷ []) in let b = stats_one such m.tests k in let c = kept_of such (s.deeper 1 p) (number (s.default_number count m.default)) in
    let d = number_of such (s.default_number count m.default) in let e = switch_of such (s.in_slot (s.deeper 1 p)) m.cases in let f = variable_of such (s.slot (s.deeper 1 p)) in omega arith

switched_of : (such : Such) (p : Place) (x : Spilled) (cs : List SpilledCase) (xs : List CoreStat) (n : ℕ) → spilled_marks such x ≡ n → AllCases such cs → stats_marks such (s.switched p x cs xs) ≡ stats_marks such xs + (n + all_marks such cs)
switched_of such p x cs xs n e h = by_test (λ ys. stats_marks such ys ≡ stats_marks such xs + (n + all_marks such cs)) (s.any_case_has cs)
    (xs ++ x.before ++ s.kept p x.rest ∷ [] ++ s.switched_late p (s.all_matched p 0 cs s.no_match) (length cs)) (s.cases_before cs (xs ++ x.before) ++ stat.Switch x.rest (s.cases_left cs) ∷ [])
    (λ g. let a = stats_more such (xs ++ x.before ++ s.kept p x.rest ∷ []) (s.switched_late p (s.all_matched p 0 cs s.no_match) (length cs)) in let b = stats_one such (xs ++ x.before) (s.kept p x.rest) in
    let c = stats_more such xs x.before in let d = kept_of such p x.rest in let f = late_of such p (s.all_matched p 0 cs s.no_match) (length cs) in let i = all_matched_of such p 0 cs s.no_match h in omega arith)
    (λ g. let a = stats_one such (s.cases_before cs (xs ++ x.before)) (stat.Switch x.rest (s.cases_left cs)) in let b = before_of such cs (xs ++ x.before) in let c = stats_more such xs x.before in
    let d = switch_of such x.rest (s.cases_left cs) in let f = left_of such cs in omega arith)

-- ## Loops

abbrev maybe_marks : Such → Option Spilled → ℕ
maybe_marks such None = 0
maybe_marks such (Some x) = spilled_marks such x

flag_of : (such : Such) (b : Bool) → expr_marks such (s.flag b) ≡ 0
flag_of such b = constant_of such (Truth b)

exit_of : (such : Such) (p : Place) (x : Option Spilled) → stats_marks such (s.exit p x) ≡ maybe_marks such x
exit_of such p None = refl
exit_of such p (Some x) =
    let w = when (linked x.rest (act (op.Unary Not))) (s.leave p ∷ []) in
    let a = stats_one such x.before w in let b = when_of such (linked x.rest (act (op.Unary Not))) (s.leave p ∷ []) in let c = acted_of such x.rest (op.Unary Not) refl in let d = leave_of such p in omega arith

turn_of : (such : Such) (p : Place) (x : Option Spilled) → stats_marks such (s.turn p x) ≡ maybe_marks such x
turn_of such p None = refl
turn_of such p (Some x) =
    let a = when_of such (s.in_slot p) (x.before ++ stat.Do x.rest ∷ []) in let b = stats_one such x.before (stat.Do x.rest) in let c = do_of such x.rest in let d = variable_of such (s.slot p) in
    let e = kept_of such p (s.flag true) in let f = flag_of such true in omega arith

rest_maybe_of : (such : Such) (x : Option Spilled) → s.has_maybe x ≡ false → option_marks such (s.rest_maybe x) ≡ maybe_marks such x
rest_maybe_of such None h = refl
rest_maybe_of such (Some x) h = let a = has_none such x h in omega arith

looped_of : (such : Such) (p : Place) (labels : List Label) (t u : Option Spilled) (body xs : List CoreStat) (n : ℕ) → maybe_marks such t + maybe_marks such u + stats_marks such body ≡ n → stats_marks such (s.looped p labels t u body xs) ≡ stats_marks such xs + n
looped_of such p labels t u body xs n h =
    let P = λ (ys : List CoreStat). stats_marks such ys ≡ stats_marks such xs + n in
    let plain = xs ++ stat.Loop labels (s.rest_maybe t) (s.rest_maybe u) body ∷ [] in
    let headed = xs ++ s.headed p labels t (s.rest_maybe u) body ∷ [] in
    by_test P (s.has_maybe u) (xs ++ s.kept p (s.flag false) ∷ [] ++ s.turned p labels t u body ∷ []) (cond (s.has_maybe t) headed plain)
    (λ e. let a = stats_one such (xs ++ s.kept p (s.flag false) ∷ []) (s.turned p labels t u body) in let b = stats_one such xs (s.kept p (s.flag false)) in let c = kept_of such p (s.flag false) in let d = flag_of such false in
    let f = loop_of such (labels ++ s.label p ∷ []) None None (s.turn p u ++ s.exit p t ++ body) in let g = stats_more such (s.turn p u ++ s.exit p t) body in let i = stats_more such (s.turn p u) (s.exit p t) in
    let j = exit_of such p t in let k = turn_of such p u in omega arith)
    (λ e. by_test P (s.has_maybe t) headed plain
    (λ y. let a = stats_one such xs (s.headed p labels t (s.rest_maybe u) body) in let f = loop_of such (labels ++ s.label p ∷ []) None (s.rest_maybe u) (s.exit p t ++ body) in
    let g = stats_more such (s.exit p t) body in let j = exit_of such p t in let k = rest_maybe_of such u e in omega arith)
    (λ y. let a = stats_one such xs (stat.Loop labels (s.rest_maybe t) (s.rest_maybe u) body) in let f = loop_of such labels (s.rest_maybe t) (s.rest_maybe u) body in
    let j = rest_maybe_of such t y in let k = rest_maybe_of such u e in omega arith))

-- ## Statements

one_of : (such : Such) (xs : List CoreStat) (x : CoreStat) (n : ℕ) → stat_marks such x ≡ n → stats_marks such (xs ++ x ∷ []) ≡ stats_marks such xs + n
one_of such xs x n h = stats_one such xs x ∙ ap (λ k. stats_marks such xs + k) h

stat_by : (such : Such) (z : Stats (shown such)) (round : Round) → lawful.stat_step (in_stat laws (stat_first (shown such) z)) round ≡ true → (p : Place) (xs : List CoreStat)
    → stats_marks such (s.stat_step (stat_second (shown such) z) p xs) ≡ stats_marks such xs + (counts such).stat_step (in_stat (counts such) (stat_first (shown such) z))
stat_by such (layer.Do x) round h p xs = said_of such (λ e. stat.Do e) (x.1 p) xs _ (do_of such) (x.2 round h p)
stat_by such (layer.If cases) round h p xs =
    let cs = s.cases_at (map (λ r. r.1) cases) (s.under p) (s.under p) in
    let a = chosen_of such p cs xs (cases_quiet such cases round h (s.under p) (s.under p)) in let b = cases_count such cases round h (s.under p) (s.under p) in omega arith
stat_by such (layer.Switch subject cases) round h p xs =
    let cs = s.cases_at (map (λ r. r.1) cases) (s.deeper 2 (s.under p)) (s.under p) in
    let a = switched_of such p (subject.1 p) cs xs _ (subject.2 round (left _ _ h) p) (cases_quiet such cases round (right _ _ h) (s.deeper 2 (s.under p)) (s.under p)) in
    let b = cases_count such cases round (right _ _ h) (s.deeper 2 (s.under p)) (s.under p) in omega arith
stat_by such (layer.Loop labels None None body) round h p xs =
    let a = stats_kept such body (lawful.in_loop labels round) (right _ _ h) (s.under p) [] in
    looped_of such p labels None None (s.all_at (map (λ q. q.1) body) (s.under p) []) xs _ (omega arith)
stat_by such (layer.Loop labels None (Some u) body) round h p xs =
    let v = u.1 (s.deeper 1 (s.under p)) in let q = s.loop_place p (Some v) in
    let a = stats_kept such body (lawful.in_loop labels round) (right _ _ h) q [] in let b = u.2 round (right _ _ (left _ _ h)) (s.deeper 1 (s.under p)) in
    looped_of such p labels None (Some v) (s.all_at (map (λ q2. q2.1) body) q []) xs _ (omega arith)
stat_by such (layer.Loop labels (Some t) None body) round h p xs =
    let a = stats_kept such body (lawful.in_loop labels round) (right _ _ h) (s.under p) [] in let b = t.2 round (right _ _ (left _ _ (left _ _ h))) (s.under p) in
    looped_of such p labels (Some (t.1 (s.under p))) None (s.all_at (map (λ q. q.1) body) (s.under p) []) xs _ (omega arith)
stat_by such (layer.Loop labels (Some t) (Some u) body) round h p xs =
    let v = u.1 (s.deeper 1 (s.under p)) in let q = s.loop_place p (Some v) in
    let a = stats_kept such body (lawful.in_loop labels round) (right _ _ h) q [] in let b = t.2 round (right _ _ (left _ _ (left _ _ h))) q in let c = u.2 round (right _ _ (left _ _ h)) (s.deeper 1 (s.under p)) in
    looped_of such p labels (Some (t.1 q)) (Some v) (s.all_at (map (λ q2. q2.1) body) q []) xs _ (omega arith)
stat_by such (layer.Labelled label body) round h p xs = one_of such xs _ _ (labelled_of such label _ ∙ (let a = stats_kept such body (lawful.under label round) (right _ _ h) p [] in omega arith))
stat_by such (layer.Jump goes_on label) round h p xs = one_of such xs _ _ (jump_of such goes_on label)
stat_by such (layer.Return x) round h p xs = said_of such (λ e. stat.Return e) (x.1 p) xs _ (return_of such) (x.2 round (right _ _ h) p)
stat_by such (layer.Throw x) round h p xs = said_of such (λ e. stat.Throw e) (x.1 p) xs _ (throw_of such) (x.2 round h p)
stat_by such (layer.TryCatch block parameter names handler) round h p xs = one_of such xs _ _ (catch_of such _ parameter names _ ∙
    (let a = stats_kept such block round (left _ _ (left _ _ (left _ _ h))) p [] in let b = stats_kept such handler round (right _ _ h) p [] in omega arith))
stat_by such (layer.TryFinally block last) round h p xs = one_of such xs _ _ (finally_of such _ _ ∙
    (let a = stats_kept such block round (left _ _ h) p [] in let b = stats_kept such last round (right _ _ h) p [] in omega arith))
stat_by such (layer.Scoped names body) round h p xs = one_of such xs _ _ (scoped_of such names _ ∙ (let a = stats_kept such body round (right _ _ h) p [] in omega arith))
stat_by such (layer.Yield value kind result) round h p xs = said_of such (λ e. stat.Yield e kind result) (value.1 p) xs _ (λ e. yield_of such e kind result) (value.2 round (right _ _ (left _ _ (left _ _ h))) p)

stat_kept : (such : Such) (z : Stats (shown such)) → OfStat such (roll-CoreStat (stat_first (shown such) z)) (s.stat_step (stat_second (shown such) z))
stat_kept such z round h p xs =
    stat_by such z round (ap (λ t. t round) (sym (stat_rolled laws (stat_first (shown such) z))) ∙ h) p xs
    ∙ ap (λ n. stats_marks such xs + n) (sym (stat_rolled (counts such) (stat_first (shown such) z)))

kept : (such : Such) → Keeps (shown such)
kept such = record { link = link_kept such; stat = stat_kept such; case = case_kept such; expr = expr_kept such }

-- ## Lists of statements

pub weights_kept : (such : Such) (p : Place) (ss xs : List CoreStat) (round : Round) → lawful.stats_lawful ss round ≡ true → stats_marks such (s.all_at (map s.stat_spilled ss) p xs) ≡ stats_marks such xs + stats_marks such ss
weights_kept such p [] xs round h = omega arith
weights_kept such p (x ∷ ss) xs round h =
    let a = stat_induced (shown such) (kept such) x round (left _ _ h) p xs in let b = weights_kept such p ss (s.stat_spilled x p xs) round (right _ _ h) in omega arith
