-- The body of a generator makes a lawful machine, if its yields are flat and its states can be numbered.
use Rattle.std.specs.List.{list_all}
use Rattle.std.proofs.Common.{◌≡◌, ℕ, suc, ◌+◌, ◌≤◌, ◌<◌, Bool, true, false, ◌&&◌, cond, nat_eq, nat_lt, length, List, [], ◌∷◌, ◌++◌, map, Option, None, Some, refl, sym, ap, arith, subst, ◌∙◌}
use Rattle.std.proofs.lemmas.Bool.{false≢true, eq-eqb, ltb-true}
use Rattle.core_ast.specs.declared.parts.Label.{Label}
use Rattle.core_ast.specs.declared.parts.Var.{Var}
use Rattle.core_ast.specs.declared.tree.CoreCase.{CoreCase, roll-CoreCase}
use Rattle.core_ast.specs.declared.tree.CoreExpr.{CoreExpr, roll-CoreExpr}
use Rattle.core_ast.specs.declared.tree.CoreLink.{CoreLink, roll-CoreLink}
use Rattle.core_ast.specs.declared.tree.CoreStat.{CoreStat, roll-CoreStat}
use Rattle.core_ast.specs.declared.tree.CoreLink.TheVariants as link
use Rattle.core_ast.specs.declared.tree.CoreStat.TheVariants as stat
use Rattle.core_ast.specs.declared.tree.CoreLink.TheOpen as layer
use Rattle.core_ast.specs.declared.tree.CoreLink.TheOpen.{CoreStat-F, CoreCase-F}
use Rattle.core_ast.specs.Lawful as lawful
use Rattle.core_ast.specs.Lawful.{Round, has_number}
use Rattle.pass_rules.specs.declared.state_rules.states.Completion.{Completion}
use Rattle.pass_rules.specs.declared.state_rules.states.Machine.{Machine}
use Rattle.pass_rules.specs.declared.state_rules.states.Place.{Place}
use Rattle.pass_rules.specs.state_rules.States as s
use Rattle.pass_rules.specs.state_rules.States.{Branch, Part}
use Rattle.pass_rules.specs.yield_rules.Yields.{case_of}
use Rattle.pass_rules.specs.pass_laws.Levels as levels
use Rattle.pass_rules.specs.pass_laws.Marks.{total}
use Rattle.pass_rules.proofs.pass_laws.Induced.{Shows, Keeps, Links, Stats, Cases, Exprs, link_first, link_second, stat_first, stat_second, case_first, case_second, expr_first, expr_second, stat_induced}
use Rattle.pass_rules.proofs.pass_laws.Machines.{machines}
use Rattle.pass_rules.proofs.pass_laws.Related.{Fold, Pair, of_stat, of_case, of_expr, in_stat, in_case, stat_rolled, case_rolled}
use Rattle.pass_rules.proofs.pass_laws.Starts.{laws}
use Rattle.pass_rules.proofs.pass_laws.Within.{within, left, right, both}
use Rattle.pass_rules.proofs.pass_laws.YieldMarks.{by_test}
use Rattle.lawful_passes.specs.States as states
use Rattle.lawful_passes.specs.Told as t
use Rattle.lawful_passes.specs.Told.{Told}
use Rattle.lawful_passes.proofs.Far.{Are, AreCases, Is, case_is, default_is, do_is, if_is, rolled_is, switch_is}
use Rattle.lawful_passes.proofs.Growing.{At, DrawnFrom, Grows, Holds, KindFrom, MaybeFrom, SoundFrom, at_from, at_region, at_under, begins_holds, drawn_from, draws_holds, ends_holds, fit, goes_then_holds, guarded_holds, headed_holds, inside_from, jumped_holds, kept_region_holds, pair_drawn, pair_size, safe, same_from, says_holds, size, turned_holds, with_fewer, with_room, yielded_holds}
use Rattle.lawful_passes.proofs.Inside.{Inside, Same, all_new_moved, drawn_moved, expr_moved, flat, inside_label, inside_loop, jump_moved, new_moved, scoped_moved}
use Rattle.lawful_passes.proofs.Labels.{has_left, has_right, label_left, label_right, label_split, numbers_of, or_first, or_second, unnot}
use Rattle.lawful_passes.proofs.Rebound.{renamed}
use Rattle.lawful_passes.proofs.Spilling.{Sound}
use Rattle.lawful_passes.proofs.Stepping.{goes_are, handed_on_is, moves_are, nothing_kept_are, unwinds_are}
use Rattle.lawful_passes.proofs.Turned.{tells}

abbrev pub needs : Fold
needs = record { Link = ℕ; Stat = ℕ; Case = ℕ; Expr = ℕ; link_step = states.link_step; stat_step = states.stat_step; case_step = states.case_step; expr_step = states.expr_step }

-- ## What is asked of a node: lawful in its round, with yields that are flat, and with labels below that of the turns

record Ok (turn : ℕ) (round : Round) (a : Told) (w : levels.Test) (f : lawful.Test) : Type 0 where
  under : (i : ℕ) → has_number i a.labels ≡ true → i < turn
  level : w flat ≡ true
  lawful : f round ≡ true

abbrev OkStat : ℕ → Round → CoreStat → Type 0
OkStat turn round y = Ok turn round (of_stat tells y) (of_stat within y) (of_stat laws y)

abbrev OkStats : ℕ → Round → List CoreStat → Type 0
OkStats turn round ys = Ok turn round (t.all (map (of_stat tells) ys)) (levels.all_within (map (of_stat within) ys)) (lawful.all_lawful (map (of_stat laws) ys))

abbrev OkCase : ℕ → Round → CoreCase → Type 0
OkCase turn round y = Ok turn round (of_case tells y) (of_case within y) (of_case laws y)

abbrev OkCases : ℕ → Round → List CoreCase → Type 0
OkCases turn round ys = Ok turn round (t.all (map (of_case tells) ys)) (levels.all_within (map (of_case within) ys)) (lawful.all_lawful (map (of_case laws) ys))

first_ok : (turn : ℕ) (round : Round) (y : CoreStat) (ys : List CoreStat) → OkStats turn round (y ∷ ys) → OkStat turn round y
first_ok turn round y ys h = record { under = λ i e. h.under i (has_left i (of_stat tells y).labels (t.all (map (of_stat tells) ys)).labels e); level = left _ _ h.level; lawful = left _ _ h.lawful }

rest_ok : (turn : ℕ) (round : Round) (y : CoreStat) (ys : List CoreStat) → OkStats turn round (y ∷ ys) → OkStats turn round ys
rest_ok turn round y ys h = record { under = λ i e. h.under i (has_right i (of_stat tells y).labels (t.all (map (of_stat tells) ys)).labels e); level = right _ _ h.level; lawful = right _ _ h.lawful }

first_case_ok : (turn : ℕ) (round : Round) (y : CoreCase) (ys : List CoreCase) → OkCases turn round (y ∷ ys) → OkCase turn round y
first_case_ok turn round y ys h = record { under = λ i e. h.under i (has_left i (of_case tells y).labels (t.all (map (of_case tells) ys)).labels e); level = left _ _ h.level; lawful = left _ _ h.lawful }

rest_cases_ok : (turn : ℕ) (round : Round) (y : CoreCase) (ys : List CoreCase) → OkCases turn round (y ∷ ys) → OkCases turn round ys
rest_cases_ok turn round y ys h = record { under = λ i e. h.under i (has_right i (of_case tells y).labels (t.all (map (of_case tells) ys)).labels e); level = right _ _ h.level; lawful = right _ _ h.lawful }

-- ## What is shown of each node

abbrev Stays : CoreStat → (List Label → Bool) → Type 0
Stays y f = (turn : ℕ) (round r : Round) (inside : List Label) → Inside turn round r inside → OkStat turn round y → f inside ≡ true → Is r y

abbrev CaseStays : CoreCase → (List Label → Bool) → Type 0
CaseStays y f = (turn : ℕ) (round r : Round) (inside : List Label) → Inside turn round r inside → OkCase turn round y → f inside ≡ true → of_case laws y r ≡ true

record PartIs (y : CoreStat) (x : Part) : Type 0 where
  whole : x.whole ≡ y
  stays : Stays y x.stays
  adds : (base : ℕ) (round r : Round) (p : Place) → At base round r p → OkStat p.registers.turn.0 round y → Grows r base (of_stat needs y) (x.adds p)

record BranchIs (y : CoreCase) (x : Branch) : Type 0 where
  whole : x.whole ≡ y
  stays : CaseStays y x.stays
  test : (turn base : ℕ) (round r : Round) → ((b : ℕ) → base ≤ b → Same round (renamed b r)) → OkCase turn round y → MaybeFrom r base x.test
  adds : (base : ℕ) (round r : Round) (p : Place) → At base round r p → OkCase p.registers.turn.0 round y → Grows r base (of_case needs y) (x.adds p)

abbrev OfLink : CoreLink → CoreLink → Type 0
OfLink y x = x ≡ y

abbrev OfExpr : CoreExpr → CoreExpr → Type 0
OfExpr y x = x ≡ y

abbrev shown : Shows machines
shown = record { Link = OfLink; Stat = PartIs; Case = BranchIs; Expr = OfExpr }

abbrev Parts : Type 0
Parts = List (Pair PartIs)

abbrev Branches : Type 0
Branches = List (Pair BranchIs)

abbrev nodes : Parts → List CoreStat
nodes ps = map (λ q. q.0) ps

abbrev parts : Parts → List Part
parts ps = map (λ q. q.1) ps

abbrev case_nodes : Branches → List CoreCase
case_nodes cs = map (λ q. q.0) cs

abbrev branches : Branches → List Branch
branches cs = map (λ q. q.1) cs

-- ## Each is itself

exprs_same : (ps : List (Pair OfExpr)) → map (λ q. q.1) ps ≡ map (λ q. q.0) ps
exprs_same [] = refl
exprs_same (q ∷ ps) = ap (λ x. x ∷ map (λ p. p.1) ps) q.2 ∙ ap (λ xs. q.0 ∷ xs) (exprs_same ps)

links_same : (ps : List (Pair OfLink)) → map (λ q. q.1) ps ≡ map (λ q. q.0) ps
links_same [] = refl
links_same (q ∷ ps) = ap (λ x. x ∷ map (λ p. p.1) ps) q.2 ∙ ap (λ xs. q.0 ∷ xs) (links_same ps)

wholes_same : (ps : Parts) → s.wholes (parts ps) ≡ nodes ps
wholes_same [] = refl
wholes_same (q ∷ ps) = ap (λ x. x ∷ s.wholes (parts ps)) q.2.whole ∙ ap (λ xs. q.0 ∷ xs) (wholes_same ps)

whole_cases_same : (cs : Branches) → s.whole_cases (branches cs) ≡ case_nodes cs
whole_cases_same [] = refl
whole_cases_same (q ∷ cs) = ap (λ x. x ∷ s.whole_cases (branches cs)) q.2.whole ∙ ap (λ xs. q.0 ∷ xs) (whole_cases_same cs)

link_same : (z : Links shown) → s.link_step (link_second shown z) ≡ roll-CoreLink (link_first shown z)
link_same (layer.Strict o parts site) = ap (λ ps. link.Strict o ps site) (exprs_same parts) ∙ sym (link.rolls-Strict o (map (λ q. q.0) parts) site)
link_same (layer.Lazy w taken None) = ap (λ x. link.Lazy w x None) taken.2 ∙ sym (link.rolls-Lazy w taken.0 None)
link_same (layer.Lazy w taken (Some other)) = ap (λ x. link.Lazy w x (Some other.1)) taken.2 ∙ ap (λ x. link.Lazy w taken.0 (Some x)) other.2 ∙ sym (link.rolls-Lazy w taken.0 (Some other.0))
link_same (layer.Run body) = ap (λ ss. link.Run ss) (wholes_same body) ∙ sym (link.rolls-Run (nodes body))

expr_same : (z : Exprs shown) → s.expr_step (expr_second shown z) ≡ roll-CoreExpr (expr_first shown z)
expr_same z = ap (λ ls. roll-CoreExpr (record { site = z.site; head = z.head; links = ls })) (links_same z.links)

case_same : (test : Option (Pair OfExpr)) (body : Parts) → (s.case_step (case_second shown (record { test = test; body = body }))).whole ≡ roll-CoreCase (case_first shown (record { test = test; body = body }))
case_same None body = ap (λ ss. case_of None ss) (wholes_same body)
case_same (Some x) body = ap (λ y. case_of (Some y) (s.wholes (parts body))) x.2 ∙ ap (λ ss. case_of (Some x.0) ss) (wholes_same body)

stat_same : (z : Stats shown) → s.whole_stat (stat_second shown z) ≡ roll-CoreStat (stat_first shown z)
stat_same (layer.Do x) = ap (λ y. stat.Do y) x.2 ∙ sym (stat.rolls-Do x.0)
stat_same (layer.If cases) = ap (λ cs. stat.If cs) (whole_cases_same cases) ∙ sym (stat.rolls-If (case_nodes cases))
stat_same (layer.Switch subject cases) = ap (λ y. stat.Switch y (s.whole_cases (branches cases))) subject.2 ∙ ap (λ cs. stat.Switch subject.0 cs) (whole_cases_same cases) ∙ sym (stat.rolls-Switch subject.0 (case_nodes cases))
stat_same (layer.Loop labels None None body) = ap (λ ss. stat.Loop labels None None ss) (wholes_same body) ∙ sym (stat.rolls-Loop labels None None (nodes body))
stat_same (layer.Loop labels None (Some u) body) = ap (λ y. stat.Loop labels None (Some y) (s.wholes (parts body))) u.2 ∙ ap (λ ss. stat.Loop labels None (Some u.0) ss) (wholes_same body) ∙ sym (stat.rolls-Loop labels None (Some u.0) (nodes body))
stat_same (layer.Loop labels (Some x) None body) = ap (λ y. stat.Loop labels (Some y) None (s.wholes (parts body))) x.2 ∙ ap (λ ss. stat.Loop labels (Some x.0) None ss) (wholes_same body) ∙ sym (stat.rolls-Loop labels (Some x.0) None (nodes body))
stat_same (layer.Loop labels (Some x) (Some u) body) = ap (λ y. stat.Loop labels (Some y) (Some u.1) (s.wholes (parts body))) x.2 ∙ ap (λ y. stat.Loop labels (Some x.0) (Some y) (s.wholes (parts body))) u.2
    ∙ ap (λ ss. stat.Loop labels (Some x.0) (Some u.0) ss) (wholes_same body) ∙ sym (stat.rolls-Loop labels (Some x.0) (Some u.0) (nodes body))
stat_same (layer.Labelled label body) = ap (λ ss. stat.Labelled label ss) (wholes_same body) ∙ sym (stat.rolls-Labelled label (nodes body))
stat_same (layer.Jump goes_on label) = sym (stat.rolls-Jump goes_on label)
stat_same (layer.Return x) = ap (λ y. stat.Return y) x.2 ∙ sym (stat.rolls-Return x.0)
stat_same (layer.Throw x) = ap (λ y. stat.Throw y) x.2 ∙ sym (stat.rolls-Throw x.0)
stat_same (layer.TryCatch block parameter names handler) = ap (λ ss. stat.TryCatch ss parameter names (s.wholes (parts handler))) (wholes_same block)
    ∙ ap (λ ss. stat.TryCatch (nodes block) parameter names ss) (wholes_same handler) ∙ sym (stat.rolls-TryCatch (nodes block) parameter names (nodes handler))
stat_same (layer.TryFinally block last) = ap (λ ss. stat.TryFinally ss (s.wholes (parts last))) (wholes_same block) ∙ ap (λ ss. stat.TryFinally (nodes block) ss) (wholes_same last) ∙ sym (stat.rolls-TryFinally (nodes block) (nodes last))
stat_same (layer.Scoped names body) = ap (λ ss. stat.Scoped names ss) (wholes_same body) ∙ sym (stat.rolls-Scoped names (nodes body))
stat_same (layer.Yield value kind result) = ap (λ y. stat.Yield y kind result) value.2 ∙ sym (stat.rolls-Yield value.0 kind result)

-- ## Parts of a node

first_of : (turn : ℕ) (a b : Told) → ((i : ℕ) → has_number i (t.both a b).labels ≡ true → i < turn) → (i : ℕ) → has_number i a.labels ≡ true → i < turn
first_of turn a b h i e = h i (has_left i a.labels b.labels e)

second_of : (turn : ℕ) (a b : Told) → ((i : ℕ) → has_number i (t.both a b).labels ≡ true → i < turn) → (i : ℕ) → has_number i b.labels ≡ true → i < turn
second_of turn a b h i e = h i (has_right i a.labels b.labels e)

inner_of : (turn : ℕ) (ls : List Label) (a : Told) → ((i : ℕ) → has_number i (t.labelled ls a).labels ≡ true → i < turn) → (i : ℕ) → has_number i a.labels ≡ true → i < turn
inner_of turn ls a h i e = h i (has_right i (numbers_of ls) a.labels e)

own_of : (turn : ℕ) (ls : List Label) (a : Told) → ((i : ℕ) → has_number i (t.labelled ls a).labels ≡ true → i < turn) → (i : ℕ) → has_number i (numbers_of ls) ≡ true → i < turn
own_of turn ls a h i e = h i (has_left i (numbers_of ls) a.labels e)

-- ## Statements that stay

stats_stay : (ps : Parts) (turn : ℕ) (round r : Round) (inside : List Label) → Inside turn round r inside → OkStats turn round (nodes ps) → s.all_stay (parts ps) inside ≡ true → lawful.all_lawful (map (of_stat laws) (nodes ps)) r ≡ true
stats_stay [] turn round r inside i h k = refl
stats_stay (q ∷ ps) turn round r inside i h k = both (q.2.stays turn round r inside i (first_ok turn round q.0 (nodes ps) h) (left _ _ k)) (stats_stay ps turn round r inside i (rest_ok turn round q.0 (nodes ps) h) (right _ _ k))

cases_stay : (cs : Branches) (turn : ℕ) (round r : Round) (inside : List Label) → Inside turn round r inside → OkCases turn round (case_nodes cs) → s.cases_stay (branches cs) inside ≡ true → lawful.all_lawful (map (of_case laws) (case_nodes cs)) r ≡ true
cases_stay [] turn round r inside i h k = refl
cases_stay (q ∷ cs) turn round r inside i h k = both (q.2.stays turn round r inside i (first_case_ok turn round q.0 (case_nodes cs) h) (left _ _ k)) (cases_stay cs turn round r inside i (rest_cases_ok turn round q.0 (case_nodes cs) h) (right _ _ k))

case_stays : (test : Option (Pair OfExpr)) (body : Parts) (turn : ℕ) (round r : Round) (inside : List Label) → Inside turn round r inside
    → Ok turn round (t.case_step (in_case tells (case_first shown (record { test = test; body = body })))) (levels.case_step (in_case within (case_first shown (record { test = test; body = body })))) (lawful.case_step (in_case laws (case_first shown (record { test = test; body = body }))))
    → s.all_stay (parts body) inside ≡ true → lawful.case_step (in_case laws (case_first shown (record { test = test; body = body }))) r ≡ true
case_stays None body turn round r inside i h k = stats_stay body turn round r inside i (record { under = h.under; level = h.level; lawful = h.lawful }) k
case_stays (Some x) body turn round r inside i h k = both (expr_moved x.0 (left _ _ h.level) round r i.same (left _ _ h.lawful))
    (stats_stay body turn round r inside i (record { under = second_of turn (of_expr tells x.0) (t.all (map (of_stat tells) (nodes body))) h.under; level = right _ _ h.level; lawful = right _ _ h.lawful }) k)

-- the labels and the body of a loop
loop_new : (turn : ℕ) (round r : Round) (inside labels : List Label) (a : Told) → Inside turn round r inside → ((i : ℕ) → has_number i (t.labelled labels a).labels ≡ true → i < turn)
    → (list_all (lawful.is_new round) labels && lawful.all_differ (numbers_of labels)) ≡ true → (list_all (lawful.is_new r) labels && lawful.all_differ (numbers_of labels)) ≡ true
loop_new turn round r inside labels a i u h = both (all_new_moved turn round r inside labels i (own_of turn labels a u) (left _ _ h)) (right _ _ h)

abbrev LoopUnder : ℕ → List Label → Told → Told → Parts → Type 0
LoopUnder turn labels u v body = (i : ℕ) → has_number i (t.labelled labels (t.needing 1 (t.both (t.both u v) (t.all (map (of_stat tells) (nodes body)))))).labels ≡ true → i < turn

loop_ok : (turn : ℕ) (round : Round) (labels : List Label) (u v : Told) (body : Parts) → LoopUnder turn labels u v body → levels.all_within (map (of_stat within) (nodes body)) flat ≡ true → lawful.all_lawful (map (of_stat laws) (nodes body)) (lawful.in_loop labels round) ≡ true
    → OkStats turn (lawful.in_loop labels round) (nodes body)
loop_ok turn round labels u v body under w h =
    let a = t.all (map (of_stat tells) (nodes body)) in
    record { under = second_of turn (t.both u v) a (inner_of turn labels (t.needing 1 (t.both (t.both u v) a)) under); level = w; lawful = h }

loop_body : (turn : ℕ) (round r : Round) (inside labels : List Label) (u v : Told) (body : Parts) → Inside turn round r inside → LoopUnder turn labels u v body → levels.all_within (map (of_stat within) (nodes body)) flat ≡ true → lawful.all_lawful (map (of_stat laws) (nodes body)) (lawful.in_loop labels round) ≡ true
    → s.all_stay (parts body) (labels ++ inside) ≡ true → lawful.all_lawful (map (of_stat laws) (nodes body)) (lawful.in_loop labels r) ≡ true
loop_body turn round r inside labels u v body i under w h k =
    stats_stay body turn (lawful.in_loop labels round) (lawful.in_loop labels r) (labels ++ inside) (inside_loop turn round r inside labels i) (loop_ok turn round labels u v body under w h) k

abbrev OkLayer : ℕ → Round → Stats shown → Type 0
OkLayer turn round z = Ok turn round (t.stat_step (in_stat tells (stat_first shown z))) (levels.stat_step (in_stat within (stat_first shown z))) (lawful.stat_step (in_stat laws (stat_first shown z)))

stat_stays : (z : Stats shown) (turn : ℕ) (round r : Round) (inside : List Label) → Inside turn round r inside → OkLayer turn round z → s.stays (stat_second shown z) inside ≡ true → lawful.stat_step (in_stat laws (stat_first shown z)) r ≡ true
stat_stays (layer.Do x) turn round r inside i h k = expr_moved x.0 h.level round r i.same h.lawful
stat_stays (layer.If cases) turn round r inside i h k = cases_stay cases turn round r inside i (record { under = h.under; level = h.level; lawful = h.lawful }) k
stat_stays (layer.Switch subject cases) turn round r inside i h k = both (expr_moved subject.0 (left _ _ h.level) round r i.same (left _ _ h.lawful))
    (cases_stay cases turn round r inside i (record { under = second_of turn (of_expr tells subject.0) (t.all (map (of_case tells) (case_nodes cases))) h.under; level = right _ _ h.level; lawful = right _ _ h.lawful }) k)
stat_stays (layer.Loop labels None None body) turn round r inside i h k =
    let a = t.needing 1 (t.both (t.both t.nothing t.nothing) (t.all (map (of_stat tells) (nodes body)))) in
    both (both (both (loop_new turn round r inside labels a i h.under (left _ _ (left _ _ (left _ _ h.lawful)))) refl) refl)
    (loop_body turn round r inside labels t.nothing t.nothing body i h.under h.level (right _ _ h.lawful) k)
stat_stays (layer.Loop labels None (Some v) body) turn round r inside i h k =
    let a = t.needing 1 (t.both (t.both t.nothing (of_expr tells v.0)) (t.all (map (of_stat tells) (nodes body)))) in
    both (both (both (loop_new turn round r inside labels a i h.under (left _ _ (left _ _ (left _ _ h.lawful)))) refl) (expr_moved v.0 (left _ _ h.level) round r i.same (right _ _ (left _ _ h.lawful))))
    (loop_body turn round r inside labels t.nothing (of_expr tells v.0) body i h.under (right _ _ h.level) (right _ _ h.lawful) k)
stat_stays (layer.Loop labels (Some u) None body) turn round r inside i h k =
    let a = t.needing 1 (t.both (t.both (of_expr tells u.0) t.nothing) (t.all (map (of_stat tells) (nodes body)))) in
    both (both (both (loop_new turn round r inside labels a i h.under (left _ _ (left _ _ (left _ _ h.lawful)))) (expr_moved u.0 (left _ _ (left _ _ h.level)) round r i.same (right _ _ (left _ _ (left _ _ h.lawful))))) refl)
    (loop_body turn round r inside labels (of_expr tells u.0) t.nothing body i h.under (right _ _ h.level) (right _ _ h.lawful) k)
stat_stays (layer.Loop labels (Some u) (Some v) body) turn round r inside i h k =
    let a = t.needing 1 (t.both (t.both (of_expr tells u.0) (of_expr tells v.0)) (t.all (map (of_stat tells) (nodes body)))) in
    both (both (both (loop_new turn round r inside labels a i h.under (left _ _ (left _ _ (left _ _ h.lawful)))) (expr_moved u.0 (left _ _ (left _ _ h.level)) round r i.same (right _ _ (left _ _ (left _ _ h.lawful)))))
    (expr_moved v.0 (right _ _ (left _ _ h.level)) round r i.same (right _ _ (left _ _ h.lawful))))
    (loop_body turn round r inside labels (of_expr tells u.0) (of_expr tells v.0) body i h.under (right _ _ h.level) (right _ _ h.lawful) k)
stat_stays (layer.Labelled label body) turn round r inside i h k =
    let a = t.all (map (of_stat tells) (nodes body)) in
    both (new_moved turn round r inside label i (own_of turn (label ∷ []) a h.under label.0 (or_first _ _ (eq-eqb label.0 label.0 refl))) (left _ _ h.lawful))
    (stats_stay body turn (lawful.under label round) (lawful.under label r) (label ∷ inside) (inside_label turn round r inside label (unnot _ (left _ _ h.lawful)) i)
    (record { under = inner_of turn (label ∷ []) a h.under; level = h.level; lawful = right _ _ h.lawful }) k)
stat_stays (layer.Jump goes_on None) turn round r inside i h k = absurd (false≢true h.lawful)
stat_stays (layer.Jump goes_on (Some label)) turn round r inside i h k = jump_moved turn round r inside goes_on label i k h.lawful
stat_stays (layer.Return x) turn round r inside i h k = absurd (false≢true k)
stat_stays (layer.Throw x) turn round r inside i h k = expr_moved x.0 h.level round r i.same h.lawful
stat_stays (layer.TryCatch block parameter names handler) turn round r inside i h k =
    let a = t.all (map (of_stat tells) (nodes block)) in let b = t.all (map (of_stat tells) (nodes handler)) in
    both (both (both (stats_stay block turn round r inside i (record { under = first_of turn a b h.under; level = right _ _ (left _ _ h.level); lawful = left _ _ (left _ _ (left _ _ h.lawful)) }) (left _ _ k))
    (drawn_moved round r parameter i.same (right _ _ (left _ _ (left _ _ h.lawful))))) (scoped_moved round r names i.same (right _ _ (left _ _ h.lawful))))
    (stats_stay handler turn round r inside i (record { under = second_of turn a b h.under; level = right _ _ h.level; lawful = right _ _ h.lawful }) (right _ _ k))
stat_stays (layer.TryFinally block last) turn round r inside i h k =
    let a = t.all (map (of_stat tells) (nodes block)) in let b = t.all (map (of_stat tells) (nodes last)) in
    both (stats_stay block turn round r inside i (record { under = first_of turn a b h.under; level = left _ _ h.level; lawful = left _ _ h.lawful }) (left _ _ k))
    (stats_stay last turn round r inside i (record { under = second_of turn a b h.under; level = right _ _ h.level; lawful = right _ _ h.lawful }) (right _ _ k))
stat_stays (layer.Scoped names body) turn round r inside i h k = absurd (false≢true h.level)
stat_stays (layer.Yield value kind result) turn round r inside i h k = absurd (false≢true k)

-- ## What bodies add to a machine

-- a node that gives more than is added
shift : (r : Round) (base n k : ℕ) (m : Machine) → n ≤ k → Holds r base n m → Holds r base k m
shift r base n k m l h = with_room r base n k m l h

add_holds : (y : CoreStat) (x : Part) → PartIs y x → (base : ℕ) (round r : Round) (p : Place) → At base round r p → OkStat p.registers.turn.0 round y → Grows r base (of_stat needs y) (s.add p x)
add_holds y x q base round r p a h n m l k =
    by_test (Holds r base (n + of_stat needs y)) (x.stays []) (s.says x.whole m) (x.adds p m)
    (λ e. shift r base n (n + of_stat needs y) _ (omega arith) (says_holds r base n x.whole m (λ b j. subst (Is (renamed b r)) (sym q.whole) (q.stays p.registers.turn.0 round (renamed b r) [] (inside_from base round r p a b j) h e)) k))
    (λ e. q.adds base round r p a h n m l k)

abbrev stats_needs : List CoreStat → ℕ
stats_needs ys = total (map (of_stat needs) ys)

abbrev cases_needs : List CoreCase → ℕ
cases_needs ys = total (map (of_case needs) ys)

add_all_holds : (ps : Parts) (base : ℕ) (round r : Round) (p : Place) → At base round r p → OkStats p.registers.turn.0 round (nodes ps) → Grows r base (stats_needs (nodes ps)) (s.add_all p (parts ps))
add_all_holds [] base round r p a h n m l k = shift r base n (n + 0) m (omega arith) k
add_all_holds (q ∷ ps) base round r p a h n m l k =
    let i = of_stat needs q.0 in let j = stats_needs (nodes ps) in
    shift r base ((n + i) + j) (n + (i + j)) _ (omega arith)
    (add_all_holds ps base round r p a (rest_ok p.registers.turn.0 round q.0 (nodes ps) h) (n + i) _ (omega arith)
    (add_holds q.0 q.1 q.2 base round r p a (first_ok p.registers.turn.0 round q.0 (nodes ps) h) n m (omega arith) k))

expr_from : (base : ℕ) (round r : Round) (p : Place) → At base round r p → (q : Pair OfExpr) → of_expr within q.0 flat ≡ true → of_expr laws q.0 round ≡ true → SoundFrom r base q.1
expr_from base round r p a q w h b l = subst (Sound (renamed b r)) (sym q.2) (expr_moved q.0 w round (renamed b r) (same_from base round r p a b l) h)

-- ## Cases

dispatched_are : (cs : Branches) (base : ℕ) (round r : Round) (p : Place) (at : ℕ) → At base round r p → OkCases p.registers.turn.0 round (case_nodes cs) → at + length cs ≤ 9007199254740992 → (b : ℕ) → base ≤ b → AreCases (renamed b r) (s.dispatched p at (branches cs))
dispatched_are [] base round r p at a h l b j = refl
dispatched_are (q ∷ cs) base round r p at a h l b j = both
    (by_case q.1.test (q.2.test p.registers.turn.0 base round r (same_from base round r p a) (first_case_ok p.registers.turn.0 round q.0 (case_nodes cs) h)))
    (dispatched_are cs base round r p (at + 1) a (rest_cases_ok p.registers.turn.0 round q.0 (case_nodes cs) h) (omega arith) b j)
  where
    goes : Are (renamed b r) (s.goes p at)
    goes = goes_are (renamed b r) p at (fit base round r p a b j) (safe at (omega arith))

    by_case : (test : Option CoreExpr) → MaybeFrom r base test → of_case laws (case_of test (s.goes p at)) (renamed b r) ≡ true
    by_case None e = default_is (renamed b r) (s.goes p at) goes
    by_case (Some x) e = case_is (renamed b r) x (s.goes p at) (e b j) goes

add_cases_holds : (cs : Branches) (base : ℕ) (round r : Round) (p : Place) (falls : Bool) (after at : ℕ) → At base round r p → OkCases p.registers.turn.0 round (case_nodes cs) → at + length cs ≤ after → after ≤ 9007199254740991 → Grows r base (cases_needs (case_nodes cs)) (s.add_cases p falls after at (branches cs))
add_cases_holds [] base round r p falls after at a h l j n m i k = shift r base n (n + 0) m (omega arith) k
add_cases_holds (q ∷ cs) base round r p falls after at a h l j n m i k =
    let u = of_case needs q.0 in let v = cases_needs (case_nodes cs) in
    shift r base ((n + u) + v) (n + (u + v)) _ (omega arith)
    (add_cases_holds cs base round r p falls after (at + 1) a (rest_cases_ok p.registers.turn.0 round q.0 (case_nodes cs) h) (omega arith) j (n + u) _ (omega arith)
    (ends_holds r base (n + u) _ _ (λ b d. goes_are (renamed b r) p (cond falls (at + 1) after) (fit base round r p a b d) (next_safe falls))
    (q.2.adds base round r p a (first_case_ok p.registers.turn.0 round q.0 (case_nodes cs) h) n _ (omega arith) (begins_holds r base n at m (omega arith) k))))
  where
    next_safe : (f : Bool) → lawful.is_safe (cond f (at + 1) after) ≡ true
    next_safe true = safe (at + 1) (omega arith)
    next_safe false = safe after j

cases_length : (cs : Branches) → length (branches cs) ≡ length cs
cases_length [] = refl
cases_length (q ∷ cs) = ap (λ n. suc n) (cases_length cs)

needs_length : (cs : Branches) → length (map (of_case needs) (case_nodes cs)) ≡ length cs
needs_length [] = refl
needs_length (q ∷ cs) = ap (λ n. suc n) (needs_length cs)

-- a choice, the cases behind it, and the state behind these
chosen_holds : (cs : Branches) (base : ℕ) (round r : Round) (p : Place) (falls : Bool) (n : ℕ) (m : Machine) (choice : CoreStat) → At base round r p → OkCases p.registers.turn.0 round (case_nodes cs) → n + (length cs + 1 + cases_needs (case_nodes cs)) ≤ 9007199254740992
    → ((b : ℕ) → base ≤ b → Is (renamed b r) choice) → Holds r base n m
    → Holds r base (n + (length cs + 1 + cases_needs (case_nodes cs))) (s.begins (m.next + length (branches cs)) (s.add_cases p falls (m.next + length (branches cs)) m.next (branches cs) (s.dispatching p choice (length (branches cs)) (m.next + length (branches cs)) m)))
chosen_holds cs base round r p falls n m choice a h l e k =
    let count = length (branches cs) in let after = m.next + count in let c = cases_length cs in let z = k.next in let v = cases_needs (case_nodes cs) in
    begins_holds r base (n + (length cs + 1 + v)) after _ (omega arith)
    (shift r base (((n + count) + 1) + v) (n + (length cs + 1 + v)) _ (omega arith)
    (add_cases_holds cs base round r p falls after m.next a h (omega arith) (omega arith) ((n + count) + 1) _ (omega arith)
    (ends_holds r base ((n + count) + 1) _ _ (λ b j. both (e b j) (goes_are (renamed b r) p after (fit base round r p a b j) (safe after (omega arith))))
    (draws_holds r base (n + count) 1 _ (draws_holds r base n count m k)))))

-- ## Regions

handled_holds : (handler : Parts) (base : ℕ) (round r : Round) (p : Place) (at : ℕ) → At base round r p → OkStats p.registers.turn.0 round (nodes handler) → at + 1 ≤ 9007199254740991 → Grows r base (stats_needs (nodes handler)) (s.handled p (parts handler) at)
handled_holds handler base round r p at a h j n m l k =
    let i = safe p.region (let z = a.region in omega arith) in
    goes_then_holds base round r p a (at + 1) (at + 1) _ _ j j (add_all_holds handler base round r p a h n _ l (begins_holds r base n at _ (omega arith)
    (ends_holds r base n _ m (λ b d. moves_are (renamed b r) p p.region (at + 1) (fit base round r p a b d) i (safe (at + 1) j)) k)))

caught_holds : (block handler : Parts) (base : ℕ) (round r : Round) (p : Place) (parameter : Var) → At base round r p → DrawnFrom base parameter → OkStats p.registers.turn.0 round (nodes block) → OkStats p.registers.turn.0 round (nodes handler)
    → Grows r base (2 + (stats_needs (nodes block) + stats_needs (nodes handler))) (s.caught p (parts block) parameter (parts handler))
caught_holds block handler base round r p parameter a d h g n m l k =
    let u = stats_needs (nodes block) in let v = stats_needs (nodes handler) in let y = k.next in let z = k.regions in
    shift r base (((n + 2) + u) + v) (n + (2 + (u + v))) _ (omega arith)
    (handled_holds handler base round r p m.next a g (omega arith) ((n + 2) + u) _ (omega arith)
    (add_all_holds block base round r (s.within p m.regions p.finals) (at_region base round r p m.regions p.finals (omega arith) a) h (n + 2) _ (omega arith)
    (guarded_holds base round r p a parameter d n m (omega arith) k)))

-- at a place where the names of the pair are drawn, too
finished_holds : (last : Parts) (base : ℕ) (round r : Round) (p : Place) (kept : Completion) (at : ℕ) → At base round r p → DrawnFrom base kept.kind → DrawnFrom base kept.value → OkStats p.registers.turn.0 round (nodes last) → at + 1 ≤ 9007199254740991 → Grows r base (stats_needs (nodes last)) (s.finished p kept (parts last) at)
finished_holds last base round r p kept at a d e h j n m l k =
    let i = safe p.region (let z = a.region in omega arith) in
    goes_then_holds base round r p a (at + 1) (at + 1) _ _ j j
    (says_holds r base _ _ _ (λ b c. handed_on_is (renamed b r) p kept (fit base round r p a b c) (drawn_from base b kept.kind c d) (drawn_from base b kept.value c e))
    (add_all_holds last base round r p a h n _ l (begins_holds r base n at _ (omega arith)
    (ends_holds r base n _ m (λ b c. nothing_kept_are (renamed b r) p kept at (fit base round r p a b c) i (drawn_from base b kept.kind c d) (safe at (omega arith))) k))))

ensured_holds : (block last : Parts) (base : ℕ) (round r : Round) (p : Place) → At base round r p → OkStats p.registers.turn.0 round (nodes block) → OkStats p.registers.turn.0 round (nodes last)
    → Grows r base (2 + (stats_needs (nodes block) + stats_needs (nodes last))) (s.ensured p (parts block) (parts last))
ensured_holds block last base round r p a h g n m l k =
    let u = stats_needs (nodes block) in let v = stats_needs (nodes last) in let y = k.next in let z = k.regions in let w = k.names in
    let new = size (s.after_pair m.fresh) in let e = pair_size m.fresh in let d = pair_drawn m.fresh in let more : base ≤ new = omega arith in
    let at = at_from base new round r p more a in
    with_fewer r new base _ _ more
    (shift r new (((n + 2) + u) + v) (n + (2 + (u + v))) _ (omega arith)
    (finished_holds last new round r p (s.pair m.fresh) m.next at d.0 d.1 g (omega arith) ((n + 2) + u) _ (omega arith)
    (add_all_holds block new round r (s.within p m.regions (p.finals + 1)) (at_region new round r p m.regions (p.finals + 1) (omega arith) at) h (n + 2) _ (omega arith)
    (kept_region_holds base round r p a n m (omega arith) k))))

-- ## The steps

-- a loop, whose parts are lawful where it stands
looped_holds : (body : Parts) (base : ℕ) (round r : Round) (p : Place) (labels : List Label) (test update : Option CoreExpr) → At base round r p → MaybeFrom r base test → MaybeFrom r base update
    → OkStats p.registers.turn.0 (lawful.in_loop labels round) (nodes body) → Grows r base (3 + stats_needs (nodes body)) (s.looped p labels test update (parts body))
looped_holds body base round r p labels test update a e d h n m l k =
    let v = stats_needs (nodes body) in let z = k.next in
    let sub = λ (x : Label) (c : lawful.has_label x (labels ++ round.loops) ≡ true). label_split x labels round.loops (λ b. label_left x labels round.labels b) (λ b. label_right x labels round.labels (a.sub x b)) c in
    shift r base ((n + 3) + v) (n + (3 + v)) _ (omega arith)
    (turned_holds base round r p a update m.next (omega arith) d ((n + 3) + v) _
    (add_all_holds body base (lawful.in_loop labels round) r (s.under p (m.next + 2) (m.next + 1) labels) (at_under base round r p (m.next + 2) (m.next + 1) labels (labels ++ round.loops) (omega arith) (omega arith) sub a) h (n + 3) _ (omega arith)
    (headed_holds base round r p a test m.next (omega arith) e n m k)))

labelled_holds : (body : Parts) (base : ℕ) (round r : Round) (p : Place) (label : Label) → At base round r p → OkStats p.registers.turn.0 (lawful.under label round) (nodes body) → Grows r base (1 + stats_needs (nodes body)) (s.labelled p label (parts body))
labelled_holds body base round r p label a h n m l k =
    let v = stats_needs (nodes body) in let z = k.next in
    let sub = λ (x : Label) (c : lawful.has_label x round.loops ≡ true). or_second (nat_eq x.0 label.0) _ (a.sub x c) in
    shift r base ((n + 1) + v) (n + (1 + v)) _ (omega arith)
    (goes_then_holds base round r p a m.next m.next _ _ (omega arith) (omega arith)
    (add_all_holds body base (lawful.under label round) r (s.under p m.next m.next (label ∷ [])) (at_under base round r p m.next m.next (label ∷ []) round.loops (omega arith) (omega arith) sub a) h (n + 1) _ (omega arith)
    (draws_holds r base n 1 m k)))

kind_from : (base : ℕ) (round r : Round) (p : Place) → At base round r p → (kind : Option Var) → list_all (λ i. nat_lt i round.names) (lawful.number_of kind) ≡ true → KindFrom base kind
kind_from base round r p a None h = tt
kind_from base round r p a (Some x) h = let b = ltb-true x.0 round.names (left _ _ h) in let c = a.names in omega arith

name_from : (base : ℕ) (round r : Round) (p : Place) → At base round r p → (x : Var) → lawful.is_drawn round x ≡ true → DrawnFrom base x
name_from base round r p a x h = let b = ltb-true x.0 round.names h in let c = a.names in omega arith

stat_adds : (z : Stats shown) (base : ℕ) (round r : Round) (p : Place) → At base round r p → OkLayer p.registers.turn.0 round z → Grows r base (states.stat_step (in_stat needs (stat_first shown z))) (s.adds (stat_second shown z) p)
stat_adds (layer.Do x) base round r p a h n m l k = shift r base n (n + 0) _ (omega arith) (says_holds r base n _ m (λ b j. do_is (renamed b r) x.1 (expr_from base round r p a x h.level h.lawful b j)) k)
stat_adds (layer.If cases) base round r p a h n m l k =
    let c = needs_length cases in let d = cases_length cases in let z = k.next in
    let g : OkCases p.registers.turn.0 round (case_nodes cases) = record { under = h.under; level = h.level; lawful = h.lawful } in
    shift r base (n + (length cases + 1 + cases_needs (case_nodes cases))) _ _ (omega arith)
    (chosen_holds cases base round r p false n m _ a g (omega arith) (λ b j. if_is (renamed b r) _ (dispatched_are cases base round r p m.next a g (omega arith) b j)) k)
stat_adds (layer.Switch subject cases) base round r p a h n m l k =
    let c = needs_length cases in let d = cases_length cases in let z = k.next in
    let g : OkCases p.registers.turn.0 round (case_nodes cases) = record { under = second_of p.registers.turn.0 (of_expr tells subject.0) (t.all (map (of_case tells) (case_nodes cases))) h.under; level = right _ _ h.level; lawful = right _ _ h.lawful } in
    let e = expr_from base round r p a subject (left _ _ h.level) (left _ _ h.lawful) in
    shift r base (n + (length cases + 1 + cases_needs (case_nodes cases))) _ _ (omega arith)
    (chosen_holds cases base round r p true n m _ a g (omega arith) (λ b j. switch_is (renamed b r) subject.1 _ (e b j) (dispatched_are cases base round r p m.next a g (omega arith) b j)) k)
stat_adds (layer.Loop labels None None body) base round r p a h n m l k =
    looped_holds body base round r p labels None None a tt tt (loop_ok p.registers.turn.0 round labels t.nothing t.nothing body h.under h.level (right _ _ h.lawful)) n m l k
stat_adds (layer.Loop labels None (Some v) body) base round r p a h n m l k =
    looped_holds body base round r p labels None (Some v.1) a tt (expr_from base round r p a v (left _ _ h.level) (right _ _ (left _ _ h.lawful)))
    (loop_ok p.registers.turn.0 round labels t.nothing (of_expr tells v.0) body h.under (right _ _ h.level) (right _ _ h.lawful)) n m l k
stat_adds (layer.Loop labels (Some u) None body) base round r p a h n m l k =
    looped_holds body base round r p labels (Some u.1) None a (expr_from base round r p a u (left _ _ (left _ _ h.level)) (right _ _ (left _ _ (left _ _ h.lawful)))) tt
    (loop_ok p.registers.turn.0 round labels (of_expr tells u.0) t.nothing body h.under (right _ _ h.level) (right _ _ h.lawful)) n m l k
stat_adds (layer.Loop labels (Some u) (Some v) body) base round r p a h n m l k =
    looped_holds body base round r p labels (Some u.1) (Some v.1) a (expr_from base round r p a u (left _ _ (left _ _ h.level)) (right _ _ (left _ _ (left _ _ h.lawful))))
    (expr_from base round r p a v (right _ _ (left _ _ h.level)) (right _ _ (left _ _ h.lawful)))
    (loop_ok p.registers.turn.0 round labels (of_expr tells u.0) (of_expr tells v.0) body h.under (right _ _ h.level) (right _ _ h.lawful)) n m l k
stat_adds (layer.Labelled label body) base round r p a h n m l k =
    labelled_holds body base round r p label a (record { under = inner_of p.registers.turn.0 (label ∷ []) (t.all (map (of_stat tells) (nodes body))) h.under; level = h.level; lawful = right _ _ h.lawful }) n m l k
stat_adds (layer.Jump goes_on label) base round r p a h n m l k = shift r base n (n + 0) _ (omega arith) (jumped_holds base round r p a goes_on label h.lawful n m k)
stat_adds (layer.Return x) base round r p a h n m l k = shift r base n (n + 0) _ (omega arith)
    (ends_holds r base n _ m (λ b j. unwinds_are (renamed b r) p 2 x.1 (fit base round r p a b j) refl (expr_from base round r p a x h.level (right _ _ h.lawful) b j)) k)
stat_adds (layer.Throw x) base round r p a h n m l k = shift r base n (n + 0) _ (omega arith)
    (says_holds r base n _ m (λ b j. rolled_is (renamed b r) _ (layer.Throw x.1) (stat.rolls-Throw x.1) (expr_from base round r p a x h.level h.lawful b j)) k)
stat_adds (layer.TryCatch block parameter names handler) base round r p a h n m l k =
    let u = t.all (map (of_stat tells) (nodes block)) in let v = t.all (map (of_stat tells) (nodes handler)) in
    caught_holds block handler base round r p parameter a (name_from base round r p a parameter (right _ _ (left _ _ (left _ _ h.lawful))))
    (record { under = first_of p.registers.turn.0 u v h.under; level = right _ _ (left _ _ h.level); lawful = left _ _ (left _ _ (left _ _ h.lawful)) })
    (record { under = second_of p.registers.turn.0 u v h.under; level = right _ _ h.level; lawful = right _ _ h.lawful }) n m l k
stat_adds (layer.TryFinally block last) base round r p a h n m l k =
    let u = t.all (map (of_stat tells) (nodes block)) in let v = t.all (map (of_stat tells) (nodes last)) in
    ensured_holds block last base round r p a
    (record { under = first_of p.registers.turn.0 u v h.under; level = left _ _ h.level; lawful = left _ _ h.lawful })
    (record { under = second_of p.registers.turn.0 u v h.under; level = right _ _ h.level; lawful = right _ _ h.lawful }) n m l k
stat_adds (layer.Scoped names body) base round r p a h n m l k = absurd (false≢true h.level)
stat_adds (layer.Yield value kind result) base round r p a h n m l k =
    yielded_holds base round r p a value.1 kind result (expr_from base round r p a value h.level (right _ _ (left _ _ (left _ _ h.lawful)))) (kind_from base round r p a kind (right _ _ h.lawful))
    (name_from base round r p a result (right _ _ (left _ _ h.lawful))) n m l k

-- ## So the body

stat_out : (turn : ℕ) (round : Round) (z : Stats shown) → OkStat turn round (roll-CoreStat (stat_first shown z)) → OkLayer turn round z
stat_out turn round z h = record {
  under = subst (λ u. (i : ℕ) → has_number i u.labels ≡ true → i < turn) (stat_rolled tells (stat_first shown z)) h.under;
  level = sym (ap (λ f. f flat) (stat_rolled within (stat_first shown z))) ∙ h.level;
  lawful = sym (ap (λ f. f round) (stat_rolled laws (stat_first shown z))) ∙ h.lawful;
}

stat_kept : (z : Stats shown) → PartIs (roll-CoreStat (stat_first shown z)) (s.stat_step (stat_second shown z))
stat_kept z = record {
  whole = stat_same z;
  stays = λ turn round r inside i h k. ap (λ f. f r) (stat_rolled laws (stat_first shown z)) ∙ stat_stays z turn round r inside i (stat_out turn round z h) k;
  adds = λ base round r p a h n m l k.
      let e = stat_rolled needs (stat_first shown z) in
      subst (λ j. Holds r base (n + j) (s.adds (stat_second shown z) p m)) (sym e) (stat_adds z base round r p a (stat_out p.registers.turn.0 round z h) n m (omega arith) k);
}

abbrev OkCaseLayer : ℕ → Round → Cases shown → Type 0
OkCaseLayer turn round z = Ok turn round (t.case_step (in_case tells (case_first shown z))) (levels.case_step (in_case within (case_first shown z))) (lawful.case_step (in_case laws (case_first shown z)))

case_out : (turn : ℕ) (round : Round) (z : Cases shown) → OkCase turn round (roll-CoreCase (case_first shown z)) → OkCaseLayer turn round z
case_out turn round z h = record {
  under = subst (λ u. (i : ℕ) → has_number i u.labels ≡ true → i < turn) (case_rolled tells (case_first shown z)) h.under;
  level = sym (ap (λ f. f flat) (case_rolled within (case_first shown z))) ∙ h.level;
  lawful = sym (ap (λ f. f round) (case_rolled laws (case_first shown z))) ∙ h.lawful;
}

case_test : (test : Option (Pair OfExpr)) (body : Parts) (turn base : ℕ) (round r : Round) → ((b : ℕ) → base ≤ b → Same round (renamed b r)) → OkCaseLayer turn round (record { test = test; body = body })
    → MaybeFrom r base (s.case_step (case_second shown (record { test = test; body = body }))).test
case_test None body turn base round r e h = tt
case_test (Some x) body turn base round r e h = λ b l. subst (Sound (renamed b r)) (sym x.2) (expr_moved x.0 (left _ _ h.level) round (renamed b r) (e b l) (left _ _ h.lawful))

case_body : (test : Option (Pair OfExpr)) (body : Parts) (turn : ℕ) (round : Round) → OkCaseLayer turn round (record { test = test; body = body }) → OkStats turn round (nodes body)
case_body None body turn round h = record { under = h.under; level = h.level; lawful = h.lawful }
case_body (Some x) body turn round h = record { under = second_of turn (of_expr tells x.0) (t.all (map (of_stat tells) (nodes body))) h.under; level = right _ _ h.level; lawful = right _ _ h.lawful }

case_needs : (test : Option (Pair OfExpr)) (body : Parts) → of_case needs (roll-CoreCase (case_first shown (record { test = test; body = body }))) ≡ stats_needs (nodes body)
case_needs None body = case_rolled needs (case_first shown (record { test = None; body = body }))
case_needs (Some x) body = case_rolled needs (case_first shown (record { test = Some x; body = body }))

case_by : (test : Option (Pair OfExpr)) (body : Parts) → BranchIs (roll-CoreCase (case_first shown (record { test = test; body = body }))) (s.case_step (case_second shown (record { test = test; body = body })))
case_by test body =
    let z : Cases shown = record { test = test; body = body } in
    record {
      whole = case_same test body;
      stays = λ turn round r inside i h k. ap (λ f. f r) (case_rolled laws (case_first shown z)) ∙ case_stays test body turn round r inside i (case_out turn round z h) k;
      test = λ turn base round r e h. case_test test body turn base round r e (case_out turn round z h);
      adds = λ base round r p a h n m l k.
          let e = case_needs test body in
          subst (λ j. Holds r base (n + j) (s.add_all p (parts body) m)) (sym e) (add_all_holds body base round r p a (case_body test body p.registers.turn.0 round (case_out p.registers.turn.0 round z h)) n m (omega arith) k);
    }

kept : Keeps shown
kept = record { link = link_same; stat = stat_kept; case = λ z. case_by z.test z.body; expr = expr_same }

pub body_holds : (ss : List CoreStat) (base : ℕ) (round r : Round) (p : Place) → At base round r p → ((i : ℕ) → has_number i (t.stats_told ss).labels ≡ true → i < p.registers.turn.0) → levels.stats_within ss flat ≡ true → lawful.stats_lawful ss round ≡ true → Grows r base (states.stats_states ss) (s.add_stats p ss)
body_holds ss base round r p a u w h = holds ss (record { under = u; level = w; lawful = h })
  where
    holds : (ys : List CoreStat) → OkStats p.registers.turn.0 round ys → Grows r base (states.stats_states ys) (s.add_stats p ys)
    holds [] g n m l k = shift r base n (n + 0) m (omega arith) k
    holds (y ∷ ys) g n m l k =
        let i = of_stat needs y in let j = states.stats_states ys in
        shift r base ((n + i) + j) (n + (i + j)) _ (omega arith)
        (holds ys (rest_ok p.registers.turn.0 round y ys g) (n + i) _ (omega arith)
        (add_holds y (s.part y) (stat_induced shown kept y) base round r p a (first_ok p.registers.turn.0 round y ys g) n m (omega arith) k))
