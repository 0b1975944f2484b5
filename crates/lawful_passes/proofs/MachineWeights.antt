-- What nodes weigh, where generators become machines: no more, with the names that are kept between the steps for those of handlers.
use Rattle.std.proofs.Common.{◌≡◌, ℕ, zero, suc, ◌+◌, ◌≤◌, Bool, true, false, cond, nat_eq, List, [], ◌∷◌, ◌++◌, map, length, length-append, Option, None, Some, ap, arith, refl, ◌∙◌}
use Rattle.core_ast.specs.declared.naming.Fresh.{Fresh}
use Rattle.core_ast.specs.declared.parts.Constant.TheVariants.{Undefined}
use Rattle.core_ast.specs.declared.parts.Var.{Var}
use Rattle.core_ast.specs.declared.parts.Label.{Label}
use Rattle.core_ast.specs.declared.parts.CoreHead.TheVariants as head
use Rattle.core_ast.specs.declared.parts.Binary.TheVariants.{Add, NotSame, Same}
use Rattle.core_ast.specs.declared.parts.Unary.TheVariants.{Not}
use Rattle.core_ast.specs.declared.parts.CoreOp.TheVariants as op
use Rattle.core_ast.specs.declared.parts.Primitive.TheVariants.{GeneratorMake}
use Rattle.core_ast.specs.declared.tree.CoreStat.{CoreStat}
use Rattle.core_ast.specs.declared.tree.CoreCase.{CoreCase}
use Rattle.core_ast.specs.declared.tree.CoreExpr.{CoreExpr}
use Rattle.core_ast.specs.declared.tree.CoreStat.TheVariants as stat
use Rattle.core_ast.specs.declared.tree.CoreLink.TheOpen as layer
use Rattle.core_ast.specs.declared.whole.CoreFunction.{CoreFunction}
use Rattle.core_ast.specs.Names.{next, with_hint}
use Rattle.core_ast.specs.Made.{act, acting, expression, linked, undefined, variable}
use Rattle.pass_rules.specs.yield_rules.Yields.{Made, is_same, number, two, when}
use Rattle.pass_rules.specs.yield_rules.Yields as y
use Rattle.pass_rules.specs.declared.state_rules.states.Completion.{Completion}
use Rattle.pass_rules.specs.declared.state_rules.states.Machine.{Machine}
use Rattle.pass_rules.specs.declared.state_rules.states.Place.{Place}
use Rattle.pass_rules.specs.declared.state_rules.states.Registers.{Registers}
use Rattle.pass_rules.specs.declared.state_rules.states.Target.{Target}
use Rattle.pass_rules.specs.state_rules.States as s
use Rattle.pass_rules.specs.state_rules.States.{Part, Branch}
use Rattle.pass_rules.proofs.pass_laws.Related.{Relates, Keeps, Pair, Links, Stats, Exprs, link_first, link_second, stat_first, stat_second, case_first, case_second, expr_first, expr_second, stat_related}
use Rattle.pass_rules.proofs.pass_laws.Within.{either}
use Rattle.pass_rules.proofs.pass_laws.Machines.{machines}
use Rattle.lawful_passes.proofs.Weights.{Such, total, function_marks, link_marks, stat_marks, case_marks, expr_marks, stats_marks}
use Rattle.lawful_passes.proofs.Growing.{size}
use Rattle.lawful_passes.proofs.WeightCounts.{counts, cases_marks, option_marks, total_more, total_one, stats_one, stats_more, strict_of, lazy_of, run_of, expression_of, case_of, do_of, if_of, switch_of, loop_of, labelled_of, jump_of, return_of, throw_of, catch_of, finally_of, scoped_of, yield_of, acting_of, variable_of, constant_of, number_of, two_of, acted_of, set_of, when_of}

-- the names of so many variables
abbrev pub upto : Such → ℕ → ℕ
upto such zero = 0
upto such (suc n) = upto such n + such.caught (record { 0 = n })

abbrev pub names_marks : Such → List Var → ℕ
names_marks such xs = total (map such.caught xs)

-- so much at most, but for the names that are drawn from the base on
record Below (such : Such) (base n : ℕ) (m : Machine) : Type 0 where
  most : cases_marks such m.states + stats_marks such m.stats + cases_marks such m.rows + names_marks such m.locals + base ≤ n + upto such (size m.fresh)

abbrev Adds : Such → ℕ → ℕ → (Machine → Machine) → Type 0
Adds such base k f = (n : ℕ) (m : Machine) → Below such base n m → Below such base (n + k) (f m)

record PartIs (such : Such) (base : ℕ) (n : ℕ) (x : Part) : Type 0 where
  whole : stat_marks such x.whole ≡ n
  adds : (p : Place) → Adds such base n (x.adds p)

record BranchIs (such : Such) (base : ℕ) (n : ℕ) (x : Branch) : Type 0 where
  whole : case_marks such x.whole ≡ n
  body : ℕ
  split : option_marks such x.test + body ≡ n
  adds : (p : Place) → Adds such base body (x.adds p)

abbrev relation : (such : Such) (base : ℕ) → Relates (counts such) machines
relation such base = record { Link = λ n x. link_marks such x ≡ n; Stat = PartIs such base; Case = BranchIs such base; Expr = λ n x. expr_marks such x ≡ n }

-- ## Small statements

set_number_of : (such : Such) (x : Var) (n : ℕ) → stat_marks such (s.set_number x n) ≡ 0
set_number_of such x n = set_of such x (number n) ∙ number_of such n

moved_of : (such : Such) (x y : Var) → stat_marks such (s.moved x y) ≡ 0
moved_of such x y = set_of such x (variable y) ∙ variable_of such y

holds_number_of : (such : Such) (x : Var) (n : ℕ) → expr_marks such (s.holds_number x n) ≡ 0
holds_number_of such x n = let e = two_of such (variable x) (op.Operator Same) (number n) refl in let a = variable_of such x in let b = number_of such n in omega arith

given_of : (such : Such) (how : ℕ) (x : CoreExpr) → stat_marks such (s.given how x) ≡ expr_marks such x
given_of such how x =
    let e = return_of such (expression None head.ArgumentList (acting op.Element (number how) ∷ acting op.Element x ∷ [])) in
    let d = expression_of such None head.ArgumentList (acting op.Element (number how) ∷ acting op.Element x ∷ []) in
    let a = acting_of such op.Element (number how) refl in let b = acting_of such op.Element x refl in let c = number_of such how in let f = such.list in omega arith

again_of : (such : Such) (p : Place) → stat_marks such (s.again p) ≡ 0
again_of such p = jump_of such true (Some p.registers.turn)

goes_of : (such : Such) (p : Place) (n : ℕ) → stats_marks such (s.goes p n) ≡ 0
goes_of such p n = let a = set_number_of such p.registers.state n in let b = again_of such p in omega arith

moves_of : (such : Such) (p : Place) (region n : ℕ) → stats_marks such (s.moves p region n) ≡ 0
moves_of such p region n = let a = set_number_of such p.registers.region region in let b = goes_of such p n in omega arith

goes_to_of : (such : Such) (p : Place) (region n : ℕ) → stats_marks such (s.goes_to p region n) ≡ 0
goes_to_of such p region n = either (λ ss. stats_marks such ss ≡ 0) (nat_eq region p.region) {x = s.goes p n} {y = s.moves p region n} (goes_of such p n) (moves_of such p region n)

unwinds_of : (such : Such) (p : Place) (kind : ℕ) (x : CoreExpr) → stats_marks such (s.unwinds p kind x) ≡ expr_marks such x
unwinds_of such p kind x = let a = set_of such p.registers.ending.value x in let b = set_number_of such p.registers.ending.kind kind in let c = again_of such p in omega arith

is_there_of : (such : Such) (c : Completion) → expr_marks such (s.is_there c) ≡ 0
is_there_of such c = let e = two_of such (variable c.kind) (op.Operator NotSame) (number 0) refl in let a = variable_of such c.kind in let b = number_of such 0 in omega arith

handed_on_of : (such : Such) (p : Place) (c : Completion) → stat_marks such (s.handed_on p c) ≡ 0
handed_on_of such p c =
    let e = when_of such (s.is_there c) (s.moved p.registers.ending.kind c.kind ∷ s.moved p.registers.ending.value c.value ∷ s.again p ∷ []) in
    let a = is_there_of such c in let b = moved_of such p.registers.ending.kind c.kind in let d = moved_of such p.registers.ending.value c.value in let f = again_of such p in omega arith

-- ## What grows a machine

shift : (such : Such) (base : ℕ) (n k : ℕ) (m : Machine) → n ≤ k → Below such base n m → Below such base k m
shift such base n k m e h = record { most = let d = h.most in omega arith }

says_below : (such : Such) (base : ℕ) (x : CoreStat) (k : ℕ) → stat_marks such x ≡ k → Adds such base k (s.says x)
says_below such base x k e n m h = either (Below such base (n + k)) m.over {x = m} {y = record m { stats = m.stats ++ x ∷ [] }}
    (record { most = let d = h.most in omega arith })
    (record { most = let d = h.most in let a = stats_one such m.stats x in omega arith })

ends_below : (such : Such) (base : ℕ) (ss : List CoreStat) (k : ℕ) → stats_marks such ss ≡ k → Adds such base k (s.ends ss)
ends_below such base ss k e n m h = either (Below such base (n + k)) m.over {x = m} {y = record m { stats = m.stats ++ ss; over = true }}
    (record { most = let d = h.most in omega arith })
    (record { most = let d = h.most in let a = stats_more such m.stats ss in omega arith })

numbered_of : (such : Such) (n : ℕ) (ss : List CoreStat) → case_marks such (y.case_of (Some (number n)) ss) ≡ stats_marks such ss
numbered_of such n ss = let e = case_of such (Some (number n)) ss in let d = number_of such n in omega arith

begins_below : (such : Such) (base : ℕ) (here : ℕ) (n : ℕ) (m : Machine) → Below such base n m → Below such base n (s.begins here m)
begins_below such base here n m h = record {
  most =
      let d = h.most in let a = total_one (case_marks such) m.states (y.case_of (Some (number m.here)) m.stats) in let b = numbered_of such m.here m.stats in omega arith;
}

draws_below : (such : Such) (base : ℕ) (k n : ℕ) (m : Machine) → Below such base n m → Below such base n (s.draws k m)
draws_below such base k n m h = record { most = h.most }

goes_then_below : (such : Such) (base : ℕ) (p : Place) (to here n : ℕ) (m : Machine) → Below such base n m → Below such base n (s.goes_then p to here m)
goes_then_below such base p to here n m h = begins_below such base here n _ (shift such base (n + 0) n _ (omega arith) (ends_below such base (s.goes p to) 0 (goes_of such p to) n m h))

hands_out_below : (such : Such) (base : ℕ) (p : Place) (how : ℕ) (x : CoreExpr) → Adds such base (expr_marks such x) (s.hands_out p how x)
hands_out_below such base p how x n m h = begins_below such base m.next _ _ (draws_below such base 1 _ _ (ends_below such base (s.handing p how x m.next) (expr_marks such x)
    (let a = set_number_of such p.registers.state m.next in let b = given_of such how x in omega arith) n m h))

yielded_below : (such : Such) (base : ℕ) (p : Place) (x : CoreExpr) (kind : Option Var) (result : Var) → Adds such base (expr_marks such x) (s.yielded p x kind result)
yielded_below such base p x None result n m h = shift such base (n + expr_marks such x + 0 + 0) (n + expr_marks such x) _ (omega arith)
    (says_below such base (s.moved result p.registers.resumption.value) 0 (moved_of such _ _) _ _ (says_below such base (s.handed_on p p.registers.resumption) 0 (handed_on_of such p _) _ _ (hands_out_below such base p 0 x n m h)))
yielded_below such base p x (Some kind) result n m h = shift such base (n + expr_marks such x + 0 + 0) (n + expr_marks such x) _ (omega arith)
    (says_below such base (s.moved result p.registers.resumption.value) 0 (moved_of such _ _) _ _ (says_below such base (s.moved kind p.registers.resumption.kind) 0 (moved_of such _ _) _ _ (hands_out_below such base p 1 x n m h)))

jumps_to_of : (such : Such) (p : Place) (goes_on : Bool) (label : Label) (t : Option Target) → stats_marks such (s.jumps_to p goes_on label t) ≡ 0
jumps_to_of such p goes_on label None = let a = jump_of such goes_on (Some label) in omega arith
jumps_to_of such p goes_on label (Some t) = either (λ ss. stats_marks such ss ≡ 0) (nat_eq t.finals p.finals) {x = s.goes_to p t.region (s.state_of goes_on t)} {y = s.unwinds p (t.region + 3) (number (s.state_of goes_on t))}
    (goes_to_of such p t.region (s.state_of goes_on t)) (unwinds_of such p (t.region + 3) _ ∙ number_of such (s.state_of goes_on t))

jumped_below : (such : Such) (base : ℕ) (p : Place) (goes_on : Bool) (label : Option Label) → Adds such base 0 (s.jumped p goes_on label)
jumped_below such base p goes_on None = ends_below such base _ 0 (let a = jump_of such goes_on None in omega arith)
jumped_below such base p goes_on (Some label) = ends_below such base _ 0 (jumps_to_of such p goes_on label (s.found label p.targets))

-- ## Lists of parts

add_below : (such : Such) (base : ℕ) (p : Place) (k : ℕ) (x : Part) → PartIs such base k x → Adds such base k (s.add p x)
add_below such base p k x h n m g = either (Below such base (n + k)) (x.stays []) {x = s.says x.whole m} {y = x.adds p m} (says_below such base x.whole k h.whole n m g) (h.adds p n m g)

abbrev Parts : Such → ℕ → Type 0
Parts such base = List (Pair (PartIs such base))

abbrev Branches : Such → ℕ → Type 0
Branches such base = List (Pair (BranchIs such base))

add_all_below : (such : Such) (base : ℕ) (p : Place) (ps : Parts such base) → Adds such base (total (map (λ q. q.0) ps)) (s.add_all p (map (λ q. q.1) ps))
add_all_below such base p [] n m h = shift such base n (n + 0) m (omega arith) h
add_all_below such base p (q ∷ ps) n m h = shift such base (n + q.0 + total (map (λ r. r.0) ps)) (n + (q.0 + total (map (λ r. r.0) ps))) _ (omega arith)
    (add_all_below such base p ps (n + q.0) (s.add p q.1 m) (add_below such base p q.0 q.1 q.2 n m h))

wholes_of : (such : Such) (base : ℕ) (ps : Parts such base) → stats_marks such (s.wholes (map (λ q. q.1) ps)) ≡ total (map (λ q. q.0) ps)
wholes_of such base [] = refl
wholes_of such base (q ∷ ps) = let a = q.2.whole in let b = wholes_of such base ps in omega arith

whole_cases_of : (such : Such) (base : ℕ) (cs : Branches such base) → cases_marks such (s.whole_cases (map (λ q. q.1) cs)) ≡ total (map (λ q. q.0) cs)
whole_cases_of such base [] = refl
whole_cases_of such base (q ∷ cs) = let a = q.2.whole in let b = whole_cases_of such base cs in omega arith

abbrev Equal : {A : Type 0} → (A → ℕ) → Type 0
Equal f = Pair (λ n x. f x ≡ n)

same_total : {A : Type 0} (f : A → ℕ) (ps : List (Equal f)) → total (map f (map (λ q. q.1) ps)) ≡ total (map (λ q. q.0) ps)
same_total f [] = refl
same_total f (q ∷ ps) = let a = q.2 in let b = same_total f ps in omega arith

-- ## Cases

abbrev tests : (such : Such) (base : ℕ) → Branches such base → ℕ
tests such base [] = 0
tests such base (q ∷ cs) = option_marks such q.1.test + tests such base cs

abbrev inner : (such : Such) (base : ℕ) → Branches such base → ℕ
inner such base [] = 0
inner such base (q ∷ cs) = q.2.body + inner such base cs

apart : (such : Such) (base : ℕ) (cs : Branches such base) → tests such base cs + inner such base cs ≡ total (map (λ q. q.0) cs)
apart such base [] = refl
apart such base (q ∷ cs) = let a = q.2.split in let b = apart such base cs in omega arith

dispatched_of : (such : Such) (base : ℕ) (p : Place) (n : ℕ) (cs : Branches such base) → cases_marks such (s.dispatched p n (map (λ q. q.1) cs)) ≡ tests such base cs
dispatched_of such base p n [] = refl
dispatched_of such base p n (q ∷ cs) =
    let a = case_of such q.1.test (s.goes p n) in let b = goes_of such p n in let c = dispatched_of such base p (n + 1) cs in omega arith

add_cases_below : (such : Such) (base : ℕ) (p : Place) (falls : Bool) (after at : ℕ) (cs : Branches such base) → Adds such base (inner such base cs) (s.add_cases p falls after at (map (λ q. q.1) cs))
add_cases_below such base p falls after at [] n m h = shift such base n (n + 0) m (omega arith) h
add_cases_below such base p falls after at (q ∷ cs) n m h = shift such base (n + q.2.body + 0 + inner such base cs) (n + (q.2.body + inner such base cs)) _ (omega arith)
    (add_cases_below such base p falls after (at + 1) cs (n + q.2.body + 0) _
    (ends_below such base (s.goes p (cond falls (at + 1) after)) 0 (goes_of such p (cond falls (at + 1) after)) (n + q.2.body) _ (q.2.adds p n _ (begins_below such base at n m h))))

dispatching_below : (such : Such) (base : ℕ) (p : Place) (choice : CoreStat) (k count after : ℕ) → stat_marks such choice ≡ k → Adds such base k (s.dispatching p choice count after)
dispatching_below such base p choice k count after e n m h = ends_below such base (choice ∷ s.goes p after) k (let a = goes_of such p after in omega arith) n _ (draws_below such base 1 n _ (draws_below such base count n m h))

chosen_below : (such : Such) (base : ℕ) (p : Place) (cs : Branches such base) → Adds such base (total (map (λ q. q.0) cs)) (s.chosen p (map (λ q. q.1) cs))
chosen_below such base p cs n m h =
    let count = length (map (λ q. q.1) cs) in
    let after = m.next + count in
    let choice = s.dispatched p m.next (map (λ q. q.1) cs) in
    begins_below such base after _ _ (shift such base (n + tests such base cs + inner such base cs) (n + total (map (λ q. q.0) cs)) _ (let a = apart such base cs in omega arith)
    (add_cases_below such base p false after m.next cs (n + tests such base cs) _ (dispatching_below such base p (stat.If choice) (tests such base cs) count after (if_of such choice ∙ dispatched_of such base p m.next cs) n m h)))

switched_below : (such : Such) (base : ℕ) (p : Place) (subject : CoreExpr) (k : ℕ) (cs : Branches such base) → expr_marks such subject ≡ k → Adds such base (k + total (map (λ q. q.0) cs)) (s.switched p subject (map (λ q. q.1) cs))
switched_below such base p subject k cs e n m h =
    let count = length (map (λ q. q.1) cs) in
    let after = m.next + count in
    let choice = s.dispatched p m.next (map (λ q. q.1) cs) in
    begins_below such base after _ _ (shift such base (n + (k + tests such base cs) + inner such base cs) (n + (k + total (map (λ q. q.0) cs))) _ (let a = apart such base cs in omega arith)
    (add_cases_below such base p true after m.next cs (n + (k + tests such base cs)) _ (dispatching_below such base p (stat.Switch subject choice) (k + tests such base cs) count after
    (let a = switch_of such subject choice in let b = dispatched_of such base p m.next cs in omega arith) n m h)))

-- ## Loops

tested_below : (such : Such) (base : ℕ) (p : Place) (after : ℕ) (test : Option CoreExpr) → Adds such base (option_marks such test) (s.tested p after test)
tested_below such base p after None n m h = shift such base n (n + 0) m (omega arith) h
tested_below such base p after (Some t) n m h = says_below such base (when (linked t (act (op.Unary Not))) (s.goes p after)) (expr_marks such t)
    (let a = when_of such (linked t (act (op.Unary Not))) (s.goes p after) in let b = acted_of such t (op.Unary Not) refl in let c = goes_of such p after in omega arith) n m h

updated_below : (such : Such) (base : ℕ) (update : Option CoreExpr) → Adds such base (option_marks such update) (s.updated update)
updated_below such base None n m h = shift such base n (n + 0) m (omega arith) h
updated_below such base (Some u) n m h = says_below such base (stat.Do u) (expr_marks such u) (do_of such u) n m h

looped_below : (such : Such) (base : ℕ) (p : Place) (labels : List Label) (test update : Option CoreExpr) (body : Parts such base) → Adds such base (option_marks such test + option_marks such update + total (map (λ q. q.0) body)) (s.looped p labels test update (map (λ q. q.1) body))
looped_below such base p labels test update body n m h =
    let t = option_marks such test in let u = option_marks such update in let b = total (map (λ q. q.0) body) in
    shift such base (n + t + b + u) (n + (t + u + b)) _ (omega arith)
    (goes_then_below such base p m.next (m.next + 2) (n + t + b + u) _ (updated_below such base update (n + t + b) _ (goes_then_below such base p (m.next + 1) (m.next + 1) (n + t + b) _
    (add_all_below such base (s.under p (m.next + 2) (m.next + 1) labels) body (n + t) _
    (tested_below such base p (m.next + 2) test n _ (goes_then_below such base p m.next m.next n _ (draws_below such base 3 n m h)))))))

labelled_below : (such : Such) (base : ℕ) (p : Place) (label : Label) (body : Parts such base) → Adds such base (total (map (λ q. q.0) body)) (s.labelled p label (map (λ q. q.1) body))
labelled_below such base p label body n m h = goes_then_below such base p m.next m.next _ _ (add_all_below such base (s.under p m.next m.next (label ∷ [])) body n _ (draws_below such base 1 n m h))

-- ## Regions

region_with_below : (such : Such) (base : ℕ) (p : Place) (row : List CoreStat) (locals : List Var) (n : ℕ) (m : Machine) → stats_marks such row ≡ 0
    → cases_marks such m.states + stats_marks such m.stats + cases_marks such m.rows + (names_marks such m.locals + names_marks such locals) + base ≤ n + upto such (size m.fresh) → Below such base n (s.region_with p row locals m)
region_with_below such base p row locals n m e h = shift such base (n + 0) n _ (omega arith) (says_below such base (s.set_number p.registers.region m.regions) 0 (set_number_of such p.registers.region m.regions) n
    (record m { next = m.next + 2; rows = m.rows ++ y.case_of (Some (number m.regions)) row ∷ []; regions = m.regions + 1; locals = m.locals ++ locals })
    (record {
      most =
          let a = total_one (case_marks such) m.rows (y.case_of (Some (number m.regions)) row) in let b = numbered_of such m.regions row in let c = total_more such.caught m.locals locals in omega arith;
    }))

catching_of : (such : Such) (p : Place) (parameter : Var) (handler : ℕ) → stats_marks such (s.catching p parameter handler) ≡ 0
catching_of such p parameter handler =
    let a = set_number_of such p.registers.region p.region in
    let b = when_of such (s.holds_number p.registers.ending.kind 1) (s.set_number p.registers.ending.kind 0 ∷ s.moved parameter p.registers.ending.value ∷ s.set_number p.registers.state handler ∷ []) in
    let c = holds_number_of such p.registers.ending.kind 1 in let d = set_number_of such p.registers.ending.kind 0 in let e = moved_of such parameter p.registers.ending.value in
    let f = set_number_of such p.registers.state handler in let g = again_of such p in omega arith

handled_below : (such : Such) (base : ℕ) (p : Place) (handler : Parts such base) (at : ℕ) → Adds such base (total (map (λ q. q.0) handler)) (s.handled p (map (λ q. q.1) handler) at)
handled_below such base p handler at n m h = goes_then_below such base p (at + 1) (at + 1) _ _ (add_all_below such base p handler n _ (begins_below such base at n _
    (shift such base (n + 0) n _ (omega arith) (ends_below such base (s.moves p p.region (at + 1)) 0 (moves_of such p p.region (at + 1)) n m h))))

caught_below : (such : Such) (base : ℕ) (p : Place) (block : Parts such base) (parameter : Var) (handler : Parts such base)
    → Adds such base (total (map (λ q. q.0) block) + total (map (λ q. q.0) handler) + such.caught parameter) (s.caught p (map (λ q. q.1) block) parameter (map (λ q. q.1) handler))
caught_below such base p block parameter handler n m h =
    let b = total (map (λ q. q.0) block) in let k = total (map (λ q. q.0) handler) in let c = such.caught parameter in
    shift such base (n + c + b + k) (n + (b + k + c)) _ (omega arith)
    (handled_below such base p handler m.next (n + c + b) _ (add_all_below such base (s.within p m.regions p.finals) block (n + c) _
    (region_with_below such base p (s.catching p parameter m.next) (parameter ∷ []) (n + c) m (catching_of such p parameter m.next) (let d = h.most in omega arith))))

keeping_of : (such : Such) (p : Place) (c : Completion) (last : ℕ) → stats_marks such (s.keeping p c last) ≡ 0
keeping_of such p c last =
    let a = moved_of such c.kind p.registers.ending.kind in let b = moved_of such c.value p.registers.ending.value in
    let d = set_number_of such p.registers.ending.kind 0 in let e = moves_of such p p.region last in omega arith

nothing_kept_of : (such : Such) (p : Place) (c : Completion) (at : ℕ) → stats_marks such (s.nothing_kept p c at) ≡ 0
nothing_kept_of such p c at = let a = set_number_of such c.kind 0 in let b = moves_of such p p.region at in omega arith

finished_below : (such : Such) (base : ℕ) (p : Place) (c : Completion) (last : Parts such base) (at : ℕ) → Adds such base (total (map (λ q. q.0) last)) (s.finished p c (map (λ q. q.1) last) at)
finished_below such base p c last at n m h =
    let k = total (map (λ q. q.0) last) in
    goes_then_below such base p (at + 1) (at + 1) (n + k) _ (shift such base (n + k + 0) (n + k) _ (omega arith) (says_below such base (s.handed_on p c) 0 (handed_on_of such p c) (n + k) _
    (add_all_below such base p last n _ (begins_below such base at n _ (shift such base (n + 0) n _ (omega arith) (ends_below such base (s.nothing_kept p c at) 0 (nothing_kept_of such p c at) n m h))))))

upto_one : (such : Such) (fresh : Fresh) → upto such (size (with_hint None fresh)) ≡ upto such (size fresh) + such.caught (next fresh)
upto_one such fresh = ap (upto such) (let a = length-append fresh.hints (None ∷ []) in let b : size (with_hint None fresh) ≡ suc (size fresh) = omega arith in b)

upto_pair : (such : Such) (fresh : Fresh) → upto such (size (s.after_pair fresh)) ≡ upto such (size fresh) + such.caught (s.pair fresh).kind + such.caught (s.pair fresh).value
upto_pair such fresh = let a = upto_one such fresh in let b = upto_one such (with_hint None fresh) in omega arith

kept_region_below : (such : Such) (base : ℕ) (p : Place) (n : ℕ) (m : Machine) → Below such base n m → Below such base n (s.kept_region p (s.pair m.fresh) m)
kept_region_below such base p n m h =
    let c = s.pair m.fresh in
    region_with_below such base p (s.keeping p c m.next) (c.kind ∷ c.value ∷ []) n (record m { fresh = s.after_pair m.fresh }) (keeping_of such p c m.next) (let d = h.most in let a = upto_pair such m.fresh in omega arith)

ensured_below : (such : Such) (base : ℕ) (p : Place) (block last : Parts such base) → Adds such base (total (map (λ q. q.0) block) + total (map (λ q. q.0) last)) (s.ensured p (map (λ q. q.1) block) (map (λ q. q.1) last))
ensured_below such base p block last n m h =
    let b = total (map (λ q. q.0) block) in let k = total (map (λ q. q.0) last) in
    shift such base (n + b + k) (n + (b + k)) _ (omega arith)
    (finished_below such base p (s.pair m.fresh) last m.next (n + b) _ (add_all_below such base (s.within p m.regions (p.finals + 1)) block n _ (kept_region_below such base p n m h)))

-- ## The steps

link_kept : (such : Such) (base : ℕ) (z : Links (relation such base)) → link_marks such (s.link_step (link_second (relation such base) z)) ≡ (counts such).link_step (link_first (relation such base) z)
link_kept such base (layer.Strict o parts site) = let a = strict_of such o (map (λ q. q.1) parts) site in let b = same_total (expr_marks such) parts in omega arith
link_kept such base (layer.Lazy w taken None) = let a = lazy_of such w taken.1 None in let b = taken.2 in omega arith
link_kept such base (layer.Lazy w taken (Some other)) = let a = lazy_of such w taken.1 (Some other.1) in let b = taken.2 in let c = other.2 in omega arith
link_kept such base (layer.Run body) = run_of such (s.wholes (map (λ q. q.1) body)) ∙ wholes_of such base body

expr_kept : (such : Such) (base : ℕ) (z : Exprs (relation such base)) → expr_marks such (s.expr_step (expr_second (relation such base) z)) ≡ (counts such).expr_step (expr_first (relation such base) z)
expr_kept such base z = expression_of such z.site z.head _ ∙ ap (λ n. such.weighs z.head + n) (same_total (link_marks such) z.links)

case_by : (such : Such) (base : ℕ) (test : Option (Pair (relation such base).Expr)) (body : Parts such base) → BranchIs such base ((counts such).case_step (case_first (relation such base) (record { test = test; body = body }))) (s.case_step (case_second (relation such base) (record { test = test; body = body })))
case_by such base None body = record {
  whole = let a = case_of such None (s.wholes (map (λ q. q.1) body)) in let b = wholes_of such base body in omega arith;
  body = total (map (λ q. q.0) body);
  split = refl;
  adds = λ p. add_all_below such base p body;
}
case_by such base (Some t) body = record {
  whole = let a = case_of such (Some t.1) (s.wholes (map (λ q. q.1) body)) in let b = wholes_of such base body in let c = t.2 in omega arith;
  body = total (map (λ q. q.0) body);
  split = let c = t.2 in omega arith;
  adds = λ p. add_all_below such base p body;
}

stat_kept : (such : Such) (base : ℕ) (z : Stats (relation such base)) → PartIs such base ((counts such).stat_step (stat_first (relation such base) z)) (s.stat_step (stat_second (relation such base) z))
stat_kept such base (layer.Do x) = record { whole = do_of such x.1 ∙ x.2; adds = λ p. says_below such base (stat.Do x.1) x.0 (do_of such x.1 ∙ x.2) }
stat_kept such base (layer.If cases) = record { whole = if_of such _ ∙ whole_cases_of such base cases; adds = λ p. chosen_below such base p cases }
stat_kept such base (layer.Switch subject cases) = record {
  whole = let a = switch_of such subject.1 (s.whole_cases (map (λ q. q.1) cases)) in let b = whole_cases_of such base cases in let c = subject.2 in omega arith;
  adds = λ p. switched_below such base p subject.1 subject.0 cases subject.2;
}
stat_kept such base (layer.Loop labels None None body) = record {
  whole = let a = loop_of such labels None None (s.wholes (map (λ q. q.1) body)) in let b = wholes_of such base body in omega arith;
  adds = λ p. looped_below such base p labels None None body;
}
stat_kept such base (layer.Loop labels None (Some u) body) = record {
  whole = let a = loop_of such labels None (Some u.1) (s.wholes (map (λ q. q.1) body)) in let b = wholes_of such base body in let c = u.2 in omega arith;
  adds = λ p n m h. shift such base (n + (0 + expr_marks such u.1 + total (map (λ q. q.0) body))) (n + (0 + u.0 + total (map (λ q. q.0) body))) _ (let c = u.2 in omega arith) (looped_below such base p labels None (Some u.1) body n m h);
}
stat_kept such base (layer.Loop labels (Some t) None body) = record {
  whole = let a = loop_of such labels (Some t.1) None (s.wholes (map (λ q. q.1) body)) in let b = wholes_of such base body in let c = t.2 in omega arith;
  adds = λ p n m h. shift such base (n + (expr_marks such t.1 + 0 + total (map (λ q. q.0) body))) (n + (t.0 + 0 + total (map (λ q. q.0) body))) _ (let c = t.2 in omega arith) (looped_below such base p labels (Some t.1) None body n m h);
}
stat_kept such base (layer.Loop labels (Some t) (Some u) body) = record {
  whole = let a = loop_of such labels (Some t.1) (Some u.1) (s.wholes (map (λ q. q.1) body)) in let b = wholes_of such base body in let c = t.2 in let d = u.2 in omega arith;
  adds = λ p n m h. shift such base (n + (expr_marks such t.1 + expr_marks such u.1 + total (map (λ q. q.0) body))) (n + (t.0 + u.0 + total (map (λ q. q.0) body))) _ (let c = t.2 in let d = u.2 in omega arith) (looped_below such base p labels (Some t.1) (Some u.1) body n m h);
}
stat_kept such base (layer.Labelled label body) = record { whole = labelled_of such label _ ∙ wholes_of such base body; adds = λ p. labelled_below such base p label body }
stat_kept such base (layer.Jump goes_on label) = record { whole = jump_of such goes_on label; adds = λ p. jumped_below such base p goes_on label }
stat_kept such base (layer.Return x) = record { whole = return_of such x.1 ∙ x.2; adds = λ p. ends_below such base (s.unwinds p 2 x.1) x.0 (unwinds_of such p 2 x.1 ∙ x.2) }
stat_kept such base (layer.Throw x) = record { whole = throw_of such x.1 ∙ x.2; adds = λ p. says_below such base (stat.Throw x.1) x.0 (throw_of such x.1 ∙ x.2) }
stat_kept such base (layer.TryCatch block parameter names handler) = record {
  whole = let a = catch_of such (s.wholes (map (λ q. q.1) block)) parameter names (s.wholes (map (λ q. q.1) handler)) in let b = wholes_of such base block in let c = wholes_of such base handler in omega arith;
  adds = λ p n m h. shift such base _ _ _ (omega arith) (caught_below such base p block parameter handler n m h);
}
stat_kept such base (layer.TryFinally block last) = record {
  whole = let a = finally_of such (s.wholes (map (λ q. q.1) block)) (s.wholes (map (λ q. q.1) last)) in let b = wholes_of such base block in let c = wholes_of such base last in omega arith;
  adds = λ p. ensured_below such base p block last;
}
stat_kept such base (layer.Scoped names body) = record { whole = scoped_of such names _ ∙ ap (λ n. n + such.scoped names) (wholes_of such base body); adds = λ p n m h. shift such base _ _ _ (omega arith) (add_all_below such base p body n m h) }
stat_kept such base (layer.Yield value kind result) = record {
  whole = yield_of such value.1 kind result ∙ value.2;
  adds = λ p n m h. shift such base (n + expr_marks such value.1) (n + value.0) _ (let c = value.2 in omega arith) (yielded_below such base p value.1 kind result n m h);
}

kept : (such : Such) (base : ℕ) → Keeps (relation such base)
kept such base = record { link = link_kept such base; stat = stat_kept such base; case = λ z. case_by such base z.test z.body; expr = expr_kept such base }

-- ## Functions and the core

body_below : (such : Such) (base : ℕ) (p : Place) (ss : List CoreStat) → Adds such base (stats_marks such ss) (s.add_stats p ss)
body_below such base p [] n m h = shift such base n (n + 0) m (omega arith) h
body_below such base p (x ∷ ss) n m h = shift such base (n + stat_marks such x + stats_marks such ss) (n + (stat_marks such x + stats_marks such ss)) _ (omega arith)
    (body_below such base p ss (n + stat_marks such x) (s.add p (s.part x) m) (add_below such base p (stat_marks such x) (s.part x) (stat_related (relation such base) (kept such base) x) n m h))

last_row_of : (such : Such) (r : Registers) → case_marks such (s.last_row r) ≡ 0
last_row_of such r =
    let a = numbered_of such 0 (when (s.holds_number r.ending.kind 1) (stat.Throw (variable r.ending.value) ∷ []) ∷ s.given 2 (variable r.ending.value) ∷ []) in
    let b = when_of such (s.holds_number r.ending.kind 1) (stat.Throw (variable r.ending.value) ∷ []) in let c = holds_number_of such r.ending.kind 1 in
    let d = throw_of such (variable r.ending.value) in let e = variable_of such r.ending.value in let f = given_of such 2 (variable r.ending.value) in omega arith

-- with the names of registers
abbrev drawn_marks : Such → Registers → ℕ
drawn_marks such r = such.caught r.resumption.kind + such.caught r.resumption.value + such.caught r.thrown

upto_registers : (such : Such) (fresh : Fresh) (turn : Label) →
    let r = s.registers fresh turn in
    upto such (size (s.after_registers fresh)) ≡ upto such (size fresh) + drawn_marks such r + names_marks such (r.ending.kind ∷ r.ending.value ∷ r.state ∷ r.region ∷ [])
upto_registers such fresh turn =
    let f2 = s.after_pair fresh in let f4 = s.after_pair f2 in let f6 = s.after_pair f4 in
    let a = upto_pair such fresh in let b = upto_pair such f2 in let c = upto_pair such f4 in let d = upto_one such f6 in omega arith

started_below : (such : Such) (fresh : Fresh) (turn : Label) →
    let r = s.registers fresh turn in
    Below such (upto such (size fresh) + drawn_marks such r) 0 (s.started r (s.after_registers fresh))
started_below such fresh turn = record { most = let a = last_row_of such (s.registers fresh turn) in let b = upto_registers such fresh turn in omega arith }

machine_below : (such : Such) (fresh : Fresh) (turn : Label) (body : List CoreStat) →
    let r = s.registers fresh turn in
    Below such (upto such (size fresh) + drawn_marks such r) (stats_marks such body) (s.machine r body (s.after_registers fresh))
machine_below such fresh turn body =
    let r = s.registers fresh turn in let base = upto such (size fresh) + drawn_marks such r in
    begins_below such base 0 _ _ (shift such base (0 + stats_marks such body + 0) (stats_marks such body) _ (omega arith)
    (ends_below such base (s.unwinds (s.outermost r) 2 undefined) 0 (unwinds_of such (s.outermost r) 2 undefined ∙ constant_of such Undefined) (0 + stats_marks such body) _
    (body_below such base (s.outermost r) body 0 _ (started_below such fresh turn))))

arrival_of : (such : Such) (r : Registers) → stat_marks such (s.arrival r) ≡ 0
arrival_of such r =
    let a = when_of such (s.has_arrived r) (s.moved r.state r.ending.value ∷ s.set_number r.ending.kind 0 ∷ s.again (s.outermost r) ∷ []) in
    let b = two_of such (variable r.ending.kind) (op.Operator Same) (two (variable r.region) (op.Operator Add) (number 3)) refl in
    let c = two_of such (variable r.region) (op.Operator Add) (number 3) refl in
    let d = variable_of such r.ending.kind in let e = variable_of such r.region in let f = number_of such 3 in
    let g = moved_of such r.state r.ending.value in let h = set_number_of such r.ending.kind 0 in let i = again_of such (s.outermost r) in omega arith

unwinder_of : (such : Such) (r : Registers) (rows : List CoreCase) → stat_marks such (s.unwinder r rows) ≡ cases_marks such rows
unwinder_of such r rows =
    let a = when_of such (s.is_there r.ending) (s.arrival r ∷ stat.Switch (variable r.region) rows ∷ []) in
    let b = is_there_of such r.ending in let c = arrival_of such r in let d = switch_of such (variable r.region) rows in let e = variable_of such r.region in omega arith

caught_step_of : (such : Such) (r : Registers) → stats_marks such (s.caught_step r) ≡ 0
caught_step_of such r =
    let a = when_of such (s.holds_number r.ending.kind 1) (when (s.holds_number r.region 0) (stat.Throw (variable r.thrown) ∷ []) ∷ []) in
    let b = holds_number_of such r.ending.kind 1 in
    let c = when_of such (s.holds_number r.region 0) (stat.Throw (variable r.thrown) ∷ []) in let d = holds_number_of such r.region 0 in
    let e = throw_of such (variable r.thrown) in let f = variable_of such r.thrown in
    let g = moved_of such r.ending.value r.thrown in let h = set_number_of such r.ending.kind 1 in omega arith

step_of : (such : Such) (r : Registers) (rows states : List CoreCase) → stats_marks such (s.step r rows states) ≡ cases_marks such rows + cases_marks such states + such.caught r.thrown
step_of such r rows states =
    let a = loop_of such (r.turn ∷ []) None None (s.guarded_step r rows states ∷ []) in
    let b = catch_of such (s.unwinder r rows ∷ stat.Switch (variable r.state) states ∷ []) r.thrown [] (s.caught_step r) in
    let c = unwinder_of such r rows in let d = switch_of such (variable r.state) states in let e = variable_of such r.state in
    let f = caught_step_of such r in let g = such.unscoped in omega arith

making_of : (such : Such) (r : Registers) → stats_marks such (s.making r) ≡ 0
making_of such r =
    let a = set_number_of such r.ending.kind 0 in let b = set_number_of such r.state 0 in let c = set_number_of such r.region 0 in
    let d = return_of such (expression None (head.Primitive GeneratorMake) []) in let e = expression_of such None (head.Primitive GeneratorMake) [] in let f = such.making in omega arith

pub generator_below : (such : Such) (f : CoreFunction) (fresh : Fresh) →
    let r = s.registers fresh (s.turn_label f) in
    let m = s.machine r f.body (s.after_registers fresh) in
    function_marks such (s.generator f fresh).made + names_marks such m.locals + (such.caught r.resumption.kind + such.caught r.resumption.value) + upto such (size fresh) ≤ function_marks such f + upto such (size m.fresh)
generator_below such f fresh =
    let r = s.registers fresh (s.turn_label f) in
    let m = s.machine r f.body (s.after_registers fresh) in
    let a = (machine_below such fresh (s.turn_label f) f.body).most in
    let b = step_of such r m.rows m.states in let c = making_of such r in omega arith
