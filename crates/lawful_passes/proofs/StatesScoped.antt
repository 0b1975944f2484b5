-- The flattening of scopes makes no more states of generators, by the count before that of yields.
use Rattle.std.specs.List.{list_all}
use Rattle.std.proofs.Common.{◌≡◌, ℕ, ◌+◌, ◌≤◌, Bool, true, false, not, ◌||◌, cond, length, List, [], ◌∷◌, ◌++◌, map, Option, None, Some, refl, sym, ap, arith, ◌∙◌}
use Rattle.std.proofs.lemmas.Bool.{leb-true, le-leb}
use Rattle.es_outside.specs.declared.events.Site.{Site}
use Rattle.core_ast.specs.declared.naming.Fresh.{Fresh}
use Rattle.core_ast.specs.declared.parts.CoreHead.{CoreHead}
use Rattle.core_ast.specs.declared.parts.CoreHead.TheVariants as head
use Rattle.core_ast.specs.declared.parts.Constant.TheVariants.{Undefined}
use Rattle.core_ast.specs.declared.parts.CoreOp.{CoreOp}
use Rattle.core_ast.specs.declared.parts.CoreOp.TheVariants as op
use Rattle.core_ast.specs.declared.parts.Primitive.TheVariants.{CellMake}
use Rattle.core_ast.specs.declared.parts.ScopedName.{ScopedName}
use Rattle.core_ast.specs.declared.parts.Var.{Var}
use Rattle.core_ast.specs.declared.tree.CoreCase.{CoreCase}
use Rattle.core_ast.specs.declared.tree.CoreExpr.{CoreExpr, out-CoreExpr, fold_out-CoreExpr}
use Rattle.core_ast.specs.declared.tree.CoreLink.{CoreLink}
use Rattle.core_ast.specs.declared.tree.CoreLink.TheOpen as layer
use Rattle.core_ast.specs.declared.tree.CoreLink.TheOpen.{CoreStat-F}
use Rattle.core_ast.specs.declared.tree.CoreLink.TheVariants as link
use Rattle.core_ast.specs.declared.tree.CoreStat.{CoreStat, roll-CoreStat}
use Rattle.core_ast.specs.declared.tree.CoreStat.TheVariants as stat
use Rattle.core_ast.specs.declared.whole.CoreFunction.{CoreFunction}
use Rattle.core_ast.specs.Lawful.{is_generator, is_safe}
use Rattle.core_ast.specs.Made.{act, acting, expression, linked}
use Rattle.core_ast.specs.Mentions.{function_mentions}
use Rattle.core_ast.specs.Walks.{along}
use Rattle.pass_rules.specs.Cells.{cells_at, is_shared}
use Rattle.pass_rules.specs.Scopes as s
use Rattle.pass_rules.specs.Scopes.{Extends}
use Rattle.pass_rules.specs.pass_laws.Marks.{total}
use Rattle.pass_rules.specs.yield_rules.Yields as y
use Rattle.pass_rules.proofs.pass_laws.Related.{Relates, Keeps, Pair, Links, Stats, Exprs, link_first, link_second, stat_first, stat_second, case_first, case_second, expr_first, expr_second, in_stat, of_case, of_expr, of_link, of_stat, stat_related, link_rolled, stat_rolled, case_rolled, expr_rolled}
use Rattle.pass_rules.proofs.pass_laws.Scopes.{flat}
use Rattle.pass_rules.proofs.pass_laws.Within.{left, right, either, more}
use Rattle.lawful_passes.specs.Laws.{StatesStayFew}
use Rattle.lawful_passes.specs.States.{has_few_states}
use Rattle.lawful_passes.specs.StatesBefore as before
use Rattle.lawful_passes.specs.StatesBefore.{will_have_few_states}
use Rattle.lawful_passes.proofs.StatesSpilled.{counts_before, states_below}

abbrev of_parts : List CoreExpr → ℕ
of_parts xs = total (map (of_expr counts_before) xs)

abbrev of_links : List CoreLink → ℕ
of_links ls = total (map (of_link counts_before) ls)

abbrev pub of_stats : List CoreStat → ℕ
of_stats ss = total (map (of_stat counts_before) ss)

abbrev of_cases : List CoreCase → ℕ
of_cases cs = total (map (of_case counts_before) cs)

total_one : {A : Type 0} (f : A → ℕ) (xs : List A) (x : A) → total (map f (xs ++ x ∷ [])) ≡ total (map f xs) + f x
total_one f [] x = omega arith
total_one f (z ∷ xs) x = let e = total_one f xs x in omega arith

total_more : {A : Type 0} (f : A → ℕ) (xs ys : List A) → total (map f (xs ++ ys)) ≡ total (map f xs) + total (map f ys)
total_more f [] ys = omega arith
total_more f (z ∷ xs) ys = let e = total_more f xs ys in omega arith

-- ## Nodes

strict_of : (o : CoreOp) (parts : List CoreExpr) (site : Option Site) → of_link counts_before (link.Strict o parts site) ≡ before.of_op o + of_parts parts
strict_of o parts site = ap (of_link counts_before) (sym (link.rolls-Strict o parts site)) ∙ link_rolled counts_before (layer.Strict o parts site)

expression_of : (site : Option Site) (h : CoreHead) (ls : List CoreLink) → of_expr counts_before (expression site h ls) ≡ of_links ls
expression_of site h ls = expr_rolled counts_before (record { site = site; head = h; links = ls })

linked_of : (x : CoreExpr) (k : CoreLink) → of_expr counts_before (linked x k) ≡ of_expr counts_before x + of_link counts_before k
linked_of x k =
    let o = fold_out-CoreExpr ℕ ℕ ℕ ℕ before.link_step before.stat_step before.case_step before.expr_step x in
    let a = expression_of (out-CoreExpr x).site (out-CoreExpr x).head ((out-CoreExpr x).links ++ k ∷ []) in
    let b = total_one (of_link counts_before) (out-CoreExpr x).links k in omega arith

act_of : (o : CoreOp) → of_link counts_before (act o) ≡ before.of_op o
act_of o = let a = strict_of o [] None in omega arith

acting_of : (o : CoreOp) (x : CoreExpr) → of_link counts_before (acting o x) ≡ before.of_op o + of_expr counts_before x
acting_of o x = let a = strict_of o (x ∷ []) None in omega arith

then_below : (xs : List CoreStat) (x : CoreStat) (z : CoreStat-F CoreLink CoreStat CoreCase CoreExpr) (k : ℕ) → roll-CoreStat z ≡ x → before.stat_step (in_stat counts_before z) ≤ k → of_stats (s.then xs x) ≤ of_stats xs + k
then_below xs x z k e l = let a = total_one (of_stat counts_before) xs x in let b = ap (of_stat counts_before) (sym e) ∙ stat_rolled counts_before z in omega arith

-- ## What is shown

abbrev OfLink : ℕ → Extends CoreExpr → Type 0
OfLink k f = (x : CoreExpr) → of_expr counts_before (f x) ≤ of_expr counts_before x + k

abbrev OfStat : ℕ → Extends (List CoreStat) → Type 0
OfStat k f = (xs : List CoreStat) → of_stats (f xs) ≤ of_stats xs + k

abbrev OfCase : ℕ → CoreCase → Type 0
OfCase k x = of_case counts_before x ≤ k

abbrev OfExpr : ℕ → CoreExpr → Type 0
OfExpr k x = of_expr counts_before x ≤ k

abbrev relation : (owners : List ℕ) → Relates counts_before (flat owners)
relation owners = record { Link = OfLink; Stat = OfStat; Case = OfCase; Expr = OfExpr }

-- ## Lists

stats_below : (ps : List (Pair OfStat)) (xs : List CoreStat) → of_stats (along (map (λ q. q.1) ps) xs) ≤ of_stats xs + total (map (λ q. q.0) ps)
stats_below [] xs = omega arith
stats_below (q ∷ ps) xs = let a = q.2 xs in let b = stats_below ps (q.1 xs) in omega arith

links_below : (ps : List (Pair OfLink)) (x : CoreExpr) → of_expr counts_before (along (map (λ q. q.1) ps) x) ≤ of_expr counts_before x + total (map (λ q. q.0) ps)
links_below [] x = omega arith
links_below (q ∷ ps) x = let a = q.2 x in let b = links_below ps (q.1 x) in omega arith

parts_below : (ps : List (Pair OfExpr)) → of_parts (map (λ q. q.1) ps) ≤ total (map (λ q. q.0) ps)
parts_below [] = omega arith
parts_below (q ∷ ps) = let a = q.2 in let b = parts_below ps in omega arith

cases_below : (ps : List (Pair OfCase)) → of_cases (map (λ q. q.1) ps) ≤ total (map (λ q. q.0) ps)
cases_below [] = omega arith
cases_below (q ∷ ps) = let a = q.2 in let b = cases_below ps in omega arith

cases_length : (ps : List (Pair OfCase)) → length (map (of_case counts_before) (map (λ q. q.1) ps)) ≡ length (map (λ q. q.0) ps)
cases_length [] = refl
cases_length (q ∷ ps) = let b = cases_length ps in omega arith

-- ## What is made has none

reset_of : (n : ScopedName) → of_stat counts_before (s.reset n) ≡ 0
reset_of n =
    let ls = λ (b : Bool). cond b (act (op.Primitive (CellMake n.var)) ∷ act (op.Set n.var) ∷ []) (act (op.Init n.var) ∷ []) in
    let a = ap (of_stat counts_before) (sym (stat.rolls-Do (expression None head.Empty (ls n.shared)))) ∙ stat_rolled counts_before (layer.Do (expression None head.Empty (ls n.shared))) in
    let b = expression_of None head.Empty (ls n.shared) in
    let c = either (λ ks. of_links ks ≡ 0) n.shared {x = act (op.Primitive (CellMake n.var)) ∷ act (op.Set n.var) ∷ []} {y = act (op.Init n.var) ∷ []}
    (let d = act_of (op.Primitive (CellMake n.var)) in let e = act_of (op.Set n.var) in omega arith) (let d = act_of (op.Init n.var) in omega arith) in
    a ∙ b ∙ c

resets_of : (names : List ScopedName) → of_stats (map s.reset names) ≡ 0
resets_of [] = refl
resets_of (n ∷ names) = let a = reset_of n in let b = resets_of names in omega arith

entered_of : (names : List ScopedName) (xs : List CoreStat) → of_stats (s.entered names xs) ≡ of_stats xs
entered_of names xs = let a = total_more (of_stat counts_before) xs (map s.reset names) in let b = resets_of names in omega arith

copied_of : (x : Var) → of_link counts_before (s.copied x) ≡ 0
copied_of x =
    let ls = act op.Content ∷ act (op.Primitive (CellMake x)) ∷ act (op.Set x) ∷ [] in
    let a = acting_of op.Then (expression None (head.Variable x) ls) in let b = expression_of None (head.Variable x) ls in
    let c = act_of op.Content in let d = act_of (op.Primitive (CellMake x)) in let e = act_of (op.Set x) in omega arith

copies_of : (owners : List ℕ) (xs : List Var) → of_links (s.copies owners xs) ≡ 0
copies_of owners [] = refl
copies_of owners (x ∷ xs) = either (λ ls. of_links ls ≡ 0) (is_shared owners x) {x = s.copied x ∷ s.copies owners xs} {y = s.copies owners xs} (let a = copied_of x in let b = copies_of owners xs in omega arith) (copies_of owners xs)

begun_of : (owners : List ℕ) (site : Option Site) (h : CoreHead) → of_expr counts_before (s.begun owners site h) ≡ 0
unfolding s.begun
begun_of owners site (head.Variable x) = expression_of site (head.Variable x) _ ∙ either (λ ls. of_links ls ≡ 0) (is_shared owners x) {x = act op.Content ∷ []} {y = []} (let a = act_of op.Content in omega arith) refl
begun_of owners site (head.Copy xs) = expression_of site (head.Constant Undefined) _ ∙ copies_of owners xs
begun_of owners site h = expression_of site h []

stored_of : (x : Var) (e : CoreExpr) → of_expr counts_before (s.stored x e) ≡ of_expr counts_before e
stored_of x e = let a = expression_of None (head.Variable x) (acting op.SetContent e ∷ []) in let b = acting_of op.SetContent e in omega arith

-- ## The steps

abbrev Most : CoreExpr → CoreOp → List CoreExpr → CoreExpr → Type 0
Most e o parts x = of_expr counts_before x ≤ of_expr counts_before e + (before.of_op o + of_parts parts)

plain_below : (o : CoreOp) (parts : List CoreExpr) (site : Option Site) (e : CoreExpr) → Most e o parts (linked e (link.Strict o parts site))
plain_below o parts site e = let a = linked_of e (link.Strict o parts site) in let b = strict_of o parts site in omega arith

strict_below : (owners : List ℕ) (o : CoreOp) (parts : List CoreExpr) (site : Option Site) (e : CoreExpr) → Most e o parts (s.strict owners o parts site e)
unfolding s.strict
strict_below owners (op.Set x) parts site e = either (Most e (op.Set x) parts) (is_shared owners x) {x = s.stored x e} {y = linked e (link.Strict (op.Set x) parts site)} (let a = stored_of x e in omega arith) (plain_below (op.Set x) parts site e)
strict_below owners (op.Init x) parts site e = either (Most e (op.Init x) parts) (is_shared owners x) {x = s.stored x e} {y = linked e (link.Strict (op.Init x) parts site)} (let a = stored_of x e in omega arith) (plain_below (op.Init x) parts site e)
strict_below owners o parts site e = plain_below o parts site e

link_kept : (owners : List ℕ) (z : Links (relation owners)) → OfLink (before.link_step (link_first (relation owners) z)) ((flat owners).link_step (link_second (relation owners) z))
link_kept owners (layer.Strict o parts site) x = let a = strict_below owners o (map (λ q. q.1) parts) site x in let b = parts_below parts in omega arith
link_kept owners (layer.Lazy w taken None) x =
    let k = link.Lazy w taken.1 None in let a = linked_of x k in let b = ap (of_link counts_before) (sym (link.rolls-Lazy w taken.1 None)) ∙ link_rolled counts_before (layer.Lazy w taken.1 None) in let c = taken.2 in omega arith
link_kept owners (layer.Lazy w taken (Some other)) x =
    let k = link.Lazy w taken.1 (Some other.1) in let a = linked_of x k in let b = ap (of_link counts_before) (sym (link.rolls-Lazy w taken.1 (Some other.1))) ∙ link_rolled counts_before (layer.Lazy w taken.1 (Some other.1)) in
    let c = taken.2 in let d = other.2 in omega arith
link_kept owners (layer.Run body) x =
    let ss = along (map (λ q. q.1) body) [] in let a = linked_of x (link.Run ss) in let b = ap (of_link counts_before) (sym (link.rolls-Run ss)) ∙ link_rolled counts_before (layer.Run ss) in let c = stats_below body [] in omega arith

expr_kept : (owners : List ℕ) (z : Exprs (relation owners)) → OfExpr (before.expr_step (expr_first (relation owners) z)) ((flat owners).expr_step (expr_second (relation owners) z))
expr_kept owners z = let a = links_below z.links (s.begun owners z.site z.head) in let b = begun_of owners z.site z.head in omega arith

case_by : (owners : List ℕ) (test : Option (Pair OfExpr)) (body : List (Pair OfStat)) → OfCase (before.case_step (case_first (relation owners) (record { test = test; body = body }))) ((flat owners).case_step (case_second (relation owners) (record { test = test; body = body })))
case_by owners None body = let ss = along (map (λ q. q.1) body) [] in let a = case_rolled counts_before (record { test = None; body = ss }) in let b = stats_below body [] in omega arith
case_by owners (Some t) body = let ss = along (map (λ q. q.1) body) [] in let a = case_rolled counts_before (record { test = Some t.1; body = ss }) in let b = stats_below body [] in let c = t.2 in omega arith

stat_kept : (owners : List ℕ) (z : Stats (relation owners)) → OfStat (before.stat_step (stat_first (relation owners) z)) ((flat owners).stat_step (stat_second (relation owners) z))
stat_kept owners (layer.Do x) xs = then_below xs _ (layer.Do x.1) _ (stat.rolls-Do x.1) x.2
stat_kept owners (layer.If cases) xs = let cs = map (λ q. q.1) cases in then_below xs _ (layer.If cs) _ (stat.rolls-If cs) (let a = cases_below cases in let b = cases_length cases in omega arith)
stat_kept owners (layer.Switch subject cases) xs = let cs = map (λ q. q.1) cases in then_below xs _ (layer.Switch subject.1 cs) _ (stat.rolls-Switch subject.1 cs) (let a = cases_below cases in let b = cases_length cases in let c = subject.2 in omega arith)
stat_kept owners (layer.Loop labels None None body) xs = let ss = along (map (λ q. q.1) body) [] in then_below xs _ (layer.Loop labels None None ss) _ (stat.rolls-Loop labels None None ss) (let a = stats_below body [] in omega arith)
stat_kept owners (layer.Loop labels None (Some u) body) xs = let ss = along (map (λ q. q.1) body) [] in then_below xs _ (layer.Loop labels None (Some u.1) ss) _ (stat.rolls-Loop labels None (Some u.1) ss) (let a = stats_below body [] in let b = u.2 in omega arith)
stat_kept owners (layer.Loop labels (Some t) None body) xs = let ss = along (map (λ q. q.1) body) [] in then_below xs _ (layer.Loop labels (Some t.1) None ss) _ (stat.rolls-Loop labels (Some t.1) None ss) (let a = stats_below body [] in let b = t.2 in omega arith)
stat_kept owners (layer.Loop labels (Some t) (Some u) body) xs = let ss = along (map (λ q. q.1) body) [] in then_below xs _ (layer.Loop labels (Some t.1) (Some u.1) ss) _ (stat.rolls-Loop labels (Some t.1) (Some u.1) ss) (let a = stats_below body [] in let b = t.2 in let c = u.2 in omega arith)
stat_kept owners (layer.Labelled label body) xs = let ss = along (map (λ q. q.1) body) [] in then_below xs _ (layer.Labelled label ss) _ (stat.rolls-Labelled label ss) (let a = stats_below body [] in omega arith)
stat_kept owners (layer.Jump goes_on label) xs = then_below xs _ (layer.Jump goes_on label) _ (stat.rolls-Jump goes_on label) (omega arith)
stat_kept owners (layer.Return x) xs = then_below xs _ (layer.Return x.1) _ (stat.rolls-Return x.1) x.2
stat_kept owners (layer.Throw x) xs = then_below xs _ (layer.Throw x.1) _ (stat.rolls-Throw x.1) x.2
stat_kept owners (layer.TryCatch block parameter names handler) xs =
    let ss = along (map (λ q. q.1) block) [] in let ts = along (map (λ q. q.1) handler) (s.entered names []) in
    then_below xs _ (layer.TryCatch ss parameter [] ts) _ (stat.rolls-TryCatch ss parameter [] ts) (let a = stats_below block [] in let b = stats_below handler (s.entered names []) in let c = entered_of names [] in omega arith)
stat_kept owners (layer.TryFinally block last) xs =
    let ss = along (map (λ q. q.1) block) [] in let ts = along (map (λ q. q.1) last) [] in
    then_below xs _ (layer.TryFinally ss ts) _ (stat.rolls-TryFinally ss ts) (let a = stats_below block [] in let b = stats_below last [] in omega arith)
stat_kept owners (layer.Scoped names body) xs = let a = stats_below body (s.entered names xs) in let b = entered_of names xs in omega arith
stat_kept owners (layer.Yield value kind result) xs = then_below xs _ (layer.Yield value.1 kind result) _ (stat.rolls-Yield value.1 kind result) (let a = value.2 in omega arith)

kept : (owners : List ℕ) → Keeps (relation owners)
kept owners = record { link = link_kept owners; stat = stat_kept owners; case = λ z. case_by owners z.test z.body; expr = expr_kept owners }

pub flat_below : (owners : List ℕ) (ss xs : List CoreStat) → of_stats (along (map (s.stat_flat owners) ss) xs) ≤ of_stats xs + of_stats ss
flat_below owners [] xs = omega arith
flat_below owners (x ∷ ss) xs = let a = stat_related (relation owners) (kept owners) x xs in let b = flat_below owners ss (s.stat_flat owners x xs) in omega arith

-- ## Functions

few_by : (b : Bool) (less most : ℕ) → less ≤ most → (not b || is_safe most) ≡ true → (not b || is_safe less) ≡ true
few_by true less most l h = let a = leb-true most 9007199254740991 h in le-leb less 9007199254740991 (omega arith)
few_by false less most l h = refl

function_few : (owners : List ℕ) (cells : List Var) (f : CoreFunction) (fresh : Fresh) → will_have_few_states f ≡ true → has_few_states (y.one_function (s.function_flat owners cells f) fresh).made ≡ true
function_few owners cells f fresh h =
    let g = s.function_flat owners cells f in let p = y.begins (function_mentions g) fresh in
    few_by (is_generator f.kind) _ (before.stats_states f.body) (let a = flat_below owners f.body [] in let b = states_below g.body p [] in omega arith) h

functions_few : (owners holders : List ℕ) (all : List (List Var)) (place : ℕ) (fs made : List CoreFunction) (fresh : Fresh) → list_all will_have_few_states fs ≡ true → list_all has_few_states made ≡ true
    → list_all has_few_states (y.all_functions (s.functions_flat owners holders all place fs) made fresh).made ≡ true
functions_few owners holders all place [] made fresh h k = k
functions_few owners holders all place (f ∷ fs) made fresh h k =
    let g = y.one_function (s.function_flat owners (cells_at owners holders all place) f) fresh in
    functions_few owners holders all (place + 1) fs (made ++ g.made ∷ []) g.fresh (right _ _ h) (more has_few_states made g.made k (function_few owners (cells_at owners holders all place) f fresh (left _ _ h)))

pub states_stay_few : StatesStayFew
states_stay_few core h = functions_few _ _ _ 0 core.functions [] core.fresh h refl
