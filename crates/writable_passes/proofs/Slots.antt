-- The flattening of scopes leaves no more slots than are counted before it.
use Rattle.std.proofs.Common.{◌≡◌, ℕ, suc, ◌+◌, ◌≤◌, cond, length, List, [], ◌∷◌, ◌++◌, map, Option, None, Some, refl, sym, ap, arith, ◌∙◌}
use Rattle.es_outside.specs.declared.events.Site.{Site}
use Rattle.core_ast.specs.declared.parts.CoreHead.{CoreHead}
use Rattle.core_ast.specs.declared.parts.CoreHead.TheVariants as head
use Rattle.core_ast.specs.declared.parts.Constant.TheVariants.{Undefined}
use Rattle.core_ast.specs.declared.parts.CoreOp.{CoreOp}
use Rattle.core_ast.specs.declared.parts.CoreOp.TheVariants as op
use Rattle.core_ast.specs.declared.parts.Primitive.TheVariants.{CellMake}
use Rattle.core_ast.specs.declared.parts.ScopedName.{ScopedName}
use Rattle.core_ast.specs.declared.parts.Var.{Var}
use Rattle.core_ast.specs.declared.tree.CoreCase.{CoreCase}
use Rattle.core_ast.specs.declared.tree.CoreExpr.{CoreExpr, out-CoreExpr, fold_out-CoreExpr}
use Rattle.core_ast.specs.declared.tree.CoreLink.{CoreLink}
use Rattle.core_ast.specs.declared.tree.CoreLink.TheOpen as layer
use Rattle.core_ast.specs.declared.tree.CoreLink.TheOpen.{CoreStat-F}
use Rattle.core_ast.specs.declared.tree.CoreLink.TheVariants as link
use Rattle.core_ast.specs.declared.tree.CoreStat.{CoreStat, roll-CoreStat}
use Rattle.core_ast.specs.declared.tree.CoreStat.TheVariants as stat
use Rattle.core_ast.specs.Made.{act, acting, expression, linked}
use Rattle.core_ast.specs.Walks.{along}
use Rattle.pass_rules.specs.Cells.{is_shared}
use Rattle.pass_rules.specs.Scopes as s
use Rattle.pass_rules.specs.Scopes.{Extends}
use Rattle.pass_rules.specs.pass_laws.Marks.{total}
use Rattle.pass_rules.proofs.pass_laws.Related.{Fold, Relates, Keeps, Pair, Links, Stats, Exprs, link_first, link_second, stat_first, stat_second, case_first, case_second, expr_first, expr_second, in_stat, of_case, of_expr, of_link, of_stat, stat_related, link_rolled, stat_rolled, case_rolled, expr_rolled}
use Rattle.pass_rules.proofs.pass_laws.Scopes.{flat}
use Rattle.pass_rules.proofs.pass_laws.Within.{either}
use Rattle.lawful_passes.specs.Told as t
use Rattle.lawful_passes.specs.Told.{Told}
use Rattle.lawful_passes.proofs.Turned.{tells}
use Rattle.writable_passes.specs.Drawn as drawn

abbrev counts : Fold
counts = record { Link = ℕ; Stat = ℕ; Case = ℕ; Expr = ℕ; link_step = drawn.link_step; stat_step = drawn.stat_step; case_step = drawn.case_step; expr_step = drawn.expr_step }

abbrev of_parts : List CoreExpr → ℕ
of_parts xs = (t.all (map (of_expr tells) xs)).slots

abbrev of_links : List CoreLink → ℕ
of_links ls = (t.all (map (of_link tells) ls)).slots

abbrev pub of_stats : List CoreStat → ℕ
of_stats ss = (t.all (map (of_stat tells) ss)).slots

abbrev of_cases : List CoreCase → ℕ
of_cases cs = (t.all (map (of_case tells) cs)).slots

slots_one : {A : Type 0} (f : A → Told) (xs : List A) (x : A) → (t.all (map f (xs ++ x ∷ []))).slots ≡ (t.all (map f xs)).slots + (f x).slots
slots_one f [] x = omega arith
slots_one f (z ∷ xs) x = let e = slots_one f xs x in omega arith

slots_more : {A : Type 0} (f : A → Told) (xs ys : List A) → (t.all (map f (xs ++ ys))).slots ≡ (t.all (map f xs)).slots + (t.all (map f ys)).slots
slots_more f [] ys = omega arith
slots_more f (z ∷ xs) ys = let e = slots_more f xs ys in omega arith

map_length : {A B : Type 0} (f : A → B) (xs : List A) → length (map f xs) ≡ length xs
map_length f [] = refl
map_length f (x ∷ xs) = ap (λ n. suc n) (map_length f xs)

-- ## Nodes

strict_of : (o : CoreOp) (parts : List CoreExpr) (site : Option Site) → (of_link tells (link.Strict o parts site)).slots ≡ 4 + length parts + of_parts parts
strict_of o parts site =
    let a = ap (λ k. (of_link tells k).slots) (sym (link.rolls-Strict o parts site)) ∙ ap (λ (b : Told). b.slots) (link_rolled tells (layer.Strict o parts site)) in
    let n = map_length (of_expr tells) parts in omega arith

expression_of : (site : Option Site) (h : CoreHead) (ls : List CoreLink) → (of_expr tells (expression site h ls)).slots ≡ of_links ls
expression_of site h ls = ap (λ (b : Told). b.slots) (expr_rolled tells (record { site = site; head = h; links = ls }))

linked_of : (x : CoreExpr) (k : CoreLink) → (of_expr tells (linked x k)).slots ≡ (of_expr tells x).slots + (of_link tells k).slots
linked_of x k =
    let o = ap (λ (b : Told). b.slots) (fold_out-CoreExpr Told Told Told Told t.link_step t.stat_step t.case_step t.expr_step x) in
    let a = expression_of (out-CoreExpr x).site (out-CoreExpr x).head ((out-CoreExpr x).links ++ k ∷ []) in
    let b = slots_one (of_link tells) (out-CoreExpr x).links k in omega arith

act_of : (o : CoreOp) → (of_link tells (act o)).slots ≡ 4
act_of o = let a = strict_of o [] None in omega arith

acting_of : (o : CoreOp) (x : CoreExpr) → (of_link tells (acting o x)).slots ≡ 5 + (of_expr tells x).slots
acting_of o x = let a = strict_of o (x ∷ []) None in omega arith

then_below : (xs : List CoreStat) (x : CoreStat) (z : CoreStat-F CoreLink CoreStat CoreCase CoreExpr) (k : ℕ) → roll-CoreStat z ≡ x → (t.stat_step (in_stat tells z)).slots ≤ k → of_stats (s.then xs x) ≤ of_stats xs + k
then_below xs x z k e l = let a = slots_one (of_stat tells) xs x in let b = ap (λ y. (of_stat tells y).slots) (sym e) ∙ ap (λ (b : Told). b.slots) (stat_rolled tells z) in omega arith

-- ## What is shown

abbrev OfLink : ℕ → Extends CoreExpr → Type 0
OfLink k f = (x : CoreExpr) → (of_expr tells (f x)).slots ≤ (of_expr tells x).slots + k

abbrev OfStat : ℕ → Extends (List CoreStat) → Type 0
OfStat k f = (xs : List CoreStat) → of_stats (f xs) ≤ of_stats xs + k

abbrev OfCase : ℕ → CoreCase → Type 0
OfCase k x = (of_case tells x).slots ≤ k

abbrev OfExpr : ℕ → CoreExpr → Type 0
OfExpr k x = (of_expr tells x).slots ≤ k

abbrev relation : (owners : List ℕ) → Relates counts (flat owners)
relation owners = record { Link = OfLink; Stat = OfStat; Case = OfCase; Expr = OfExpr }

-- ## Lists

stats_below : (ps : List (Pair OfStat)) (xs : List CoreStat) → of_stats (along (map (λ q. q.1) ps) xs) ≤ of_stats xs + total (map (λ q. q.0) ps)
stats_below [] xs = omega arith
stats_below (q ∷ ps) xs = let a = q.2 xs in let b = stats_below ps (q.1 xs) in omega arith

links_below : (ps : List (Pair OfLink)) (x : CoreExpr) → (of_expr tells (along (map (λ q. q.1) ps) x)).slots ≤ (of_expr tells x).slots + total (map (λ q. q.0) ps)
links_below [] x = omega arith
links_below (q ∷ ps) x = let a = q.2 x in let b = links_below ps (q.1 x) in omega arith

parts_below : (ps : List (Pair OfExpr)) → of_parts (map (λ q. q.1) ps) ≤ total (map (λ q. q.0) ps)
parts_below [] = omega arith
parts_below (q ∷ ps) = let a = q.2 in let b = parts_below ps in omega arith

cases_below : (ps : List (Pair OfCase)) → of_cases (map (λ q. q.1) ps) ≤ total (map (λ q. q.0) ps)
cases_below [] = omega arith
cases_below (q ∷ ps) = let a = q.2 in let b = cases_below ps in omega arith

parts_length : (ps : List (Pair OfExpr)) → length (map (λ q. q.1) ps) ≡ length (map (λ q. q.0) ps)
parts_length [] = refl
parts_length (q ∷ ps) = ap (λ n. suc n) (parts_length ps)

-- ## What is made

reset_of : (n : ScopedName) → (of_stat tells (s.reset n)).slots ≤ 8
reset_of n =
    let ls = cond n.shared (act (op.Primitive (CellMake n.var)) ∷ act (op.Set n.var) ∷ []) (act (op.Init n.var) ∷ []) in
    let a = ap (λ y. (of_stat tells y).slots) (sym (stat.rolls-Do (expression None head.Empty ls))) ∙ ap (λ (b : Told). b.slots) (stat_rolled tells (layer.Do (expression None head.Empty ls))) in
    let b = expression_of None head.Empty ls in
    let c = either (λ ks. of_links ks ≤ 8) n.shared {x = act (op.Primitive (CellMake n.var)) ∷ act (op.Set n.var) ∷ []} {y = act (op.Init n.var) ∷ []}
    (let d = act_of (op.Primitive (CellMake n.var)) in let e = act_of (op.Set n.var) in omega arith) (let d = act_of (op.Init n.var) in omega arith) in
    omega arith

resets_of : (names : List ScopedName) → of_stats (map s.reset names) ≤ drawn.entered names
resets_of [] = omega arith
resets_of (n ∷ names) = let a = reset_of n in let b = resets_of names in omega arith

entered_of : (names : List ScopedName) (xs : List CoreStat) → of_stats (s.entered names xs) ≤ of_stats xs + drawn.entered names
entered_of names xs = let a = slots_more (of_stat tells) xs (map s.reset names) in let b = resets_of names in omega arith

copied_of : (x : Var) → (of_link tells (s.copied x)).slots ≡ 17
copied_of x =
    let ls = act op.Content ∷ act (op.Primitive (CellMake x)) ∷ act (op.Set x) ∷ [] in
    let a = acting_of op.Then (expression None (head.Variable x) ls) in let b = expression_of None (head.Variable x) ls in
    let c = act_of op.Content in let d = act_of (op.Primitive (CellMake x)) in let e = act_of (op.Set x) in omega arith

copies_of : (owners : List ℕ) (xs : List Var) → of_links (s.copies owners xs) ≤ total (map (λ x. 17) xs)
copies_of owners [] = omega arith
copies_of owners (x ∷ xs) =
    let m = total (map (λ x. 17) xs) in
    either (λ ls. of_links ls ≤ 17 + m) (is_shared owners x) {x = s.copied x ∷ s.copies owners xs} {y = s.copies owners xs} (let a = copied_of x in let b = copies_of owners xs in omega arith) (let b = copies_of owners xs in omega arith)

begun_of : (owners : List ℕ) (site : Option Site) (h : CoreHead) → (of_expr tells (s.begun owners site h)).slots ≤ drawn.of_head h
unfolding s.begun
begun_of owners site (head.Variable x) =
    let ls = cond (is_shared owners x) (act op.Content ∷ []) [] in
    let a = expression_of site (head.Variable x) ls in
    let b = either (λ ks. of_links ks ≤ 4) (is_shared owners x) {x = act op.Content ∷ []} {y = []} (let c = act_of op.Content in omega arith) (omega arith) in omega arith
begun_of owners site (head.Copy xs) = let a = expression_of site (head.Constant Undefined) (s.copies owners xs) in let b = copies_of owners xs in omega arith
begun_of owners site h = let a = expression_of site h [] in omega arith

stored_of : (x : Var) (e : CoreExpr) → (of_expr tells (s.stored x e)).slots ≡ 5 + (of_expr tells e).slots
stored_of x e = let a = expression_of None (head.Variable x) (acting op.SetContent e ∷ []) in let b = acting_of op.SetContent e in omega arith

-- ## The steps

abbrev Most : CoreExpr → List CoreExpr → CoreExpr → Type 0
Most e parts x = (of_expr tells x).slots ≤ (of_expr tells e).slots + (5 + length parts + of_parts parts)

plain_below : (o : CoreOp) (parts : List CoreExpr) (site : Option Site) (e : CoreExpr) → Most e parts (linked e (link.Strict o parts site))
plain_below o parts site e = let a = linked_of e (link.Strict o parts site) in let b = strict_of o parts site in omega arith

strict_below : (owners : List ℕ) (o : CoreOp) (parts : List CoreExpr) (site : Option Site) (e : CoreExpr) → Most e parts (s.strict owners o parts site e)
unfolding s.strict
strict_below owners (op.Set x) parts site e = either (Most e parts) (is_shared owners x) {x = s.stored x e} {y = linked e (link.Strict (op.Set x) parts site)} (let a = stored_of x e in omega arith) (plain_below (op.Set x) parts site e)
strict_below owners (op.Init x) parts site e = either (Most e parts) (is_shared owners x) {x = s.stored x e} {y = linked e (link.Strict (op.Init x) parts site)} (let a = stored_of x e in omega arith) (plain_below (op.Init x) parts site e)
strict_below owners o parts site e = plain_below o parts site e

link_kept : (owners : List ℕ) (z : Links (relation owners)) → OfLink (drawn.link_step (link_first (relation owners) z)) ((flat owners).link_step (link_second (relation owners) z))
link_kept owners (layer.Strict o parts site) x = let a = strict_below owners o (map (λ q. q.1) parts) site x in let b = parts_below parts in let c = parts_length parts in omega arith
link_kept owners (layer.Lazy w taken None) x =
    let k = link.Lazy w taken.1 None in let a = linked_of x k in let b = ap (λ k. (of_link tells k).slots) (sym (link.rolls-Lazy w taken.1 None)) ∙ ap (λ (b : Told). b.slots) (link_rolled tells (layer.Lazy w taken.1 None)) in let c = taken.2 in omega arith
link_kept owners (layer.Lazy w taken (Some other)) x =
    let k = link.Lazy w taken.1 (Some other.1) in let a = linked_of x k in let b = ap (λ k. (of_link tells k).slots) (sym (link.rolls-Lazy w taken.1 (Some other.1))) ∙ ap (λ (b : Told). b.slots) (link_rolled tells (layer.Lazy w taken.1 (Some other.1))) in
    let c = taken.2 in let d = other.2 in omega arith
link_kept owners (layer.Run body) x =
    let ss = along (map (λ q. q.1) body) [] in let a = linked_of x (link.Run ss) in let b = ap (λ k. (of_link tells k).slots) (sym (link.rolls-Run ss)) ∙ ap (λ (b : Told). b.slots) (link_rolled tells (layer.Run ss)) in let c = stats_below body [] in omega arith

expr_kept : (owners : List ℕ) (z : Exprs (relation owners)) → OfExpr (drawn.expr_step (expr_first (relation owners) z)) ((flat owners).expr_step (expr_second (relation owners) z))
expr_kept owners z = let a = links_below z.links (s.begun owners z.site z.head) in let b = begun_of owners z.site z.head in omega arith

case_by : (owners : List ℕ) (test : Option (Pair OfExpr)) (body : List (Pair OfStat)) → OfCase (drawn.case_step (case_first (relation owners) (record { test = test; body = body }))) ((flat owners).case_step (case_second (relation owners) (record { test = test; body = body })))
case_by owners None body = let ss = along (map (λ q. q.1) body) [] in let a = ap (λ (b : Told). b.slots) (case_rolled tells (record { test = None; body = ss })) in let b = stats_below body [] in omega arith
case_by owners (Some u) body = let ss = along (map (λ q. q.1) body) [] in let a = ap (λ (b : Told). b.slots) (case_rolled tells (record { test = Some u.1; body = ss })) in let b = stats_below body [] in let c = u.2 in omega arith

stat_kept : (owners : List ℕ) (z : Stats (relation owners)) → OfStat (drawn.stat_step (stat_first (relation owners) z)) ((flat owners).stat_step (stat_second (relation owners) z))
stat_kept owners (layer.Do x) xs = then_below xs _ (layer.Do x.1) _ (stat.rolls-Do x.1) x.2
stat_kept owners (layer.If cases) xs = let cs = map (λ q. q.1) cases in then_below xs _ (layer.If cs) _ (stat.rolls-If cs) (cases_below cases)
stat_kept owners (layer.Switch subject cases) xs = let cs = map (λ q. q.1) cases in then_below xs _ (layer.Switch subject.1 cs) _ (stat.rolls-Switch subject.1 cs) (let a = cases_below cases in let c = subject.2 in omega arith)
stat_kept owners (layer.Loop labels None None body) xs = let ss = along (map (λ q. q.1) body) [] in then_below xs _ (layer.Loop labels None None ss) _ (stat.rolls-Loop labels None None ss) (let a = stats_below body [] in omega arith)
stat_kept owners (layer.Loop labels None (Some u) body) xs = let ss = along (map (λ q. q.1) body) [] in then_below xs _ (layer.Loop labels None (Some u.1) ss) _ (stat.rolls-Loop labels None (Some u.1) ss) (let a = stats_below body [] in let b = u.2 in omega arith)
stat_kept owners (layer.Loop labels (Some v) None body) xs = let ss = along (map (λ q. q.1) body) [] in then_below xs _ (layer.Loop labels (Some v.1) None ss) _ (stat.rolls-Loop labels (Some v.1) None ss) (let a = stats_below body [] in let b = v.2 in omega arith)
stat_kept owners (layer.Loop labels (Some v) (Some u) body) xs = let ss = along (map (λ q. q.1) body) [] in then_below xs _ (layer.Loop labels (Some v.1) (Some u.1) ss) _ (stat.rolls-Loop labels (Some v.1) (Some u.1) ss) (let a = stats_below body [] in let b = v.2 in let c = u.2 in omega arith)
stat_kept owners (layer.Labelled label body) xs = let ss = along (map (λ q. q.1) body) [] in then_below xs _ (layer.Labelled label ss) _ (stat.rolls-Labelled label ss) (let a = stats_below body [] in omega arith)
stat_kept owners (layer.Jump goes_on label) xs = then_below xs _ (layer.Jump goes_on label) _ (stat.rolls-Jump goes_on label) (omega arith)
stat_kept owners (layer.Return x) xs = then_below xs _ (layer.Return x.1) _ (stat.rolls-Return x.1) x.2
stat_kept owners (layer.Throw x) xs = then_below xs _ (layer.Throw x.1) _ (stat.rolls-Throw x.1) x.2
stat_kept owners (layer.TryCatch block parameter names handler) xs =
    let ss = along (map (λ q. q.1) block) [] in let ts = along (map (λ q. q.1) handler) (s.entered names []) in
    then_below xs _ (layer.TryCatch ss parameter [] ts) _ (stat.rolls-TryCatch ss parameter [] ts) (let a = stats_below block [] in let b = stats_below handler (s.entered names []) in let c = entered_of names [] in omega arith)
stat_kept owners (layer.TryFinally block last) xs =
    let ss = along (map (λ q. q.1) block) [] in let ts = along (map (λ q. q.1) last) [] in
    then_below xs _ (layer.TryFinally ss ts) _ (stat.rolls-TryFinally ss ts) (let a = stats_below block [] in let b = stats_below last [] in omega arith)
stat_kept owners (layer.Scoped names body) xs = let a = stats_below body (s.entered names xs) in let b = entered_of names xs in omega arith
stat_kept owners (layer.Yield value kind result) xs = then_below xs _ (layer.Yield value.1 kind result) _ (stat.rolls-Yield value.1 kind result) value.2

kept : (owners : List ℕ) → Keeps (relation owners)
kept owners = record { link = link_kept owners; stat = stat_kept owners; case = λ z. case_by owners z.test z.body; expr = expr_kept owners }

pub slots_scoped : (owners : List ℕ) (ss xs : List CoreStat) → of_stats (along (map (s.stat_flat owners) ss) xs) ≤ of_stats xs + drawn.stats_slots ss
slots_scoped owners [] xs = omega arith
slots_scoped owners (x ∷ ss) xs = let a = stat_related (relation owners) (kept owners) x xs in let b = slots_scoped owners ss (s.stat_flat owners x xs) in omega arith
