-- The flattening of scopes keeps the marks of calls.
use Rattle.std.specs.List.{list_all}
use Rattle.std.proofs.Common.{◌≡◌, ℕ, ◌+◌, Bool, true, false, ◌&&◌, cond, List, [], ◌∷◌, map, length, Option, None, Some, refl, sym, ap, arith, ◌∙◌}
use Rattle.es_outside.specs.declared.events.Site.{Site}
use Rattle.core_ast.specs.declared.parts.Var.{Var}
use Rattle.core_ast.specs.declared.parts.ScopedName.{ScopedName}
use Rattle.core_ast.specs.declared.parts.CoreHead.{CoreHead}
use Rattle.core_ast.specs.declared.parts.CoreHead.TheVariants as head
use Rattle.core_ast.specs.declared.parts.Constant.TheVariants.{Undefined}
use Rattle.core_ast.specs.declared.parts.CoreOp.{CoreOp}
use Rattle.core_ast.specs.declared.parts.CoreOp.TheVariants as op
use Rattle.core_ast.specs.declared.parts.Primitive.TheVariants.{CellMake}
use Rattle.core_ast.specs.declared.tree.CoreLink.{CoreLink, roll-CoreLink}
use Rattle.core_ast.specs.declared.tree.CoreStat.{CoreStat, roll-CoreStat}
use Rattle.core_ast.specs.declared.tree.CoreCase.{CoreCase, roll-CoreCase}
use Rattle.core_ast.specs.declared.tree.CoreExpr.{CoreExpr, roll-CoreExpr}
use Rattle.core_ast.specs.declared.tree.CoreLink.TheVariants as link
use Rattle.core_ast.specs.declared.tree.CoreLink.TheOpen as layer
use Rattle.core_ast.specs.declared.whole.Core.{Core}
use Rattle.core_ast.specs.declared.whole.CoreFunction.{CoreFunction}
use Rattle.core_ast.specs.declared.whole.CorePart.{CorePart}
use Rattle.core_ast.specs.Lawful as lawful
use Rattle.core_ast.specs.Lawful.{Round, Joint, Current, IsLawful, is_generator}
use Rattle.core_ast.specs.Made.{act, acting, expression, linked}
use Rattle.core_ast.specs.Walks.{along}
use Rattle.pass_rules.specs.Cells.{cells_at, is_shared}
use Rattle.pass_rules.specs.Scopes as s
use Rattle.pass_rules.specs.Scopes.{Extends}
use Rattle.pass_rules.specs.pass_laws.Marks.{is_call, mark, total, marks, function_marks, part_marks, link_marks, stat_marks, case_marks, expr_marks, stats_marks}
use Rattle.pass_rules.proofs.pass_laws.Related.{Pair, of_link, of_stat, of_case, of_expr, in_link, in_stat, in_case, in_expr, link_rolled, stat_rolled, case_rolled, expr_rolled}
use Rattle.pass_rules.proofs.pass_laws.Induced.{Shows, Keeps, Links, Stats, Cases, Exprs, link_first, link_second, stat_first, stat_second, case_first, case_second, expr_first, expr_second, stat_induced}
use Rattle.pass_rules.proofs.pass_laws.Scopes.{flat}
use Rattle.pass_rules.proofs.pass_laws.Starts.{laws, not_bare}
use Rattle.pass_rules.proofs.pass_laws.Within.{left, right, either}
use Rattle.pass_rules.proofs.pass_laws.Counts.{Such, counts, links_marks, exprs_marks, cases_marks, stats_one, stats_more, strict_of, lazy_of, run_of, expression_of, case_of, do_of, if_of, switch_of, loop_of, labelled_of, jump_of, return_of, throw_of, catch_of, finally_of, yield_of, linked_of, act_of, acting_of}

abbrev OfLink : Such → CoreLink → Extends CoreExpr → Type 0
OfLink such x f = (round : Round) → (of_link laws x).lawful round ≡ true → (e : CoreExpr) → expr_marks such (f e) ≡ expr_marks such e + link_marks such x

abbrev OfStat : Such → CoreStat → Extends (List CoreStat) → Type 0
OfStat such x f = (round : Round) → of_stat laws x round ≡ true → (xs : List CoreStat) → stats_marks such (f xs) ≡ stats_marks such xs + stat_marks such x

abbrev OfCase : Such → CoreCase → CoreCase → Type 0
OfCase such x c = (round : Round) → of_case laws x round ≡ true → case_marks such c ≡ case_marks such x

abbrev OfExpr : Such → CoreExpr → CoreExpr → Type 0
OfExpr such x e = (round : Round) → of_expr laws x round ≡ true → expr_marks such e ≡ expr_marks such x

abbrev shown : (such : Such) (owners : List ℕ) → Shows (flat owners)
shown such owners = record { Link = OfLink such; Stat = OfStat such; Case = OfCase such; Expr = OfExpr such }

-- ## Lists

stats_kept : (such : Such) (ps : List (Pair (OfStat such))) (round : Round) → lawful.all_lawful (map (of_stat laws) (map (λ p. p.0) ps)) round ≡ true → (xs : List CoreStat)
    → stats_marks such (along (map (λ p. p.1) ps) xs) ≡ stats_marks such xs + stats_marks such (map (λ p. p.0) ps)
stats_kept such [] round h xs = omega arith
stats_kept such (p ∷ ps) round h xs = let e = p.2 round (left _ _ h) xs in let d = stats_kept such ps round (right _ _ h) (p.1 xs) in omega arith

links_kept : (such : Such) (ps : List (Pair (OfLink such))) (c : Current) (round : Round) → lawful.links_lawful c (map (of_link laws) (map (λ p. p.0) ps)) round ≡ true → (x : CoreExpr)
    → expr_marks such (along (map (λ p. p.1) ps) x) ≡ expr_marks such x + links_marks such (map (λ p. p.0) ps)
links_kept such [] c round h x = omega arith
links_kept such (p ∷ ps) c round h x = let e = p.2 round (right _ _ (left _ _ h)) x in let d = links_kept such ps (lawful.after (of_link laws p.0).ends) round (right _ _ h) (p.1 x) in omega arith

parts_kept : (such : Such) (ps : List (Pair (OfExpr such))) (round : Round) → lawful.all_lawful (map (of_expr laws) (map (λ p. p.0) ps)) round ≡ true → exprs_marks such (map (λ p. p.1) ps) ≡ exprs_marks such (map (λ p. p.0) ps)
parts_kept such [] round h = refl
parts_kept such (p ∷ ps) round h = let e = p.2 round (left _ _ h) in let d = parts_kept such ps round (right _ _ h) in omega arith

cases_kept : (such : Such) (ps : List (Pair (OfCase such))) (round : Round) → lawful.all_lawful (map (of_case laws) (map (λ p. p.0) ps)) round ≡ true → cases_marks such (map (λ p. p.1) ps) ≡ cases_marks such (map (λ p. p.0) ps)
cases_kept such [] round h = refl
cases_kept such (p ∷ ps) round h = let e = p.2 round (left _ _ h) in let d = cases_kept such ps round (right _ _ h) in omega arith

-- ## What is made has no marks

reset_of : (such : Such) (n : ScopedName) → stat_marks such (s.reset n) ≡ 0
reset_of such n = do_of such _ ∙ expression_of such None head.Empty _ ∙ either (λ ls. links_marks such ls ≡ 0) n.shared
    {x = act (op.Primitive (CellMake n.var)) ∷ act (op.Set n.var) ∷ []} {y = act (op.Init n.var) ∷ []}
    (let e = act_of such (op.Primitive (CellMake n.var)) in let d = act_of such (op.Set n.var) in omega arith)
    (let e = act_of such (op.Init n.var) in omega arith)

resets_of : (such : Such) (names : List ScopedName) → stats_marks such (map s.reset names) ≡ 0
resets_of such [] = refl
resets_of such (n ∷ names) = let e = reset_of such n in let d = resets_of such names in omega arith

entered_of : (such : Such) (names : List ScopedName) (xs : List CoreStat) → stats_marks such (s.entered names xs) ≡ stats_marks such xs
entered_of such names xs = let e = stats_more such xs (map s.reset names) in let d = resets_of such names in omega arith

copied_of : (such : Such) (x : Var) → link_marks such (s.copied x) ≡ 0
copied_of such x =
    let e = acting_of such op.Then (expression None (head.Variable x) (act op.Content ∷ act (op.Primitive (CellMake x)) ∷ act (op.Set x) ∷ [])) in
    let d = expression_of such None (head.Variable x) (act op.Content ∷ act (op.Primitive (CellMake x)) ∷ act (op.Set x) ∷ []) in
    let a = act_of such op.Content in let b = act_of such (op.Primitive (CellMake x)) in let c = act_of such (op.Set x) in omega arith

copies_of : (such : Such) (owners : List ℕ) (xs : List Var) → links_marks such (s.copies owners xs) ≡ 0
copies_of such owners [] = refl
copies_of such owners (x ∷ xs) = either (λ ls. links_marks such ls ≡ 0) (is_shared owners x) {x = s.copied x ∷ s.copies owners xs} {y = s.copies owners xs}
    (let e = copied_of such x in let d = copies_of such owners xs in omega arith) (copies_of such owners xs)

begun_of : (such : Such) (owners : List ℕ) (site : Option Site) (h : CoreHead) → expr_marks such (s.begun owners site h) ≡ 0
unfolding s.begun
begun_of such owners site (head.Variable x) = expression_of such site (head.Variable x) _ ∙ either (λ ls. links_marks such ls ≡ 0) (is_shared owners x) {x = act op.Content ∷ []} {y = []}
    (let e = act_of such op.Content in omega arith) refl
begun_of such owners site (head.Copy xs) = expression_of such site (head.Constant Undefined) _ ∙ copies_of such owners xs
begun_of such owners site h = expression_of such site h []

stored_of : (such : Such) (x : Var) (e : CoreExpr) → expr_marks such (s.stored x e) ≡ expr_marks such e
stored_of such x e = let d = expression_of such None (head.Variable x) (acting op.SetContent e ∷ []) in let a = acting_of such op.SetContent e in omega arith

none_of : (such : Such) (o : CoreOp) (site : Option Site) → is_call o ≡ false → mark such o site ≡ 0
none_of such o None h = refl
none_of such o (Some site) h = ap (λ b. cond (b && such site) 1 0) h

linked_strict : (such : Such) (o : CoreOp) (parts : List CoreExpr) (site : Option Site) (e : CoreExpr) → expr_marks such (linked e (link.Strict o parts site)) ≡ expr_marks such e + (exprs_marks such parts + mark such o site)
linked_strict such o parts site e = linked_of such e _ ∙ ap (λ n. expr_marks such e + n) (strict_of such o parts site)

written_of : (such : Such) (x : Var) (o : CoreOp) (site : Option Site) (e : CoreExpr) (b : Bool) → is_call o ≡ false → expr_marks such (cond b (s.stored x e) (linked e (link.Strict o [] site))) ≡ expr_marks such e + (0 + mark such o site)
written_of such x o site e true h = let d = stored_of such x e in let a = none_of such o site h in omega arith
written_of such x o site e false h = linked_strict such o [] site e

strict_kept : (such : Such) (owners : List ℕ) (o : CoreOp) (ps : List (Pair (OfExpr such))) (site : Option Site) (e : CoreExpr) → lawful.takes o (length (map (of_expr laws) (map (λ p. p.0) ps))) ≡ true
    → expr_marks such (s.strict owners o (map (λ p. p.1) ps) site e) ≡ expr_marks such e + (exprs_marks such (map (λ p. p.1) ps) + mark such o site)
unfolding s.strict
strict_kept such owners (op.Set x) [] site e h = written_of such x (op.Set x) site e (is_shared owners x) refl
strict_kept such owners (op.Set x) (p ∷ ps) site e h = absurd (not_bare _ h)
strict_kept such owners (op.Init x) [] site e h = written_of such x (op.Init x) site e (is_shared owners x) refl
strict_kept such owners (op.Init x) (p ∷ ps) site e h = absurd (not_bare _ h)
strict_kept such owners o ps site e h = linked_strict such o (map (λ p. p.1) ps) site e

-- ## The steps

link_by : (such : Such) (owners : List ℕ) (z : Links (shown such owners)) (round : Round) → (lawful.link_step (in_link laws (link_first (shown such owners) z))).lawful round ≡ true → (e : CoreExpr)
    → expr_marks such (s.link_step owners (link_second (shown such owners) z) e) ≡ expr_marks such e + (counts such).link_step (in_link (counts such) (link_first (shown such owners) z))
link_by such owners (layer.Strict o parts site) round h e =
    let d = strict_kept such owners o parts site e (left _ _ (left _ _ h)) in
    let a = parts_kept such parts round (right _ _ h) in omega arith
link_by such owners (layer.Lazy w taken None) round h e =
    let d = linked_of such e (link.Lazy w taken.1 None) in let a = lazy_of such w taken.1 None in let b = taken.2 round (left _ _ h) in omega arith
link_by such owners (layer.Lazy w taken (Some other)) round h e =
    let d = linked_of such e (link.Lazy w taken.1 (Some other.1)) in let a = lazy_of such w taken.1 (Some other.1) in
    let b = taken.2 round (left _ _ h) in let c = other.2 round (right _ _ h) in omega arith
link_by such owners (layer.Run body) round h e =
    let d = linked_of such e (link.Run (along (map (λ p. p.1) body) [])) in let a = run_of such (along (map (λ p. p.1) body) []) in
    let b = stats_kept such body round h [] in omega arith

link_kept : (such : Such) (owners : List ℕ) (z : Links (shown such owners)) → OfLink such (roll-CoreLink (link_first (shown such owners) z)) (s.link_step owners (link_second (shown such owners) z))
link_kept such owners z round h e =
    link_by such owners z round (ap (λ j. j.lawful round) (sym (link_rolled laws (link_first (shown such owners) z))) ∙ h) e
    ∙ ap (λ n. expr_marks such e + n) (sym (link_rolled (counts such) (link_first (shown such owners) z)))

expr_by : (such : Such) (owners : List ℕ) (z : Exprs (shown such owners)) (round : Round) → lawful.expr_step (in_expr laws (expr_first (shown such owners) z)) round ≡ true
    → expr_marks such (s.expr_step owners (expr_second (shown such owners) z)) ≡ (counts such).expr_step (in_expr (counts such) (expr_first (shown such owners) z))
expr_by such owners z round h =
    let d = links_kept such z.links (lawful.begins z.head) round (right _ _ (left _ _ h)) (s.begun owners z.site z.head) in
    let a = begun_of such owners z.site z.head in omega arith

expr_kept : (such : Such) (owners : List ℕ) (z : Exprs (shown such owners)) → OfExpr such (roll-CoreExpr (expr_first (shown such owners) z)) (s.expr_step owners (expr_second (shown such owners) z))
expr_kept such owners z round h =
    expr_by such owners z round (ap (λ t. t round) (sym (expr_rolled laws (expr_first (shown such owners) z))) ∙ h)
    ∙ sym (expr_rolled (counts such) (expr_first (shown such owners) z))

case_by : (such : Such) (owners : List ℕ) (test : Option (Pair (OfExpr such))) (body : List (Pair (OfStat such))) (round : Round) → lawful.case_step (in_case laws (case_first (shown such owners) (record { test = test; body = body }))) round ≡ true
    → case_marks such (s.case_step (case_second (shown such owners) (record { test = test; body = body }))) ≡ (counts such).case_step (in_case (counts such) (case_first (shown such owners) (record { test = test; body = body })))
case_by such owners None body round h = let d = case_of such None (along (map (λ p. p.1) body) []) in let a = stats_kept such body round h [] in omega arith
case_by such owners (Some t) body round h =
    let d = case_of such (Some t.1) (along (map (λ p. p.1) body) []) in let a = stats_kept such body round (right _ _ h) [] in let b = t.2 round (left _ _ h) in omega arith

case_kept : (such : Such) (owners : List ℕ) (z : Cases (shown such owners)) → OfCase such (roll-CoreCase (case_first (shown such owners) z)) (s.case_step (case_second (shown such owners) z))
case_kept such owners z round h =
    case_by such owners z.test z.body round (ap (λ t. t round) (sym (case_rolled laws (case_first (shown such owners) z))) ∙ h)
    ∙ sym (case_rolled (counts such) (case_first (shown such owners) z))

then_of : (such : Such) (xs : List CoreStat) (x : CoreStat) (n : ℕ) → stat_marks such x ≡ n → stats_marks such (s.then xs x) ≡ stats_marks such xs + n
then_of such xs x n h = stats_one such xs x ∙ ap (λ k. stats_marks such xs + k) h

stat_by : (such : Such) (owners : List ℕ) (z : Stats (shown such owners)) (round : Round) → lawful.stat_step (in_stat laws (stat_first (shown such owners) z)) round ≡ true → (xs : List CoreStat)
    → stats_marks such (s.stat_step (stat_second (shown such owners) z) xs) ≡ stats_marks such xs + (counts such).stat_step (in_stat (counts such) (stat_first (shown such owners) z))
stat_by such owners (layer.Do x) round h xs = then_of such xs _ _ (do_of such x.1 ∙ x.2 round h)
stat_by such owners (layer.If cases) round h xs = then_of such xs _ _ (if_of such _ ∙ cases_kept such cases round h)
stat_by such owners (layer.Switch subject cases) round h xs = then_of such xs _ _ (switch_of such subject.1 _ ∙
    (let a = subject.2 round (left _ _ h) in let b = cases_kept such cases round (right _ _ h) in omega arith))
stat_by such owners (layer.Loop labels None None body) round h xs = then_of such xs _ _ (loop_of such labels None None _ ∙
    (let a = stats_kept such body (lawful.in_loop labels round) (right _ _ h) [] in omega arith))
stat_by such owners (layer.Loop labels None (Some u) body) round h xs = then_of such xs _ _ (loop_of such labels None (Some u.1) _ ∙
    (let a = stats_kept such body (lawful.in_loop labels round) (right _ _ h) [] in let b = u.2 round (right _ _ (left _ _ h)) in omega arith))
stat_by such owners (layer.Loop labels (Some t) None body) round h xs = then_of such xs _ _ (loop_of such labels (Some t.1) None _ ∙
    (let a = stats_kept such body (lawful.in_loop labels round) (right _ _ h) [] in let b = t.2 round (right _ _ (left _ _ (left _ _ h))) in omega arith))
stat_by such owners (layer.Loop labels (Some t) (Some u) body) round h xs = then_of such xs _ _ (loop_of such labels (Some t.1) (Some u.1) _ ∙
    (let a = stats_kept such body (lawful.in_loop labels round) (right _ _ h) [] in let b = t.2 round (right _ _ (left _ _ (left _ _ h))) in let c = u.2 round (right _ _ (left _ _ h)) in omega arith))
stat_by such owners (layer.Labelled label body) round h xs = then_of such xs _ _ (labelled_of such label _ ∙ (let a = stats_kept such body (lawful.under label round) (right _ _ h) [] in omega arith))
stat_by such owners (layer.Jump goes_on label) round h xs = then_of such xs _ _ (jump_of such goes_on label)
stat_by such owners (layer.Return x) round h xs = then_of such xs _ _ (return_of such x.1 ∙ x.2 round (right _ _ h))
stat_by such owners (layer.Throw x) round h xs = then_of such xs _ _ (throw_of such x.1 ∙ x.2 round h)
stat_by such owners (layer.TryCatch block parameter names handler) round h xs = then_of such xs _ _ (catch_of such _ parameter [] _ ∙
    (let a = stats_kept such block round (left _ _ (left _ _ (left _ _ h))) [] in let b = stats_kept such handler round (right _ _ h) (s.entered names []) in let c = entered_of such names [] in omega arith))
stat_by such owners (layer.TryFinally block last) round h xs = then_of such xs _ _ (finally_of such _ _ ∙
    (let a = stats_kept such block round (left _ _ h) [] in let b = stats_kept such last round (right _ _ h) [] in omega arith))
stat_by such owners (layer.Scoped names body) round h xs = let a = stats_kept such body round (right _ _ h) (s.entered names xs) in let c = entered_of such names xs in omega arith
stat_by such owners (layer.Yield value kind result) round h xs = then_of such xs _ _ (yield_of such value.1 kind result ∙ value.2 round (right _ _ (left _ _ (left _ _ h))))

stat_kept : (such : Such) (owners : List ℕ) (z : Stats (shown such owners)) → OfStat such (roll-CoreStat (stat_first (shown such owners) z)) (s.stat_step (stat_second (shown such owners) z))
stat_kept such owners z round h xs =
    stat_by such owners z round (ap (λ t. t round) (sym (stat_rolled laws (stat_first (shown such owners) z))) ∙ h) xs
    ∙ ap (λ n. stats_marks such xs + n) (sym (stat_rolled (counts such) (stat_first (shown such owners) z)))

kept : (such : Such) (owners : List ℕ) → Keeps (shown such owners)
kept such owners = record { link = link_kept such owners; stat = stat_kept such owners; case = case_kept such owners; expr = expr_kept such owners }

-- ## Functions, parts and the core

stats_flat_of : (such : Such) (owners : List ℕ) (ss xs : List CoreStat) (round : Round) → lawful.stats_lawful ss round ≡ true → stats_marks such (along (map (s.stat_flat owners) ss) xs) ≡ stats_marks such xs + stats_marks such ss
stats_flat_of such owners [] xs round h = omega arith
stats_flat_of such owners (x ∷ ss) xs round h =
    let a = stat_induced (shown such owners) (kept such owners) x round (left _ _ h) xs in
    let b = stats_flat_of such owners ss (s.stat_flat owners x xs) round (right _ _ h) in omega arith

function_of : (such : Such) (owners : List ℕ) (cells : List Var) (names hosts number : ℕ) (f : CoreFunction) → lawful.function_lawful names hosts number f ≡ true → function_marks such (s.function_flat owners cells f) ≡ function_marks such f
function_of such owners cells names hosts number f h =
    let a = stats_flat_of such owners f.setup [] (lawful.round_function names hosts number false) (right _ _ (left _ _ (left _ _ h))) in
    let b = stats_flat_of such owners f.body [] (lawful.round_function names hosts number (is_generator f.kind)) (right _ _ (left _ _ h)) in
    let c = stats_flat_of such owners f.step [] (lawful.round_function names hosts number false) (right _ _ h) in omega arith

functions_of : (such : Such) (owners holders : List ℕ) (all : List (List Var)) (place names hosts number : ℕ) (fs : List CoreFunction) → lawful.functions_lawful names hosts number fs ≡ true → total (map (function_marks such) (s.functions_flat owners holders all place fs)) ≡ total (map (function_marks such) fs)
functions_of such owners holders all place names hosts number [] h = refl
functions_of such owners holders all place names hosts number (f ∷ fs) h =
    let a = function_of such owners (cells_at owners holders all place) names hosts number f (left _ _ h) in
    let b = functions_of such owners holders all (place + 1) names hosts (number + 1) fs (right _ _ h) in omega arith

part_of : (such : Such) (owners : List ℕ) (names hosts functions : ℕ) (p : CorePart) → lawful.part_lawful names hosts functions p ≡ true → part_marks such (s.part_flat owners p) ≡ part_marks such p
part_of such owners names hosts functions p h =
    let a = stats_flat_of such owners p.instantiate [] (lawful.round_part names hosts functions) (right _ _ (left _ _ h)) in
    let b = stats_flat_of such owners p.body [] (lawful.round_part names hosts functions) (right _ _ h) in omega arith

parts_of : (such : Such) (owners : List ℕ) (names hosts functions : ℕ) (ps : List CorePart) → list_all (lawful.part_lawful names hosts functions) ps ≡ true → total (map (part_marks such) (map (s.part_flat owners) ps)) ≡ total (map (part_marks such) ps)
parts_of such owners names hosts functions [] h = refl
parts_of such owners names hosts functions (p ∷ ps) h =
    let a = part_of such owners names hosts functions p (left _ _ h) in let b = parts_of such owners names hosts functions ps (right _ _ h) in omega arith

pub scopes_keep_marks : (such : Such) (core : Core) → IsLawful core → marks such (s.without_scopes core) ≡ marks such core
scopes_keep_marks such core h =
    let a = functions_of such _ _ _ 0 (length core.fresh.hints) h.0 0 core.functions h.1.0 in
    let b = parts_of such _ (length core.fresh.hints) h.0 (length core.functions) core.parts h.1.1 in
    ap (λ n. n + total (map (part_marks such) (s.without_scopes core).parts)) a ∙ ap (λ n. total (map (function_marks such) core.functions) + n) b
