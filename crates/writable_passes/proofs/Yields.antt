-- A core that can be written can be so where yields are flattened.
use Rattle.std.specs.List.{list_all}
use Rattle.std.proofs.Common.{◌≡◌, ℕ, ◌+◌, ◌≤◌, true, List, [], ◌∷◌, ◌++◌, map, Option, None, Some, refl, sym, ap, arith, subst, ◌∙◌}
use Rattle.std.proofs.lemmas.Bool.{ltb-true}
use Rattle.es_outside.specs.declared.events.Site.{Site}
use Rattle.core_ast.specs.declared.naming.Fresh.{Fresh}
use Rattle.core_ast.specs.declared.parts.CoreOp.{CoreOp}
use Rattle.core_ast.specs.declared.tree.CoreCase.{CoreCase, roll-CoreCase}
use Rattle.core_ast.specs.declared.tree.CoreExpr.{CoreExpr, roll-CoreExpr}
use Rattle.core_ast.specs.declared.tree.CoreLink.{CoreLink, roll-CoreLink}
use Rattle.core_ast.specs.declared.tree.CoreLink.TheOpen as layer
use Rattle.core_ast.specs.declared.tree.CoreStat.{CoreStat, roll-CoreStat}
use Rattle.core_ast.specs.declared.tree.CoreStat.TheVariants as stat
use Rattle.core_ast.specs.declared.whole.CoreFunction.{CoreFunction}
use Rattle.core_ast.specs.declared.whole.CorePart.{CorePart}
use Rattle.core_ast.specs.Lawful.{is_empty}
use Rattle.core_ast.specs.Mentions.{function_mentions, part_mentions}
use Rattle.emission_laws.specs.Writable as w
use Rattle.emission_laws.specs.Writable.{Choice}
use Rattle.pass_rules.specs.declared.yield_rules.spilling.Chain.{Chain}
use Rattle.pass_rules.specs.declared.yield_rules.spilling.Place.{Place}
use Rattle.pass_rules.specs.declared.yield_rules.spilling.Spilled.{Spilled}
use Rattle.pass_rules.specs.pass_laws.Marks.{total}
use Rattle.pass_rules.specs.yield_rules.Yields as s
use Rattle.pass_rules.specs.yield_rules.Yields.{Adds, Cased, Spills, Turns}
use Rattle.pass_rules.proofs.pass_laws.Induced.{Shows, Keeps, Links, Stats, Cases, Exprs, link_first, link_second, stat_first, stat_second, case_first, case_second, expr_first, expr_second, stat_induced}
use Rattle.pass_rules.proofs.pass_laws.Related.{Fold, Pair, of_link, of_stat, of_case, of_expr, in_link, in_stat, in_case, link_rolled, stat_rolled, case_rolled, expr_rolled}
use Rattle.pass_rules.proofs.pass_laws.Within as b
use Rattle.pass_rules.proofs.pass_laws.Within.{left, right, both, either}
use Rattle.pass_rules.proofs.pass_laws.Yields.{spills}
use Rattle.lawful_passes.specs.StatesBefore as before
use Rattle.lawful_passes.proofs.StatesSpilled.{counts_before}
use Rattle.writable_passes.specs.Laws.{YieldsKeepWritable}
use Rattle.writable_passes.specs.Rooms as rooms
use Rattle.writable_passes.proofs.Fits.{Are, AreParts, Fits, Is, Keys, begun_far, catch_is, do_is, finally_is, joined, jump_is, labelled_is, one, parted, piece, pieces, return_is, scoped_is, throw_is, top, undefined_far, writes, yield_is}
use Rattle.writable_passes.proofs.Spilling.{AllCases, AllSpilled, CaseIs, ChainIs, SpilledIs, chosen_are, effects_are, goes_on_is, looped_are, one_branch_is, rest_fits, said_are, settled_is, statements_is, switched_are, two_branches_is, value_is}

abbrev makes : Fold
makes = counts_before

-- ## What is shown of each node: at a place behind which there is room for its labels

abbrev OfLink : ℕ → CoreLink → Turns → Type 0
OfLink n y f = (p : Place) → p.label + of_link makes y ≤ n → (piece n y).fits ≡ true → (keys : Keys) → w.is_new keys (piece n y).key ≡ true → (c : Chain) → ChainIs n keys c → ChainIs n (w.with_key keys (piece n y).key) (f p c)

abbrev OfStat : ℕ → CoreStat → Adds → Type 0
OfStat n y f = (p : Place) → p.label + of_stat makes y ≤ n → Is n y → (xs : List CoreStat) → Are n xs → Are n (f p xs)

abbrev OfCase : ℕ → CoreCase → Cased → Type 0
OfCase n y f = (q p : Place) → q.label + of_case makes y ≤ n → p.label + of_case makes y ≤ n → (of_case (writes n) y).fits ≡ true → CaseIs n (of_case (writes n) y).is_default (f q p)

abbrev OfExpr : ℕ → CoreExpr → Spills → Type 0
OfExpr n y f = (p : Place) → p.label + of_expr makes y ≤ n → Fits n y → SpilledIs n (f p)

abbrev shown : ℕ → Shows spills
shown n = record { Link = OfLink n; Stat = OfStat n; Case = OfCase n; Expr = OfExpr n }

-- ## Lists

stats_walk : (n : ℕ) (ps : List (Pair (OfStat n))) (p : Place) → p.label + total (map (of_stat makes) (map (λ q. q.0) ps)) ≤ n → Are n (map (λ q. q.0) ps) → (xs : List CoreStat) → Are n xs → Are n (s.all_at (map (λ q. q.1) ps) p xs)
stats_walk n [] p l h xs k = k
stats_walk n (y ∷ ps) p l h xs k = stats_walk n ps p (omega arith) (right _ _ h) (y.1 p xs) (y.2 p (omega arith) (left _ _ h) xs k)

parts_walk : (n : ℕ) (ps : List (Pair (OfExpr n))) (p : Place) → p.label + total (map (of_expr makes) (map (λ q. q.0) ps)) ≤ n → AreParts n (map (λ q. q.0) ps) → AllSpilled n (s.each_at (map (λ q. q.1) ps) p)
parts_walk n [] p l h = tt
parts_walk n (y ∷ ps) p l h = (y.2 p (omega arith) (left _ _ h), parts_walk n ps (s.deeper 1 p) (omega arith) (right _ _ h))

links_walk : (n : ℕ) (ps : List (Pair (OfLink n))) (p : Place) (keys : Keys) → p.label + total (map (of_link makes) (map (λ q. q.0) ps)) ≤ n → w.links_fit keys (pieces n (map (λ q. q.0) ps)) ≡ true → (c : Chain) → ChainIs n keys c → SpilledIs n (s.finished (s.all_at (map (λ q. q.1) ps) p c))
links_walk n [] p keys l h c k = record { before = k.before; rest = rest_fits n keys c k }
links_walk n (y ∷ ps) p keys l h c k = links_walk n ps p (w.with_key keys (piece n y.0).key) (omega arith) (right _ _ h) (y.1 p c) (y.2 p (omega arith) (left _ _ (left _ _ h)) keys (right _ _ (left _ _ h)) c k)

cases_walk : (n : ℕ) (ps : List (Pair (OfCase n))) (q p : Place) → q.label + total (map (of_case makes) (map (λ x. x.0) ps)) ≤ n → p.label + total (map (of_case makes) (map (λ x. x.0) ps)) ≤ n → w.choices_fit (map (of_case (writes n)) (map (λ x. x.0) ps)) ≡ true
    → AllCases n (map (of_case (writes n)) (map (λ x. x.0) ps)) (s.cases_at (map (λ x. x.1) ps) q p)
cases_walk n [] q p l m h = refl
cases_walk n (y ∷ ps) q p l m h = (y.2 q p (omega arith) (omega arith) (left _ _ h), cases_walk n ps q p (omega arith) (omega arith) (right _ _ h))

-- ## Links and expressions

strict_by : (n : ℕ) (o : CoreOp) (parts : List (Pair (OfExpr n))) (site : Option Site) (p : Place) → p.label + (before.of_op o + total (map (of_expr makes) (map (λ q. q.0) parts))) ≤ n → w.op_fits o ≡ true → AreParts n (map (λ q. q.0) parts)
    → (keys : Keys) → w.is_new keys (w.defined o) ≡ true → (c : Chain) → ChainIs n keys c → ChainIs n (w.with_key keys (w.defined o)) (s.strict p o (s.parts_settled p o (map (λ q. q.1) parts)) site c)
strict_by n o parts site p l h k keys e c m =
    let t = s.parts_settled p o (map (λ q. q.1) parts) in
    let q = settled_is n (s.deeper (s.room o) p) (s.each_at (map (λ x. x.1) parts) (s.deeper (s.room o) p)) (parts_walk n parts (s.deeper (s.room o) p) (omega arith) k) in
    either (ChainIs n (w.with_key keys (w.defined o))) (is_empty t.before) {x = s.behind_value p o t.parts site c} {y = s.behind_statements p o t site c}
    (value_is n keys p o t.parts site c (omega arith) h q.parts e m) (statements_is n keys p o t site c h q m)

link_by : (n : ℕ) (z : Links (shown n)) (p : Place) → p.label + before.link_step (in_link makes (link_first (shown n) z)) ≤ n → (w.link_step (in_link (writes n) (link_first (shown n) z))).fits ≡ true
    → (keys : Keys) → w.is_new keys (w.link_step (in_link (writes n) (link_first (shown n) z))).key ≡ true → (c : Chain) → ChainIs n keys c → ChainIs n (w.with_key keys (w.link_step (in_link (writes n) (link_first (shown n) z))).key) (s.link_step (link_second (shown n) z) p c)
link_by n (layer.Strict o parts site) p l h keys e c m = strict_by n o parts site p l (left _ _ h) (right _ _ h) keys e c m
link_by n (layer.Lazy x taken None) p l h keys e c m = one_branch_is n keys p x _ c (taken.2 (s.deeper 1 p) (omega arith) (left _ _ h)) m
link_by n (layer.Lazy x taken (Some other)) p l h keys e c m = two_branches_is n keys p x _ _ c (taken.2 (s.deeper 1 p) (omega arith) (left _ _ h)) (other.2 (s.deeper 1 p) (omega arith) (right _ _ h)) m
link_by n (layer.Run body) p l h keys e c m = goes_on_is n keys _ _ (stats_walk n body p l h _ (effects_are n (s.rest c) c.before (rest_fits n keys c m) m.before)) (undefined_far n keys)

link_kept : (n : ℕ) (z : Links (shown n)) → OfLink n (roll-CoreLink (link_first (shown n) z)) (s.link_step (link_second (shown n) z))
link_kept n z p l h keys e c m =
    let y = link_first (shown n) z in let i = link_rolled (writes n) y in let j = link_rolled makes y in
    subst (λ q. ChainIs n (w.with_key keys q.key) (s.link_step (link_second (shown n) z) p c)) (sym i)
    (link_by n z p (omega arith) (sym (ap (λ q. q.fits) i) ∙ h) keys (sym (ap (λ q. w.is_new keys q.key) i) ∙ e) c m)

expr_kept : (n : ℕ) (z : Exprs (shown n)) → OfExpr n (roll-CoreExpr (expr_first (shown n) z)) (s.expr_step (expr_second (shown n) z))
expr_kept n z p l h =
    let y = expr_first (shown n) z in let j = expr_rolled makes y in
    let k = sym (expr_rolled (writes n) y) ∙ h in
    links_walk n z.links p [] (omega arith) (right _ _ k) (s.begun z.site z.head) (goes_on_is n [] [] _ refl (begun_far n [] z.site z.head (left _ _ k)))

-- ## Cases

case_by : (n : ℕ) (test : Option (Pair (OfExpr n))) (body : List (Pair (OfStat n))) (q p : Place) → let y = case_first (shown n) (record { test = test; body = body }) in
    q.label + before.case_step (in_case makes y) ≤ n → p.label + before.case_step (in_case makes y) ≤ n → (w.case_step (in_case (writes n) y)).fits ≡ true → CaseIs n (w.case_step (in_case (writes n) y)).is_default (s.case_step (case_second (shown n) (record { test = test; body = body })) q p)
case_by n None body q p l m h = record { before = refl; test = tt; mark = refl; body = stats_walk n body p (omega arith) h [] refl }
case_by n (Some x) body q p l m h = let y = x.2 q (omega arith) (left _ _ h) in record { before = y.before; test = y.rest; mark = refl; body = stats_walk n body p (omega arith) (right _ _ h) [] refl }

case_kept : (n : ℕ) (z : Cases (shown n)) → OfCase n (roll-CoreCase (case_first (shown n) z)) (s.case_step (case_second (shown n) z))
case_kept n z q p l m h =
    let y = case_first (shown n) z in let i = case_rolled (writes n) y in let j = case_rolled makes y in
    subst (λ c. CaseIs n c.is_default (s.case_step (case_second (shown n) z) q p)) (sym i) (case_by n z.test z.body q p (omega arith) (omega arith) (sym (ap (λ c. c.fits) i) ∙ h))

-- ## Statements

place_label : (p : Place) (u : Option Spilled) → (s.loop_place p u).label ≡ p.label + 1
place_label p u = either (λ (q : Place). q.label ≡ p.label + 1) (s.has_maybe u) refl refl

stat_by : (n : ℕ) (z : Stats (shown n)) (p : Place) → p.label + before.stat_step (in_stat makes (stat_first (shown n) z)) ≤ n → (writes n).stat_step (in_stat (writes n) (stat_first (shown n) z)) ≡ true → (xs : List CoreStat) → Are n xs → Are n (s.stat_step (stat_second (shown n) z) p xs)
stat_by n (layer.Do x) p l h xs k = said_are n (λ e. stat.Do e) (x.1 p) xs (x.2 p l h) (λ e. do_is n e) k
stat_by n (layer.If cases) p l h xs k = chosen_are n p _ _ xs (omega arith) (cases_walk n cases (s.under p) (s.under p) (omega arith) (omega arith) h) k
stat_by n (layer.Switch subject cases) p l h xs k =
    switched_are n p (subject.1 p) _ _ xs (omega arith) (subject.2 p (omega arith) (left _ _ (left _ _ h))) (cases_walk n cases (s.deeper 2 (s.under p)) (s.under p) (omega arith) (omega arith) (right _ _ (left _ _ h))) (right _ _ h) k
stat_by n (layer.Loop labels None None body) p l h xs k =
    looped_are n p labels None None _ xs (omega arith) (left _ _ (left _ _ (left _ _ h))) tt tt (stats_walk n body (s.under p) (omega arith) (right _ _ h) [] refl) k
stat_by n (layer.Loop labels None (Some y) body) p l h xs k =
    let u = Some (y.1 (s.deeper 1 (s.under p))) in let e = place_label p u in
    looped_are n p labels None u _ xs (omega arith) (left _ _ (left _ _ (left _ _ h))) tt (y.2 (s.deeper 1 (s.under p)) (omega arith) (right _ _ (left _ _ h))) (stats_walk n body (s.loop_place p u) (omega arith) (right _ _ h) [] refl) k
stat_by n (layer.Loop labels (Some x) None body) p l h xs k =
    looped_are n p labels (Some (x.1 (s.under p))) None _ xs (omega arith) (left _ _ (left _ _ (left _ _ h))) (x.2 (s.under p) (omega arith) (right _ _ (left _ _ (left _ _ h)))) tt (stats_walk n body (s.under p) (omega arith) (right _ _ h) [] refl) k
stat_by n (layer.Loop labels (Some x) (Some y) body) p l h xs k =
    let u = Some (y.1 (s.deeper 1 (s.under p))) in let q = s.loop_place p u in let e = place_label p u in
    looped_are n p labels (Some (x.1 q)) u _ xs (omega arith) (left _ _ (left _ _ (left _ _ h))) (x.2 q (omega arith) (right _ _ (left _ _ (left _ _ h)))) (y.2 (s.deeper 1 (s.under p)) (omega arith) (right _ _ (left _ _ h)))
    (stats_walk n body q (omega arith) (right _ _ h) [] refl) k
stat_by n (layer.Labelled label body) p l h xs k = one n xs _ k (labelled_is n label _ (left _ _ h) (stats_walk n body p (omega arith) (right _ _ h) [] refl))
stat_by n (layer.Jump goes_on label) p l h xs k = one n xs _ k (jump_is n goes_on label)
stat_by n (layer.Return x) p l h xs k = said_are n (λ e. stat.Return e) (x.1 p) xs (x.2 p l h) (λ e. return_is n e) k
stat_by n (layer.Throw x) p l h xs k = said_are n (λ e. stat.Throw e) (x.1 p) xs (x.2 p l h) (λ e. throw_is n e) k
stat_by n (layer.TryCatch block parameter names handler) p l h xs k =
    one n xs _ k (catch_is n _ parameter names _ (stats_walk n block p (omega arith) (left _ _ h) [] refl) (stats_walk n handler p (omega arith) (right _ _ h) [] refl))
stat_by n (layer.TryFinally block last) p l h xs k = one n xs _ k (finally_is n _ _ (stats_walk n block p (omega arith) (left _ _ h) [] refl) (stats_walk n last p (omega arith) (right _ _ h) [] refl))
stat_by n (layer.Scoped names body) p l h xs k = one n xs _ k (scoped_is n names _ (stats_walk n body p l h [] refl))
stat_by n (layer.Yield value kind result) p l h xs k = said_are n (λ e. stat.Yield e kind result) (value.1 p) xs (value.2 p (omega arith) h) (λ e. yield_is n e kind result) k

stat_kept : (n : ℕ) (z : Stats (shown n)) → OfStat n (roll-CoreStat (stat_first (shown n) z)) (s.stat_step (stat_second (shown n) z))
stat_kept n z p l h xs k =
    let y = stat_first (shown n) z in let j = stat_rolled makes y in
    stat_by n z p (omega arith) (sym (stat_rolled (writes n) y) ∙ h) xs k

keeps : (n : ℕ) → Keeps (shown n)
keeps n = record { link = link_kept n; stat = stat_kept n; case = case_kept n; expr = expr_kept n }

pub stats_spilled_are : (n : ℕ) (ss : List CoreStat) (p : Place) → p.label + before.stats_states ss ≤ n → Are n ss → (xs : List CoreStat) → Are n xs → Are n (s.all_at (map s.stat_spilled ss) p xs)
stats_spilled_are n [] p l h xs k = k
stats_spilled_are n (y ∷ ss) p l h xs k =
    let a = before.stats_states ss in let c = of_stat makes y in
    stats_spilled_are n ss p (omega arith) (right _ _ h) (s.stat_spilled y p xs) (stat_induced (shown n) (keeps n) y p (omega arith) (left _ _ h) xs k)

-- ## Functions, parts and the core

function_is : (f : CoreFunction) (fresh : Fresh) → rooms.fits (rooms.function_behind f) ≡ true → w.function_fits f ≡ true → w.function_fits (s.one_function f fresh).made ≡ true
function_is f fresh r h =
    let q = parted f h in let p = s.begins (function_mentions f) fresh in let l = ltb-true (rooms.function_behind f) 18446744073709551616 r in
    joined (s.one_function f fresh).made (record {
      cells = q.cells;
      parameters = q.parameters;
      setup = stats_spilled_are top f.setup p (omega arith) q.setup [] refl;
      body = stats_spilled_are top f.body p (omega arith) q.body [] refl;
      step = stats_spilled_are top f.step p (omega arith) q.step [] refl;
    })

functions_are : (fs made : List CoreFunction) (fresh : Fresh) → list_all (λ f. rooms.fits (rooms.function_behind f)) fs ≡ true → list_all w.function_fits fs ≡ true → list_all w.function_fits made ≡ true → list_all w.function_fits (s.all_functions fs made fresh).made ≡ true
functions_are [] made fresh r h k = k
functions_are (f ∷ fs) made fresh r h k =
    let g = s.one_function f fresh in
    functions_are fs (made ++ g.made ∷ []) g.fresh (right _ _ r) (right _ _ h) (b.more w.function_fits made g.made k (function_is f fresh (left _ _ r) (left _ _ h)))

part_is : (x : CorePart) (fresh : Fresh) → rooms.fits (rooms.part_behind x) ≡ true → w.part_fits x ≡ true → w.part_fits (s.one_part x fresh).made ≡ true
part_is x fresh r h =
    let p = s.begins (part_mentions x) fresh in let l = ltb-true (rooms.part_behind x) 18446744073709551616 r in
    both (stats_spilled_are top x.instantiate p (omega arith) (left _ _ h) [] refl) (stats_spilled_are top x.body p (omega arith) (right _ _ h) [] refl)

parts_are : (xs made : List CorePart) (fresh : Fresh) → list_all (λ p. rooms.fits (rooms.part_behind p)) xs ≡ true → list_all w.part_fits xs ≡ true → list_all w.part_fits made ≡ true → list_all w.part_fits (s.all_parts xs made fresh).made ≡ true
parts_are [] made fresh r h k = k
parts_are (x ∷ xs) made fresh r h k =
    let g = s.one_part x fresh in
    parts_are xs (made ++ g.made ∷ []) g.fresh (right _ _ r) (right _ _ h) (b.more w.part_fits made g.made k (part_is x fresh (left _ _ r) (left _ _ h)))

pub yields_keep_writable : YieldsKeepWritable
yields_keep_writable hosts core h rooms names =
    let fs = s.all_functions core.functions [] core.fresh in
    (functions_are core.functions [] core.fresh rooms.0 h.0 refl, parts_are core.parts [] fs.fresh rooms.1 h.1 refl, names)
