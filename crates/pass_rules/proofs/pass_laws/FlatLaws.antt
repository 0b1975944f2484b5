-- The flattening of scopes keeps what makes statements lawful.
use Rattle.std.specs.List.{list_all, filter_map}
use Rattle.std.proofs.Common.{◌≡◌, ℕ, ◌+◌, ◌≤◌, Bool, true, false, ◌&&◌, not, cond, suc, List, [], ◌∷◌, ◌++◌, map, length, Option, None, Some, is_none, refl, sym, ap, arith, subst, ◌∙◌}
use Rattle.std.proofs.lemmas.Bool.{false≢true, le-leb, leb-true}
use Rattle.es_outside.specs.declared.events.Site.{Site}
use Rattle.core_ast.specs.declared.parts.Var.{Var}
use Rattle.core_ast.specs.declared.parts.When.{When}
use Rattle.core_ast.specs.declared.parts.ScopedName.{ScopedName}
use Rattle.core_ast.specs.declared.parts.CoreHead.{CoreHead}
use Rattle.core_ast.specs.declared.parts.CoreHead.TheVariants as head
use Rattle.core_ast.specs.declared.parts.Constant.TheVariants.{Undefined}
use Rattle.core_ast.specs.declared.parts.CoreOp.{CoreOp}
use Rattle.core_ast.specs.declared.parts.CoreOp.TheVariants as op
use Rattle.core_ast.specs.declared.parts.Primitive.TheVariants.{CellMake}
use Rattle.core_ast.specs.declared.tree.CoreLink.{CoreLink, roll-CoreLink}
use Rattle.core_ast.specs.declared.tree.CoreStat.{CoreStat, roll-CoreStat}
use Rattle.core_ast.specs.declared.tree.CoreCase.{CoreCase, roll-CoreCase}
use Rattle.core_ast.specs.declared.tree.CoreExpr.{CoreExpr, roll-CoreExpr, out-CoreExpr, fold_out-CoreExpr}
use Rattle.core_ast.specs.declared.tree.CoreLink.TheVariants as link
use Rattle.core_ast.specs.declared.tree.CoreStat.TheVariants as stat
use Rattle.core_ast.specs.declared.tree.CoreLink.TheOpen as layer
use Rattle.core_ast.specs.declared.tree.CoreLink.TheOpen.{CoreStat-F}
use Rattle.core_ast.specs.Lawful as lawful
use Rattle.core_ast.specs.Lawful.{Round, Joint, Current, Plain, Property, Named, Hosted}
use Rattle.core_ast.specs.Made.{act, acting, expression, linked}
use Rattle.core_ast.specs.Walks.{along}
use Rattle.pass_rules.specs.Cells.{is_shared}
use Rattle.pass_rules.specs.Scopes as s
use Rattle.pass_rules.specs.Scopes.{Extends}
use Rattle.pass_rules.specs.pass_laws.Operations as ops
use Rattle.pass_rules.specs.pass_laws.Operations.{no_content}
use Rattle.pass_rules.proofs.pass_laws.Related.{Fold, Pair, of_link, of_stat, of_case, of_expr, in_link, in_stat, in_case, in_expr, link_rolled, stat_rolled, case_rolled, expr_rolled}
use Rattle.pass_rules.proofs.pass_laws.Induced.{Shows, Keeps, Links, Stats, Cases, Exprs, link_first, link_second, stat_first, stat_second, case_first, case_second, expr_first, expr_second, stat_induced}
use Rattle.pass_rules.proofs.pass_laws.Scopes.{flat}
use Rattle.pass_rules.proofs.pass_laws.Starts.{laws}
use Rattle.pass_rules.proofs.pass_laws.Within.{left, right, both, either}

abbrev pub plain : Fold
plain = record { Link = Bool; Stat = Bool; Case = Bool; Expr = Bool; link_step = ops.link_step no_content; stat_step = ops.stat_step; case_step = ops.case_step; expr_step = ops.expr_step }

-- ## Lawful nodes

abbrev joint : CoreLink → Joint
joint = of_link laws

abbrev joints : List CoreLink → List Joint
joints ls = map joint ls

strict_joint : (o : CoreOp) (parts : List CoreExpr) (site : Option Site) → joint (link.Strict o parts site) ≡ lawful.link_step (layer.Strict o (map (of_expr laws) parts) site)
strict_joint o parts site = ap joint (sym (link.rolls-Strict o parts site)) ∙ link_rolled laws (layer.Strict o parts site)

lazy_one : (w : When) (x : CoreExpr) → joint (link.Lazy w x None) ≡ lawful.link_step (layer.Lazy w (of_expr laws x) None)
lazy_one w x = ap joint (sym (link.rolls-Lazy w x None)) ∙ link_rolled laws (layer.Lazy w x None)

lazy_two : (w : When) (x y : CoreExpr) → joint (link.Lazy w x (Some y)) ≡ lawful.link_step (layer.Lazy w (of_expr laws x) (Some (of_expr laws y)))
lazy_two w x y = ap joint (sym (link.rolls-Lazy w x (Some y))) ∙ link_rolled laws (layer.Lazy w x (Some y))

run_joint : (body : List CoreStat) → joint (link.Run body) ≡ lawful.link_step (layer.Run (map (of_stat laws) body))
run_joint body = ap joint (sym (link.rolls-Run body)) ∙ link_rolled laws (layer.Run body)

-- ## Links so far: what is behind them, and how many sites they have

abbrev runs : Current → List Joint → Round → Bool
runs c [] round = true
runs c (l ∷ ls) round = (lawful.behind c l.ends && l.lawful round) && runs (lawful.after l.ends) ls round

abbrev ends_at : Current → List Joint → Current
ends_at c [] = c
ends_at c (l ∷ ls) = ends_at (lawful.after l.ends) ls

abbrev sites : List Joint → ℕ
sites ls = length (filter_map (λ l. l.site) ls)

runs_end : (c : Current) (ls : List Joint) (round : Round) → runs c ls round ≡ true → lawful.is_hosted (ends_at c ls) ≡ false → lawful.links_lawful c ls round ≡ true
runs_end c [] round h e = ap not e
runs_end c (l ∷ ls) round h e = both (left _ _ h) (runs_end (lawful.after l.ends) ls round (right _ _ h) e)

runs_more : (c : Current) (ls : List Joint) (k : Joint) (round : Round) → runs c ls round ≡ true → lawful.behind (ends_at c ls) k.ends ≡ true → k.lawful round ≡ true → runs c (ls ++ k ∷ []) round ≡ true
runs_more c [] k round h b m = both (both b m) refl
runs_more c (l ∷ ls) k round h b m = both (left _ _ h) (runs_more (lawful.after l.ends) ls k round (right _ _ h) b m)

ends_more : (c : Current) (ls : List Joint) (k : Joint) → ends_at c (ls ++ k ∷ []) ≡ lawful.after k.ends
ends_more c [] k = refl
ends_more c (l ∷ ls) k = ends_more (lawful.after l.ends) ls k

abbrev site_count : Option Site → ℕ
site_count None = 0
site_count (Some site) = 1

sites_by : (k : Joint) (site : Option Site) (ls : List Joint) → k.site ≡ site → sites (k ∷ ls) ≡ site_count site + sites ls
sites_by k None ls e = rw e (omega arith)
sites_by k (Some site) ls e = rw e (omega arith)

abbrev if_such : Option CoreOp → Bool
if_such None = true
if_such (Some o) = no_content o

-- the same, but for a name whose cell is read
data Fits : Current → Current → Type 0 where
  same : {c : Current} → Fits c c
  read : Fits Named Plain

fits_behind : (c d : Current) (o : CoreOp) → Fits c d → no_content o ≡ true → lawful.may_stand_behind c o ≡ true → lawful.may_stand_behind d o ≡ true
fits_behind c d o same h k = k
fits_behind c d op.Content read h k = absurd (false≢true h)
fits_behind c d op.SetContent read h k = absurd (false≢true h)
fits_behind c d o read h k = k

behind_fits : (c d : Current) (o : Option CoreOp) → Fits c d → if_such o ≡ true → lawful.behind c o ≡ true → lawful.behind d o ≡ true
behind_fits c d None same h k = k
behind_fits c d None read h k = refl
behind_fits c d (Some o) f h k = fits_behind c d o f h k

hosted_fits : (c d : Current) → Fits c d → lawful.is_hosted c ≡ false → lawful.is_hosted d ≡ false
hosted_fits c d same h = h
hosted_fits c d read h = refl

-- an expression so far, behind which an operation stands as behind this; with at most so many sites
record SoFar (round : Round) (at : Current) (n : ℕ) (x : CoreExpr) : Type 0 where
  site : is_none (out-CoreExpr x).site ≡ true
  head : lawful.head_lawful (out-CoreExpr x).head round ≡ true
  links : runs (lawful.begins (out-CoreExpr x).head) (joints (out-CoreExpr x).links) round ≡ true
  fits : Fits at (ends_at (lawful.begins (out-CoreExpr x).head) (joints (out-CoreExpr x).links))
  sites : sites (joints (out-CoreExpr x).links) ≤ n

joints_one : (ls : List CoreLink) (k : CoreLink) → joints (ls ++ k ∷ []) ≡ joints ls ++ joint k ∷ []
joints_one [] k = refl
joints_one (l ∷ ls) k = ap (λ js. joint l ∷ js) (joints_one ls k)

sites_more : (ls : List Joint) (k : Joint) → sites (ls ++ k ∷ []) ≡ sites ls + site_count k.site
sites_more [] k = let a = sites_by k k.site [] refl in omega arith
sites_more (l ∷ ls) k = let a = sites_by l l.site (ls ++ k ∷ []) refl in let b = sites_by l l.site ls refl in let c = sites_more ls k in omega arith

-- with one link more
linked_far : (round : Round) (at : Current) (n : ℕ) (x : CoreExpr) (k : CoreLink) → SoFar round at n x → lawful.behind at (joint k).ends ≡ true → if_such (joint k).ends ≡ true → (joint k).lawful round ≡ true
    → SoFar round (lawful.after (joint k).ends) (n + site_count (joint k).site) (linked x k)
linked_far round at n x k h b u m =
    let c = lawful.begins (out-CoreExpr x).head in let ls = (out-CoreExpr x).links in
    record {
      site = h.site;
      head = h.head;
      links = subst (λ js. runs c js round ≡ true) (sym (joints_one ls k)) (runs_more c (joints ls) (joint k) round h.links (behind_fits at (ends_at c (joints ls)) (joint k).ends h.fits u b) m);
      fits = subst (λ d. Fits (lawful.after (joint k).ends) d) (sym (ap (λ js. ends_at c js) (joints_one ls k) ∙ ends_more c (joints ls) (joint k))) same;
      sites = let a = ap sites (joints_one ls k) in let d = sites_more (joints ls) (joint k) in let e = h.sites in omega arith;
    }

unhosted : (b : Bool) → not b ≡ true → b ≡ false
unhosted true h = sym h
unhosted false h = refl

-- an expression that is done is lawful
done_is : (round : Round) (at : Current) (x : CoreExpr) → SoFar round at 1 x → lawful.is_hosted at ≡ false → of_expr laws x round ≡ true
done_is round at x h e =
    let c = lawful.begins (out-CoreExpr x).head in let ls = (out-CoreExpr x).links in
    ap (λ t. t round) (fold_out-CoreExpr laws.Link laws.Stat laws.Case laws.Expr laws.link_step laws.stat_step laws.case_step laws.expr_step x)
    ∙ both (both (both h.site h.head) (runs_end c (joints ls) round h.links (hosted_fits at (ends_at c (joints ls)) h.fits e))) (le-leb _ 1 h.sites)

-- ## What is made

far_by : (round : Round) (at : Current) (n : ℕ) (site : Option Site) (h : CoreHead) (ls : List CoreLink) (js : List Joint) → joints ls ≡ js → is_none site ≡ true → lawful.head_lawful h round ≡ true
    → runs (lawful.begins h) js round ≡ true → Fits at (ends_at (lawful.begins h) js) → sites js ≤ n → SoFar round at n (expression site h ls)
far_by round at n site h ls js e a b r f m = record {
  site = a;
  head = b;
  links = subst (λ ks. runs (lawful.begins h) ks round ≡ true) (sym e) r;
  fits = subst (λ ks. Fits at (ends_at (lawful.begins h) ks)) (sym e) f;
  sites = subst (λ ks. sites ks ≤ n) (sym e) m;
}

joints_cons : (l : CoreLink) (j : Joint) (ls : List CoreLink) (js : List Joint) → joint l ≡ j → joints ls ≡ js → joints (l ∷ ls) ≡ j ∷ js
joints_cons l j ls js e d = ap (λ k. k ∷ joints ls) e ∙ ap (λ ks. j ∷ ks) d

strict_far : (round : Round) (at : Current) (n : ℕ) (o : CoreOp) (parts : List CoreExpr) (site : Option Site) (e : CoreExpr) → lawful.behind at (Some o) ≡ true → no_content o ≡ true
    → lawful.takes o (length (map (of_expr laws) parts)) ≡ true → lawful.op_lawful o round ≡ true → lawful.all_lawful (map (of_expr laws) parts) round ≡ true → SoFar round at n e
    → SoFar round (lawful.after (Some o)) (n + site_count site) (linked e (link.Strict o parts site))
strict_far round at n o parts site e b u t m q h =
    let k = link.Strict o parts site in let j = strict_joint o parts site in
    subst (λ i. SoFar round (lawful.after i.ends) (n + site_count i.site) (linked e k)) j
    (linked_far round at n e k h (ap (λ i. lawful.behind at i.ends) j ∙ b) (ap (λ i. if_such i.ends) j ∙ u) (ap (λ i. i.lawful round) j ∙ both (both t m) q))

stored_far : (round : Round) (n : ℕ) (x : Var) (e : CoreExpr) → lawful.is_drawn round x ≡ true → of_expr laws e round ≡ true → SoFar round Plain n (s.stored x e)
stored_far round n x e d h = far_by round Plain n None (head.Variable x) (acting op.SetContent e ∷ []) (lawful.link_step (layer.Strict op.SetContent (of_expr laws e ∷ []) None) ∷ [])
    (joints_cons _ _ [] [] (strict_joint op.SetContent (e ∷ []) None) refl) refl d (both (both refl (both (both refl refl) (both h refl))) refl) same (omega arith)

done_by : (round : Round) (x : CoreExpr) → SoFar round Plain 1 x → of_expr laws x round ≡ true
done_by round x h = done_is round Plain x h refl

act_joint : (o : CoreOp) → joint (act o) ≡ lawful.link_step (layer.Strict o [] None)
act_joint o = strict_joint o [] None

reset_lawful : (round : Round) (n : ScopedName) → lawful.is_drawn round n.var ≡ true → of_stat laws (s.reset n) round ≡ true
reset_lawful round n d = ap (λ t. t round) (ap (of_stat laws) (sym (stat.rolls-Do _)) ∙ stat_rolled laws (layer.Do _)) ∙
    either (λ ls. of_expr laws (expression None head.Empty ls) round ≡ true) n.shared {x = act (op.Primitive (CellMake n.var)) ∷ act (op.Set n.var) ∷ []} {y = act (op.Init n.var) ∷ []}
    (done_by round _ (far_by round Plain 1 None head.Empty (act (op.Primitive (CellMake n.var)) ∷ act (op.Set n.var) ∷ []) _
    (joints_cons _ _ (act (op.Set n.var) ∷ []) _ (act_joint (op.Primitive (CellMake n.var))) (joints_cons _ _ [] [] (act_joint (op.Set n.var)) refl)) refl refl
    (both (both refl (both (both refl d) refl)) (both (both refl (both (both refl d) refl)) refl)) same (omega arith)))
    (done_by round _ (far_by round Plain 1 None head.Empty (act (op.Init n.var) ∷ []) _ (joints_cons _ _ [] [] (act_joint (op.Init n.var)) refl) refl refl (both (both refl (both (both refl d) refl)) refl) same (omega arith)))

copied_part : (round : Round) (x : Var) → lawful.is_drawn round x ≡ true → of_expr laws (expression None (head.Variable x) (act op.Content ∷ act (op.Primitive (CellMake x)) ∷ act (op.Set x) ∷ [])) round ≡ true
copied_part round x d = done_by round _ (far_by round Plain 1 None (head.Variable x) (act op.Content ∷ act (op.Primitive (CellMake x)) ∷ act (op.Set x) ∷ []) _
    (joints_cons _ _ (act (op.Primitive (CellMake x)) ∷ act (op.Set x) ∷ []) _ (act_joint op.Content) (joints_cons _ _ (act (op.Set x) ∷ []) _ (act_joint (op.Primitive (CellMake x))) (joints_cons _ _ [] [] (act_joint (op.Set x)) refl))) refl d
    (both (both refl (both (both refl refl) refl)) (both (both refl (both (both refl d) refl)) (both (both refl (both (both refl d) refl)) refl))) same (omega arith))

record CopiesAre (round : Round) (ls : List CoreLink) : Type 0 where
  links : runs Plain (joints ls) round ≡ true
  ends : ends_at Plain (joints ls) ≡ Plain
  sites : sites (joints ls) ≤ 0

copies_cons : (round : Round) (x : Var) (ls : List CoreLink) → lawful.is_drawn round x ≡ true → CopiesAre round ls → CopiesAre round (s.copied x ∷ ls)
copies_cons round x ls d h =
    let part = expression None (head.Variable x) (act op.Content ∷ act (op.Primitive (CellMake x)) ∷ act (op.Set x) ∷ []) in
    let j = strict_joint op.Then (part ∷ []) None in
    let e = joints_cons (s.copied x) (lawful.link_step (layer.Strict op.Then (of_expr laws part ∷ []) None)) ls (joints ls) j refl in
    record {
      links = subst (λ ks. runs Plain ks round ≡ true) (sym e) (both (both refl (both (both refl refl) (both (copied_part round x d) refl))) h.links);
      ends = subst (λ ks. ends_at Plain ks ≡ Plain) (sym e) h.ends;
      sites = subst (λ ks. sites ks ≤ 0) (sym e) h.sites;
    }

copies_are : (round : Round) (owners : List ℕ) (xs : List Var) → list_all (lawful.is_drawn round) xs ≡ true → CopiesAre round (s.copies owners xs)
copies_are round owners [] h = record { links = refl; ends = refl; sites = omega arith }
copies_are round owners (x ∷ xs) h = either (CopiesAre round) (is_shared owners x) {x = s.copied x ∷ s.copies owners xs} {y = s.copies owners xs}
    (copies_cons round x (s.copies owners xs) (left _ _ h) (copies_are round owners xs (right _ _ h))) (copies_are round owners xs (right _ _ h))

begun_far : (round : Round) (owners : List ℕ) (site : Option Site) (h : CoreHead) → is_none site ≡ true → lawful.head_lawful h round ≡ true → SoFar round (lawful.begins h) 0 (s.begun owners site h)
unfolding s.begun
begun_far round owners site (head.Variable x) a b = either (λ ls. SoFar round Named 0 (expression site (head.Variable x) ls)) (is_shared owners x) {x = act op.Content ∷ []} {y = []}
    (far_by round Named 0 site (head.Variable x) (act op.Content ∷ []) _ (joints_cons _ _ [] [] (act_joint op.Content) refl) a b (both (both refl (both (both refl refl) refl)) refl) read (omega arith))
    (far_by round Named 0 site (head.Variable x) [] [] refl a b refl same (omega arith))
begun_far round owners site (head.Copy xs) a b =
    let c = copies_are round owners xs b in
    far_by round Plain 0 site (head.Constant Undefined) (s.copies owners xs) (joints (s.copies owners xs)) refl a refl c.links (subst (λ d. Fits Plain d) (sym c.ends) same) c.sites
begun_far round owners site h a b = far_by round (lawful.begins h) 0 site h [] [] refl a b refl same (omega arith)

-- ## What is shown of each node

abbrev OfLink : CoreLink → Extends CoreExpr → Type 0
OfLink x f = (round : Round) (at : Current) (n : ℕ) → lawful.behind at (joint x).ends ≡ true → (joint x).lawful round ≡ true → of_link plain x ≡ true → n + site_count (joint x).site ≤ 1
    → (e : CoreExpr) → SoFar round at n e → SoFar round (lawful.after (joint x).ends) (n + site_count (joint x).site) (f e)

abbrev OfStat : CoreStat → Extends (List CoreStat) → Type 0
OfStat x f = (round : Round) → of_stat laws x round ≡ true → of_stat plain x ≡ true → (xs : List CoreStat) → lawful.stats_lawful xs round ≡ true → lawful.stats_lawful (f xs) round ≡ true

abbrev OfCase : CoreCase → CoreCase → Type 0
OfCase x c = (round : Round) → of_case laws x round ≡ true → of_case plain x ≡ true → of_case laws c round ≡ true

abbrev OfExpr : CoreExpr → CoreExpr → Type 0
OfExpr x e = (round : Round) → of_expr laws x round ≡ true → of_expr plain x ≡ true → of_expr laws e round ≡ true

abbrev shown : (owners : List ℕ) → Shows (flat owners)
shown owners = record { Link = OfLink; Stat = OfStat; Case = OfCase; Expr = OfExpr }

-- ## Lists

stats_kept : (ps : List (Pair OfStat)) (round : Round) → lawful.all_lawful (map (of_stat laws) (map (λ q. q.0) ps)) round ≡ true → ops.every (map (of_stat plain) (map (λ q. q.0) ps)) ≡ true → (xs : List CoreStat)
    → lawful.stats_lawful xs round ≡ true → lawful.stats_lawful (along (map (λ q. q.1) ps) xs) round ≡ true
stats_kept [] round h u xs k = k
stats_kept (q ∷ ps) round h u xs k = stats_kept ps round (right _ _ h) (right _ _ u) (q.1 xs) (q.2 round (left _ _ h) (left _ _ u) xs k)

parts_kept : (ps : List (Pair OfExpr)) (round : Round) → lawful.all_lawful (map (of_expr laws) (map (λ q. q.0) ps)) round ≡ true → ops.every (map (of_expr plain) (map (λ q. q.0) ps)) ≡ true → lawful.all_lawful (map (of_expr laws) (map (λ q. q.1) ps)) round ≡ true
parts_kept [] round h u = refl
parts_kept (q ∷ ps) round h u = both (q.2 round (left _ _ h) (left _ _ u)) (parts_kept ps round (right _ _ h) (right _ _ u))

cases_kept : (ps : List (Pair OfCase)) (round : Round) → lawful.all_lawful (map (of_case laws) (map (λ q. q.0) ps)) round ≡ true → ops.every (map (of_case plain) (map (λ q. q.0) ps)) ≡ true → lawful.all_lawful (map (of_case laws) (map (λ q. q.1) ps)) round ≡ true
cases_kept [] round h u = refl
cases_kept (q ∷ ps) round h u = both (q.2 round (left _ _ h) (left _ _ u)) (cases_kept ps round (right _ _ h) (right _ _ u))

-- the end of links, and its being no host
links_kept : (ps : List (Pair OfLink)) (at : Current) (n : ℕ) (round : Round) → lawful.links_lawful at (joints (map (λ q. q.0) ps)) round ≡ true → ops.every (map (of_link plain) (map (λ q. q.0) ps)) ≡ true
    → n + sites (joints (map (λ q. q.0) ps)) ≤ 1 → (e : CoreExpr) → SoFar round at n e → of_expr laws (along (map (λ q. q.1) ps) e) round ≡ true
links_kept [] at n round h u m e k = done_is round at e (record { site = k.site; head = k.head; links = k.links; fits = k.fits; sites = let a = k.sites in omega arith }) (unhosted (lawful.is_hosted at) h)
links_kept (q ∷ ps) at n round h u m e k =
    let a = sites_by (joint q.0) (joint q.0).site (joints (map (λ r. r.0) ps)) refl in
    links_kept ps (lawful.after (joint q.0).ends) (n + site_count (joint q.0).site) round (right _ _ h) (right _ _ u) (omega arith) (q.1 e)
    (q.2 round at n (left _ _ (left _ _ h)) (right _ _ (left _ _ h)) (left _ _ u) (omega arith) e k)

same_length : (ps : List (Pair OfExpr)) → length (map (of_expr laws) (map (λ q. q.0) ps)) ≡ length (map (of_expr laws) (map (λ q. q.1) ps))
same_length [] = refl
same_length (q ∷ ps) = ap (λ n. suc n) (same_length ps)

-- ## Strict links

far_more : (round : Round) (at : Current) (n m : ℕ) (x : CoreExpr) → n ≤ m → SoFar round at n x → SoFar round at m x
far_more round at n m x h k = record { site = k.site; head = k.head; links = k.links; fits = k.fits; sites = let a = k.sites in omega arith }

written_far : (round : Round) (at : Current) (n : ℕ) (o : CoreOp) (x : Var) (parts : List CoreExpr) (site : Option Site) (e : CoreExpr) (b : Bool) → lawful.after (Some o) ≡ Plain → lawful.is_drawn round x ≡ true → lawful.is_hosted at ≡ false
    → n + site_count site ≤ 1 → SoFar round at n e → SoFar round (lawful.after (Some o)) (n + site_count site) (linked e (link.Strict o parts site))
    → SoFar round (lawful.after (Some o)) (n + site_count site) (cond b (s.stored x e) (linked e (link.Strict o parts site)))
written_far round at n o x parts site e true a d g m h k = subst (λ c. SoFar round c (n + site_count site) (s.stored x e)) (sym a) (stored_far round (n + site_count site) x e d (done_is round at e (far_more round at n 1 e (omega arith) h) g))
written_far round at n o x parts site e false a d g m h k = k

strict_kept : (round : Round) (owners : List ℕ) (at : Current) (n : ℕ) (o : CoreOp) (parts : List CoreExpr) (site : Option Site) (e : CoreExpr) → lawful.behind at (Some o) ≡ true → no_content o ≡ true
    → lawful.takes o (length (map (of_expr laws) parts)) ≡ true → lawful.op_lawful o round ≡ true → lawful.all_lawful (map (of_expr laws) parts) round ≡ true → n + site_count site ≤ 1 → SoFar round at n e
    → SoFar round (lawful.after (Some o)) (n + site_count site) (s.strict owners o parts site e)
unfolding s.strict
strict_kept round owners at n (op.Set x) parts site e b u t m q l h = written_far round at n (op.Set x) x parts site e (is_shared owners x) refl m (unhosted (lawful.is_hosted at) b) l h (strict_far round at n (op.Set x) parts site e b u t m q h)
strict_kept round owners at n (op.Init x) parts site e b u t m q l h = written_far round at n (op.Init x) x parts site e (is_shared owners x) refl m (unhosted (lawful.is_hosted at) b) l h (strict_far round at n (op.Init x) parts site e b u t m q h)
strict_kept round owners at n o parts site e b u t m q l h = strict_far round at n o parts site e b u t m q h

-- ## The steps

lazy_far : (round : Round) (at : Current) (n : ℕ) (e : CoreExpr) (k : CoreLink) (j : Joint) → joint k ≡ j → j.ends ≡ None → j.site ≡ None → lawful.behind at None ≡ true → j.lawful round ≡ true → SoFar round at n e → SoFar round Plain (n + 0) (linked e k)
lazy_far round at n e k j d a c b m h =
    let e2 = ap (λ i. i.ends) d ∙ a in let c2 = ap (λ i. i.site) d ∙ c in
    subst (λ o. SoFar round (lawful.after o) (n + 0) (linked e k)) e2 (subst (λ o. SoFar round (lawful.after (joint k).ends) (n + site_count o) (linked e k)) c2
    (linked_far round at n e k h (ap (λ o. lawful.behind at o) e2 ∙ b) (ap (λ o. if_such o) e2) (ap (λ i. i.lawful round) d ∙ m)))

link_by : (owners : List ℕ) (z : Links (shown owners)) (round : Round) (at : Current) (n : ℕ) → lawful.behind at (lawful.link_step (in_link laws (link_first (shown owners) z))).ends ≡ true → (lawful.link_step (in_link laws (link_first (shown owners) z))).lawful round ≡ true
    → ops.link_step no_content (in_link plain (link_first (shown owners) z)) ≡ true → n + site_count (lawful.link_step (in_link laws (link_first (shown owners) z))).site ≤ 1 → (e : CoreExpr) → SoFar round at n e
    → SoFar round (lawful.after (lawful.link_step (in_link laws (link_first (shown owners) z))).ends) (n + site_count (lawful.link_step (in_link laws (link_first (shown owners) z))).site) (s.link_step owners (link_second (shown owners) z) e)
link_by owners (layer.Strict o parts site) round at n b h u l e k = strict_kept round owners at n o (map (λ q. q.1) parts) site e b (left _ _ u)
    (ap (lawful.takes o) (sym (same_length parts)) ∙ left _ _ (left _ _ h)) (right _ _ (left _ _ h)) (parts_kept parts round (right _ _ h) (right _ _ u)) l k
link_by owners (layer.Lazy w taken None) round at n b h u l e k = lazy_far round at n e _ _ (lazy_one w taken.1) refl refl b (both (taken.2 round (left _ _ h) (left _ _ u)) refl) k
link_by owners (layer.Lazy w taken (Some other)) round at n b h u l e k = lazy_far round at n e _ _ (lazy_two w taken.1 other.1) refl refl b (both (taken.2 round (left _ _ h) (left _ _ u)) (other.2 round (right _ _ h) (right _ _ u))) k
link_by owners (layer.Run body) round at n b h u l e k = lazy_far round at n e _ _ (run_joint (along (map (λ q. q.1) body) [])) refl refl b (stats_kept body round h u [] refl) k

link_kept : (owners : List ℕ) (z : Links (shown owners)) → OfLink (roll-CoreLink (link_first (shown owners) z)) (s.link_step owners (link_second (shown owners) z))
link_kept owners z round at n b h u l e k =
    let d = link_rolled laws (link_first (shown owners) z) in
    subst (λ j. SoFar round (lawful.after j.ends) (n + site_count j.site) (s.link_step owners (link_second (shown owners) z) e)) (sym d)
    (link_by owners z round at n (ap (λ j. lawful.behind at j.ends) (sym d) ∙ b) (ap (λ j. j.lawful round) (sym d) ∙ h) (sym (link_rolled plain (link_first (shown owners) z)) ∙ u)
    (subst (λ j. n + site_count j.site ≤ 1) d l) e k)

expr_by : (owners : List ℕ) (z : Exprs (shown owners)) (round : Round) → lawful.expr_step (in_expr laws (expr_first (shown owners) z)) round ≡ true → ops.expr_step (in_expr plain (expr_first (shown owners) z)) ≡ true
    → of_expr laws (s.expr_step owners (expr_second (shown owners) z)) round ≡ true
expr_by owners z round h u =
    let m = leb-true (sites (joints (map (λ q. q.0) z.links))) 1 (right _ _ h) in
    links_kept z.links (lawful.begins z.head) 0 round (right _ _ (left _ _ h)) u (omega arith) (s.begun owners z.site z.head)
    (begun_far round owners z.site z.head (left _ _ (left _ _ (left _ _ h))) (right _ _ (left _ _ (left _ _ h))))

expr_kept : (owners : List ℕ) (z : Exprs (shown owners)) → OfExpr (roll-CoreExpr (expr_first (shown owners) z)) (s.expr_step owners (expr_second (shown owners) z))
expr_kept owners z round h u = expr_by owners z round (ap (λ t. t round) (sym (expr_rolled laws (expr_first (shown owners) z))) ∙ h) (sym (expr_rolled plain (expr_first (shown owners) z)) ∙ u)

case_by : (owners : List ℕ) (test : Option (Pair OfExpr)) (body : List (Pair OfStat)) (round : Round) → lawful.case_step (in_case laws (case_first (shown owners) (record { test = test; body = body }))) round ≡ true → ops.case_step (in_case plain (case_first (shown owners) (record { test = test; body = body }))) ≡ true
    → of_case laws (s.case_step (case_second (shown owners) (record { test = test; body = body }))) round ≡ true
case_by owners None body round h u = ap (λ t. t round) (case_rolled laws (record { test = None; body = along (map (λ q. q.1) body) [] })) ∙ stats_kept body round h u [] refl
case_by owners (Some t) body round h u = ap (λ c. c round) (case_rolled laws (record { test = Some t.1; body = along (map (λ q. q.1) body) [] })) ∙ both (t.2 round (left _ _ h) (left _ _ u)) (stats_kept body round (right _ _ h) (right _ _ u) [] refl)

case_kept : (owners : List ℕ) (z : Cases (shown owners)) → OfCase (roll-CoreCase (case_first (shown owners) z)) (s.case_step (case_second (shown owners) z))
case_kept owners z round h u = case_by owners z.test z.body round (ap (λ t. t round) (sym (case_rolled laws (case_first (shown owners) z))) ∙ h) (sym (case_rolled plain (case_first (shown owners) z)) ∙ u)

then_lawful : (xs : List CoreStat) (x : CoreStat) (round : Round) → lawful.stats_lawful xs round ≡ true → of_stat laws x round ≡ true → lawful.stats_lawful (s.then xs x) round ≡ true
then_lawful [] x round h k = both k refl
then_lawful (y ∷ xs) x round h k = both (left _ _ h) (then_lawful xs x round (right _ _ h) k)

more_lawful : (xs ys : List CoreStat) (round : Round) → lawful.stats_lawful xs round ≡ true → lawful.stats_lawful ys round ≡ true → lawful.stats_lawful (xs ++ ys) round ≡ true
more_lawful [] ys round h k = k
more_lawful (x ∷ xs) ys round h k = both (left _ _ h) (more_lawful xs ys round (right _ _ h) k)

resets_lawful : (round : Round) (names : List ScopedName) → lawful.names_drawn names round ≡ true → lawful.stats_lawful (map s.reset names) round ≡ true
resets_lawful round [] h = refl
resets_lawful round (n ∷ names) h = both (reset_lawful round n (left _ _ h)) (resets_lawful round names (right _ _ h))

entered_lawful : (round : Round) (names : List ScopedName) (xs : List CoreStat) → lawful.names_drawn names round ≡ true → lawful.stats_lawful xs round ≡ true → lawful.stats_lawful (s.entered names xs) round ≡ true
entered_lawful round names xs h k = more_lawful xs (map s.reset names) round k (resets_lawful round names h)

-- a node is lawful as its layer is
rolled_is : (round : Round) (x : CoreStat) (y : CoreStat-F CoreLink CoreStat CoreCase CoreExpr) → roll-CoreStat y ≡ x → lawful.stat_step (in_stat laws y) round ≡ true → of_stat laws x round ≡ true
rolled_is round x y e h = ap (λ z. of_stat laws z round) (sym e) ∙ ap (λ t. t round) (stat_rolled laws y) ∙ h

stat_by : (owners : List ℕ) (z : Stats (shown owners)) (round : Round) → lawful.stat_step (in_stat laws (stat_first (shown owners) z)) round ≡ true → ops.stat_step (in_stat plain (stat_first (shown owners) z)) ≡ true → (xs : List CoreStat) → lawful.stats_lawful xs round ≡ true
    → lawful.stats_lawful (s.stat_step (stat_second (shown owners) z) xs) round ≡ true
stat_by owners (layer.Do x) round h u xs k = then_lawful xs _ round k (rolled_is round _ _ (stat.rolls-Do x.1) (x.2 round h u))
stat_by owners (layer.If cases) round h u xs k = then_lawful xs _ round k (rolled_is round _ _ (stat.rolls-If (map (λ q. q.1) cases)) (cases_kept cases round h u))
stat_by owners (layer.Switch subject cases) round h u xs k = then_lawful xs _ round k (rolled_is round _ _ (stat.rolls-Switch subject.1 (map (λ q. q.1) cases)) (both (subject.2 round (left _ _ h) (left _ _ u)) (cases_kept cases round (right _ _ h) (right _ _ u))))
stat_by owners (layer.Loop labels None None body) round h u xs k = then_lawful xs _ round k (rolled_is round _ _ (stat.rolls-Loop labels None None (along (map (λ q. q.1) body) []))
    (both (left _ _ h) (stats_kept body (lawful.in_loop labels round) (right _ _ h) u [] refl)))
stat_by owners (layer.Loop labels None (Some v) body) round h u xs k = then_lawful xs _ round k (rolled_is round _ _ (stat.rolls-Loop labels None (Some v.1) (along (map (λ q. q.1) body) []))
    (both (both (left _ _ (left _ _ h)) (v.2 round (right _ _ (left _ _ h)) (left _ _ u))) (stats_kept body (lawful.in_loop labels round) (right _ _ h) (right _ _ u) [] refl)))
stat_by owners (layer.Loop labels (Some t) None body) round h u xs k = then_lawful xs _ round k (rolled_is round _ _ (stat.rolls-Loop labels (Some t.1) None (along (map (λ q. q.1) body) []))
    (both (both (both (left _ _ (left _ _ (left _ _ h))) (t.2 round (right _ _ (left _ _ (left _ _ h))) (left _ _ (left _ _ u)))) refl) (stats_kept body (lawful.in_loop labels round) (right _ _ h) (right _ _ u) [] refl)))
stat_by owners (layer.Loop labels (Some t) (Some v) body) round h u xs k = then_lawful xs _ round k (rolled_is round _ _ (stat.rolls-Loop labels (Some t.1) (Some v.1) (along (map (λ q. q.1) body) []))
    (both (both (both (left _ _ (left _ _ (left _ _ h))) (t.2 round (right _ _ (left _ _ (left _ _ h))) (left _ _ (left _ _ u)))) (v.2 round (right _ _ (left _ _ h)) (right _ _ (left _ _ u)))) (stats_kept body (lawful.in_loop labels round) (right _ _ h) (right _ _ u) [] refl)))
stat_by owners (layer.Labelled label body) round h u xs k = then_lawful xs _ round k (rolled_is round _ _ (stat.rolls-Labelled label (along (map (λ q. q.1) body) [])) (both (left _ _ h) (stats_kept body (lawful.under label round) (right _ _ h) u [] refl)))
stat_by owners (layer.Jump goes_on label) round h u xs k = then_lawful xs _ round k (rolled_is round _ _ (stat.rolls-Jump goes_on label) h)
stat_by owners (layer.Return x) round h u xs k = then_lawful xs _ round k (rolled_is round _ _ (stat.rolls-Return x.1) (both (left _ _ h) (x.2 round (right _ _ h) u)))
stat_by owners (layer.Throw x) round h u xs k = then_lawful xs _ round k (rolled_is round _ _ (stat.rolls-Throw x.1) (x.2 round h u))
stat_by owners (layer.TryCatch block parameter names handler) round h u xs k = then_lawful xs _ round k
    (rolled_is round _ _ (stat.rolls-TryCatch (along (map (λ q. q.1) block) []) parameter [] (along (map (λ q. q.1) handler) (s.entered names [])))
    (both (both (both (stats_kept block round (left _ _ (left _ _ (left _ _ h))) (left _ _ u) [] refl) (right _ _ (left _ _ (left _ _ h)))) refl)
    (stats_kept handler round (right _ _ h) (right _ _ u) (s.entered names []) (entered_lawful round names [] (right _ _ (left _ _ h)) refl))))
stat_by owners (layer.TryFinally block last) round h u xs k = then_lawful xs _ round k (rolled_is round _ _ (stat.rolls-TryFinally (along (map (λ q. q.1) block) []) (along (map (λ q. q.1) last) []))
    (both (stats_kept block round (left _ _ h) (left _ _ u) [] refl) (stats_kept last round (right _ _ h) (right _ _ u) [] refl)))
stat_by owners (layer.Scoped names body) round h u xs k = stats_kept body round (right _ _ h) u (s.entered names xs) (entered_lawful round names xs (left _ _ h) k)
stat_by owners (layer.Yield value kind result) round h u xs k = then_lawful xs _ round k (rolled_is round _ _ (stat.rolls-Yield value.1 kind result)
    (both (both (both (left _ _ (left _ _ (left _ _ h))) (value.2 round (right _ _ (left _ _ (left _ _ h))) u)) (right _ _ (left _ _ h))) (right _ _ h)))

stat_kept : (owners : List ℕ) (z : Stats (shown owners)) → OfStat (roll-CoreStat (stat_first (shown owners) z)) (s.stat_step (stat_second (shown owners) z))
stat_kept owners z round h u xs k = stat_by owners z round (ap (λ t. t round) (sym (stat_rolled laws (stat_first (shown owners) z))) ∙ h) (sym (stat_rolled plain (stat_first (shown owners) z)) ∙ u) xs k

kept : (owners : List ℕ) → Keeps (shown owners)
kept owners = record { link = link_kept owners; stat = stat_kept owners; case = case_kept owners; expr = expr_kept owners }

pub stats_stay_lawful : (owners : List ℕ) (ss xs : List CoreStat) (round : Round) → lawful.stats_lawful ss round ≡ true → ops.stats_such no_content ss ≡ true → lawful.stats_lawful xs round ≡ true → lawful.stats_lawful (along (map (s.stat_flat owners) ss) xs) round ≡ true
stats_stay_lawful owners [] xs round h u k = k
stats_stay_lawful owners (x ∷ ss) xs round h u k = stats_stay_lawful owners ss (s.stat_flat owners x xs) round (right _ _ h) (right _ _ u) (stat_induced (shown owners) (kept owners) x round (left _ _ h) (left _ _ u) xs k)
