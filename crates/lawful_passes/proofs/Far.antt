-- Lawful expressions so far, and lawful statements that the flattening of yields makes.
use Rattle.std.specs.List.{filter_map}
use Rattle.std.proofs.Common.{◌≡◌, ℕ, ◌+◌, ◌≤◌, Bool, true, false, ◌&&◌, not, List, [], ◌∷◌, ◌++◌, map, length, Option, None, Some, is_none, refl, sym, ap, arith, subst, ◌∙◌}
use Rattle.std.proofs.lemmas.Bool.{le-leb}
use Rattle.es_outside.specs.declared.events.Site.{Site}
use Rattle.core_ast.specs.declared.parts.Var.{Var}
use Rattle.core_ast.specs.declared.parts.Label.{Label}
use Rattle.core_ast.specs.declared.parts.When.{When}
use Rattle.core_ast.specs.declared.parts.Constant.{Constant}
use Rattle.core_ast.specs.declared.parts.Constant.TheVariants.{Integer}
use Rattle.core_ast.specs.declared.parts.CoreHead.{CoreHead}
use Rattle.core_ast.specs.declared.parts.CoreHead.TheVariants as head
use Rattle.core_ast.specs.declared.parts.CoreOp.{CoreOp}
use Rattle.core_ast.specs.declared.parts.CoreOp.TheVariants as op
use Rattle.core_ast.specs.declared.tree.CoreLink.{CoreLink}
use Rattle.core_ast.specs.declared.tree.CoreStat.{CoreStat, roll-CoreStat}
use Rattle.core_ast.specs.declared.tree.CoreCase.{CoreCase}
use Rattle.core_ast.specs.declared.tree.CoreExpr.{CoreExpr, out-CoreExpr, fold_out-CoreExpr}
use Rattle.core_ast.specs.declared.tree.CoreLink.TheVariants as link
use Rattle.core_ast.specs.declared.tree.CoreStat.TheVariants as stat
use Rattle.core_ast.specs.declared.tree.CoreLink.TheOpen as layer
use Rattle.core_ast.specs.declared.tree.CoreLink.TheOpen.{CoreStat-F}
use Rattle.core_ast.specs.Lawful as lawful
use Rattle.core_ast.specs.Lawful.{Round, Joint, Current, Plain, Property, Named, Hosted}
use Rattle.core_ast.specs.Made.{act, acting, constant, expression, linked, variable}
use Rattle.pass_rules.specs.yield_rules.Yields.{case_of, number, when}
use Rattle.pass_rules.proofs.pass_laws.Related.{of_link, of_stat, of_case, of_expr, in_stat, link_rolled, stat_rolled, case_rolled}
use Rattle.pass_rules.proofs.pass_laws.Starts.{laws}
use Rattle.pass_rules.proofs.pass_laws.Within.{left, right, both}

-- ## Links

abbrev pub joint : CoreLink → Joint
joint = of_link laws

abbrev pub joints : List CoreLink → List Joint
joints ls = map joint ls

pub strict_joint : (o : CoreOp) (parts : List CoreExpr) (site : Option Site) → joint (link.Strict o parts site) ≡ lawful.link_step (layer.Strict o (map (of_expr laws) parts) site)
strict_joint o parts site = ap joint (sym (link.rolls-Strict o parts site)) ∙ link_rolled laws (layer.Strict o parts site)

pub lazy_one : (w : When) (x : CoreExpr) → joint (link.Lazy w x None) ≡ lawful.link_step (layer.Lazy w (of_expr laws x) None)
lazy_one w x = ap joint (sym (link.rolls-Lazy w x None)) ∙ link_rolled laws (layer.Lazy w x None)

pub lazy_two : (w : When) (x y : CoreExpr) → joint (link.Lazy w x (Some y)) ≡ lawful.link_step (layer.Lazy w (of_expr laws x) (Some (of_expr laws y)))
lazy_two w x y = ap joint (sym (link.rolls-Lazy w x (Some y))) ∙ link_rolled laws (layer.Lazy w x (Some y))

abbrev pub runs : Current → List Joint → Round → Bool
runs c [] round = true
runs c (l ∷ ls) round = (lawful.behind c l.ends && l.lawful round) && runs (lawful.after l.ends) ls round

abbrev pub ends_at : Current → List Joint → Current
ends_at c [] = c
ends_at c (l ∷ ls) = ends_at (lawful.after l.ends) ls

abbrev pub sites : List Joint → ℕ
sites ls = length (filter_map (λ l. l.site) ls)

abbrev pub site_count : Option Site → ℕ
site_count None = 0
site_count (Some site) = 1

runs_end : (c : Current) (ls : List Joint) (round : Round) → runs c ls round ≡ true → lawful.is_hosted (ends_at c ls) ≡ false → lawful.links_lawful c ls round ≡ true
runs_end c [] round h e = ap not e
runs_end c (l ∷ ls) round h e = both (left _ _ h) (runs_end (lawful.after l.ends) ls round (right _ _ h) e)

runs_more : (c : Current) (ls : List Joint) (k : Joint) (round : Round) → runs c ls round ≡ true → lawful.behind (ends_at c ls) k.ends ≡ true → k.lawful round ≡ true → runs c (ls ++ k ∷ []) round ≡ true
runs_more c [] k round h b m = both (both b m) refl
runs_more c (l ∷ ls) k round h b m = both (left _ _ h) (runs_more (lawful.after l.ends) ls k round (right _ _ h) b m)

ends_more : (c : Current) (ls : List Joint) (k : Joint) → ends_at c (ls ++ k ∷ []) ≡ lawful.after k.ends
ends_more c [] k = refl
ends_more c (l ∷ ls) k = ends_more (lawful.after l.ends) ls k

pub sites_by : (k : Joint) (site : Option Site) (ls : List Joint) → k.site ≡ site → sites (k ∷ ls) ≡ site_count site + sites ls
sites_by k None ls e = rw e (omega arith)
sites_by k (Some site) ls e = rw e (omega arith)

sites_more : (ls : List Joint) (k : Joint) → sites (ls ++ k ∷ []) ≡ sites ls + site_count k.site
sites_more [] k = let a = sites_by k k.site [] refl in omega arith
sites_more (l ∷ ls) k = let a = sites_by l l.site (ls ++ k ∷ []) refl in let b = sites_by l l.site ls refl in let c = sites_more ls k in omega arith

joints_one : (ls : List CoreLink) (k : CoreLink) → joints (ls ++ k ∷ []) ≡ joints ls ++ joint k ∷ []
joints_one [] k = refl
joints_one (l ∷ ls) k = ap (λ js. joint l ∷ js) (joints_one ls k)

-- ## An expression so far: what is current behind it, and at most so many sites

pub record SoFar (round : Round) (at : Current) (n : ℕ) (x : CoreExpr) : Type 0 where
  pub site : is_none (out-CoreExpr x).site ≡ true
  pub head : lawful.head_lawful (out-CoreExpr x).head round ≡ true
  pub links : runs (lawful.begins (out-CoreExpr x).head) (joints (out-CoreExpr x).links) round ≡ true
  pub ends : ends_at (lawful.begins (out-CoreExpr x).head) (joints (out-CoreExpr x).links) ≡ at
  pub sites : sites (joints (out-CoreExpr x).links) ≤ n

pub linked_far : (round : Round) (at : Current) (n : ℕ) (x : CoreExpr) (k : CoreLink) → SoFar round at n x → lawful.behind at (joint k).ends ≡ true → (joint k).lawful round ≡ true
    → SoFar round (lawful.after (joint k).ends) (n + site_count (joint k).site) (linked x k)
linked_far round at n x k h b m =
    let c = lawful.begins (out-CoreExpr x).head in let ls = (out-CoreExpr x).links in
    record {
      site = h.site;
      head = h.head;
      links = subst (λ js. runs c js round ≡ true) (sym (joints_one ls k)) (runs_more c (joints ls) (joint k) round h.links (ap (λ d. lawful.behind d (joint k).ends) h.ends ∙ b) m);
      ends = ap (λ js. ends_at c js) (joints_one ls k) ∙ ends_more c (joints ls) (joint k);
      sites = let a = ap sites (joints_one ls k) in let d = sites_more (joints ls) (joint k) in let e = h.sites in omega arith;
    }

pub more_sites : (round : Round) (at : Current) (n m : ℕ) (x : CoreExpr) → n ≤ m → SoFar round at n x → SoFar round at m x
more_sites round at n m x l h = record { site = h.site; head = h.head; links = h.links; ends = h.ends; sites = let a = h.sites in omega arith }

-- an expression that is done is lawful
pub done_is : (round : Round) (at : Current) (x : CoreExpr) → SoFar round at 1 x → lawful.is_hosted at ≡ false → of_expr laws x round ≡ true
done_is round at x h e =
    let c = lawful.begins (out-CoreExpr x).head in let ls = (out-CoreExpr x).links in
    ap (λ t. t round) (fold_out-CoreExpr laws.Link laws.Stat laws.Case laws.Expr laws.link_step laws.stat_step laws.case_step laws.expr_step x)
    ∙ both (both (both h.site h.head) (runs_end c (joints ls) round h.links (ap lawful.is_hosted h.ends ∙ e))) (le-leb _ 1 h.sites)

-- one that begins
pub begun_far : (round : Round) (site : Option Site) (h : CoreHead) → is_none site ≡ true → lawful.head_lawful h round ≡ true → SoFar round (lawful.begins h) 0 (expression site h [])
begun_far round site h a b = record { site = a; head = b; links = refl; ends = refl; sites = omega arith }

pub strict_far : (round : Round) (at : Current) (n : ℕ) (o : CoreOp) (parts : List CoreExpr) (site : Option Site) (e : CoreExpr) → lawful.may_stand_behind at o ≡ true
    → lawful.takes o (length (map (of_expr laws) parts)) ≡ true → lawful.op_lawful o round ≡ true → lawful.all_lawful (map (of_expr laws) parts) round ≡ true → SoFar round at n e
    → SoFar round (lawful.gives o) (n + site_count site) (linked e (link.Strict o parts site))
strict_far round at n o parts site e b t m q h =
    let k = link.Strict o parts site in let j = strict_joint o parts site in
    subst (λ i. SoFar round (lawful.after i.ends) (n + site_count i.site) (linked e k)) j
    (linked_far round at n e k h (ap (λ i. lawful.behind at i.ends) j ∙ b) (ap (λ i. i.lawful round) j ∙ both (both t m) q))

pub act_far : (round : Round) (at : Current) (n : ℕ) (o : CoreOp) (e : CoreExpr) → lawful.may_stand_behind at o ≡ true → lawful.takes o 0 ≡ true → lawful.op_lawful o round ≡ true → SoFar round at n e → SoFar round (lawful.gives o) n (linked e (act o))
act_far round at n o e b t m h = let a = strict_far round at n o [] None e b t m refl h in more_sites round (lawful.gives o) (n + 0) n _ (omega arith) a

pub acting_far : (round : Round) (at : Current) (n : ℕ) (o : CoreOp) (y e : CoreExpr) → lawful.may_stand_behind at o ≡ true → lawful.takes o 1 ≡ true → lawful.op_lawful o round ≡ true → of_expr laws y round ≡ true → SoFar round at n e → SoFar round (lawful.gives o) n (linked e (acting o y))
acting_far round at n o y e b t m q h = let a = strict_far round at n o (y ∷ []) None e b t m (both q refl) h in more_sites round (lawful.gives o) (n + 0) n _ (omega arith) a

pub variable_far : (round : Round) (x : Var) → lawful.is_drawn round x ≡ true → SoFar round Named 0 (variable x)
variable_far round x h = begun_far round None (head.Variable x) refl h

pub variable_is : (round : Round) (x : Var) → lawful.is_drawn round x ≡ true → of_expr laws (variable x) round ≡ true
variable_is round x h = done_is round Named (variable x) (more_sites round Named 0 1 _ (omega arith) (variable_far round x h)) refl

pub constant_far : (round : Round) (c : Constant) → lawful.head_lawful (head.Constant c) round ≡ true → SoFar round Plain 0 (constant c)
constant_far round c h = begun_far round None (head.Constant c) refl h

pub constant_is : (round : Round) (c : Constant) → lawful.head_lawful (head.Constant c) round ≡ true → of_expr laws (constant c) round ≡ true
constant_is round c h = done_is round Plain (constant c) (more_sites round Plain 0 1 _ (omega arith) (constant_far round c h)) refl

pub number_is : (round : Round) (i : ℕ) → lawful.is_safe i ≡ true → of_expr laws (number i) round ≡ true
number_is round i h = constant_is round (Integer i) h

-- ## Statements

abbrev pub Are : Round → List CoreStat → Type 0
Are round ss = lawful.stats_lawful ss round ≡ true

abbrev pub Is : Round → CoreStat → Type 0
Is round x = of_stat laws x round ≡ true

pub one : (round : Round) (xs : List CoreStat) (x : CoreStat) → Are round xs → Is round x → Are round (xs ++ x ∷ [])
one round [] x h k = both k refl
one round (y ∷ xs) x h k = both (left _ _ h) (one round xs x (right _ _ h) k)

pub joined : (round : Round) (xs ys : List CoreStat) → Are round xs → Are round ys → Are round (xs ++ ys)
joined round [] ys h k = k
joined round (x ∷ xs) ys h k = both (left _ _ h) (joined round xs ys (right _ _ h) k)

-- a node is lawful as its layer is
pub rolled_is : (round : Round) (x : CoreStat) (y : CoreStat-F CoreLink CoreStat CoreCase CoreExpr) → roll-CoreStat y ≡ x → lawful.stat_step (in_stat laws y) round ≡ true → Is round x
rolled_is round x y e h = ap (λ z. of_stat laws z round) (sym e) ∙ ap (λ t. t round) (stat_rolled laws y) ∙ h

pub do_is : (round : Round) (x : CoreExpr) → of_expr laws x round ≡ true → Is round (stat.Do x)
do_is round x h = rolled_is round _ (layer.Do x) (stat.rolls-Do x) h

pub case_is : (round : Round) (test : CoreExpr) (body : List CoreStat) → of_expr laws test round ≡ true → Are round body → of_case laws (case_of (Some test) body) round ≡ true
case_is round test body h k = ap (λ c. c round) (case_rolled laws (record { test = Some test; body = body })) ∙ both h k

pub default_is : (round : Round) (body : List CoreStat) → Are round body → of_case laws (case_of None body) round ≡ true
default_is round body k = ap (λ c. c round) (case_rolled laws (record { test = None; body = body })) ∙ both refl k

abbrev pub AreCases : Round → List CoreCase → Type 0
AreCases round cs = lawful.all_lawful (map (of_case laws) cs) round ≡ true

pub if_is : (round : Round) (cs : List CoreCase) → AreCases round cs → Is round (stat.If cs)
if_is round cs h = rolled_is round _ (layer.If cs) (stat.rolls-If cs) h

pub switch_is : (round : Round) (x : CoreExpr) (cs : List CoreCase) → of_expr laws x round ≡ true → AreCases round cs → Is round (stat.Switch x cs)
switch_is round x cs h k = rolled_is round _ (layer.Switch x cs) (stat.rolls-Switch x cs) (both h k)

pub when_is : (round : Round) (test : CoreExpr) (body : List CoreStat) → of_expr laws test round ≡ true → Are round body → Is round (when test body)
when_is round test body h k = if_is round _ (both (case_is round test body h k) refl)

pub jump_is : (round : Round) (l : Label) → lawful.has_label l round.labels ≡ true → Is round (stat.Jump false (Some l))
jump_is round l h = rolled_is round _ (layer.Jump false (Some l)) (stat.rolls-Jump false (Some l)) h

pub return_is : (round : Round) (x : CoreExpr) → round.returns ≡ true → of_expr laws x round ≡ true → Is round (stat.Return x)
return_is round x h k = rolled_is round _ (layer.Return x) (stat.rolls-Return x) (both h k)

pub labelled_is : (round : Round) (l : Label) (body : List CoreStat) → lawful.is_new round l ≡ true → Are (lawful.under l round) body → Is round (stat.Labelled l body)
labelled_is round l body h k = rolled_is round _ (layer.Labelled l body) (stat.rolls-Labelled l body) (both h k)

-- the value goes into a variable
pub set_is : (round : Round) (at : Current) (x : Var) (e : CoreExpr) → lawful.is_hosted at ≡ false → lawful.is_drawn round x ≡ true → SoFar round at 1 e → Is round (stat.Do (linked e (act (op.Set x))))
set_is round at x e h d k = do_is round _ (done_is round Plain _ (act_far round at 1 (op.Set x) e (ap not h) refl d k) refl)
