-- What statements mention where scopes are flattened: the same functions and handlers, and no scopes.
use Rattle.std.proofs.Common.{◌≡◌, ℕ, Bool, true, false, cond, List, [], ◌∷◌, ◌++◌, map, length, Option, None, Some, refl, sym, ap, subst, ◌∙◌}
use Rattle.es_outside.specs.declared.events.Site.{Site}
use Rattle.core_ast.specs.declared.gathering.Mentions.{Mentions}
use Rattle.core_ast.specs.declared.parts.Var.{Var}
use Rattle.core_ast.specs.declared.parts.Label.{Label}
use Rattle.core_ast.specs.declared.parts.When.{When}
use Rattle.core_ast.specs.declared.parts.ScopedName.{ScopedName}
use Rattle.core_ast.specs.declared.parts.CoreHead.{CoreHead}
use Rattle.core_ast.specs.declared.parts.CoreHead.TheVariants as head
use Rattle.core_ast.specs.declared.parts.Constant.TheVariants.{Undefined}
use Rattle.core_ast.specs.declared.parts.CoreOp.{CoreOp}
use Rattle.core_ast.specs.declared.parts.CoreOp.TheVariants as op
use Rattle.core_ast.specs.declared.parts.Primitive.TheVariants.{CellMake}
use Rattle.core_ast.specs.declared.tree.CoreLink.{CoreLink, roll-CoreLink}
use Rattle.core_ast.specs.declared.tree.CoreStat.{CoreStat, roll-CoreStat}
use Rattle.core_ast.specs.declared.tree.CoreCase.{CoreCase, roll-CoreCase}
use Rattle.core_ast.specs.declared.tree.CoreExpr.{CoreExpr, roll-CoreExpr, out-CoreExpr, fold_out-CoreExpr}
use Rattle.core_ast.specs.declared.tree.CoreLink.TheVariants as link
use Rattle.core_ast.specs.declared.tree.CoreStat.TheVariants as stat
use Rattle.core_ast.specs.declared.tree.CoreLink.TheOpen as layer
use Rattle.core_ast.specs.declared.tree.CoreLink.TheOpen.{CoreStat-F}
use Rattle.core_ast.specs.Lawful as lawful
use Rattle.core_ast.specs.Lawful.{Round, Current}
use Rattle.core_ast.specs.Made.{act, acting, expression, linked}
use Rattle.core_ast.specs.Mentions as m
use Rattle.core_ast.specs.Mentions.{Adds}
use Rattle.core_ast.specs.Walks.{along}
use Rattle.pass_rules.specs.Cells.{is_shared}
use Rattle.pass_rules.specs.Scopes as s
use Rattle.pass_rules.specs.Scopes.{Extends}
use Rattle.pass_rules.proofs.pass_laws.Related as r
use Rattle.pass_rules.proofs.pass_laws.Related.{Fold, Pair, of_link, of_stat, of_case, of_expr, in_link, in_stat, in_case, in_expr, link_rolled, stat_rolled, case_rolled, expr_rolled}
use Rattle.pass_rules.proofs.pass_laws.Induced.{Shows, Keeps, Links, Stats, Cases, Exprs, link_first, link_second, stat_first, stat_second, case_first, case_second, expr_first, expr_second, stat_induced}
use Rattle.pass_rules.proofs.pass_laws.Scopes.{flat}
use Rattle.pass_rules.proofs.pass_laws.Starts.{laws, not_bare}
use Rattle.pass_rules.proofs.pass_laws.Within.{left, right, either}

abbrev pub mentions : Fold
mentions = record { Link = Adds; Stat = Adds; Case = Adds; Expr = Adds; link_step = m.link_step; stat_step = m.stat_step; case_step = m.case_step; expr_step = m.expr_step }

-- the same functions, and the same parameters of handlers
pub record Like (a b : Mentions) : Type 0 where
  pub functions : a.functions ≡ b.functions
  pub caught : a.caught ≡ b.caught

like : (a : Mentions) → Like a a
like a = record { functions = refl; caught = refl }

like_both : (a b c : Mentions) → Like a b → Like b c → Like a c
like_both a b c h k = record { functions = h.functions ∙ k.functions; caught = h.caught ∙ k.caught }

-- ## What adds to what is alike

abbrev Same : Adds → Adds → Type 0
Same f g = (a b : Mentions) → Like a b → Like (f a) (g b)

abbrev sames : r.Relates mentions mentions
sames = record { Link = Same; Stat = Same; Case = Same; Expr = Same }

all_same : (ps : List (Pair Same)) → Same (along (map (λ p. p.0) ps)) (along (map (λ p. p.1) ps))
all_same [] a b h = h
all_same (p ∷ ps) a b h = all_same ps (p.0 a) (p.1 b) (p.2 a b h)

head_same : (h : CoreHead) → Same (m.of_head h) (m.of_head h)
unfolding m.of_head
head_same (head.Variable x) a b k = record { functions = k.functions; caught = k.caught }
head_same (head.TypeOf x) a b k = record { functions = k.functions; caught = k.caught }
head_same (head.Copy xs) a b k = record { functions = k.functions; caught = k.caught }
head_same (head.Function f) a b k = record { functions = ap (λ fs. fs ++ f ∷ []) k.functions; caught = k.caught }
head_same h a b k = k

op_same : (o : CoreOp) → Same (m.of_op o) (m.of_op o)
unfolding m.of_op
op_same (op.Set x) a b k = record { functions = k.functions; caught = k.caught }
op_same (op.Init x) a b k = record { functions = k.functions; caught = k.caught }
op_same (op.StepVariable u x) a b k = record { functions = k.functions; caught = k.caught }
op_same o a b k = k

yield_same : (kind : Option Var) (x : Var) → Same (m.of_yield kind x) (m.of_yield kind x)
unfolding m.of_yield
yield_same None x a b k = record { functions = k.functions; caught = k.caught }
yield_same (Some y) x a b k = record { functions = k.functions; caught = k.caught }

catches_same : (x : Var) → Same (m.catches x) (m.catches x)
catches_same x a b k = record { functions = k.functions; caught = ap (λ xs. xs ++ x ∷ []) k.caught }

link_same : (z : r.Links sames) → Same (m.link_step (r.link_first sames z)) (m.link_step (r.link_second sames z))
link_same (layer.Strict o parts site) a b h = op_same o _ _ (all_same parts a b h)
link_same (layer.Lazy w taken None) a b h = taken.2 a b h
link_same (layer.Lazy w taken (Some other)) a b h = other.2 _ _ (taken.2 a b h)
link_same (layer.Run body) a b h = all_same body a b h

stat_same : (z : r.Stats sames) → Same (m.stat_step (r.stat_first sames z)) (m.stat_step (r.stat_second sames z))
stat_same (layer.Do x) a b h = x.2 a b h
stat_same (layer.If cases) a b h = all_same cases a b h
stat_same (layer.Switch x cases) a b h = all_same cases _ _ (x.2 a b h)
stat_same (layer.Loop labels None None body) a b h = all_same body _ _ (record { functions = h.functions; caught = h.caught })
stat_same (layer.Loop labels None (Some u) body) a b h = all_same body _ _ (u.2 _ _ (record { functions = h.functions; caught = h.caught }))
stat_same (layer.Loop labels (Some t) None body) a b h = all_same body _ _ (t.2 _ _ (record { functions = h.functions; caught = h.caught }))
stat_same (layer.Loop labels (Some t) (Some u) body) a b h = all_same body _ _ (u.2 _ _ (t.2 _ _ (record { functions = h.functions; caught = h.caught })))
stat_same (layer.Labelled l body) a b h = all_same body _ _ (record { functions = h.functions; caught = h.caught })
stat_same (layer.Jump goes_on l) a b h = h
stat_same (layer.Return x) a b h = x.2 a b h
stat_same (layer.Throw x) a b h = x.2 a b h
stat_same (layer.TryCatch block x names handler) a b h =
    let k = catches_same x _ _ (all_same block a b h) in all_same handler _ _ (record { functions = k.functions; caught = k.caught })
stat_same (layer.TryFinally block last) a b h = all_same last _ _ (all_same block a b h)
stat_same (layer.Scoped names body) a b h = all_same body _ _ (record { functions = h.functions; caught = h.caught })
stat_same (layer.Yield x kind result) a b h = yield_same kind result _ _ (x.2 a b h)

case_same : (test : Option (Pair Same)) (body : List (Pair Same)) → Same (m.case_step (r.case_first sames (record { test = test; body = body }))) (m.case_step (r.case_second sames (record { test = test; body = body })))
case_same None body a b h = all_same body a b h
case_same (Some t) body a b h = all_same body _ _ (t.2 a b h)

same_kept : r.Keeps sames
same_kept = record { link = link_same; stat = stat_same; case = λ z. case_same z.test z.body; expr = λ z a b h. all_same z.links _ _ (head_same z.head a b h) }

expr_same : (x : CoreExpr) (a b : Mentions) → Like a b → Like (of_expr mentions x a) (of_expr mentions x b)
expr_same x = r.expr_related sames same_kept x

-- ## What is made mentions no functions and no handlers

abbrev Unheld : Adds → Type 0
Unheld f = (a : Mentions) → Like (f a) a

strict_m : (o : CoreOp) (parts : List CoreExpr) (site : Option Site) → of_link mentions (link.Strict o parts site) ≡ m.link_step (layer.Strict o (map (of_expr mentions) parts) site)
strict_m o parts site = ap (of_link mentions) (sym (link.rolls-Strict o parts site)) ∙ link_rolled mentions (layer.Strict o parts site)

expression_m : (site : Option Site) (h : CoreHead) (ls : List CoreLink) (a : Mentions) → of_expr mentions (expression site h ls) a ≡ along (map (of_link mentions) ls) (m.of_head h a)
expression_m site h ls a = ap (λ f. f a) (expr_rolled mentions (record { site = site; head = h; links = ls }))

along_one : {A : Type 0} (fs : List (A → A)) (g : A → A) (x : A) → along (fs ++ g ∷ []) x ≡ g (along fs x)
along_one [] g x = refl
along_one (f ∷ fs) g x = along_one fs g (f x)

map_one : {A B : Type 0} (f : A → B) (xs : List A) (x : A) → map f (xs ++ x ∷ []) ≡ map f xs ++ f x ∷ []
map_one f [] x = refl
map_one f (y ∷ xs) x = ap (λ ys. f y ∷ ys) (map_one f xs x)

linked_m : (x : CoreExpr) (k : CoreLink) (a : Mentions) → of_expr mentions (linked x k) a ≡ of_link mentions k (of_expr mentions x a)
linked_m x k a =
    let ls = (out-CoreExpr x).links in let h = m.of_head (out-CoreExpr x).head a in
    expression_m (out-CoreExpr x).site (out-CoreExpr x).head (ls ++ k ∷ []) a ∙ ap (λ fs. along fs h) (map_one (of_link mentions) ls k) ∙ along_one (map (of_link mentions) ls) (of_link mentions k) h
    ∙ ap (of_link mentions k) (sym (ap (λ f. f a) (fold_out-CoreExpr Adds Adds Adds Adds m.link_step m.stat_step m.case_step m.expr_step x)))

-- an operation adds no function
op_unheld : (o : CoreOp) → Unheld (m.of_op o)
unfolding m.of_op
op_unheld (op.Set x) a = record { functions = refl; caught = refl }
op_unheld (op.Init x) a = record { functions = refl; caught = refl }
op_unheld (op.StepVariable u x) a = record { functions = refl; caught = refl }
op_unheld o a = like a

act_unheld : (o : CoreOp) → Unheld (of_link mentions (act o))
act_unheld o a = subst (λ f. Like (f a) a) (sym (strict_m o [] None)) (op_unheld o a)

abbrev AllUnheld : List CoreLink → Type 0
AllUnheld ls = (a : Mentions) → Like (along (map (of_link mentions) ls) a) a

unheld_cons : (l : CoreLink) (ls : List CoreLink) → Unheld (of_link mentions l) → AllUnheld ls → AllUnheld (l ∷ ls)
unheld_cons l ls h k a = like_both _ _ _ (k (of_link mentions l a)) (h a)

uses_like : (xs : List Var) → Unheld (m.uses xs)
uses_like xs a = record { functions = refl; caught = refl }

do_m : (x : CoreExpr) (a : Mentions) → of_stat mentions (stat.Do x) a ≡ of_expr mentions x a
do_m x a = ap (λ f. f a) (ap (of_stat mentions) (sym (stat.rolls-Do x)) ∙ stat_rolled mentions (layer.Do x))

made_unheld : (site : Option Site) (h : CoreHead) (ls : List CoreLink) → Unheld (m.of_head h) → AllUnheld ls → Unheld (of_expr mentions (expression site h ls))
made_unheld site h ls k u a = subst (λ b. Like b a) (sym (expression_m site h ls a)) (like_both _ _ _ (u (m.of_head h a)) (k a))

variable_head : (x : Var) → Unheld (m.of_head (head.Variable x))
unfolding m.of_head
variable_head x a = record { functions = refl; caught = refl }

empty_head : Unheld (m.of_head head.Empty)
unfolding m.of_head
empty_head a = like a

none_unheld : AllUnheld []
none_unheld a = like a

reset_unheld : (n : ScopedName) → Unheld (of_stat mentions (s.reset n))
reset_unheld n a = subst (λ b. Like b a) (sym (do_m _ a)) (made_unheld None head.Empty _ empty_head
    (either AllUnheld n.shared {x = act (op.Primitive (CellMake n.var)) ∷ act (op.Set n.var) ∷ []} {y = act (op.Init n.var) ∷ []}
    (unheld_cons (act (op.Primitive (CellMake n.var))) (act (op.Set n.var) ∷ []) (act_unheld (op.Primitive (CellMake n.var))) (unheld_cons (act (op.Set n.var)) [] (act_unheld (op.Set n.var)) none_unheld))
    (unheld_cons (act (op.Init n.var)) [] (act_unheld (op.Init n.var)) none_unheld)) a)

stats_along : (xs ys : List CoreStat) (a : Mentions) → m.stats_mentions (xs ++ ys) a ≡ m.stats_mentions ys (m.stats_mentions xs a)
stats_along [] ys a = refl
stats_along (x ∷ xs) ys a = stats_along xs ys (of_stat mentions x a)

resets_unheld : (names : List ScopedName) → Unheld (λ a. m.stats_mentions (map s.reset names) a)
resets_unheld [] a = like a
resets_unheld (n ∷ names) a = like_both _ _ _ (resets_unheld names (of_stat mentions (s.reset n) a)) (reset_unheld n a)

entered_like : (names : List ScopedName) (xs : List CoreStat) (a : Mentions) → Like (m.stats_mentions (s.entered names xs) a) (m.stats_mentions xs a)
entered_like names xs a = subst (λ b. Like b (m.stats_mentions xs a)) (sym (stats_along xs (map s.reset names) a)) (resets_unheld names (m.stats_mentions xs a))

copied_unheld : (x : Var) → Unheld (of_link mentions (s.copied x))
copied_unheld x a =
    let part = expression None (head.Variable x) (act op.Content ∷ act (op.Primitive (CellMake x)) ∷ act (op.Set x) ∷ []) in
    subst (λ f. Like (f a) a) (sym (strict_m op.Then (part ∷ []) None)) (like_both _ _ _ (op_unheld op.Then (of_expr mentions part a))
    (made_unheld None (head.Variable x) _ (variable_head x) (unheld_cons (act op.Content) (act (op.Primitive (CellMake x)) ∷ act (op.Set x) ∷ []) (act_unheld op.Content)
    (unheld_cons (act (op.Primitive (CellMake x))) (act (op.Set x) ∷ []) (act_unheld (op.Primitive (CellMake x))) (unheld_cons (act (op.Set x)) [] (act_unheld (op.Set x)) none_unheld))) a))

copies_unheld : (owners : List ℕ) (xs : List Var) → AllUnheld (s.copies owners xs)
copies_unheld owners [] = none_unheld
copies_unheld owners (x ∷ xs) = either AllUnheld (is_shared owners x) {x = s.copied x ∷ s.copies owners xs} {y = s.copies owners xs} (unheld_cons (s.copied x) (s.copies owners xs) (copied_unheld x) (copies_unheld owners xs)) (copies_unheld owners xs)

begun_like : (owners : List ℕ) (site : Option Site) (h : CoreHead) (a b : Mentions) → Like a b → Like (of_expr mentions (s.begun owners site h) a) (m.of_head h b)
unfolding s.begun m.of_head
begun_like owners site (head.Variable x) a b k = like_both _ a _ (made_unheld site (head.Variable x) _ (variable_head x)
    (either AllUnheld (is_shared owners x) {x = act op.Content ∷ []} {y = []} (unheld_cons (act op.Content) [] (act_unheld op.Content) none_unheld) none_unheld) a) (record { functions = k.functions; caught = k.caught })
begun_like owners site (head.Copy xs) a b k = like_both _ a _ (made_unheld site (head.Constant Undefined) _ (λ c. like c) (copies_unheld owners xs) a) (record { functions = k.functions; caught = k.caught })
begun_like owners site h a b k = subst (λ c. Like c (m.of_head h b)) (sym (expression_m site h [] a)) (head_same h a b k)

stored_like : (x : Var) (e : CoreExpr) (a : Mentions) → Like (of_expr mentions (s.stored x e) a) (of_expr mentions e a)
stored_like x e a = subst (λ b. Like b (of_expr mentions e a)) (sym (expression_m None (head.Variable x) (acting op.SetContent e ∷ []) a))
    (subst (λ f. Like (f (m.of_head (head.Variable x) a)) (of_expr mentions e a)) (sym (strict_m op.SetContent (e ∷ []) None))
    (like_both _ _ _ (op_unheld op.SetContent (of_expr mentions e (m.of_head (head.Variable x) a))) (expr_same e (m.of_head (head.Variable x) a) a (variable_head x a))))

-- ## What is shown of each node

abbrev OfLink : CoreLink → Extends CoreExpr → Type 0
OfLink x f = (round : Round) → (of_link laws x).lawful round ≡ true → (e : CoreExpr) (a b : Mentions) → Like (of_expr mentions e a) b → Like (of_expr mentions (f e) a) (of_link mentions x b)

abbrev OfStat : CoreStat → Extends (List CoreStat) → Type 0
OfStat x f = (round : Round) → of_stat laws x round ≡ true → (xs : List CoreStat) (a b : Mentions) → Like (m.stats_mentions xs a) b → Like (m.stats_mentions (f xs) a) (of_stat mentions x b)

abbrev OfCase : CoreCase → CoreCase → Type 0
OfCase x c = (round : Round) → of_case laws x round ≡ true → (a b : Mentions) → Like a b → Like (of_case mentions c a) (of_case mentions x b)

abbrev OfExpr : CoreExpr → CoreExpr → Type 0
OfExpr x e = (round : Round) → of_expr laws x round ≡ true → (a b : Mentions) → Like a b → Like (of_expr mentions e a) (of_expr mentions x b)

abbrev shown : (owners : List ℕ) → Shows (flat owners)
shown owners = record { Link = OfLink; Stat = OfStat; Case = OfCase; Expr = OfExpr }

stats_kept : (ps : List (Pair OfStat)) (round : Round) → lawful.all_lawful (map (of_stat laws) (map (λ q. q.0) ps)) round ≡ true → (xs : List CoreStat) (a b : Mentions) → Like (m.stats_mentions xs a) b
    → Like (m.stats_mentions (along (map (λ q. q.1) ps) xs) a) (along (map (of_stat mentions) (map (λ q. q.0) ps)) b)
stats_kept [] round h xs a b k = k
stats_kept (q ∷ ps) round h xs a b k = stats_kept ps round (right _ _ h) (q.1 xs) a (of_stat mentions q.0 b) (q.2 round (left _ _ h) xs a b k)

links_kept : (ps : List (Pair OfLink)) (c : Current) (round : Round) → lawful.links_lawful c (map (of_link laws) (map (λ q. q.0) ps)) round ≡ true → (e : CoreExpr) (a b : Mentions) → Like (of_expr mentions e a) b
    → Like (of_expr mentions (along (map (λ q. q.1) ps) e) a) (along (map (of_link mentions) (map (λ q. q.0) ps)) b)
links_kept [] c round h e a b k = k
links_kept (q ∷ ps) c round h e a b k = links_kept ps (lawful.after (of_link laws q.0).ends) round (right _ _ h) (q.1 e) a (of_link mentions q.0 b) (q.2 round (right _ _ (left _ _ h)) e a b k)

parts_kept : (ps : List (Pair OfExpr)) (round : Round) → lawful.all_lawful (map (of_expr laws) (map (λ q. q.0) ps)) round ≡ true → (a b : Mentions) → Like a b
    → Like (along (map (of_expr mentions) (map (λ q. q.1) ps)) a) (along (map (of_expr mentions) (map (λ q. q.0) ps)) b)
parts_kept [] round h a b k = k
parts_kept (q ∷ ps) round h a b k = parts_kept ps round (right _ _ h) _ _ (q.2 round (left _ _ h) a b k)

cases_kept : (ps : List (Pair OfCase)) (round : Round) → lawful.all_lawful (map (of_case laws) (map (λ q. q.0) ps)) round ≡ true → (a b : Mentions) → Like a b
    → Like (along (map (of_case mentions) (map (λ q. q.1) ps)) a) (along (map (of_case mentions) (map (λ q. q.0) ps)) b)
cases_kept [] round h a b k = k
cases_kept (q ∷ ps) round h a b k = cases_kept ps round (right _ _ h) _ _ (q.2 round (left _ _ h) a b k)

linked_like : (o : CoreOp) (ps : List (Pair OfExpr)) (site : Option Site) (round : Round) (e : CoreExpr) (a b : Mentions) → lawful.all_lawful (map (of_expr laws) (map (λ q. q.0) ps)) round ≡ true → Like (of_expr mentions e a) b
    → Like (of_expr mentions (linked e (link.Strict o (map (λ q. q.1) ps) site)) a) (m.of_op o (along (map (of_expr mentions) (map (λ q. q.0) ps)) b))
linked_like o ps site round e a b h k = subst (λ c. Like c (m.of_op o (along (map (of_expr mentions) (map (λ q. q.0) ps)) b)))
    (sym (linked_m e (link.Strict o (map (λ q. q.1) ps) site) a ∙ ap (λ f. f (of_expr mentions e a)) (strict_m o (map (λ q. q.1) ps) site))) (op_same o _ _ (parts_kept ps round h _ _ k))

written_like : (o : CoreOp) (x : Var) (site : Option Site) (round : Round) (e : CoreExpr) (a b : Mentions) (c : Bool) → Like (of_expr mentions e a) b → Like (of_expr mentions (cond c (s.stored x e) (linked e (link.Strict o [] site))) a) (m.of_op o b)
written_like o x site round e a b true k = like_both _ _ _ (like_both _ _ _ (stored_like x e a) k) (record { functions = sym (op_unheld o b).functions; caught = sym (op_unheld o b).caught })
written_like o x site round e a b false k = linked_like o [] site round e a b refl k

strict_kept : (owners : List ℕ) (o : CoreOp) (ps : List (Pair OfExpr)) (site : Option Site) (round : Round) (e : CoreExpr) (a b : Mentions) → lawful.takes o (length (map (of_expr laws) (map (λ q. q.0) ps))) ≡ true → lawful.all_lawful (map (of_expr laws) (map (λ q. q.0) ps)) round ≡ true
    → Like (of_expr mentions e a) b → Like (of_expr mentions (s.strict owners o (map (λ q. q.1) ps) site e) a) (m.of_op o (along (map (of_expr mentions) (map (λ q. q.0) ps)) b))
unfolding s.strict
strict_kept owners (op.Set x) [] site round e a b t h k = written_like (op.Set x) x site round e a b (is_shared owners x) k
strict_kept owners (op.Set x) (q ∷ ps) site round e a b t h k = absurd (not_bare _ t)
strict_kept owners (op.Init x) [] site round e a b t h k = written_like (op.Init x) x site round e a b (is_shared owners x) k
strict_kept owners (op.Init x) (q ∷ ps) site round e a b t h k = absurd (not_bare _ t)
strict_kept owners o ps site round e a b t h k = linked_like o ps site round e a b h k

lazy_m : (w : When) (x : CoreExpr) → of_link mentions (link.Lazy w x None) ≡ m.link_step (layer.Lazy w (of_expr mentions x) None)
lazy_m w x = ap (of_link mentions) (sym (link.rolls-Lazy w x None)) ∙ link_rolled mentions (layer.Lazy w x None)

lazy_two_m : (w : When) (x y : CoreExpr) → of_link mentions (link.Lazy w x (Some y)) ≡ m.link_step (layer.Lazy w (of_expr mentions x) (Some (of_expr mentions y)))
lazy_two_m w x y = ap (of_link mentions) (sym (link.rolls-Lazy w x (Some y))) ∙ link_rolled mentions (layer.Lazy w x (Some y))

run_m : (body : List CoreStat) → of_link mentions (link.Run body) ≡ m.link_step (layer.Run (map (of_stat mentions) body))
run_m body = ap (of_link mentions) (sym (link.rolls-Run body)) ∙ link_rolled mentions (layer.Run body)

link_by : (owners : List ℕ) (z : Links (shown owners)) (round : Round) → (lawful.link_step (in_link laws (link_first (shown owners) z))).lawful round ≡ true → (e : CoreExpr) (a b : Mentions) → Like (of_expr mentions e a) b
    → Like (of_expr mentions (s.link_step owners (link_second (shown owners) z) e) a) (m.link_step (in_link mentions (link_first (shown owners) z)) b)
link_by owners (layer.Strict o parts site) round h e a b k = strict_kept owners o parts site round e a b (left _ _ (left _ _ h)) (right _ _ h) k
link_by owners (layer.Lazy w taken None) round h e a b k = subst (λ c. Like c (of_expr mentions taken.0 b)) (sym (linked_m e (link.Lazy w taken.1 None) a ∙ ap (λ f. f (of_expr mentions e a)) (lazy_m w taken.1)))
    (taken.2 round (left _ _ h) _ _ k)
link_by owners (layer.Lazy w taken (Some other)) round h e a b k = subst (λ c. Like c (of_expr mentions other.0 (of_expr mentions taken.0 b))) (sym (linked_m e (link.Lazy w taken.1 (Some other.1)) a ∙ ap (λ f. f (of_expr mentions e a)) (lazy_two_m w taken.1 other.1)))
    (other.2 round (right _ _ h) _ _ (taken.2 round (left _ _ h) _ _ k))
link_by owners (layer.Run body) round h e a b k = subst (λ c. Like c (along (map (of_stat mentions) (map (λ q. q.0) body)) b))
    (sym (linked_m e (link.Run (along (map (λ q. q.1) body) [])) a ∙ ap (λ f. f (of_expr mentions e a)) (run_m (along (map (λ q. q.1) body) [])))) (stats_kept body round h [] _ _ k)

link_kept : (owners : List ℕ) (z : Links (shown owners)) → OfLink (roll-CoreLink (link_first (shown owners) z)) (s.link_step owners (link_second (shown owners) z))
link_kept owners z round h e a b k =
    let y = link_first (shown owners) z in
    subst (λ f. Like (of_expr mentions (s.link_step owners (link_second (shown owners) z) e) a) (f b)) (sym (link_rolled mentions y)) (link_by owners z round (ap (λ j. j.lawful round) (sym (link_rolled laws y)) ∙ h) e a b k)

expr_kept : (owners : List ℕ) (z : Exprs (shown owners)) → OfExpr (roll-CoreExpr (expr_first (shown owners) z)) (s.expr_step owners (expr_second (shown owners) z))
expr_kept owners z round h a b k =
    let y = expr_first (shown owners) z in
    let l : lawful.expr_step (in_expr laws y) round ≡ true = ap (λ t. t round) (sym (expr_rolled laws y)) ∙ h in
    subst (λ f. Like (of_expr mentions (s.expr_step owners (expr_second (shown owners) z)) a) (f b)) (sym (expr_rolled mentions y))
    (links_kept z.links (lawful.begins z.head) round (right _ _ (left _ _ l)) (s.begun owners z.site z.head) a (m.of_head z.head b) (begun_like owners z.site z.head a b k))

case_by : (owners : List ℕ) (test : Option (Pair OfExpr)) (body : List (Pair OfStat)) (round : Round) → lawful.case_step (in_case laws (case_first (shown owners) (record { test = test; body = body }))) round ≡ true → (a b : Mentions) → Like a b
    → Like (of_case mentions (s.case_step (case_second (shown owners) (record { test = test; body = body }))) a) (m.case_step (in_case mentions (case_first (shown owners) (record { test = test; body = body }))) b)
case_by owners None body round h a b k = subst (λ f. Like (f a) (along (map (of_stat mentions) (map (λ q. q.0) body)) b)) (sym (case_rolled mentions (record { test = None; body = along (map (λ q. q.1) body) [] })))
    (stats_kept body round h [] a b k)
case_by owners (Some t) body round h a b k = subst (λ f. Like (f a) (along (map (of_stat mentions) (map (λ q. q.0) body)) (of_expr mentions t.0 b))) (sym (case_rolled mentions (record { test = Some t.1; body = along (map (λ q. q.1) body) [] })))
    (stats_kept body round (right _ _ h) [] _ _ (t.2 round (left _ _ h) a b k))

case_kept : (owners : List ℕ) (z : Cases (shown owners)) → OfCase (roll-CoreCase (case_first (shown owners) z)) (s.case_step (case_second (shown owners) z))
case_kept owners z round h a b k =
    let y = case_first (shown owners) z in
    subst (λ f. Like (of_case mentions (s.case_step (case_second (shown owners) z)) a) (f b)) (sym (case_rolled mentions y)) (case_by owners z.test z.body round (ap (λ t. t round) (sym (case_rolled laws y)) ∙ h) a b k)

-- a statement more
then_like : (xs : List CoreStat) (x : CoreStat) (y : CoreStat-F CoreLink CoreStat CoreCase CoreExpr) (a c : Mentions) → roll-CoreStat y ≡ x → Like (m.stat_step (in_stat mentions y) (m.stats_mentions xs a)) c → Like (m.stats_mentions (s.then xs x) a) c
then_like xs x y a c e k = subst (λ b. Like b c) (sym (stats_along xs (x ∷ []) a ∙ ap (λ z. of_stat mentions z (m.stats_mentions xs a)) (sym e) ∙ ap (λ f. f (m.stats_mentions xs a)) (stat_rolled mentions y))) k

labelled_like : (a b : Mentions) (ls : List Label) → Like a b → Like (m.labelled ls a) (m.labelled ls b)
labelled_like a b ls k = record { functions = k.functions; caught = k.caught }

handled_like : (x : Var) (names : List ScopedName) (a b : Mentions) → Like a b → Like (m.scopes [] (m.catches x a)) (m.scopes names (m.catches x b))
handled_like x names a b k = record { functions = k.functions; caught = ap (λ xs. xs ++ x ∷ []) k.caught }

stat_by : (owners : List ℕ) (z : Stats (shown owners)) (round : Round) → lawful.stat_step (in_stat laws (stat_first (shown owners) z)) round ≡ true → (xs : List CoreStat) (a b : Mentions) → Like (m.stats_mentions xs a) b
    → Like (m.stats_mentions (s.stat_step (stat_second (shown owners) z) xs) a) (m.stat_step (in_stat mentions (stat_first (shown owners) z)) b)
stat_by owners (layer.Do x) round h xs a b k = then_like xs _ _ a _ (stat.rolls-Do x.1) (x.2 round h _ _ k)
stat_by owners (layer.If cases) round h xs a b k = then_like xs _ _ a _ (stat.rolls-If (map (λ q. q.1) cases)) (cases_kept cases round h _ _ k)
stat_by owners (layer.Switch subject cases) round h xs a b k = then_like xs _ _ a _ (stat.rolls-Switch subject.1 (map (λ q. q.1) cases)) (cases_kept cases round (right _ _ h) _ _ (subject.2 round (left _ _ h) _ _ k))
stat_by owners (layer.Loop labels None None body) round h xs a b k = then_like xs _ _ a _ (stat.rolls-Loop labels None None (along (map (λ q. q.1) body) [])) (stats_kept body (lawful.in_loop labels round) (right _ _ h) [] _ _ (labelled_like _ _ labels k))
stat_by owners (layer.Loop labels None (Some u) body) round h xs a b k = then_like xs _ _ a _ (stat.rolls-Loop labels None (Some u.1) (along (map (λ q. q.1) body) []))
    (stats_kept body (lawful.in_loop labels round) (right _ _ h) [] _ _ (u.2 round (right _ _ (left _ _ h)) _ _ (labelled_like _ _ labels k)))
stat_by owners (layer.Loop labels (Some t) None body) round h xs a b k = then_like xs _ _ a _ (stat.rolls-Loop labels (Some t.1) None (along (map (λ q. q.1) body) []))
    (stats_kept body (lawful.in_loop labels round) (right _ _ h) [] _ _ (t.2 round (right _ _ (left _ _ (left _ _ h))) _ _ (labelled_like _ _ labels k)))
stat_by owners (layer.Loop labels (Some t) (Some u) body) round h xs a b k = then_like xs _ _ a _ (stat.rolls-Loop labels (Some t.1) (Some u.1) (along (map (λ q. q.1) body) []))
    (stats_kept body (lawful.in_loop labels round) (right _ _ h) [] _ _ (u.2 round (right _ _ (left _ _ h)) _ _ (t.2 round (right _ _ (left _ _ (left _ _ h))) _ _ (labelled_like _ _ labels k))))
stat_by owners (layer.Labelled label body) round h xs a b k = then_like xs _ _ a _ (stat.rolls-Labelled label (along (map (λ q. q.1) body) [])) (stats_kept body (lawful.under label round) (right _ _ h) [] _ _ (labelled_like _ _ (label ∷ []) k))
stat_by owners (layer.Jump goes_on label) round h xs a b k = then_like xs _ _ a _ (stat.rolls-Jump goes_on label) k
stat_by owners (layer.Return x) round h xs a b k = then_like xs _ _ a _ (stat.rolls-Return x.1) (x.2 round (right _ _ h) _ _ k)
stat_by owners (layer.Throw x) round h xs a b k = then_like xs _ _ a _ (stat.rolls-Throw x.1) (x.2 round h _ _ k)
stat_by owners (layer.TryCatch block parameter names handler) round h xs a b k = then_like xs _ _ a _ (stat.rolls-TryCatch (along (map (λ q. q.1) block) []) parameter [] (along (map (λ q. q.1) handler) (s.entered names [])))
    (stats_kept handler round (right _ _ h) (s.entered names []) _ _ (like_both _ _ _ (entered_like names [] _)
    (handled_like parameter names _ _ (stats_kept block round (left _ _ (left _ _ (left _ _ h))) [] _ _ k))))
stat_by owners (layer.TryFinally block last) round h xs a b k = then_like xs _ _ a _ (stat.rolls-TryFinally (along (map (λ q. q.1) block) []) (along (map (λ q. q.1) last) []))
    (stats_kept last round (right _ _ h) [] _ _ (stats_kept block round (left _ _ h) [] _ _ k))
stat_by owners (layer.Scoped names body) round h xs a b k = stats_kept body round (right _ _ h) (s.entered names xs) a _ (like_both _ _ _ (entered_like names xs a) (record { functions = k.functions; caught = k.caught }))
stat_by owners (layer.Yield value kind result) round h xs a b k = then_like xs _ _ a _ (stat.rolls-Yield value.1 kind result) (yield_same kind result _ _ (value.2 round (right _ _ (left _ _ (left _ _ h))) _ _ k))

stat_kept : (owners : List ℕ) (z : Stats (shown owners)) → OfStat (roll-CoreStat (stat_first (shown owners) z)) (s.stat_step (stat_second (shown owners) z))
stat_kept owners z round h xs a b k =
    let y = stat_first (shown owners) z in
    subst (λ f. Like (m.stats_mentions (s.stat_step (stat_second (shown owners) z) xs) a) (f b)) (sym (stat_rolled mentions y)) (stat_by owners z round (ap (λ t. t round) (sym (stat_rolled laws y)) ∙ h) xs a b k)

kept : (owners : List ℕ) → Keeps (shown owners)
kept owners = record { link = link_kept owners; stat = stat_kept owners; case = case_kept owners; expr = expr_kept owners }

flat_along : (owners : List ℕ) (ss xs : List CoreStat) (round : Round) → lawful.stats_lawful ss round ≡ true → (a b : Mentions) → Like (m.stats_mentions xs a) b → Like (m.stats_mentions (along (map (s.stat_flat owners) ss) xs) a) (m.stats_mentions ss b)
flat_along owners [] xs round h a b k = k
flat_along owners (x ∷ ss) xs round h a b k = flat_along owners ss (s.stat_flat owners x xs) round (right _ _ h) a (of_stat mentions x b) (stat_induced (shown owners) (kept owners) x round (left _ _ h) xs a b k)

pub flat_like : (owners : List ℕ) (ss : List CoreStat) (round : Round) → lawful.stats_lawful ss round ≡ true → (a b : Mentions) → Like a b → Like (m.stats_mentions (s.stats_flat owners ss) a) (m.stats_mentions ss b)
flat_like owners ss round h a b k = flat_along owners ss [] round h a b k
