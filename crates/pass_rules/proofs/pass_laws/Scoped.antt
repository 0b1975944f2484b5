-- The names that scopes declare: where there are no scopes none, and in a lawful core names that are drawn.
use Rattle.std.specs.List.{list_all}
use Rattle.std.proofs.Common.{◌≡◌, ℕ, true, false, ◌||◌, nat_lt, List, [], ◌∷◌, ◌++◌, map, Option, None, Some, refl, ap, ◌∙◌}
use Rattle.std.proofs.lemmas.Bool.{false≢true}
use Rattle.core_ast.specs.declared.gathering.Mentions.{Mentions}
use Rattle.core_ast.specs.declared.parts.Var.{Var}
use Rattle.core_ast.specs.declared.parts.ScopedName.{ScopedName}
use Rattle.core_ast.specs.declared.parts.CoreHead.{CoreHead}
use Rattle.core_ast.specs.declared.parts.CoreHead.TheVariants as head
use Rattle.core_ast.specs.declared.parts.CoreOp.{CoreOp}
use Rattle.core_ast.specs.declared.parts.CoreOp.TheVariants as op
use Rattle.core_ast.specs.declared.tree.CoreStat.{CoreStat}
use Rattle.core_ast.specs.declared.tree.CoreLink.TheOpen as layer
use Rattle.core_ast.specs.Lawful as lawful
use Rattle.core_ast.specs.Lawful.{Round, Joint, Current}
use Rattle.core_ast.specs.Mentions as m
use Rattle.core_ast.specs.Mentions.{Adds}
use Rattle.core_ast.specs.Walks.{along}
use Rattle.pass_rules.specs.pass_laws.Levels.{Test, all_within, is_bare, unscoped, anything}
use Rattle.pass_rules.proofs.pass_laws.Related.{Relates, Keeps, Pair, Links, Stats, link_first, link_second, stat_first, stat_second, case_first, case_second, stat_related, of_stat}
use Rattle.pass_rules.proofs.pass_laws.FlatMentions.{mentions}
use Rattle.pass_rules.proofs.pass_laws.Starts.{laws}
use Rattle.pass_rules.proofs.pass_laws.Within.{within, left, right, both, Are}

head_scoped : (h : CoreHead) (a : Mentions) → (m.of_head h a).scoped ≡ a.scoped
unfolding m.of_head
head_scoped (head.Variable x) a = refl
head_scoped (head.TypeOf x) a = refl
head_scoped (head.Copy xs) a = refl
head_scoped (head.Function f) a = refl
head_scoped h a = refl

op_scoped : (o : CoreOp) (a : Mentions) → (m.of_op o a).scoped ≡ a.scoped
unfolding m.of_op
op_scoped (op.Set x) a = refl
op_scoped (op.Init x) a = refl
op_scoped (op.StepVariable u x) a = refl
op_scoped o a = refl

yield_scoped : (kind : Option Var) (x : Var) (a : Mentions) → (m.of_yield kind x a).scoped ≡ a.scoped
unfolding m.of_yield
yield_scoped None x a = refl
yield_scoped (Some y) x a = refl

no_names : (names xs : List ScopedName) → (is_bare names || false) ≡ true → xs ++ names ≡ xs
no_names [] [] h = refl
no_names [] (x ∷ xs) h = ap (λ ys. x ∷ ys) (no_names [] xs h)
no_names (n ∷ names) xs h = absurd (false≢true h)

-- ## Where there are no scopes

abbrev HasNone : Test → Adds → Type 0
HasNone t f = t (unscoped anything) ≡ true → (a : Mentions) → (f a).scoped ≡ a.scoped

abbrev nones : Relates within mentions
nones = record { Link = HasNone; Stat = HasNone; Case = HasNone; Expr = HasNone }

all_none : (ps : List (Pair HasNone)) → all_within (map (λ p. p.0) ps) (unscoped anything) ≡ true → (a : Mentions) → (along (map (λ p. p.1) ps) a).scoped ≡ a.scoped
all_none [] h a = refl
all_none (p ∷ ps) h a = all_none ps (right _ _ h) (p.1 a) ∙ p.2 (left _ _ h) a

link_none : (z : Links nones) → HasNone (within.link_step (link_first nones z)) (m.link_step (link_second nones z))
link_none (layer.Strict o parts site) h a = op_scoped o _ ∙ all_none parts (right _ _ h) a
link_none (layer.Lazy w taken None) h a = taken.2 (left _ _ h) a
link_none (layer.Lazy w taken (Some other)) h a = other.2 (right _ _ h) _ ∙ taken.2 (left _ _ h) a
link_none (layer.Run body) h a = all_none body h a

stat_none : (z : Stats nones) → HasNone (within.stat_step (stat_first nones z)) (m.stat_step (stat_second nones z))
stat_none (layer.Do x) h a = x.2 h a
stat_none (layer.If cases) h a = all_none cases h a
stat_none (layer.Switch x cases) h a = all_none cases (right _ _ h) _ ∙ x.2 (left _ _ h) a
stat_none (layer.Loop labels None None body) h a = all_none body h _
stat_none (layer.Loop labels None (Some u) body) h a = all_none body (right _ _ h) _ ∙ u.2 (left _ _ h) _
stat_none (layer.Loop labels (Some t) None body) h a = all_none body (right _ _ h) _ ∙ t.2 (left _ _ (left _ _ h)) _
stat_none (layer.Loop labels (Some t) (Some u) body) h a = all_none body (right _ _ h) _ ∙ u.2 (right _ _ (left _ _ h)) _ ∙ t.2 (left _ _ (left _ _ h)) _
stat_none (layer.Labelled l body) h a = all_none body h _
stat_none (layer.Jump goes_on l) h a = refl
stat_none (layer.Return x) h a = x.2 h a
stat_none (layer.Throw x) h a = x.2 h a
stat_none (layer.TryCatch block x names handler) h a = all_none handler (right _ _ h) _ ∙ no_names names _ (left _ _ (left _ _ h)) ∙ all_none block (right _ _ (left _ _ h)) a
stat_none (layer.TryFinally block last) h a = all_none last (right _ _ h) _ ∙ all_none block (left _ _ h) a
stat_none (layer.Scoped names body) h a = absurd (false≢true h)
stat_none (layer.Yield x kind result) h a = yield_scoped kind result _ ∙ x.2 h a

case_none : (test : Option (Pair HasNone)) (body : List (Pair HasNone)) → HasNone (within.case_step (case_first nones (record { test = test; body = body }))) (m.case_step (case_second nones (record { test = test; body = body })))
case_none None body h a = all_none body h a
case_none (Some t) body h a = all_none body (right _ _ h) _ ∙ t.2 (left _ _ h) a

none_kept : Keeps nones
none_kept = record { link = link_none; stat = stat_none; case = λ z. case_none z.test z.body; expr = λ z h a. all_none z.links (right _ _ h) _ ∙ head_scoped z.head a }

pub stats_none : (ss : List CoreStat) → Are (unscoped anything) ss → (a : Mentions) → (m.stats_mentions ss a).scoped ≡ a.scoped
stats_none [] h a = refl
stats_none (x ∷ ss) h a = stats_none ss (right _ _ h) (of_stat mentions x a) ∙ stat_related nones none_kept x (left _ _ h) a

-- ## Lawful statements

abbrev Drawn : ℕ → Mentions → Type 0
Drawn names a = list_all (λ n. nat_lt n.var.0 names) a.scoped ≡ true

abbrev Draws : lawful.Test → Adds → Type 0
Draws t f = (round : Round) → t round ≡ true → (a : Mentions) → Drawn round.names a → Drawn round.names (f a)

abbrev DrawsLink : Joint → Adds → Type 0
DrawsLink j f = (round : Round) → j.lawful round ≡ true → (a : Mentions) → Drawn round.names a → Drawn round.names (f a)

abbrev draws : Relates laws mentions
draws = record { Link = DrawsLink; Stat = Draws; Case = Draws; Expr = Draws }

all_drawn : (ps : List (Pair Draws)) (round : Round) → lawful.all_lawful (map (λ p. p.0) ps) round ≡ true → (a : Mentions) → Drawn round.names a → Drawn round.names (along (map (λ p. p.1) ps) a)
all_drawn [] round h a d = d
all_drawn (p ∷ ps) round h a d = all_drawn ps round (right _ _ h) (p.1 a) (p.2 round (left _ _ h) a d)

links_drawn : (ps : List (Pair DrawsLink)) (c : Current) (round : Round) → lawful.links_lawful c (map (λ p. p.0) ps) round ≡ true → (a : Mentions) → Drawn round.names a → Drawn round.names (along (map (λ p. p.1) ps) a)
links_drawn [] c round h a d = d
links_drawn (p ∷ ps) c round h a d = links_drawn ps (lawful.after p.0.ends) round (right _ _ h) (p.1 a) (p.2 round (right _ _ (left _ _ h)) a d)

scoped_as : (names : ℕ) {xs ys : List ScopedName} → xs ≡ ys → list_all (λ n. nat_lt n.var.0 names) ys ≡ true → list_all (λ n. nat_lt n.var.0 names) xs ≡ true
scoped_as names e d = ap (λ xs. list_all (λ n. nat_lt n.var.0 names) xs) e ∙ d

names_more : (names : ℕ) (xs ys : List ScopedName) → list_all (λ n. nat_lt n.var.0 names) xs ≡ true → list_all (λ n. nat_lt n.var.0 names) ys ≡ true → list_all (λ n. nat_lt n.var.0 names) (xs ++ ys) ≡ true
names_more names [] ys h k = k
names_more names (x ∷ xs) ys h k = both (left _ _ h) (names_more names xs ys (right _ _ h) k)

link_drawn : (z : Links draws) → DrawsLink (laws.link_step (link_first draws z)) (m.link_step (link_second draws z))
link_drawn (layer.Strict o parts site) round h a d = scoped_as round.names (op_scoped o (along (map (λ p. p.1) parts) a)) (all_drawn parts round (right _ _ h) a d)
link_drawn (layer.Lazy w taken None) round h a d = taken.2 round (left _ _ h) a d
link_drawn (layer.Lazy w taken (Some other)) round h a d = other.2 round (right _ _ h) _ (taken.2 round (left _ _ h) a d)
link_drawn (layer.Run body) round h a d = all_drawn body round h a d

stat_drawn : (z : Stats draws) → Draws (laws.stat_step (stat_first draws z)) (m.stat_step (stat_second draws z))
stat_drawn (layer.Do x) round h a d = x.2 round h a d
stat_drawn (layer.If cases) round h a d = all_drawn cases round h a d
stat_drawn (layer.Switch x cases) round h a d = all_drawn cases round (right _ _ h) _ (x.2 round (left _ _ h) a d)
stat_drawn (layer.Loop labels None None body) round h a d = all_drawn body (lawful.in_loop labels round) (right _ _ h) _ d
stat_drawn (layer.Loop labels None (Some u) body) round h a d = all_drawn body (lawful.in_loop labels round) (right _ _ h) _ (u.2 round (right _ _ (left _ _ h)) (m.labelled labels a) d)
stat_drawn (layer.Loop labels (Some t) None body) round h a d = all_drawn body (lawful.in_loop labels round) (right _ _ h) _ (t.2 round (right _ _ (left _ _ (left _ _ h))) (m.labelled labels a) d)
stat_drawn (layer.Loop labels (Some t) (Some u) body) round h a d = all_drawn body (lawful.in_loop labels round) (right _ _ h) _ (u.2 round (right _ _ (left _ _ h)) _ (t.2 round (right _ _ (left _ _ (left _ _ h))) (m.labelled labels a) d))
stat_drawn (layer.Labelled l body) round h a d = all_drawn body (lawful.under l round) (right _ _ h) (m.labelled (l ∷ []) a) d
stat_drawn (layer.Jump goes_on l) round h a d = d
stat_drawn (layer.Return x) round h a d = x.2 round (right _ _ h) a d
stat_drawn (layer.Throw x) round h a d = x.2 round h a d
stat_drawn (layer.TryCatch block x names handler) round h a d = all_drawn handler round (right _ _ h) _ (names_more round.names _ names (all_drawn block round (left _ _ (left _ _ (left _ _ h))) a d) (right _ _ (left _ _ h)))
stat_drawn (layer.TryFinally block last) round h a d = all_drawn last round (right _ _ h) _ (all_drawn block round (left _ _ h) a d)
stat_drawn (layer.Scoped names body) round h a d = all_drawn body round (right _ _ h) _ (names_more round.names a.scoped names d (left _ _ h))
stat_drawn (layer.Yield x kind result) round h a d = scoped_as round.names (yield_scoped kind result (x.1 a)) (x.2 round (right _ _ (left _ _ (left _ _ h))) a d)

case_drawn : (test : Option (Pair Draws)) (body : List (Pair Draws)) → Draws (laws.case_step (case_first draws (record { test = test; body = body }))) (m.case_step (case_second draws (record { test = test; body = body })))
case_drawn None body round h a d = all_drawn body round h a d
case_drawn (Some t) body round h a d = all_drawn body round (right _ _ h) _ (t.2 round (left _ _ h) a d)

drawn_kept : Keeps draws
drawn_kept = record { link = link_drawn; stat = stat_drawn; case = λ z. case_drawn z.test z.body; expr = λ z round h a d. links_drawn z.links (lawful.begins z.head) round (right _ _ (left _ _ h)) (m.of_head z.head a) (scoped_as round.names (head_scoped z.head a) d) }

pub stats_drawn : (ss : List CoreStat) (round : Round) → lawful.stats_lawful ss round ≡ true → (a : Mentions) → list_all (λ n. nat_lt n.var.0 round.names) a.scoped ≡ true → list_all (λ n. nat_lt n.var.0 round.names) (m.stats_mentions ss a).scoped ≡ true
stats_drawn [] round h a d = d
stats_drawn (x ∷ ss) round h a d = stats_drawn ss round (right _ _ h) (of_stat mentions x a) (stat_related draws drawn_kept x round (left _ _ h) a d)
