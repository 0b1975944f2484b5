-- The labels that mentions have are those that are told, in their order.
use Rattle.std.proofs.Common.{◌≡◌, ℕ, ◌+◌, ◌≤◌, ◌<◌, max, Bool, true, false, ◌||◌, nat_eq, nat_lt, List, [], ◌∷◌, ◌++◌, map, Option, None, Some, refl, ap, arith, ◌∙◌}
use Rattle.std.proofs.lemmas.Bool.{false≢true, eqb-true, lt-ltb}
use Rattle.std.specs.List.{list_all}
use Rattle.core_ast.specs.declared.gathering.Mentions.{Mentions}
use Rattle.core_ast.specs.declared.parts.CoreHead.{CoreHead}
use Rattle.core_ast.specs.declared.parts.CoreHead.TheVariants as head
use Rattle.core_ast.specs.declared.parts.CoreOp.{CoreOp}
use Rattle.core_ast.specs.declared.parts.CoreOp.TheVariants as op
use Rattle.core_ast.specs.declared.parts.Label.{Label}
use Rattle.core_ast.specs.declared.parts.Var.{Var}
use Rattle.core_ast.specs.declared.tree.CoreStat.{CoreStat}
use Rattle.core_ast.specs.declared.tree.CoreLink.TheOpen as layer
use Rattle.core_ast.specs.declared.whole.CoreFunction.{CoreFunction}
use Rattle.core_ast.specs.declared.whole.CorePart.{CorePart}
use Rattle.core_ast.specs.Lawful.{has_number}
use Rattle.core_ast.specs.Mentions as m
use Rattle.core_ast.specs.Mentions.{Adds, function_mentions, part_mentions, none, stats_mentions}
use Rattle.core_ast.specs.Walks.{along}
use Rattle.pass_rules.specs.yield_rules.Yields.{label_behind, name_behind}
use Rattle.pass_rules.proofs.pass_laws.Related.{Relates, Keeps, Pair, Links, Stats, Exprs, link_first, link_second, stat_first, stat_second, case_first, case_second, expr_first, expr_second, stat_related, of_stat}
use Rattle.pass_rules.proofs.pass_laws.Within.{both}
use Rattle.lawful_passes.specs.Told as t
use Rattle.lawful_passes.specs.Told.{Told, function_told, part_told}
use Rattle.lawful_passes.proofs.Labels.{numbers_of}
use Rattle.lawful_passes.proofs.Tallies.{mentions}
use Rattle.lawful_passes.proofs.Turned.{tells}

abbrev Of : Adds → Told → Type 0
Of f k = (a : Mentions) → numbers_of (f a).labels ≡ numbers_of a.labels ++ k.labels

abbrev same : Relates mentions tells
same = record { Link = Of; Stat = Of; Case = Of; Expr = Of }

assoc : (xs ys zs : List ℕ) → (xs ++ ys) ++ zs ≡ xs ++ (ys ++ zs)
assoc [] ys zs = refl
assoc (x ∷ xs) ys zs = ap (λ vs. x ∷ vs) (assoc xs ys zs)

nothing_more : (xs : List ℕ) → xs ≡ xs ++ []
nothing_more [] = refl
nothing_more (x ∷ xs) = ap (λ ys. x ∷ ys) (nothing_more xs)

-- one after the other
after : (xs ys zs us vs : List ℕ) → us ≡ xs ++ ys → vs ≡ us ++ zs → vs ≡ xs ++ (ys ++ zs)
after xs ys zs us vs h k = k ∙ ap (λ ws. ws ++ zs) h ∙ assoc xs ys zs

numbers_more : (ls ks : List Label) → numbers_of (ls ++ ks) ≡ numbers_of ls ++ numbers_of ks
numbers_more [] ks = refl
numbers_more (l ∷ ls) ks = ap (λ ns. l.0 ∷ ns) (numbers_more ls ks)

along_same : (ps : List (Pair Of)) (a : Mentions) → numbers_of (along (map (λ q. q.0) ps) a).labels ≡ numbers_of a.labels ++ (t.all (map (λ q. q.1) ps)).labels
along_same [] a = nothing_more (numbers_of a.labels)
along_same (y ∷ ps) a = after (numbers_of a.labels) (y.1).labels (t.all (map (λ q. q.1) ps)).labels _ _ (y.2 a) (along_same ps (y.0 a))

of_op_labels : (o : CoreOp) (a : Mentions) → (m.of_op o a).labels ≡ a.labels
unfolding m.of_op
of_op_labels (op.Set x) a = refl
of_op_labels (op.Init x) a = refl
of_op_labels (op.StepVariable u x) a = refl
of_op_labels o a = refl

of_head_labels : (h : CoreHead) (a : Mentions) → (m.of_head h a).labels ≡ a.labels
unfolding m.of_head
of_head_labels (head.Variable x) a = refl
of_head_labels (head.TypeOf x) a = refl
of_head_labels (head.Copy xs) a = refl
of_head_labels (head.Function f) a = refl
of_head_labels h a = refl

of_yield_labels : (kind : Option Var) (result : Var) (a : Mentions) → (m.of_yield kind result a).labels ≡ a.labels
unfolding m.of_yield
of_yield_labels None result a = refl
of_yield_labels (Some kind) result a = refl

link_same : (z : Links same) → Of (m.link_step (link_first same z)) (t.link_step (link_second same z))
link_same (layer.Strict o parts site) a = ap numbers_of (of_op_labels o (along (map (λ q. q.0) parts) a)) ∙ along_same parts a
link_same (layer.Lazy w taken None) a = after (numbers_of a.labels) (taken.1).labels [] _ _ (taken.2 a) (nothing_more _)
link_same (layer.Lazy w taken (Some other)) a = after (numbers_of a.labels) (taken.1).labels (other.1).labels _ _ (taken.2 a) (other.2 (taken.0 a))
link_same (layer.Run body) a = along_same body a

expr_same : (z : Exprs same) → Of (m.expr_step (expr_first same z)) (t.expr_step (expr_second same z))
expr_same z a = along_same z.links (m.of_head z.head a) ∙ ap (λ ls. numbers_of ls ++ (t.all (map (λ q. q.1) z.links)).labels) (of_head_labels z.head a)

case_by : (test : Option (Pair Of)) (body : List (Pair Of)) → Of (m.case_step (case_first same (record { test = test; body = body }))) (t.case_step (case_second same (record { test = test; body = body })))
case_by None body a = along_same body a
case_by (Some y) body a = after (numbers_of a.labels) (y.1).labels (t.all (map (λ q. q.1) body)).labels _ _ (y.2 a) (along_same body (y.0 a))

-- with labels first
behind_labels : (ls : List Label) (a : Mentions) (ys vs : List ℕ) → vs ≡ numbers_of (m.labelled ls a).labels ++ ys → vs ≡ numbers_of a.labels ++ (numbers_of ls ++ ys)
behind_labels ls a ys vs h = after (numbers_of a.labels) (numbers_of ls) ys (numbers_of (m.labelled ls a).labels) vs (numbers_more a.labels ls) h

stat_same : (z : Stats same) → Of (m.stat_step (stat_first same z)) (t.stat_step (stat_second same z))
stat_same (layer.Do x) a = x.2 a
stat_same (layer.If cases) a = along_same cases a
stat_same (layer.Switch subject cases) a = after (numbers_of a.labels) (subject.1).labels (t.all (map (λ q. q.1) cases)).labels _ _ (subject.2 a) (along_same cases (subject.0 a))
stat_same (layer.Loop labels None None body) a = behind_labels labels a (t.all (map (λ q. q.1) body)).labels _ (along_same body (m.labelled labels a))
stat_same (layer.Loop labels None (Some v) body) a =
    let b = m.labelled labels a in behind_labels labels a ((v.1).labels ++ (t.all (map (λ q. q.1) body)).labels) _ (after (numbers_of b.labels) (v.1).labels (t.all (map (λ q. q.1) body)).labels _ _ (v.2 b) (along_same body (v.0 b)))
stat_same (layer.Loop labels (Some u) None body) a =
    let b = m.labelled labels a in let ws = (t.all (map (λ q. q.1) body)).labels in
    behind_labels labels a (((u.1).labels ++ []) ++ ws) _ (after (numbers_of b.labels) ((u.1).labels ++ []) ws _ _ (after (numbers_of b.labels) (u.1).labels [] _ _ (u.2 b) (nothing_more _)) (along_same body (u.0 b)))
stat_same (layer.Loop labels (Some u) (Some v) body) a =
    let b = m.labelled labels a in let ws = (t.all (map (λ q. q.1) body)).labels in
    behind_labels labels a (((u.1).labels ++ (v.1).labels) ++ ws) _ (after (numbers_of b.labels) ((u.1).labels ++ (v.1).labels) ws _ _ (after (numbers_of b.labels) (u.1).labels (v.1).labels _ _ (u.2 b) (v.2 (u.0 b))) (along_same body (v.0 (u.0 b))))
stat_same (layer.Labelled label body) a = behind_labels (label ∷ []) a (t.all (map (λ q. q.1) body)).labels _ (along_same body (m.labelled (label ∷ []) a))
stat_same (layer.Jump goes_on label) a = nothing_more (numbers_of a.labels)
stat_same (layer.Return x) a = x.2 a
stat_same (layer.Throw x) a = x.2 a
stat_same (layer.TryCatch block parameter names handler) a =
    let b = along (map (λ q. q.0) block) a in after (numbers_of a.labels) (t.all (map (λ q. q.1) block)).labels (t.all (map (λ q. q.1) handler)).labels _ _ (along_same block a) (along_same handler (m.scopes names (m.catches parameter b)))
stat_same (layer.TryFinally block last) a = after (numbers_of a.labels) (t.all (map (λ q. q.1) block)).labels (t.all (map (λ q. q.1) last)).labels _ _ (along_same block a) (along_same last (along (map (λ q. q.0) block) a))
stat_same (layer.Scoped names body) a = along_same body (m.scopes names a)
stat_same (layer.Yield value kind result) a = ap numbers_of (of_yield_labels kind result (value.0 a)) ∙ value.2 a

keeps : Keeps same
keeps = record { link = link_same; stat = stat_same; case = λ z. case_by z.test z.body; expr = expr_same }

stats_same : (ss : List CoreStat) (a : Mentions) → numbers_of (stats_mentions ss a).labels ≡ numbers_of a.labels ++ (t.stats_told ss).labels
stats_same [] a = nothing_more (numbers_of a.labels)
stats_same (y ∷ ss) a = after (numbers_of a.labels) (t.stat_told y).labels (t.stats_told ss).labels _ _ (stat_related same keeps y a) (stats_same ss (of_stat mentions y a))

pub function_labels : (f : CoreFunction) → numbers_of (function_mentions f).labels ≡ (function_told f).labels
function_labels f = after [] ((t.stats_told f.setup).labels ++ (t.stats_told f.body).labels) (t.stats_told f.step).labels _ _
    (after [] (t.stats_told f.setup).labels (t.stats_told f.body).labels _ _ (stats_same f.setup none) (stats_same f.body (stats_mentions f.setup none))) (stats_same f.step (stats_mentions f.body (stats_mentions f.setup none)))

pub part_labels : (p : CorePart) → numbers_of (part_mentions p).labels ≡ (part_told p).labels
part_labels p = after [] (t.stats_told p.instantiate).labels (t.stats_told p.body).labels _ _ (stats_same p.instantiate none) (stats_same p.body (stats_mentions p.instantiate none))

-- ## The first label and the first name behind

behind_least : (ls : List Label) (n : ℕ) → n ≤ label_behind ls n
behind_least [] n = omega arith
behind_least (l ∷ ls) n = let a = behind_least ls (max n (l.0 + 1)) in omega arith

pub label_below : (ls : List Label) (n i : ℕ) → has_number i (numbers_of ls) ≡ true → i < label_behind ls n
label_below [] n i h = absurd (false≢true h)
label_below (l ∷ ls) n i h = below_by (nat_eq i l.0) refl h (label_below ls (max n (l.0 + 1)) i)
  where
    below_by : (c : Bool) → nat_eq i l.0 ≡ c → (c || has_number i (numbers_of ls)) ≡ true → (has_number i (numbers_of ls) ≡ true → i < label_behind ls (max n (l.0 + 1))) → i < label_behind ls (max n (l.0 + 1))
    below_by true e h f = let a = eqb-true i l.0 e in let b = behind_least ls (max n (l.0 + 1)) in omega arith
    below_by false e h f = f h

name_least : (xs : List Var) (n : ℕ) → n ≤ name_behind xs n
name_least [] n = omega arith
name_least (x ∷ xs) n = let a = name_least xs (max n (x.0 + 1)) in omega arith

pub names_least : (xs : List Var) (n : ℕ) → n ≤ name_behind xs n
names_least = name_least

pub names_below : (xs : List Var) (n top : ℕ) → name_behind xs n ≤ top → list_all (λ (x : Var). nat_lt x.0 top) xs ≡ true
names_below [] n top h = refl
names_below (x ∷ xs) n top h = both (let a = name_least xs (max n (x.0 + 1)) in lt-ltb x.0 top (omega arith)) (names_below xs (max n (x.0 + 1)) top h)
