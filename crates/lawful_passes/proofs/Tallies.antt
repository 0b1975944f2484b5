-- What stands in statements, counted: the numbers that mentions have are sums over the nodes.
use Rattle.std.proofs.Common.{◌≡◌, ℕ, ◌+◌, Bool, cond, nat_eq, List, [], ◌∷◌, ◌++◌, map, Option, None, Some, refl, sym, ap, arith, ◌∙◌}
use Rattle.core_ast.specs.declared.gathering.Mentions.{Mentions}
use Rattle.core_ast.specs.declared.parts.CoreHead.{CoreHead}
use Rattle.core_ast.specs.declared.parts.CoreHead.TheVariants as head
use Rattle.core_ast.specs.declared.parts.CoreOp.{CoreOp}
use Rattle.core_ast.specs.declared.parts.CoreOp.TheVariants as op
use Rattle.core_ast.specs.declared.parts.FunctionId.{FunctionId}
use Rattle.core_ast.specs.declared.parts.Label.{Label}
use Rattle.core_ast.specs.declared.parts.ScopedName.{ScopedName}
use Rattle.core_ast.specs.declared.parts.Var.{Var}
use Rattle.core_ast.specs.declared.tree.CoreLink.{CoreLink}
use Rattle.core_ast.specs.declared.tree.CoreStat.{CoreStat}
use Rattle.core_ast.specs.declared.tree.CoreCase.{CoreCase}
use Rattle.core_ast.specs.declared.tree.CoreExpr.{CoreExpr}
use Rattle.core_ast.specs.declared.tree.CoreLink.TheOpen as layer
use Rattle.core_ast.specs.declared.whole.CoreFunction.{CoreFunction}
use Rattle.core_ast.specs.declared.whole.CorePart.{CorePart}
use Rattle.core_ast.specs.Lawful.{declared_in, held_in, numbers, scoped_numbers}
use Rattle.core_ast.specs.Mentions as m
use Rattle.core_ast.specs.Mentions.{Adds, function_mentions, part_mentions, none, stats_mentions}
use Rattle.core_ast.specs.Walks.{along}
use Rattle.pass_rules.proofs.pass_laws.Distinct.{count, count_more}
use Rattle.pass_rules.proofs.pass_laws.Related.{Fold, Pair, of_stat, in_link, in_stat, in_case, in_expr, link_rolled, stat_rolled, case_rolled, expr_rolled}
use Rattle.pass_rules.proofs.pass_laws.Induced.{Shows, Keeps, Links, Stats, Exprs, link_first, link_second, stat_first, stat_second, case_first, case_second, expr_first, expr_second, stat_induced}
use Rattle.lawful_passes.proofs.Weights.{Such, total, stats_marks, stat_marks, case_marks, expr_marks, link_marks, function_marks, part_marks}
use Rattle.lawful_passes.proofs.WeightCounts.{counts}

abbrev pub mentions : Fold
mentions = record { Link = Adds; Stat = Adds; Case = Adds; Expr = Adds; link_step = m.link_step; stat_step = m.stat_step; case_step = m.case_step; expr_step = m.expr_step }

-- a number of mentions to which each node adds what it weighs
pub record Tally (such : Such) : Type 0 where
  pub of : Mentions → ℕ
  pub heads : (h : CoreHead) (a : Mentions) → of (m.of_head h a) ≡ of a + such.weighs h
  pub ops : (o : CoreOp) (a : Mentions) → of (m.of_op o a) ≡ of a + such.acts o
  pub yields : (kind : Option Var) (result : Var) (a : Mentions) → of (m.of_yield kind result a) ≡ of a
  pub labels : (ls : List Label) (a : Mentions) → of (m.labelled ls a) ≡ of a
  pub caughts : (x : Var) (a : Mentions) → of (m.catches x a) ≡ of a + such.caught x
  pub scopes : (ns : List ScopedName) (a : Mentions) → of (m.scopes ns a) ≡ of a + such.scoped ns

abbrev OfLink : (such : Such) → Tally such → CoreLink → Adds → Type 0
OfLink such t y f = (a : Mentions) → t.of (f a) ≡ t.of a + link_marks such y

abbrev OfStat : (such : Such) → Tally such → CoreStat → Adds → Type 0
OfStat such t y f = (a : Mentions) → t.of (f a) ≡ t.of a + stat_marks such y

abbrev OfCase : (such : Such) → Tally such → CoreCase → Adds → Type 0
OfCase such t y f = (a : Mentions) → t.of (f a) ≡ t.of a + case_marks such y

abbrev OfExpr : (such : Such) → Tally such → CoreExpr → Adds → Type 0
OfExpr such t y f = (a : Mentions) → t.of (f a) ≡ t.of a + expr_marks such y

abbrev shown : (such : Such) → Tally such → Shows mentions
shown such t = record { Link = OfLink such t; Stat = OfStat such t; Case = OfCase such t; Expr = OfExpr such t }

stats_along : (such : Such) (t : Tally such) (ps : List (Pair (OfStat such t))) (a : Mentions) → t.of (along (map (λ q. q.1) ps) a) ≡ t.of a + total (map (stat_marks such) (map (λ q. q.0) ps))
stats_along such t [] a = omega arith
stats_along such t (y ∷ ps) a = let b = y.2 a in let c = stats_along such t ps (y.1 a) in omega arith

cases_along : (such : Such) (t : Tally such) (ps : List (Pair (OfCase such t))) (a : Mentions) → t.of (along (map (λ q. q.1) ps) a) ≡ t.of a + total (map (case_marks such) (map (λ q. q.0) ps))
cases_along such t [] a = omega arith
cases_along such t (y ∷ ps) a = let b = y.2 a in let c = cases_along such t ps (y.1 a) in omega arith

parts_along : (such : Such) (t : Tally such) (ps : List (Pair (OfExpr such t))) (a : Mentions) → t.of (along (map (λ q. q.1) ps) a) ≡ t.of a + total (map (expr_marks such) (map (λ q. q.0) ps))
parts_along such t [] a = omega arith
parts_along such t (y ∷ ps) a = let b = y.2 a in let c = parts_along such t ps (y.1 a) in omega arith

links_along : (such : Such) (t : Tally such) (ps : List (Pair (OfLink such t))) (a : Mentions) → t.of (along (map (λ q. q.1) ps) a) ≡ t.of a + total (map (link_marks such) (map (λ q. q.0) ps))
links_along such t [] a = omega arith
links_along such t (y ∷ ps) a = let b = y.2 a in let c = links_along such t ps (y.1 a) in omega arith

link_by : (such : Such) (t : Tally such) (z : Links (shown such t)) (a : Mentions) → t.of (m.link_step (link_second (shown such t) z) a) ≡ t.of a + (counts such).link_step (in_link (counts such) (link_first (shown such t) z))
link_by such t (layer.Strict o parts site) a = let b = parts_along such t parts a in let c = t.ops o (along (map (λ q. q.1) parts) a) in omega arith
link_by such t (layer.Lazy w taken None) a = let b = taken.2 a in omega arith
link_by such t (layer.Lazy w taken (Some other)) a = let b = taken.2 a in let c = other.2 (taken.1 a) in omega arith
link_by such t (layer.Run body) a = let b = stats_along such t body a in omega arith

expr_by : (such : Such) (t : Tally such) (z : Exprs (shown such t)) (a : Mentions) → t.of (m.expr_step (expr_second (shown such t) z) a) ≡ t.of a + (counts such).expr_step (in_expr (counts such) (expr_first (shown such t) z))
expr_by such t z a = let b = t.heads z.head a in let c = links_along such t z.links (m.of_head z.head a) in omega arith

case_by : (such : Such) (t : Tally such) (test : Option (Pair (OfExpr such t))) (body : List (Pair (OfStat such t))) (a : Mentions) → t.of (m.case_step (case_second (shown such t) (record { test = test; body = body })) a) ≡ t.of a + (counts such).case_step (in_case (counts such) (case_first (shown such t) (record { test = test; body = body })))
case_by such t None body a = let b = stats_along such t body a in omega arith
case_by such t (Some y) body a = let b = y.2 a in let c = stats_along such t body (y.1 a) in omega arith

stat_by : (such : Such) (t : Tally such) (z : Stats (shown such t)) (a : Mentions) → t.of (m.stat_step (stat_second (shown such t) z) a) ≡ t.of a + (counts such).stat_step (in_stat (counts such) (stat_first (shown such t) z))
stat_by such t (layer.Do x) a = x.2 a
stat_by such t (layer.If cases) a = cases_along such t cases a
stat_by such t (layer.Switch subject cases) a = let b = subject.2 a in let c = cases_along such t cases (subject.1 a) in omega arith
stat_by such t (layer.Loop labels None None body) a = let l = t.labels labels a in let d = stats_along such t body (m.labelled labels a) in omega arith
stat_by such t (layer.Loop labels None (Some v) body) a = let l = t.labels labels a in let c = v.2 (m.labelled labels a) in let d = stats_along such t body (v.1 (m.labelled labels a)) in omega arith
stat_by such t (layer.Loop labels (Some u) None body) a = let l = t.labels labels a in let c = u.2 (m.labelled labels a) in let d = stats_along such t body (u.1 (m.labelled labels a)) in omega arith
stat_by such t (layer.Loop labels (Some u) (Some v) body) a = let l = t.labels labels a in let c = u.2 (m.labelled labels a) in let e = v.2 (u.1 (m.labelled labels a)) in let d = stats_along such t body (v.1 (u.1 (m.labelled labels a))) in omega arith
stat_by such t (layer.Labelled label body) a = let l = t.labels (label ∷ []) a in let d = stats_along such t body (m.labelled (label ∷ []) a) in omega arith
stat_by such t (layer.Jump goes_on label) a = omega arith
stat_by such t (layer.Return x) a = x.2 a
stat_by such t (layer.Throw x) a = x.2 a
stat_by such t (layer.TryCatch block parameter names handler) a =
    let b = stats_along such t block a in let block_done = along (map (λ q. q.1) block) a in let c = t.caughts parameter block_done in let d = t.scopes names (m.catches parameter block_done) in
    let e = stats_along such t handler (m.scopes names (m.catches parameter block_done)) in omega arith
stat_by such t (layer.TryFinally block last) a = let b = stats_along such t block a in let c = stats_along such t last (along (map (λ q. q.1) block) a) in omega arith
stat_by such t (layer.Scoped names body) a = let b = t.scopes names a in let c = stats_along such t body (m.scopes names a) in omega arith
stat_by such t (layer.Yield value kind result) a = let b = value.2 a in let c = t.yields kind result (value.1 a) in omega arith

keeps : (such : Such) (t : Tally such) → Keeps (shown such t)
keeps such t = record {
  link = λ z a. link_by such t z a ∙ ap (λ n. t.of a + n) (sym (link_rolled (counts such) (link_first (shown such t) z)));
  stat = λ z a. stat_by such t z a ∙ ap (λ n. t.of a + n) (sym (stat_rolled (counts such) (stat_first (shown such t) z)));
  case = λ z a. case_by such t z.test z.body a ∙ ap (λ n. t.of a + n) (sym (case_rolled (counts such) (case_first (shown such t) z)));
  expr = λ z a. expr_by such t z a ∙ ap (λ n. t.of a + n) (sym (expr_rolled (counts such) (expr_first (shown such t) z)));
}

pub stats_tallied : (such : Such) (t : Tally such) (ss : List CoreStat) (a : Mentions) → t.of (stats_mentions ss a) ≡ t.of a + stats_marks such ss
stats_tallied such t [] a = omega arith
stats_tallied such t (y ∷ ss) a = let b = stat_induced (shown such t) (keeps such t) y a in let c = stats_tallied such t ss (of_stat mentions y a) in omega arith

pub function_tallied : (such : Such) (t : Tally such) (f : CoreFunction) → t.of (function_mentions f) ≡ t.of none + function_marks such f
function_tallied such t f =
    let a = stats_tallied such t f.setup none in let b = stats_tallied such t f.body (stats_mentions f.setup none) in let c = stats_tallied such t f.step (stats_mentions f.body (stats_mentions f.setup none)) in omega arith

pub part_tallied : (such : Such) (t : Tally such) (p : CorePart) → t.of (part_mentions p) ≡ t.of none + part_marks such p
part_tallied such t p = let a = stats_tallied such t p.instantiate none in let b = stats_tallied such t p.body (stats_mentions p.instantiate none) in omega arith

-- ## Functions that are held

abbrev pub one_by : Bool → ℕ
one_by b = cond b 1 0

abbrev pub one_of : ℕ → ℕ → ℕ
one_of n i = one_by (nat_eq n i)

abbrev pub function_weight : ℕ → CoreHead → ℕ
function_weight n (head.Function f) = one_of n f.0
function_weight n h = 0

abbrev pub holding : ℕ → Such
holding n = record { weighs = function_weight n; acts = λ o. 0; caught = λ x. 0; scoped = λ ns. 0; quiet = λ o h. refl; variable = λ x. refl; constant = λ c. refl; list = refl; making = refl; unscoped = refl }

ids_one : (fs : List FunctionId) (f : FunctionId) → map (λ (g : FunctionId). g.0) (fs ++ f ∷ []) ≡ map (λ (g : FunctionId). g.0) fs ++ f.0 ∷ []
ids_one [] f = refl
ids_one (g ∷ fs) f = ap (λ ns. g.0 ∷ ns) (ids_one fs f)

held_more : (n : ℕ) (fs : List FunctionId) (f : FunctionId) → count n (map (λ (g : FunctionId). g.0) (fs ++ f ∷ [])) ≡ count n (map (λ (g : FunctionId). g.0) fs) + one_of n f.0
held_more n fs f = ap (count n) (ids_one fs f) ∙ count_more n (map (λ (g : FunctionId). g.0) fs) (f.0 ∷ []) ∙ (let a : count n (f.0 ∷ []) ≡ one_of n f.0 + 0 = refl in omega arith)

held_heads : (n : ℕ) (h : CoreHead) (a : Mentions) → count n (held_in (m.of_head h a)) ≡ count n (held_in a) + function_weight n h
unfolding m.of_head
held_heads n (head.Function f) a = held_more n a.functions f
held_heads n (head.Variable x) a = omega arith
held_heads n (head.TypeOf x) a = omega arith
held_heads n (head.Copy xs) a = omega arith
held_heads n h a = omega arith

held_ops : (n : ℕ) (o : CoreOp) (a : Mentions) → count n (held_in (m.of_op o a)) ≡ count n (held_in a) + 0
unfolding m.of_op
held_ops n (op.Set x) a = omega arith
held_ops n (op.Init x) a = omega arith
held_ops n (op.StepVariable u x) a = omega arith
held_ops n o a = omega arith

held_yields : (n : ℕ) (kind : Option Var) (result : Var) (a : Mentions) → count n (held_in (m.of_yield kind result a)) ≡ count n (held_in a)
unfolding m.of_yield
held_yields n None result a = refl
held_yields n (Some kind) result a = refl

pub held_tally : (n : ℕ) → Tally (holding n)
held_tally n = record {
  of = λ a. count n (held_in a);
  heads = held_heads n;
  ops = held_ops n;
  yields = held_yields n;
  labels = λ ls a. refl;
  caughts = λ x a. omega arith;
  scopes = λ ns a. omega arith;
}

-- ## Names that are declared

abbrev pub declaring : ℕ → Such
declaring n = record { weighs = λ h. 0; acts = λ o. 0; caught = λ x. one_of n x.0; scoped = λ ns. count n (scoped_numbers ns); quiet = λ o h. refl; variable = λ x. refl; constant = λ c. refl; list = refl; making = refl; unscoped = refl }

scoped_more : (xs ys : List ScopedName) → scoped_numbers (xs ++ ys) ≡ scoped_numbers xs ++ scoped_numbers ys
scoped_more [] ys = refl
scoped_more (x ∷ xs) ys = ap (λ ns. x.var.0 ∷ ns) (scoped_more xs ys)

numbers_more : (xs ys : List Var) → numbers (xs ++ ys) ≡ numbers xs ++ numbers ys
numbers_more [] ys = refl
numbers_more (x ∷ xs) ys = ap (λ ns. x.0 ∷ ns) (numbers_more xs ys)

declared_is : (n : ℕ) (a : Mentions) → count n (declared_in a) ≡ count n (scoped_numbers a.scoped) + count n (numbers a.caught)
declared_is n a = count_more n (scoped_numbers a.scoped) (numbers a.caught)

declared_heads : (n : ℕ) (h : CoreHead) (a : Mentions) → count n (declared_in (m.of_head h a)) ≡ count n (declared_in a) + 0
unfolding m.of_head
declared_heads n (head.Function f) a = omega arith
declared_heads n (head.Variable x) a = omega arith
declared_heads n (head.TypeOf x) a = omega arith
declared_heads n (head.Copy xs) a = omega arith
declared_heads n h a = omega arith

declared_ops : (n : ℕ) (o : CoreOp) (a : Mentions) → count n (declared_in (m.of_op o a)) ≡ count n (declared_in a) + 0
unfolding m.of_op
declared_ops n (op.Set x) a = omega arith
declared_ops n (op.Init x) a = omega arith
declared_ops n (op.StepVariable u x) a = omega arith
declared_ops n o a = omega arith

declared_yields : (n : ℕ) (kind : Option Var) (result : Var) (a : Mentions) → count n (declared_in (m.of_yield kind result a)) ≡ count n (declared_in a)
unfolding m.of_yield
declared_yields n None result a = refl
declared_yields n (Some kind) result a = refl

declared_caught : (n : ℕ) (x : Var) (a : Mentions) → count n (declared_in (m.catches x a)) ≡ count n (declared_in a) + one_of n x.0
declared_caught n x a =
    let b = declared_is n (m.catches x a) in let c = declared_is n a in let d = ap (count n) (numbers_more a.caught (x ∷ [])) in let e = count_more n (numbers a.caught) (x.0 ∷ []) in
    let g : count n (x.0 ∷ []) ≡ one_of n x.0 + 0 = refl in omega arith

declared_scopes : (n : ℕ) (ns : List ScopedName) (a : Mentions) → count n (declared_in (m.scopes ns a)) ≡ count n (declared_in a) + count n (scoped_numbers ns)
declared_scopes n ns a =
    let b = declared_is n (m.scopes ns a) in let c = declared_is n a in let d = ap (count n) (scoped_more a.scoped ns) in let e = count_more n (scoped_numbers a.scoped) (scoped_numbers ns) in omega arith

pub declared_tally : (n : ℕ) → Tally (declaring n)
declared_tally n = record {
  of = λ a. count n (declared_in a);
  heads = declared_heads n;
  ops = declared_ops n;
  yields = declared_yields n;
  labels = λ ls a. refl;
  caughts = declared_caught n;
  scopes = declared_scopes n;
}

-- ## In functions and parts

pub function_declared : (n : ℕ) (f : CoreFunction) → count n (declared_in (function_mentions f)) ≡ function_marks (declaring n) f
unfolding declared_tally
function_declared n f = let a : count n (declared_in (function_mentions f)) ≡ 0 + function_marks (declaring n) f = function_tallied (declaring n) (declared_tally n) f in omega arith

pub part_declared : (n : ℕ) (p : CorePart) → count n (declared_in (part_mentions p)) ≡ part_marks (declaring n) p
unfolding declared_tally
part_declared n p = let a : count n (declared_in (part_mentions p)) ≡ 0 + part_marks (declaring n) p = part_tallied (declaring n) (declared_tally n) p in omega arith

pub function_holding : (n : ℕ) (f : CoreFunction) → count n (held_in (function_mentions f)) ≡ function_marks (holding n) f
unfolding held_tally
function_holding n f = let a : count n (held_in (function_mentions f)) ≡ 0 + function_marks (holding n) f = function_tallied (holding n) (held_tally n) f in omega arith

pub part_holding : (n : ℕ) (p : CorePart) → count n (held_in (part_mentions p)) ≡ part_marks (holding n) p
unfolding held_tally
part_holding n p = let a : count n (held_in (part_mentions p)) ≡ 0 + part_marks (holding n) p = part_tallied (holding n) (held_tally n) p in omega arith
