-- Lawful statements are lawful for fewer names, if those that they use, catch and make cells of are among these.
use Rattle.std.specs.List.{list_all}
use Rattle.std.proofs.Common.{◌≡◌, ℕ, ◌+◌, Bool, true, false, cond, nat_lt, List, [], ◌∷◌, ◌++◌, map, Option, None, Some, refl, sym, ap, arith, subst, ◌∙◌}
use Rattle.std.proofs.lemmas.Bool.{false≢true}
use Rattle.core_ast.specs.declared.gathering.Mentions.{Mentions}
use Rattle.core_ast.specs.declared.parts.Constant.TheVariants.{Integer}
use Rattle.core_ast.specs.declared.parts.CoreHead.{CoreHead}
use Rattle.core_ast.specs.declared.parts.CoreHead.TheVariants as head
use Rattle.core_ast.specs.declared.parts.CoreOp.{CoreOp}
use Rattle.core_ast.specs.declared.parts.CoreOp.TheVariants as op
use Rattle.core_ast.specs.declared.parts.Primitive.{Primitive}
use Rattle.core_ast.specs.declared.parts.Primitive.TheVariants as primitive
use Rattle.core_ast.specs.declared.parts.ScopedName.{ScopedName}
use Rattle.core_ast.specs.declared.parts.Var.{Var}
use Rattle.core_ast.specs.declared.tree.CoreLink.{CoreLink}
use Rattle.core_ast.specs.declared.tree.CoreStat.{CoreStat}
use Rattle.core_ast.specs.declared.tree.CoreCase.{CoreCase}
use Rattle.core_ast.specs.declared.tree.CoreExpr.{CoreExpr}
use Rattle.core_ast.specs.declared.tree.CoreLink.TheOpen as layer
use Rattle.core_ast.specs.Lawful as lawful
use Rattle.core_ast.specs.Lawful.{Round, Joint, Test, Current}
use Rattle.core_ast.specs.Mentions as m
use Rattle.core_ast.specs.Mentions.{Adds, stats_mentions}
use Rattle.core_ast.specs.Walks.{along}
use Rattle.pass_rules.proofs.pass_laws.Related.{Pair, of_link, of_stat, of_case, of_expr, in_link, in_stat, in_case, in_expr, link_rolled, stat_rolled, case_rolled, expr_rolled}
use Rattle.pass_rules.proofs.pass_laws.Induced.{Shows, Keeps, Links, Stats, Exprs, link_first, link_second, stat_first, stat_second, case_first, case_second, expr_first, expr_second, stat_induced}
use Rattle.pass_rules.proofs.pass_laws.Starts.{laws}
use Rattle.pass_rules.proofs.pass_laws.Within.{left, right, both}
use Rattle.lawful_passes.proofs.Tallies.{mentions}
use Rattle.lawful_passes.proofs.Weights.{Such, is_quiet, total, stats_marks, stat_marks, case_marks, expr_marks, link_marks}
use Rattle.lawful_passes.proofs.WeightCounts.{counts}

-- ## Names behind so many, where no use is told of: cells that are made, parameters of handlers, names of scopes

abbrev pub over_by : Bool → ℕ
over_by b = cond b 0 1

abbrev pub over : ℕ → ℕ → ℕ
over n i = over_by (nat_lt i n)

abbrev pub cells_over : ℕ → CoreOp → ℕ
cells_over n (op.Primitive (primitive.CellMake x)) = over n x.0
cells_over n o = 0

abbrev pub scoped_over : ℕ → List ScopedName → ℕ
scoped_over n [] = 0
scoped_over n (x ∷ xs) = over n x.var.0 + scoped_over n xs

pub quiet_cells : (n : ℕ) (o : CoreOp) → is_quiet o ≡ true → cells_over n o ≡ 0
quiet_cells n (op.Primitive (primitive.CellMake x)) h = absurd (false≢true h)
quiet_cells n (op.Primitive p) h = quiet_primitive n p h
  where
    quiet_primitive : (n : ℕ) (p : Primitive) → is_quiet (op.Primitive p) ≡ true → cells_over n (op.Primitive p) ≡ 0
    quiet_primitive n (primitive.CellMake x) h = absurd (false≢true h)
    quiet_primitive n p h = refl
quiet_cells n o h = refl

abbrev pub beyond : ℕ → Such
beyond n = record { weighs = λ h. 0; acts = cells_over n; caught = λ x. over n x.0; scoped = scoped_over n; quiet = quiet_cells n; variable = λ x. refl; constant = λ c. refl; list = refl; making = refl; unscoped = refl }

not_over : (n i : ℕ) (b : Bool) → nat_lt i n ≡ b → over_by b ≡ 0 → nat_lt i n ≡ true
not_over n i true e h = e
not_over n i false e h = absurd (let z : over_by false ≡ 0 = h in let y : ⊥ = omega arith in y)

pub is_over : (n i : ℕ) → nat_lt i n ≡ true → over n i ≡ 0
is_over n i h = ap over_by h

-- ## Uses

abbrev pub Below : ℕ → Mentions → Type 0
Below n a = list_all (λ (x : Var). nat_lt x.0 n) a.uses ≡ true

below_left : (n : ℕ) (xs ys : List Var) → list_all (λ (x : Var). nat_lt x.0 n) (xs ++ ys) ≡ true → list_all (λ (x : Var). nat_lt x.0 n) xs ≡ true
below_left n [] ys h = refl
below_left n (x ∷ xs) ys h = both (left _ _ h) (below_left n xs ys (right _ _ h))

below_right : (n : ℕ) (xs ys : List Var) → list_all (λ (x : Var). nat_lt x.0 n) (xs ++ ys) ≡ true → list_all (λ (x : Var). nat_lt x.0 n) ys ≡ true
below_right n [] ys h = h
below_right n (x ∷ xs) ys h = below_right n xs ys (right _ _ h)

abbrev pub renamed : ℕ → Round → Round
renamed n r = record r { names = n }

-- lawful for these names, too
abbrev Moves : ℕ → Test → Type 0
Moves n f = (r : Round) → f r ≡ true → f (renamed n r) ≡ true

pub record Moved (n : ℕ) (a : Mentions) (f : Test) : Type 0 where
  pub below : Below n a
  pub moves : Moves n f

abbrev OfLink : CoreLink → Adds → Type 0
OfLink y f = (n : ℕ) (a : Mentions) → Below n (f a) → link_marks (beyond n) y ≡ 0 → Moved n a (of_link laws y).lawful

abbrev OfStat : CoreStat → Adds → Type 0
OfStat y f = (n : ℕ) (a : Mentions) → Below n (f a) → stat_marks (beyond n) y ≡ 0 → Moved n a (of_stat laws y)

abbrev OfCase : CoreCase → Adds → Type 0
OfCase y f = (n : ℕ) (a : Mentions) → Below n (f a) → case_marks (beyond n) y ≡ 0 → Moved n a (of_case laws y)

abbrev OfExpr : CoreExpr → Adds → Type 0
OfExpr y f = (n : ℕ) (a : Mentions) → Below n (f a) → expr_marks (beyond n) y ≡ 0 → Moved n a (of_expr laws y)

abbrev shown : Shows mentions
shown = record { Link = OfLink; Stat = OfStat; Case = OfCase; Expr = OfExpr }

-- ## Lists

first_zero : (i j : ℕ) → i + j ≡ 0 → i ≡ 0
first_zero i j h = omega arith

second_zero : (i j : ℕ) → i + j ≡ 0 → j ≡ 0
second_zero i j h = omega arith

stats_moved : (n : ℕ) (ps : List (Pair OfStat)) (a : Mentions) → Below n (along (map (λ q. q.1) ps) a) → total (map (stat_marks (beyond n)) (map (λ q. q.0) ps)) ≡ 0 → Moved n a (lawful.all_lawful (map (of_stat laws) (map (λ q. q.0) ps)))
stats_moved n [] a b z = record { below = b; moves = λ r h. refl }
stats_moved n (y ∷ ps) a b z =
    let rest = stats_moved n ps (y.1 a) b (second_zero _ _ z) in let one = y.2 n a rest.below (first_zero _ _ z) in
    record { below = one.below; moves = λ r h. both (one.moves r (left _ _ h)) (rest.moves r (right _ _ h)) }

cases_moved : (n : ℕ) (ps : List (Pair OfCase)) (a : Mentions) → Below n (along (map (λ q. q.1) ps) a) → total (map (case_marks (beyond n)) (map (λ q. q.0) ps)) ≡ 0 → Moved n a (lawful.all_lawful (map (of_case laws) (map (λ q. q.0) ps)))
cases_moved n [] a b z = record { below = b; moves = λ r h. refl }
cases_moved n (y ∷ ps) a b z =
    let rest = cases_moved n ps (y.1 a) b (second_zero _ _ z) in let one = y.2 n a rest.below (first_zero _ _ z) in
    record { below = one.below; moves = λ r h. both (one.moves r (left _ _ h)) (rest.moves r (right _ _ h)) }

parts_moved : (n : ℕ) (ps : List (Pair OfExpr)) (a : Mentions) → Below n (along (map (λ q. q.1) ps) a) → total (map (expr_marks (beyond n)) (map (λ q. q.0) ps)) ≡ 0 → Moved n a (lawful.all_lawful (map (of_expr laws) (map (λ q. q.0) ps)))
parts_moved n [] a b z = record { below = b; moves = λ r h. refl }
parts_moved n (y ∷ ps) a b z =
    let rest = parts_moved n ps (y.1 a) b (second_zero _ _ z) in let one = y.2 n a rest.below (first_zero _ _ z) in
    record { below = one.below; moves = λ r h. both (one.moves r (left _ _ h)) (rest.moves r (right _ _ h)) }

pub record LinksMoved (n : ℕ) (a : Mentions) (js : List Joint) : Type 0 where
  pub below : Below n a
  pub moves : (at : Current) (r : Round) → lawful.links_lawful at js r ≡ true → lawful.links_lawful at js (renamed n r) ≡ true

links_moved : (n : ℕ) (ps : List (Pair OfLink)) (a : Mentions) → Below n (along (map (λ q. q.1) ps) a) → total (map (link_marks (beyond n)) (map (λ q. q.0) ps)) ≡ 0 → LinksMoved n a (map (of_link laws) (map (λ q. q.0) ps))
links_moved n [] a b z = record { below = b; moves = λ at r h. h }
links_moved n (y ∷ ps) a b z =
    let rest = links_moved n ps (y.1 a) b (second_zero _ _ z) in let one = y.2 n a rest.below (first_zero _ _ z) in
    record { below = one.below; moves = λ at r h. both (both (left _ _ (left _ _ h)) (one.moves r (right _ _ (left _ _ h)))) (rest.moves _ r (right _ _ h)) }

-- ## Heads and operations

same_head : (h : CoreHead) → Type 0
same_head h = (n : ℕ) → Moves n (lawful.head_lawful h)

vars_moved : (n : ℕ) (xs : List Var) → list_all (λ (x : Var). nat_lt x.0 n) xs ≡ true → (r : Round) → list_all (lawful.is_drawn (renamed n r)) xs ≡ true
vars_moved n [] h r = refl
vars_moved n (x ∷ xs) h r = both (left _ _ h) (vars_moved n xs (right _ _ h) r)

head_moved : (n : ℕ) (h : CoreHead) (a : Mentions) → Below n (m.of_head h a) → Moved n a (lawful.head_lawful h)
unfolding m.of_head
head_moved n (head.Constant (Integer i)) a b = record { below = b; moves = λ r h. h }
head_moved n (head.Variable x) a b = record { below = below_left n a.uses (x ∷ []) b; moves = λ r h. left _ _ (below_right n a.uses (x ∷ []) b) }
head_moved n (head.TypeOf x) a b = record { below = below_left n a.uses (x ∷ []) b; moves = λ r h. h }
head_moved n (head.Copy xs) a b = record { below = below_left n a.uses xs b; moves = λ r h. vars_moved n xs (below_right n a.uses xs b) r }
head_moved n (head.Function f) a b = record { below = b; moves = λ r h. h }
head_moved n (head.Host i) a b = record { below = b; moves = λ r h. h }
head_moved n (head.Primitive p) a b = record { below = b; moves = λ r h. h }
head_moved n h a b = record { below = b; moves = λ r k. k }

primitive_moved : (n : ℕ) (p : Primitive) → cells_over n (op.Primitive p) ≡ 0 → (r : Round) → lawful.primitive_drawn r p ≡ true → lawful.primitive_drawn (renamed n r) p ≡ true
primitive_moved n (primitive.CellMake x) z r h = not_over n x.0 (nat_lt x.0 n) refl z
primitive_moved n p z r h = h

op_moved : (n : ℕ) (o : CoreOp) (a : Mentions) → Below n (m.of_op o a) → cells_over n o ≡ 0 → Moved n a (lawful.op_lawful o)
unfolding m.of_op
op_moved n (op.Set x) a b z = record { below = below_left n a.uses (x ∷ []) b; moves = λ r h. left _ _ (below_right n a.uses (x ∷ []) b) }
op_moved n (op.Init x) a b z = record { below = below_left n a.uses (x ∷ []) b; moves = λ r h. left _ _ (below_right n a.uses (x ∷ []) b) }
op_moved n (op.StepVariable u x) a b z = record { below = below_left n a.uses (x ∷ []) b; moves = λ r h. h }
op_moved n (op.Primitive p) a b z = record { below = b; moves = λ r h. primitive_moved n p z r h }
op_moved n o a b z = record { below = b; moves = λ r h. h }

scoped_moved : (n : ℕ) (xs : List ScopedName) → scoped_over n xs ≡ 0 → (r : Round) → lawful.names_drawn xs (renamed n r) ≡ true
scoped_moved n [] z r = refl
scoped_moved n (x ∷ xs) z r = both (not_over n x.var.0 (nat_lt x.var.0 n) refl (first_zero _ _ z)) (scoped_moved n xs (second_zero _ _ z) r)

-- ## The steps

link_by : (z : Links shown) (n : ℕ) (a : Mentions) → Below n (m.link_step (link_second shown z) a) → (counts (beyond n)).link_step (in_link (counts (beyond n)) (link_first shown z)) ≡ 0 → Moved n a (lawful.link_step (in_link laws (link_first shown z))).lawful
link_by (layer.Strict o parts site) n a b z =
    let c = op_moved n o (along (map (λ q. q.1) parts) a) b (second_zero _ _ z) in let d = parts_moved n parts a c.below (first_zero _ _ z) in
    record { below = d.below; moves = λ r h. both (both (left _ _ (left _ _ h)) (c.moves r (right _ _ (left _ _ h)))) (d.moves r (right _ _ h)) }
link_by (layer.Lazy w taken None) n a b z = let c = taken.2 n a b (first_zero _ _ z) in record { below = c.below; moves = λ r h. both (c.moves r (left _ _ h)) refl }
link_by (layer.Lazy w taken (Some other)) n a b z =
    let c = other.2 n (taken.1 a) b (second_zero _ _ z) in let d = taken.2 n a c.below (first_zero _ _ z) in
    record { below = d.below; moves = λ r h. both (d.moves r (left _ _ h)) (c.moves r (right _ _ h)) }
link_by (layer.Run body) n a b z = stats_moved n body a b z

expr_by : (z : Exprs shown) (n : ℕ) (a : Mentions) → Below n (m.expr_step (expr_second shown z) a) → (counts (beyond n)).expr_step (in_expr (counts (beyond n)) (expr_first shown z)) ≡ 0 → Moved n a (lawful.expr_step (in_expr laws (expr_first shown z)))
expr_by z n a b w =
    let c = links_moved n z.links (m.of_head z.head a) b (second_zero _ _ w) in let d = head_moved n z.head a c.below in
    record { below = d.below; moves = λ r h. both (both (both (left _ _ (left _ _ (left _ _ h))) (d.moves r (right _ _ (left _ _ (left _ _ h))))) (c.moves _ r (right _ _ (left _ _ h)))) (right _ _ h) }

case_by : (test : Option (Pair OfExpr)) (body : List (Pair OfStat)) (n : ℕ) (a : Mentions) → Below n (m.case_step (case_second shown (record { test = test; body = body })) a) → (counts (beyond n)).case_step (in_case (counts (beyond n)) (case_first shown (record { test = test; body = body }))) ≡ 0
    → Moved n a (lawful.case_step (in_case laws (case_first shown (record { test = test; body = body }))))
case_by None body n a b z = let c = stats_moved n body a b (second_zero 0 _ z) in record { below = c.below; moves = λ r h. c.moves r h }
case_by (Some y) body n a b z =
    let c = stats_moved n body (y.1 a) b (second_zero _ _ z) in let d = y.2 n a c.below (first_zero _ _ z) in
    record { below = d.below; moves = λ r h. both (d.moves r (left _ _ h)) (c.moves r (right _ _ h)) }

yield_below : (n : ℕ) (kind : Option Var) (result : Var) (a : Mentions) → Below n (m.of_yield kind result a) → (Below n a) × (nat_lt result.0 n ≡ true) × (list_all (λ i. nat_lt i n) (lawful.number_of kind) ≡ true)
unfolding m.of_yield
yield_below n None result a b = (below_left n a.uses (result ∷ []) b, left _ _ (below_right n a.uses (result ∷ []) b), refl)
yield_below n (Some kind) result a b =
    let c = below_right n a.uses (kind ∷ result ∷ []) b in
    (below_left n a.uses (kind ∷ result ∷ []) b, left _ _ (right _ _ c), both (left _ _ c) refl)

stat_by : (z : Stats shown) (n : ℕ) (a : Mentions) → Below n (m.stat_step (stat_second shown z) a) → (counts (beyond n)).stat_step (in_stat (counts (beyond n)) (stat_first shown z)) ≡ 0 → Moved n a (lawful.stat_step (in_stat laws (stat_first shown z)))
stat_by (layer.Do x) n a b z = x.2 n a b z
stat_by (layer.If cases) n a b z = cases_moved n cases a b z
stat_by (layer.Switch subject cases) n a b z =
    let c = cases_moved n cases (subject.1 a) b (second_zero _ _ z) in let d = subject.2 n a c.below (first_zero _ _ z) in
    record { below = d.below; moves = λ r h. both (d.moves r (left _ _ h)) (c.moves r (right _ _ h)) }
stat_by (layer.Loop labels None None body) n a b z =
    let c = stats_moved n body (m.labelled labels a) b (omega arith) in
    record { below = c.below; moves = λ r h. both (left _ _ h) (c.moves (lawful.in_loop labels r) (right _ _ h)) }
stat_by (layer.Loop labels None (Some v) body) n a b z =
    let c = stats_moved n body (v.1 (m.labelled labels a)) b (omega arith) in let d = v.2 n (m.labelled labels a) c.below (omega arith) in
    record { below = d.below; moves = λ r h. both (both (left _ _ (left _ _ h)) (d.moves r (right _ _ (left _ _ h)))) (c.moves (lawful.in_loop labels r) (right _ _ h)) }
stat_by (layer.Loop labels (Some u) None body) n a b z =
    let c = stats_moved n body (u.1 (m.labelled labels a)) b (omega arith) in let d = u.2 n (m.labelled labels a) c.below (omega arith) in
    record { below = d.below; moves = λ r h. both (both (both (left _ _ (left _ _ (left _ _ h))) (d.moves r (right _ _ (left _ _ (left _ _ h))))) refl) (c.moves (lawful.in_loop labels r) (right _ _ h)) }
stat_by (layer.Loop labels (Some u) (Some v) body) n a b z =
    let c = stats_moved n body (v.1 (u.1 (m.labelled labels a))) b (omega arith) in let d = v.2 n (u.1 (m.labelled labels a)) c.below (omega arith) in let e = u.2 n (m.labelled labels a) d.below (omega arith) in
    record { below = e.below; moves = λ r h. both (both (both (left _ _ (left _ _ (left _ _ h))) (e.moves r (right _ _ (left _ _ (left _ _ h))))) (d.moves r (right _ _ (left _ _ h)))) (c.moves (lawful.in_loop labels r) (right _ _ h)) }
stat_by (layer.Labelled label body) n a b z =
    let c = stats_moved n body (m.labelled (label ∷ []) a) b z in
    record { below = c.below; moves = λ r h. both (left _ _ h) (c.moves (lawful.under label r) (right _ _ h)) }
stat_by (layer.Jump goes_on None) n a b z = record { below = b; moves = λ r h. h }
stat_by (layer.Jump true (Some l)) n a b z = record { below = b; moves = λ r h. h }
stat_by (layer.Jump false (Some l)) n a b z = record { below = b; moves = λ r h. h }
stat_by (layer.Return x) n a b z = let c = x.2 n a b z in record { below = c.below; moves = λ r h. both (left _ _ h) (c.moves r (right _ _ h)) }
stat_by (layer.Throw x) n a b z = x.2 n a b z
stat_by (layer.TryCatch block parameter names handler) n a b z =
    let inner = m.scopes names (m.catches parameter (along (map (λ q. q.1) block) a)) in
    let c = stats_moved n handler inner b (omega arith) in let d = stats_moved n block a c.below (omega arith) in
    record { below = d.below; moves = λ r h. both (both (both (d.moves r (left _ _ (left _ _ (left _ _ h)))) (not_over n parameter.0 (nat_lt parameter.0 n) refl (omega arith))) (scoped_moved n names (omega arith) r)) (c.moves r (right _ _ h)) }
stat_by (layer.TryFinally block last) n a b z =
    let c = stats_moved n last (along (map (λ q. q.1) block) a) b (omega arith) in let d = stats_moved n block a c.below (omega arith) in
    record { below = d.below; moves = λ r h. both (d.moves r (left _ _ h)) (c.moves r (right _ _ h)) }
stat_by (layer.Scoped names body) n a b z =
    let c = stats_moved n body (m.scopes names a) b (omega arith) in
    record { below = c.below; moves = λ r h. both (scoped_moved n names (omega arith) r) (c.moves r (right _ _ h)) }
stat_by (layer.Yield value kind result) n a b z =
    let y = yield_below n kind result (value.1 a) b in let c = value.2 n a y.0 z in
    record { below = c.below; moves = λ r h. both (both (both (left _ _ (left _ _ (left _ _ h))) (c.moves r (right _ _ (left _ _ (left _ _ h))))) y.1) y.2 }

moved_as : (n : ℕ) (a : Mentions) (f g : Test) → f ≡ g → Moved n a g → Moved n a f
moved_as n a f g e h = subst (λ t. Moved n a t) (sym e) h

keeps : Keeps shown
keeps = record {
  link = λ z n a b w. moved_as n a _ _ (ap (λ j. j.lawful) (link_rolled laws (link_first shown z))) (link_by z n a b (sym (link_rolled (counts (beyond n)) (link_first shown z)) ∙ w));
  stat = λ z n a b w. moved_as n a _ _ (stat_rolled laws (stat_first shown z)) (stat_by z n a b (sym (stat_rolled (counts (beyond n)) (stat_first shown z)) ∙ w));
  case = λ z n a b w. moved_as n a _ _ (case_rolled laws (case_first shown z)) (case_by z.test z.body n a b (sym (case_rolled (counts (beyond n)) (case_first shown z)) ∙ w));
  expr = λ z n a b w. moved_as n a _ _ (expr_rolled laws (expr_first shown z)) (expr_by z n a b (sym (expr_rolled (counts (beyond n)) (expr_first shown z)) ∙ w));
}

pub record StatsMoved (n : ℕ) (a : Mentions) (ss : List CoreStat) : Type 0 where
  pub below : Below n a
  pub moves : (r : Round) → lawful.stats_lawful ss r ≡ true → lawful.stats_lawful ss (renamed n r) ≡ true

pub stats_rebound : (n : ℕ) (ss : List CoreStat) (a : Mentions) → Below n (stats_mentions ss a) → stats_marks (beyond n) ss ≡ 0 → StatsMoved n a ss
stats_rebound n [] a b z = record { below = b; moves = λ r h. refl }
stats_rebound n (y ∷ ss) a b z =
    let rest = stats_rebound n ss (of_stat mentions y a) b (second_zero _ _ z) in let one = stat_induced shown keeps y n a rest.below (first_zero _ _ z) in
    record { below = one.below; moves = λ r h. both (one.moves r (left _ _ h)) (rest.moves r (right _ _ h)) }
