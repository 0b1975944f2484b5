-- What is lawful is so where more names are drawn.
use Rattle.std.specs.List.{list_all}
use Rattle.std.proofs.Common.{◌≡◌, ℕ, ◌≤◌, true, nat_lt, List, [], ◌∷◌, map, Option, None, Some, refl, sym, ap, arith, ◌∙◌}
use Rattle.std.proofs.lemmas.Bool.{ltb-true, lt-ltb}
use Rattle.core_ast.specs.declared.parts.Constant.TheVariants.{Integer}
use Rattle.core_ast.specs.declared.parts.CoreHead.{CoreHead}
use Rattle.core_ast.specs.declared.parts.CoreHead.TheVariants as head
use Rattle.core_ast.specs.declared.parts.CoreOp.{CoreOp}
use Rattle.core_ast.specs.declared.parts.CoreOp.TheVariants as op
use Rattle.core_ast.specs.declared.parts.Primitive.{Primitive}
use Rattle.core_ast.specs.declared.parts.Primitive.TheVariants as primitive
use Rattle.core_ast.specs.declared.parts.ScopedName.{ScopedName}
use Rattle.core_ast.specs.declared.parts.Var.{Var}
use Rattle.core_ast.specs.declared.tree.CoreStat.{CoreStat}
use Rattle.core_ast.specs.declared.tree.CoreCase.{CoreCase}
use Rattle.core_ast.specs.declared.tree.CoreExpr.{CoreExpr}
use Rattle.core_ast.specs.declared.tree.CoreStat.TheVariants as stat
use Rattle.core_ast.specs.declared.tree.CoreLink.TheOpen as layer
use Rattle.core_ast.specs.Lawful as lawful
use Rattle.core_ast.specs.Lawful.{Round, Joint, Test, Current}
use Rattle.pass_rules.proofs.pass_laws.Related.{Pair, of_stat, of_case, of_expr, stat_rolled}
use Rattle.pass_rules.proofs.pass_laws.Induced.{Shows, Keeps, Links, Stats, Exprs, link_second, stat_second, case_second, expr_second, stat_induced}
use Rattle.pass_rules.proofs.pass_laws.Starts.{laws}
use Rattle.pass_rules.proofs.pass_laws.Within.{left, right, both}
use Rattle.lawful_passes.proofs.Far.{Are, AreCases}
use Rattle.lawful_passes.proofs.Rebound.{renamed}

abbrev Rises : ℕ → Test → Type 0
Rises n f = (r : Round) → r.names ≤ n → f r ≡ true → f (renamed n r) ≡ true

abbrev raised : ℕ → Shows laws
raised n = record { Link = λ y j. Rises n j.lawful; Stat = λ y f. Rises n f; Case = λ y f. Rises n f; Expr = λ y f. Rises n f }

-- ## Names, heads and operations

pub drawn_raised : (n : ℕ) (x : Var) (r : Round) → r.names ≤ n → lawful.is_drawn r x ≡ true → lawful.is_drawn (renamed n r) x ≡ true
drawn_raised n x r l h = let a = ltb-true x.0 r.names h in lt-ltb x.0 n (omega arith)

vars_raised : (n : ℕ) (xs : List Var) (r : Round) → r.names ≤ n → list_all (lawful.is_drawn r) xs ≡ true → list_all (lawful.is_drawn (renamed n r)) xs ≡ true
vars_raised n [] r l h = refl
vars_raised n (x ∷ xs) r l h = both (drawn_raised n x r l (left _ _ h)) (vars_raised n xs r l (right _ _ h))

pub scoped_raised : (n : ℕ) (xs : List ScopedName) (r : Round) → r.names ≤ n → lawful.names_drawn xs r ≡ true → lawful.names_drawn xs (renamed n r) ≡ true
scoped_raised n [] r l h = refl
scoped_raised n (x ∷ xs) r l h = both (drawn_raised n x.var r l (left _ _ h)) (scoped_raised n xs r l (right _ _ h))

pub head_raised : (n : ℕ) (h : CoreHead) → Rises n (lawful.head_lawful h)
head_raised n (head.Constant (Integer i)) r l h = h
head_raised n (head.Variable x) r l h = drawn_raised n x r l h
head_raised n (head.Copy xs) r l h = vars_raised n xs r l h
head_raised n x r l h = h

primitive_raised : (n : ℕ) (p : Primitive) (r : Round) → r.names ≤ n → lawful.primitive_drawn r p ≡ true → lawful.primitive_drawn (renamed n r) p ≡ true
primitive_raised n (primitive.CellMake x) r l h = drawn_raised n x r l h
primitive_raised n p r l h = h

pub op_raised : (n : ℕ) (o : CoreOp) → Rises n (lawful.op_lawful o)
op_raised n (op.Set x) r l h = drawn_raised n x r l h
op_raised n (op.Init x) r l h = drawn_raised n x r l h
op_raised n (op.Primitive p) r l h = primitive_raised n p r l h
op_raised n o r l h = h

kind_raised : (n : ℕ) (kind : Option Var) (r : Round) → r.names ≤ n → list_all (λ i. nat_lt i r.names) (lawful.number_of kind) ≡ true → list_all (λ i. nat_lt i n) (lawful.number_of kind) ≡ true
kind_raised n None r l h = refl
kind_raised n (Some x) r l h = both (drawn_raised n x r l (left _ _ h)) refl

-- ## The steps

abbrev Risen : Type 0 → ℕ → Type 0
Risen A n = Pair (λ (y : A) f. Rises n f)

tests_raised : {A : Type 0} (n : ℕ) (ps : List (Risen A n)) → Rises n (lawful.all_lawful (map (λ q. q.1) ps))
tests_raised n [] r l h = refl
tests_raised n (y ∷ ps) r l h = both (y.2 r l (left _ _ h)) (tests_raised n ps r l (right _ _ h))

links_raised : (n : ℕ) (ps : List (Pair (raised n).Link)) (at : Current) (r : Round) → r.names ≤ n → lawful.links_lawful at (map (λ q. q.1) ps) r ≡ true → lawful.links_lawful at (map (λ q. q.1) ps) (renamed n r) ≡ true
links_raised n [] at r l h = h
links_raised n (y ∷ ps) at r l h = both (both (left _ _ (left _ _ h)) (y.2 r l (right _ _ (left _ _ h)))) (links_raised n ps _ r l (right _ _ h))

link_kept : (n : ℕ) (z : Links (raised n)) → Rises n (lawful.link_step (link_second (raised n) z)).lawful
link_kept n (layer.Strict o parts site) r l h = both (both (left _ _ (left _ _ h)) (op_raised n o r l (right _ _ (left _ _ h)))) (tests_raised n parts r l (right _ _ h))
link_kept n (layer.Lazy w taken None) r l h = both (taken.2 r l (left _ _ h)) refl
link_kept n (layer.Lazy w taken (Some other)) r l h = both (taken.2 r l (left _ _ h)) (other.2 r l (right _ _ h))
link_kept n (layer.Run body) r l h = tests_raised n body r l h

expr_kept : (n : ℕ) (z : Exprs (raised n)) → Rises n (lawful.expr_step (expr_second (raised n) z))
expr_kept n z r l h =
    both (both (both (left _ _ (left _ _ (left _ _ h))) (head_raised n z.head r l (right _ _ (left _ _ (left _ _ h))))) (links_raised n z.links _ r l (right _ _ (left _ _ h)))) (right _ _ h)

case_by : (n : ℕ) (test : Option (Pair (raised n).Expr)) (body : List (Pair (raised n).Stat)) → Rises n (lawful.case_step (case_second (raised n) (record { test = test; body = body })))
case_by n None body r l h = tests_raised n body r l h
case_by n (Some t) body r l h = both (t.2 r l (left _ _ h)) (tests_raised n body r l (right _ _ h))

stat_kept : (n : ℕ) (z : Stats (raised n)) → Rises n (lawful.stat_step (stat_second (raised n) z))
stat_kept n (layer.Do x) r l h = x.2 r l h
stat_kept n (layer.If cases) r l h = tests_raised n cases r l h
stat_kept n (layer.Switch subject cases) r l h = both (subject.2 r l (left _ _ h)) (tests_raised n cases r l (right _ _ h))
stat_kept n (layer.Loop labels None None body) r l h = both (left _ _ h) (tests_raised n body (lawful.in_loop labels r) l (right _ _ h))
stat_kept n (layer.Loop labels None (Some u) body) r l h = both (both (left _ _ (left _ _ h)) (u.2 r l (right _ _ (left _ _ h)))) (tests_raised n body (lawful.in_loop labels r) l (right _ _ h))
stat_kept n (layer.Loop labels (Some t) None body) r l h =
    both (both (both (left _ _ (left _ _ (left _ _ h))) (t.2 r l (right _ _ (left _ _ (left _ _ h))))) refl) (tests_raised n body (lawful.in_loop labels r) l (right _ _ h))
stat_kept n (layer.Loop labels (Some t) (Some u) body) r l h =
    both (both (both (left _ _ (left _ _ (left _ _ h))) (t.2 r l (right _ _ (left _ _ (left _ _ h))))) (u.2 r l (right _ _ (left _ _ h)))) (tests_raised n body (lawful.in_loop labels r) l (right _ _ h))
stat_kept n (layer.Labelled label body) r l h = both (left _ _ h) (tests_raised n body (lawful.under label r) l (right _ _ h))
stat_kept n (layer.Jump goes_on None) r l h = h
stat_kept n (layer.Jump true (Some label)) r l h = h
stat_kept n (layer.Jump goes_on (Some label)) r l h = h
stat_kept n (layer.Return x) r l h = both (left _ _ h) (x.2 r l (right _ _ h))
stat_kept n (layer.Throw x) r l h = x.2 r l h
stat_kept n (layer.TryCatch block parameter names handler) r l h =
    both (both (both (tests_raised n block r l (left _ _ (left _ _ (left _ _ h)))) (drawn_raised n parameter r l (right _ _ (left _ _ (left _ _ h))))) (scoped_raised n names r l (right _ _ (left _ _ h)))) (tests_raised n handler r l (right _ _ h))
stat_kept n (layer.TryFinally block last) r l h = both (tests_raised n block r l (left _ _ h)) (tests_raised n last r l (right _ _ h))
stat_kept n (layer.Scoped names body) r l h = both (scoped_raised n names r l (left _ _ h)) (tests_raised n body r l (right _ _ h))
stat_kept n (layer.Yield value kind result) r l h =
    both (both (both (left _ _ (left _ _ (left _ _ h))) (value.2 r l (right _ _ (left _ _ (left _ _ h))))) (drawn_raised n result r l (right _ _ (left _ _ h)))) (kind_raised n kind r l (right _ _ h))

kept : (n : ℕ) → Keeps (raised n)
kept n = record { link = link_kept n; stat = stat_kept n; case = λ z. case_by n z.test z.body; expr = expr_kept n }

pub stats_raised : (n : ℕ) (ss : List CoreStat) (r : Round) → r.names ≤ n → Are r ss → Are (renamed n r) ss
stats_raised n [] r l h = refl
stats_raised n (y ∷ ss) r l h = both (stat_induced (raised n) (kept n) y r l (left _ _ h)) (stats_raised n ss r l (right _ _ h))

-- ## Expressions and cases, as statements have them

pub do_out : (r : Round) (x : CoreExpr) → of_stat laws (stat.Do x) r ≡ of_expr laws x r
do_out r x = ap (λ s. of_stat laws s r) (sym (stat.rolls-Do x)) ∙ ap (λ t. t r) (stat_rolled laws (layer.Do x))

pub if_out : (r : Round) (cs : List CoreCase) → of_stat laws (stat.If cs) r ≡ lawful.all_lawful (map (of_case laws) cs) r
if_out r cs = ap (λ s. of_stat laws s r) (sym (stat.rolls-If cs)) ∙ ap (λ t. t r) (stat_rolled laws (layer.If cs))

pub expr_raised : (n : ℕ) (x : CoreExpr) (r : Round) → r.names ≤ n → of_expr laws x r ≡ true → of_expr laws x (renamed n r) ≡ true
expr_raised n x r l h = sym (do_out (renamed n r) x) ∙ stat_induced (raised n) (kept n) (stat.Do x) r l (do_out r x ∙ h)

pub cases_raised : (n : ℕ) (cs : List CoreCase) (r : Round) → r.names ≤ n → AreCases r cs → AreCases (renamed n r) cs
cases_raised n cs r l h = sym (if_out (renamed n r) cs) ∙ stat_induced (raised n) (kept n) (stat.If cs) r l (if_out r cs ∙ h)
