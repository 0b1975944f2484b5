-- What is lawful is so where more names are drawn and more functions stand before.
use Rattle.std.specs.List.{list_all}
use Rattle.std.proofs.Common.{◌≡◌, ℕ, ◌≤◌, true, nat_lt, List, [], ◌∷◌, map, Option, None, Some, refl, sym, arith, ◌∙◌}
use Rattle.std.proofs.lemmas.Bool.{ltb-true, lt-ltb}
use Rattle.core_ast.specs.declared.parts.Constant.TheVariants.{Integer}
use Rattle.core_ast.specs.declared.parts.CoreHead.{CoreHead}
use Rattle.core_ast.specs.declared.parts.CoreHead.TheVariants as head
use Rattle.core_ast.specs.declared.parts.CoreOp.{CoreOp}
use Rattle.core_ast.specs.declared.parts.CoreOp.TheVariants as op
use Rattle.core_ast.specs.declared.parts.Primitive.{Primitive}
use Rattle.core_ast.specs.declared.parts.Primitive.TheVariants as primitive
use Rattle.core_ast.specs.declared.parts.ScopedName.{ScopedName}
use Rattle.core_ast.specs.declared.parts.Var.{Var}
use Rattle.core_ast.specs.declared.tree.CoreStat.{CoreStat}
use Rattle.core_ast.specs.declared.tree.CoreCase.{CoreCase}
use Rattle.core_ast.specs.declared.tree.CoreExpr.{CoreExpr}
use Rattle.core_ast.specs.declared.tree.CoreStat.TheVariants as stat
use Rattle.core_ast.specs.declared.tree.CoreLink.TheOpen as layer
use Rattle.core_ast.specs.Lawful as lawful
use Rattle.core_ast.specs.Lawful.{Round, Joint, Test, Current}
use Rattle.pass_rules.proofs.pass_laws.Related.{Pair, of_expr}
use Rattle.pass_rules.proofs.pass_laws.Induced.{Shows, Keeps, Links, Stats, Exprs, link_second, stat_second, case_second, expr_second, stat_induced}
use Rattle.pass_rules.proofs.pass_laws.Starts.{laws}
use Rattle.pass_rules.proofs.pass_laws.Within.{left, right, both}
use Rattle.lawful_passes.proofs.Far.{Are, AreCases}
use Rattle.lawful_passes.proofs.Raised.{if_out, do_out}

abbrev pub grown : ℕ → ℕ → Round → Round
grown n g r = record r { names = n; functions = g }

abbrev Rises : ℕ → ℕ → Test → Type 0
Rises n g f = (r : Round) → r.names ≤ n → r.functions ≤ g → f r ≡ true → f (grown n g r) ≡ true

abbrev raised : ℕ → ℕ → Shows laws
raised n g = record { Link = λ y j. Rises n g j.lawful; Stat = λ y f. Rises n g f; Case = λ y f. Rises n g f; Expr = λ y f. Rises n g f }

-- ## Names, heads and operations

drawn_raised : (n g : ℕ) (x : Var) (r : Round) → r.names ≤ n → r.functions ≤ g → lawful.is_drawn r x ≡ true → lawful.is_drawn (grown n g r) x ≡ true
drawn_raised n g x r l k h = let a = ltb-true x.0 r.names h in lt-ltb x.0 n (omega arith)

vars_raised : (n g : ℕ) (xs : List Var) (r : Round) → r.names ≤ n → r.functions ≤ g → list_all (lawful.is_drawn r) xs ≡ true → list_all (lawful.is_drawn (grown n g r)) xs ≡ true
vars_raised n g [] r l k h = refl
vars_raised n g (x ∷ xs) r l k h = both (drawn_raised n g x r l k (left _ _ h)) (vars_raised n g xs r l k (right _ _ h))

pub scoped_grown_by : (n g : ℕ) (xs : List ScopedName) (r : Round) → r.names ≤ n → r.functions ≤ g → lawful.names_drawn xs r ≡ true → lawful.names_drawn xs (grown n g r) ≡ true
scoped_grown_by n g [] r l k h = refl
scoped_grown_by n g (x ∷ xs) r l k h = both (drawn_raised n g x.var r l k (left _ _ h)) (scoped_grown_by n g xs r l k (right _ _ h))

head_raised : (n g : ℕ) (h : CoreHead) → Rises n g (lawful.head_lawful h)
head_raised n g (head.Constant (Integer i)) r l k h = h
head_raised n g (head.Variable x) r l k h = drawn_raised n g x r l k h
head_raised n g (head.Function f) r l k h = let a = ltb-true f.0 r.functions h in lt-ltb f.0 g (omega arith)
head_raised n g (head.Copy xs) r l k h = vars_raised n g xs r l k h
head_raised n g x r l k h = h

primitive_raised : (n g : ℕ) (p : Primitive) (r : Round) → r.names ≤ n → r.functions ≤ g → lawful.primitive_drawn r p ≡ true → lawful.primitive_drawn (grown n g r) p ≡ true
primitive_raised n g (primitive.CellMake x) r l k h = drawn_raised n g x r l k h
primitive_raised n g p r l k h = h

op_raised : (n g : ℕ) (o : CoreOp) → Rises n g (lawful.op_lawful o)
op_raised n g (op.Set x) r l k h = drawn_raised n g x r l k h
op_raised n g (op.Init x) r l k h = drawn_raised n g x r l k h
op_raised n g (op.Primitive p) r l k h = primitive_raised n g p r l k h
op_raised n g o r l k h = h

kind_raised : (n g : ℕ) (kind : Option Var) (r : Round) → r.names ≤ n → r.functions ≤ g → list_all (λ i. nat_lt i r.names) (lawful.number_of kind) ≡ true → list_all (λ i. nat_lt i n) (lawful.number_of kind) ≡ true
kind_raised n g None r l k h = refl
kind_raised n g (Some x) r l k h = both (drawn_raised n g x r l k (left _ _ h)) refl

-- ## The steps

abbrev Risen : Type 0 → ℕ → ℕ → Type 0
Risen A n g = Pair (λ (y : A) f. Rises n g f)

tests_raised : {A : Type 0} (n g : ℕ) (ps : List (Risen A n g)) → Rises n g (lawful.all_lawful (map (λ q. q.1) ps))
tests_raised n g [] r l k h = refl
tests_raised n g (y ∷ ps) r l k h = both (y.2 r l k (left _ _ h)) (tests_raised n g ps r l k (right _ _ h))

links_raised : (n g : ℕ) (ps : List (Pair (raised n g).Link)) (at : Current) (r : Round) → r.names ≤ n → r.functions ≤ g → lawful.links_lawful at (map (λ q. q.1) ps) r ≡ true → lawful.links_lawful at (map (λ q. q.1) ps) (grown n g r) ≡ true
links_raised n g [] at r l k h = h
links_raised n g (y ∷ ps) at r l k h = both (both (left _ _ (left _ _ h)) (y.2 r l k (right _ _ (left _ _ h)))) (links_raised n g ps _ r l k (right _ _ h))

link_kept : (n g : ℕ) (z : Links (raised n g)) → Rises n g (lawful.link_step (link_second (raised n g) z)).lawful
link_kept n g (layer.Strict o parts site) r l k h = both (both (left _ _ (left _ _ h)) (op_raised n g o r l k (right _ _ (left _ _ h)))) (tests_raised n g parts r l k (right _ _ h))
link_kept n g (layer.Lazy w taken None) r l k h = both (taken.2 r l k (left _ _ h)) refl
link_kept n g (layer.Lazy w taken (Some other)) r l k h = both (taken.2 r l k (left _ _ h)) (other.2 r l k (right _ _ h))
link_kept n g (layer.Run body) r l k h = tests_raised n g body r l k h

expr_kept : (n g : ℕ) (z : Exprs (raised n g)) → Rises n g (lawful.expr_step (expr_second (raised n g) z))
expr_kept n g z r l k h =
    both (both (both (left _ _ (left _ _ (left _ _ h))) (head_raised n g z.head r l k (right _ _ (left _ _ (left _ _ h))))) (links_raised n g z.links _ r l k (right _ _ (left _ _ h)))) (right _ _ h)

case_by : (n g : ℕ) (test : Option (Pair (raised n g).Expr)) (body : List (Pair (raised n g).Stat)) → Rises n g (lawful.case_step (case_second (raised n g) (record { test = test; body = body })))
case_by n g None body r l k h = tests_raised n g body r l k h
case_by n g (Some t) body r l k h = both (t.2 r l k (left _ _ h)) (tests_raised n g body r l k (right _ _ h))

stat_kept : (n g : ℕ) (z : Stats (raised n g)) → Rises n g (lawful.stat_step (stat_second (raised n g) z))
stat_kept n g (layer.Do x) r l k h = x.2 r l k h
stat_kept n g (layer.If cases) r l k h = tests_raised n g cases r l k h
stat_kept n g (layer.Switch subject cases) r l k h = both (subject.2 r l k (left _ _ h)) (tests_raised n g cases r l k (right _ _ h))
stat_kept n g (layer.Loop labels None None body) r l k h = both (left _ _ h) (tests_raised n g body (lawful.in_loop labels r) l k (right _ _ h))
stat_kept n g (layer.Loop labels None (Some u) body) r l k h = both (both (left _ _ (left _ _ h)) (u.2 r l k (right _ _ (left _ _ h)))) (tests_raised n g body (lawful.in_loop labels r) l k (right _ _ h))
stat_kept n g (layer.Loop labels (Some t) None body) r l k h =
    both (both (both (left _ _ (left _ _ (left _ _ h))) (t.2 r l k (right _ _ (left _ _ (left _ _ h))))) refl) (tests_raised n g body (lawful.in_loop labels r) l k (right _ _ h))
stat_kept n g (layer.Loop labels (Some t) (Some u) body) r l k h =
    both (both (both (left _ _ (left _ _ (left _ _ h))) (t.2 r l k (right _ _ (left _ _ (left _ _ h))))) (u.2 r l k (right _ _ (left _ _ h)))) (tests_raised n g body (lawful.in_loop labels r) l k (right _ _ h))
stat_kept n g (layer.Labelled label body) r l k h = both (left _ _ h) (tests_raised n g body (lawful.under label r) l k (right _ _ h))
stat_kept n g (layer.Jump goes_on None) r l k h = h
stat_kept n g (layer.Jump true (Some label)) r l k h = h
stat_kept n g (layer.Jump goes_on (Some label)) r l k h = h
stat_kept n g (layer.Return x) r l k h = both (left _ _ h) (x.2 r l k (right _ _ h))
stat_kept n g (layer.Throw x) r l k h = x.2 r l k h
stat_kept n g (layer.TryCatch block parameter names handler) r l k h =
    both (both (both (tests_raised n g block r l k (left _ _ (left _ _ (left _ _ h)))) (drawn_raised n g parameter r l k (right _ _ (left _ _ (left _ _ h))))) (scoped_grown_by n g names r l k (right _ _ (left _ _ h)))) (tests_raised n g handler r l k (right _ _ h))
stat_kept n g (layer.TryFinally block last) r l k h = both (tests_raised n g block r l k (left _ _ h)) (tests_raised n g last r l k (right _ _ h))
stat_kept n g (layer.Scoped names body) r l k h = both (scoped_grown_by n g names r l k (left _ _ h)) (tests_raised n g body r l k (right _ _ h))
stat_kept n g (layer.Yield value kind result) r l k h =
    both (both (both (left _ _ (left _ _ (left _ _ h))) (value.2 r l k (right _ _ (left _ _ (left _ _ h))))) (drawn_raised n g result r l k (right _ _ (left _ _ h)))) (kind_raised n g kind r l k (right _ _ h))

kept : (n g : ℕ) → Keeps (raised n g)
kept n g = record { link = link_kept n g; stat = stat_kept n g; case = λ z. case_by n g z.test z.body; expr = expr_kept n g }

-- ## Lists of statements, expressions and cases

pub stats_grown : (n g : ℕ) (ss : List CoreStat) (r : Round) → r.names ≤ n → r.functions ≤ g → Are r ss → Are (grown n g r) ss
stats_grown n g [] r l k h = refl
stats_grown n g (y ∷ ss) r l k h = both (stat_induced (raised n g) (kept n g) y r l k (left _ _ h)) (stats_grown n g ss r l k (right _ _ h))

pub expr_grown : (n g : ℕ) (x : CoreExpr) (r : Round) → r.names ≤ n → r.functions ≤ g → of_expr laws x r ≡ true → of_expr laws x (grown n g r) ≡ true
expr_grown n g x r l k h = sym (do_out (grown n g r) x) ∙ stat_induced (raised n g) (kept n g) (stat.Do x) r l k (do_out r x ∙ h)

pub cases_grown : (n g : ℕ) (cs : List CoreCase) (r : Round) → r.names ≤ n → r.functions ≤ g → AreCases r cs → AreCases (grown n g r) cs
cases_grown n g cs r l k h = sym (if_out (grown n g r) cs) ∙ stat_induced (raised n g) (kept n g) (stat.If cs) r l k (if_out r cs ∙ h)
