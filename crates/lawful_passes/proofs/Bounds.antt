-- What lawful statements don't have: weights behind the names that are drawn. And the labels that mentions have.
use Rattle.std.proofs.Common.{◌≡◌, ℕ, ◌≤◌, ◌<◌, Bool, true, false, nat_eq, List, [], ◌∷◌, map, Option, None, Some, refl, arith}
use Rattle.std.proofs.lemmas.Bool.{ltb-true, lt-ltb, eqb-true}
use Rattle.core_ast.specs.declared.parts.CoreHead.{CoreHead}
use Rattle.core_ast.specs.declared.parts.CoreOp.{CoreOp}
use Rattle.core_ast.specs.declared.parts.CoreOp.TheVariants as op
use Rattle.core_ast.specs.declared.parts.Primitive.{Primitive}
use Rattle.core_ast.specs.declared.parts.Primitive.TheVariants as primitive
use Rattle.core_ast.specs.declared.parts.ScopedName.{ScopedName}
use Rattle.core_ast.specs.declared.parts.Var.{Var}
use Rattle.core_ast.specs.declared.tree.CoreStat.{CoreStat}
use Rattle.core_ast.specs.declared.tree.CoreLink.TheOpen as layer
use Rattle.core_ast.specs.Lawful as lawful
use Rattle.core_ast.specs.Lawful.{Round, Joint, Test, Current, scoped_numbers}
use Rattle.pass_rules.proofs.pass_laws.Distinct.{count}
use Rattle.pass_rules.proofs.pass_laws.Related.{Relates, Keeps, Pair, Links, Stats, Exprs, link_first, link_second, stat_first, stat_second, case_first, case_second, expr_first, expr_second, stat_related}
use Rattle.pass_rules.proofs.pass_laws.Starts.{laws}
use Rattle.pass_rules.proofs.pass_laws.Within.{left, right}
use Rattle.lawful_passes.proofs.Rebound.{beyond, cells_over, is_over, over, scoped_over}
use Rattle.lawful_passes.proofs.Tallies.{declaring, one_by, one_of}
use Rattle.lawful_passes.proofs.Weights.{Such, total, stats_marks}
use Rattle.lawful_passes.proofs.WeightCounts.{counts}

-- a weight that nothing has which is lawful for so many names
pub record Spares (n : ℕ) (such : Such) : Type 0 where
  pub heads : (h : CoreHead) → such.weighs h ≡ 0
  pub ops : (o : CoreOp) (r : Round) → r.names ≤ n → lawful.op_lawful o r ≡ true → such.acts o ≡ 0
  pub caughts : (x : Var) (r : Round) → r.names ≤ n → lawful.is_drawn r x ≡ true → such.caught x ≡ 0
  pub scopes : (ns : List ScopedName) (r : Round) → r.names ≤ n → lawful.names_drawn ns r ≡ true → such.scoped ns ≡ 0

abbrev OfJoint : ℕ → Joint → ℕ → Type 0
OfJoint n j k = (r : Round) → r.names ≤ n → j.lawful r ≡ true → k ≡ 0

abbrev OfTest : ℕ → Test → ℕ → Type 0
OfTest n t k = (r : Round) → r.names ≤ n → t r ≡ true → k ≡ 0

abbrev spared : (n : ℕ) (such : Such) → Relates laws (counts such)
spared n such = record { Link = OfJoint n; Stat = OfTest n; Case = OfTest n; Expr = OfTest n }

tests_spared : (n : ℕ) (ps : List (Pair (OfTest n))) (r : Round) → r.names ≤ n → lawful.all_lawful (map (λ q. q.0) ps) r ≡ true → total (map (λ q. q.1) ps) ≡ 0
tests_spared n [] r l h = refl
tests_spared n (y ∷ ps) r l h = let a = y.2 r l (left _ _ h) in let b = tests_spared n ps r l (right _ _ h) in omega arith

links_spared : (n : ℕ) (ps : List (Pair (OfJoint n))) (at : Current) (r : Round) → r.names ≤ n → lawful.links_lawful at (map (λ q. q.0) ps) r ≡ true → total (map (λ q. q.1) ps) ≡ 0
links_spared n [] at r l h = refl
links_spared n (y ∷ ps) at r l h = let a = y.2 r l (right _ _ (left _ _ h)) in let b = links_spared n ps _ r l (right _ _ h) in omega arith

link_spared : (n : ℕ) (such : Such) → Spares n such → (z : Links (spared n such)) → OfJoint n (laws.link_step (link_first (spared n such) z)) ((counts such).link_step (link_second (spared n such) z))
link_spared n such k (layer.Strict o parts site) r l h = let a = tests_spared n parts r l (right _ _ h) in let b = k.ops o r l (right _ _ (left _ _ h)) in omega arith
link_spared n such k (layer.Lazy w taken None) r l h = let a = taken.2 r l (left _ _ h) in omega arith
link_spared n such k (layer.Lazy w taken (Some other)) r l h = let a = taken.2 r l (left _ _ h) in let b = other.2 r l (right _ _ h) in omega arith
link_spared n such k (layer.Run body) r l h = tests_spared n body r l h

case_by : (n : ℕ) (such : Such) (test : Option (Pair (OfTest n))) (body : List (Pair (OfTest n))) → OfTest n (laws.case_step (case_first (spared n such) (record { test = test; body = body }))) ((counts such).case_step (case_second (spared n such) (record { test = test; body = body })))
case_by n such None body r l h = let a = tests_spared n body r l h in omega arith
case_by n such (Some y) body r l h = let a = y.2 r l (left _ _ h) in let b = tests_spared n body r l (right _ _ h) in omega arith

expr_spared : (n : ℕ) (such : Such) → Spares n such → (z : Exprs (spared n such)) → OfTest n (laws.expr_step (expr_first (spared n such) z)) ((counts such).expr_step (expr_second (spared n such) z))
expr_spared n such k z r l h = let a = k.heads z.head in let b = links_spared n z.links _ r l (right _ _ (left _ _ h)) in omega arith

stat_spared : (n : ℕ) (such : Such) → Spares n such → (z : Stats (spared n such)) → OfTest n (laws.stat_step (stat_first (spared n such) z)) ((counts such).stat_step (stat_second (spared n such) z))
stat_spared n such k (layer.Do x) r l h = x.2 r l h
stat_spared n such k (layer.If cases) r l h = tests_spared n cases r l h
stat_spared n such k (layer.Switch subject cases) r l h = let a = subject.2 r l (left _ _ h) in let b = tests_spared n cases r l (right _ _ h) in omega arith
stat_spared n such k (layer.Loop labels None None body) r l h = let b = tests_spared n body (lawful.in_loop labels r) l (right _ _ h) in omega arith
stat_spared n such k (layer.Loop labels None (Some v) body) r l h = let a = v.2 r l (right _ _ (left _ _ h)) in let b = tests_spared n body (lawful.in_loop labels r) l (right _ _ h) in omega arith
stat_spared n such k (layer.Loop labels (Some u) None body) r l h = let a = u.2 r l (right _ _ (left _ _ (left _ _ h))) in let b = tests_spared n body (lawful.in_loop labels r) l (right _ _ h) in omega arith
stat_spared n such k (layer.Loop labels (Some u) (Some v) body) r l h = let a = u.2 r l (right _ _ (left _ _ (left _ _ h))) in let c = v.2 r l (right _ _ (left _ _ h)) in let b = tests_spared n body (lawful.in_loop labels r) l (right _ _ h) in omega arith
stat_spared n such k (layer.Labelled label body) r l h = tests_spared n body (lawful.under label r) l (right _ _ h)
stat_spared n such k (layer.Jump goes_on label) r l h = refl
stat_spared n such k (layer.Return x) r l h = x.2 r l (right _ _ h)
stat_spared n such k (layer.Throw x) r l h = x.2 r l h
stat_spared n such k (layer.TryCatch block parameter names handler) r l h =
    let a = tests_spared n block r l (left _ _ (left _ _ (left _ _ h))) in let b = k.caughts parameter r l (right _ _ (left _ _ (left _ _ h))) in let c = k.scopes names r l (right _ _ (left _ _ h)) in let d = tests_spared n handler r l (right _ _ h) in omega arith
stat_spared n such k (layer.TryFinally block last) r l h = let a = tests_spared n block r l (left _ _ h) in let b = tests_spared n last r l (right _ _ h) in omega arith
stat_spared n such k (layer.Scoped names body) r l h = let a = k.scopes names r l (left _ _ h) in let b = tests_spared n body r l (right _ _ h) in omega arith
stat_spared n such k (layer.Yield value kind result) r l h = value.2 r l (right _ _ (left _ _ (left _ _ h)))

keeps : (n : ℕ) (such : Such) → Spares n such → Keeps (spared n such)
keeps n such k = record { link = link_spared n such k; stat = stat_spared n such k; case = λ z. case_by n such z.test z.body; expr = expr_spared n such k }

pub stats_spared : (n : ℕ) (such : Such) → Spares n such → (ss : List CoreStat) (r : Round) → r.names ≤ n → lawful.stats_lawful ss r ≡ true → stats_marks such ss ≡ 0
stats_spared n such k [] r l h = refl
stats_spared n such k (y ∷ ss) r l h = let a = stat_related (spared n such) (keeps n such k) y r l (left _ _ h) in let b = stats_spared n such k ss r l (right _ _ h) in omega arith

-- ## Both weights are such

drawn_over : (n : ℕ) (x : Var) (r : Round) → r.names ≤ n → lawful.is_drawn r x ≡ true → over n x.0 ≡ 0
drawn_over n x r l h = let a = ltb-true x.0 r.names h in is_over n x.0 (lt-ltb x.0 n (omega arith))

cells_spared : (n : ℕ) (o : CoreOp) (r : Round) → r.names ≤ n → lawful.op_lawful o r ≡ true → cells_over n o ≡ 0
cells_spared n (op.Primitive (primitive.CellMake x)) r l h = drawn_over n x r l h
cells_spared n (op.Primitive p) r l h = primitive_spared p h
  where
    primitive_spared : (p : Primitive) → lawful.op_lawful (op.Primitive p) r ≡ true → cells_over n (op.Primitive p) ≡ 0
    primitive_spared (primitive.CellMake x) h = drawn_over n x r l h
    primitive_spared p h = refl
cells_spared n o r l h = refl

scoped_spared : (n : ℕ) (ns : List ScopedName) (r : Round) → r.names ≤ n → lawful.names_drawn ns r ≡ true → scoped_over n ns ≡ 0
scoped_spared n [] r l h = refl
scoped_spared n (x ∷ ns) r l h = let a = drawn_over n x.var r l (left _ _ h) in let b = scoped_spared n ns r l (right _ _ h) in omega arith

pub beyond_spares : (n : ℕ) → Spares n (beyond n)
beyond_spares n = record { heads = λ h. refl; ops = cells_spared n; caughts = drawn_over n; scopes = scoped_spared n }

-- a name that isn't drawn is declared nowhere
pub not_declared : (i n x : ℕ) → n ≤ i → x < n → one_of i x ≡ 0
not_declared i n x l h = by_eq (nat_eq i x) refl
  where
    by_eq : (b : Bool) → nat_eq i x ≡ b → one_by b ≡ 0
    by_eq true e = let a = eqb-true i x e in let z : ⊥ = omega arith in absurd z
    by_eq false e = refl

drawn_one : (i n : ℕ) → n ≤ i → (x : Var) (r : Round) → r.names ≤ n → lawful.is_drawn r x ≡ true → one_of i x.0 ≡ 0
drawn_one i n k x r l h = let a = ltb-true x.0 r.names h in not_declared i n x.0 k (omega arith)

scoped_one : (i n : ℕ) → n ≤ i → (ns : List ScopedName) (r : Round) → r.names ≤ n → lawful.names_drawn ns r ≡ true → count i (scoped_numbers ns) ≡ 0
scoped_one i n k [] r l h = refl
scoped_one i n k (x ∷ ns) r l h = let a = drawn_one i n k x.var r l (left _ _ h) in let b = scoped_one i n k ns r l (right _ _ h) in omega arith

pub declaring_spares : (i n : ℕ) → n ≤ i → Spares n (declaring i)
declaring_spares i n k = record { heads = λ h. refl; ops = λ o r l h. refl; caughts = drawn_one i n k; scopes = scoped_one i n k }
