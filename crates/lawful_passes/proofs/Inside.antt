-- What is lawful where it stands in a generator's body is lawful in the step of its machine: expressions without statements and yields,
-- and statements that no yield, no return and no jump leaves.
use Rattle.std.specs.List.{list_all, list_any}
use Rattle.std.proofs.Common.{◌≡◌, ℕ, ◌≤◌, ◌<◌, Bool, true, false, ◌||◌, not, nat_eq, nat_lt, List, [], ◌∷◌, ◌++◌, map, None, Some, refl, sym, ap, arith, ◌∙◌}
use Rattle.std.proofs.lemmas.Bool.{false≢true, ltb-true, lt-ltb, eq-eqb, eqb-true}
use Rattle.core_ast.specs.declared.parts.Constant.TheVariants.{Integer}
use Rattle.core_ast.specs.declared.parts.CoreHead.{CoreHead}
use Rattle.core_ast.specs.declared.parts.CoreHead.TheVariants as head
use Rattle.core_ast.specs.declared.parts.CoreOp.{CoreOp}
use Rattle.core_ast.specs.declared.parts.CoreOp.TheVariants as op
use Rattle.core_ast.specs.declared.parts.Label.{Label}
use Rattle.core_ast.specs.declared.parts.Primitive.{Primitive}
use Rattle.core_ast.specs.declared.parts.Primitive.TheVariants as primitive
use Rattle.core_ast.specs.declared.parts.ScopedName.{ScopedName}
use Rattle.core_ast.specs.declared.parts.Var.{Var}
use Rattle.core_ast.specs.declared.tree.CoreExpr.{CoreExpr}
use Rattle.core_ast.specs.declared.tree.CoreLink.TheOpen as layer
use Rattle.core_ast.specs.Lawful as lawful
use Rattle.core_ast.specs.Lawful.{Round, Joint, Current, has_label, has_number}
use Rattle.pass_rules.specs.pass_laws.Levels as levels
use Rattle.pass_rules.specs.pass_laws.Levels.{Level, nothing, yielding}
use Rattle.pass_rules.proofs.pass_laws.Related.{Relates, Keeps, Pair, Links, Exprs, link_first, link_second, expr_first, expr_second, of_expr, expr_related}
use Rattle.pass_rules.proofs.pass_laws.Starts.{laws}
use Rattle.pass_rules.proofs.pass_laws.Within.{within, left, right, both}
use Rattle.lawful_passes.proofs.Labels.{label_left, label_right, label_split, no_by, numbers_of, or_first, or_map, or_second, unnot}

-- what yields that are flat are within
abbrev pub flat : Level
flat = yielding nothing

-- the same hosts and functions, and the names at least
pub record Same (round r : Round) : Type 0 where
  pub hosts : r.hosts ≡ round.hosts
  pub functions : r.functions ≡ round.functions
  pub names : round.names ≤ r.names

-- ## Names, heads and operations

pub drawn_moved : (round r : Round) (x : Var) → Same round r → lawful.is_drawn round x ≡ true → lawful.is_drawn r x ≡ true
drawn_moved round r x e h = let a = ltb-true x.0 round.names h in let b = e.names in lt-ltb x.0 r.names (omega arith)

vars_moved : (round r : Round) (xs : List Var) → Same round r → list_all (lawful.is_drawn round) xs ≡ true → list_all (lawful.is_drawn r) xs ≡ true
vars_moved round r [] e h = refl
vars_moved round r (x ∷ xs) e h = both (drawn_moved round r x e (left _ _ h)) (vars_moved round r xs e (right _ _ h))

pub scoped_moved : (round r : Round) (xs : List ScopedName) → Same round r → lawful.names_drawn xs round ≡ true → lawful.names_drawn xs r ≡ true
scoped_moved round r [] e h = refl
scoped_moved round r (x ∷ xs) e h = both (drawn_moved round r x.var e (left _ _ h)) (scoped_moved round r xs e (right _ _ h))

head_moved : (round r : Round) (x : CoreHead) → Same round r → lawful.head_lawful x round ≡ true → lawful.head_lawful x r ≡ true
head_moved round r (head.Constant (Integer n)) e h = h
head_moved round r (head.Variable x) e h = drawn_moved round r x e h
head_moved round r (head.Host i) e h = ap (λ n. nat_lt i n) e.hosts ∙ h
head_moved round r (head.Function f) e h = ap (λ n. nat_lt f.0 n) e.functions ∙ h
head_moved round r (head.Copy xs) e h = vars_moved round r xs e h
head_moved round r x e h = h

primitive_moved : (round r : Round) (x : Primitive) → Same round r → lawful.primitive_drawn round x ≡ true → lawful.primitive_drawn r x ≡ true
primitive_moved round r (primitive.CellMake x) e h = drawn_moved round r x e h
primitive_moved round r x e h = h

op_moved : (round r : Round) (o : CoreOp) (bare : Bool) → levels.op_within o bare flat ≡ true → Same round r → lawful.op_lawful o round ≡ true → lawful.op_lawful o r ≡ true
op_moved round r (op.Set x) bare w e h = drawn_moved round r x e h
op_moved round r (op.Init x) bare w e h = drawn_moved round r x e h
op_moved round r (op.Primitive x) bare w e h = primitive_moved round r x e h
op_moved round r op.Yield bare w e h = absurd (false≢true w)
op_moved round r op.Delegate bare w e h = absurd (false≢true w)
op_moved round r o bare w e h = h

-- ## Expressions

abbrev Moves : levels.Test → lawful.Test → Type 0
Moves t f = t flat ≡ true → (round r : Round) → Same round r → f round ≡ true → f r ≡ true

abbrev moved : Relates within laws
moved = record { Link = λ t j. Moves t j.lawful; Stat = λ t f. Unit {0}; Case = λ t f. Unit {0}; Expr = λ t f. Moves t f }

parts_moved : (ps : List (Pair moved.Expr)) → Moves (levels.all_within (map (λ q. q.0) ps)) (lawful.all_lawful (map (λ q. q.1) ps))
parts_moved [] w round r e h = refl
parts_moved (y ∷ ps) w round r e h = both (y.2 (left _ _ w) round r e (left _ _ h)) (parts_moved ps (right _ _ w) round r e (right _ _ h))

links_moved : (ps : List (Pair moved.Link)) (at : Current) → Moves (levels.all_within (map (λ q. q.0) ps)) (lawful.links_lawful at (map (λ q. q.1) ps))
links_moved [] at w round r e h = h
links_moved (y ∷ ps) at w round r e h = both (both (left _ _ (left _ _ h)) (y.2 (left _ _ w) round r e (right _ _ (left _ _ h)))) (links_moved ps _ (right _ _ w) round r e (right _ _ h))

link_kept : (z : Links moved) → Moves (within.link_step (link_first moved z)) (laws.link_step (link_second moved z)).lawful
link_kept (layer.Strict o parts site) w round r e h =
    both (both (left _ _ (left _ _ h)) (op_moved round r o _ (left _ _ w) e (right _ _ (left _ _ h)))) (parts_moved parts (right _ _ w) round r e (right _ _ h))
link_kept (layer.Lazy x taken None) w round r e h = both (taken.2 (left _ _ w) round r e (left _ _ h)) refl
link_kept (layer.Lazy x taken (Some other)) w round r e h = both (taken.2 (left _ _ w) round r e (left _ _ h)) (other.2 (right _ _ w) round r e (right _ _ h))
link_kept (layer.Run body) w round r e h = absurd (false≢true w)

expr_kept : (z : Exprs moved) → Moves (within.expr_step (expr_first moved z)) (laws.expr_step (expr_second moved z))
expr_kept z w round r e h =
    both (both (both (left _ _ (left _ _ (left _ _ h))) (head_moved round r z.head e (right _ _ (left _ _ (left _ _ h))))) (links_moved z.links _ (right _ _ w) round r e (right _ _ (left _ _ h)))) (right _ _ h)

kept : Keeps moved
kept = record { link = link_kept; stat = λ z. tt; case = λ z. tt; expr = expr_kept }

pub expr_moved : (x : CoreExpr) → of_expr within x flat ≡ true → (round r : Round) → Same round r → of_expr laws x round ≡ true → of_expr laws x r ≡ true
expr_moved x = expr_related moved kept x

-- ## Labels

-- The round of a statement inside one that stays, where it stood and in the step: the second has the labels inside, with the loops among
-- them, and no other below that of the turns but those of the first.
pub record Inside (turn : ℕ) (round r : Round) (inside : List Label) : Type 0 where
  pub same : Same round r
  pub sub : (l : Label) → has_label l round.loops ≡ true → has_label l round.labels ≡ true
  pub labels : (l : Label) → has_label l inside ≡ true → has_label l r.labels ≡ true
  pub loops : (l : Label) → has_label l inside ≡ true → has_label l round.loops ≡ true → has_label l r.loops ≡ true
  pub back : (l : Label) → l.0 < turn → has_label l r.labels ≡ true → has_label l round.labels ≡ true

one_is : (k l : Label) → has_label k (l ∷ []) ≡ true → k.0 ≡ l.0
one_is k l e = by_two (nat_eq k.0 l.0) refl e
  where
    by_two : (c : Bool) → nat_eq k.0 l.0 ≡ c → (c || false) ≡ true → k.0 ≡ l.0
    by_two true d e = eqb-true k.0 l.0 d
    by_two false d e = absurd (false≢true e)

same_label : (k l : Label) (ls : List Label) → k.0 ≡ l.0 → has_label k ls ≡ has_label l ls
same_label k l ls e = ap (λ i. list_any (λ (x : Label). nat_eq i x.0) ls) e

pub inside_label : (turn : ℕ) (round r : Round) (inside : List Label) (k : Label) → has_label k round.labels ≡ false → Inside turn round r inside → Inside turn (lawful.under k round) (lawful.under k r) (k ∷ inside)
inside_label turn round r inside k new h = record {
  same = record { hosts = h.same.hosts; functions = h.same.functions; names = h.same.names };
  sub = λ l e. or_second (nat_eq l.0 k.0) _ (h.sub l e);
  labels = λ l e. or_map (nat_eq l.0 k.0) _ _ (h.labels l) e;
  loops = λ l e d. label_split l (k ∷ []) inside (λ c. absurd (false≢true (sym new ∙ sym (same_label l k round.labels (one_is l k c)) ∙ h.sub l d))) (λ c. h.loops l c d) e;
  back = λ l i e. or_map (nat_eq l.0 k.0) _ _ (h.back l i) e;
}

pub inside_loop : (turn : ℕ) (round r : Round) (inside ls : List Label) → Inside turn round r inside → Inside turn (lawful.in_loop ls round) (lawful.in_loop ls r) (ls ++ inside)
inside_loop turn round r inside ls h = record {
  same = record { hosts = h.same.hosts; functions = h.same.functions; names = h.same.names };
  sub = λ l e. label_split l ls round.loops (λ d. label_left l ls round.labels d) (λ d. label_right l ls round.labels (h.sub l d)) e;
  labels = λ l e. label_split l ls inside (λ d. label_left l ls r.labels d) (λ d. label_right l ls r.labels (h.labels l d)) e;
  loops = λ l e d. label_split l ls inside (λ c. label_left l ls r.loops c) (λ c. label_split l ls round.loops (λ b. label_left l ls r.loops b) (λ b. label_right l ls r.loops (h.loops l c b)) d) e;
  back = λ l i e. label_split l ls r.labels (λ d. label_left l ls round.labels d) (λ d. label_right l ls round.labels (h.back l i d)) e;
}

pub new_moved : (turn : ℕ) (round r : Round) (inside : List Label) (l : Label) → Inside turn round r inside → l.0 < turn → lawful.is_new round l ≡ true → lawful.is_new r l ≡ true
new_moved turn round r inside l i b h = ap not (no_by (has_label l r.labels) (λ e. false≢true (sym (unnot _ h) ∙ i.back l b e)))

pub all_new_moved : (turn : ℕ) (round r : Round) (inside ls : List Label) → Inside turn round r inside → ((i : ℕ) → has_number i (numbers_of ls) ≡ true → i < turn) → list_all (lawful.is_new round) ls ≡ true → list_all (lawful.is_new r) ls ≡ true
all_new_moved turn round r inside [] i b h = refl
all_new_moved turn round r inside (l ∷ ls) i b h = both (new_moved turn round r inside l i (b l.0 (or_first _ _ (eq-eqb l.0 l.0 refl))) (left _ _ h)) (all_new_moved turn round r inside ls i (λ k e. b k (or_second (nat_eq k l.0) _ e)) (right _ _ h))

pub jump_moved : (turn : ℕ) (round r : Round) (inside : List Label) (goes_on : Bool) (l : Label) → Inside turn round r inside → has_label l inside ≡ true → lawful.jump_lawful goes_on (Some l) round ≡ true → lawful.jump_lawful goes_on (Some l) r ≡ true
jump_moved turn round r inside true l i e h = i.loops l e h
jump_moved turn round r inside false l i e h = i.labels l e
