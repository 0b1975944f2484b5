-- What is asked of the place at which a node is turned.
use Rattle.std.specs.List.{list_all}
use Rattle.std.proofs.Common.{◌≡◌, ℕ, ◌+◌, ◌≤◌, ◌<◌, Bool, true, false, not, nat_eq, nat_lt, List, [], ◌∷◌, ◌++◌, Option, None, Some, refl, ap, arith, ◌∙◌}
use Rattle.std.proofs.lemmas.Bool.{ltb-true, lt-ltb, eq-eqb}
use Rattle.core_ast.specs.declared.parts.Var.{Var}
use Rattle.core_ast.specs.declared.parts.Label.{Label}
use Rattle.core_ast.specs.declared.parts.ScopedName.{ScopedName}
use Rattle.core_ast.specs.declared.parts.Constant.TheVariants.{Integer}
use Rattle.core_ast.specs.declared.parts.CoreHead.{CoreHead}
use Rattle.core_ast.specs.declared.parts.CoreHead.TheVariants as head
use Rattle.core_ast.specs.declared.parts.CoreOp.{CoreOp}
use Rattle.core_ast.specs.declared.parts.CoreOp.TheVariants as op
use Rattle.core_ast.specs.declared.parts.Primitive.{Primitive}
use Rattle.core_ast.specs.declared.parts.Primitive.TheVariants as primitive
use Rattle.core_ast.specs.Lawful as lawful
use Rattle.core_ast.specs.Lawful.{Round, all_differ, has_label, has_number}
use Rattle.pass_rules.specs.declared.yield_rules.spilling.Place.{Place}
use Rattle.pass_rules.specs.yield_rules.Yields as s
use Rattle.pass_rules.proofs.pass_laws.Within.{left, right, both}
use Rattle.lawful_passes.specs.Told as t
use Rattle.lawful_passes.specs.Told.{Told}
use Rattle.lawful_passes.proofs.Labels.{or_first, or_second, no_by, has_left, has_right, differ_left, differ_right, numbers_of, label_split, label_none}

-- In the second round a node that is lawful in the first one is turned: it has the labels of the first, and others below the place's,
-- none of which stands in the node.
pub record At (round r : Round) (a : Told) (p : Place) : Type 0 where
  pub hosts : r.hosts ≡ round.hosts
  pub functions : r.functions ≡ round.functions
  pub returns : round.returns ≡ true → r.returns ≡ true
  pub yields : round.yields ≡ true → r.yields ≡ true
  pub hands : r.yields ≡ true → r.returns ≡ true
  pub names : round.names ≤ r.names
  pub slots : p.slot + a.slots ≤ r.names
  pub labels : (l : Label) → has_label l round.labels ≡ true → has_label l r.labels ≡ true
  pub loops : (l : Label) → has_label l round.loops ≡ true → has_label l r.loops ≡ true
  pub below : (l : Label) → has_label l r.labels ≡ true → l.0 < p.label
  pub apart : (l : Label) → has_number l.0 a.labels ≡ true → has_label l r.labels ≡ false
  pub under : (i : ℕ) → has_number i a.labels ≡ true → i < p.label
  pub differ : all_differ a.labels ≡ true
  pub few : a.few ≡ true

-- what a part of a node is to it
pub record IsPart (b a : Told) : Type 0 where
  pub labels : (i : ℕ) → has_number i b.labels ≡ true → has_number i a.labels ≡ true
  pub differ : all_differ a.labels ≡ true → all_differ b.labels ≡ true
  pub few : a.few ≡ true → b.few ≡ true

pub at_part : (round r : Round) (a b : Told) (p q : Place) → IsPart b a → q.slot + b.slots ≤ r.names → p.label ≤ q.label → At round r a p → At round r b q
at_part round r a b p q i m l h = record {
  hosts = h.hosts;
  functions = h.functions;
  returns = h.returns;
  yields = h.yields;
  hands = h.hands;
  names = h.names;
  slots = m;
  labels = h.labels;
  loops = h.loops;
  below = λ k e. let z = h.below k e in omega arith;
  apart = λ k e. h.apart k (i.labels k.0 e);
  under = λ k e. let z = h.under k (i.labels k e) in omega arith;
  differ = i.differ h.differ;
  few = i.few h.few;
}

pub itself : (a : Told) (n : ℕ) → IsPart a (t.needing n a)
itself a n = record { labels = λ i h. h; differ = λ h. h; few = λ h. h }

pub needed : (a : Told) (n : ℕ) → IsPart (t.needing n a) a
needed a n = record { labels = λ i h. h; differ = λ h. h; few = λ h. h }

pub first_part : (a b : Told) → IsPart a (t.both a b)
first_part a b = record { labels = λ i h. has_left i a.labels b.labels h; differ = λ h. differ_left a.labels b.labels h; few = λ h. left _ _ h }

pub second_part : (a b : Told) → IsPart b (t.both a b)
second_part a b = record { labels = λ i h. has_right i a.labels b.labels h; differ = λ h. differ_right a.labels b.labels h; few = λ h. right _ _ h }

pub part_of : (a b c : Told) → IsPart a b → IsPart b c → IsPart a c
part_of a b c f g = record { labels = λ i h. g.labels i (f.labels i h); differ = λ h. f.differ (g.differ h); few = λ h. f.few (g.few h) }

pub under_labels : (ls : List Label) (a : Told) → IsPart a (t.labelled ls a)
under_labels ls a = record { labels = λ i h. has_right i (numbers_of ls) a.labels h; differ = λ h. differ_right (numbers_of ls) a.labels h; few = λ h. h }

-- in a round with more labels, which don't stand in the node
pub at_more : (round r : Round) (a b : Told) (p q : Place) (ls lps js ks : List Label) → IsPart b a → q.slot + b.slots ≤ r.names → p.label ≤ q.label
    → ((l : Label) → has_label l ls ≡ true → has_label l (js ++ r.labels) ≡ true) → ((l : Label) → has_label l lps ≡ true → has_label l (ks ++ r.loops) ≡ true)
    → ((l : Label) → has_label l js ≡ true → l.0 < q.label) → ((l : Label) → has_number l.0 b.labels ≡ true → has_label l js ≡ false) → At round r a p
    → At (record round { labels = ls; loops = lps }) (record r { labels = js ++ r.labels; loops = ks ++ r.loops }) b q
at_more round r a b p q ls lps js ks i m l f g below apart h = record {
  hosts = h.hosts;
  functions = h.functions;
  returns = h.returns;
  yields = h.yields;
  hands = h.hands;
  names = h.names;
  slots = m;
  labels = f;
  loops = g;
  below = λ k e. label_split k js r.labels (below k) (λ d. let z = h.below k d in omega arith) e;
  apart = λ k e. label_none k js r.labels (apart k e) (h.apart k (i.labels k.0 e));
  under = λ k e. let z = h.under k (i.labels k e) in omega arith;
  differ = i.differ h.differ;
  few = i.few h.few;
}

-- ## What is lawful in the one round is in the other

pub drawn_at : (round r : Round) (a : Told) (p : Place) (x : Var) → At round r a p → lawful.is_drawn round x ≡ true → lawful.is_drawn r x ≡ true
drawn_at round r a p x h d = let z = ltb-true x.0 round.names d in let n = h.names in lt-ltb x.0 r.names (omega arith)

vars_at : (round r : Round) (a : Told) (p : Place) (xs : List Var) → At round r a p → list_all (lawful.is_drawn round) xs ≡ true → list_all (lawful.is_drawn r) xs ≡ true
vars_at round r a p [] h d = refl
vars_at round r a p (x ∷ xs) h d = both (drawn_at round r a p x h (left _ _ d)) (vars_at round r a p xs h (right _ _ d))

pub scoped_at : (round r : Round) (a : Told) (p : Place) (ns : List ScopedName) → At round r a p → lawful.names_drawn ns round ≡ true → lawful.names_drawn ns r ≡ true
scoped_at round r a p [] h d = refl
scoped_at round r a p (n ∷ ns) h d = both (drawn_at round r a p n.var h (left _ _ d)) (scoped_at round r a p ns h (right _ _ d))

pub head_at : (round r : Round) (a : Told) (p : Place) (x : CoreHead) → At round r a p → lawful.head_lawful x round ≡ true → lawful.head_lawful x r ≡ true
head_at round r a p (head.Constant (Integer n)) h d = d
head_at round r a p (head.Variable x) h d = drawn_at round r a p x h d
head_at round r a p (head.TypeOf x) h d = d
head_at round r a p (head.Host i) h d = ap (λ n. nat_lt i n) h.hosts ∙ d
head_at round r a p (head.Function f) h d = ap (λ n. nat_lt f.0 n) h.functions ∙ d
head_at round r a p (head.Primitive x) h d = d
head_at round r a p (head.Copy xs) h d = vars_at round r a p xs h d
head_at round r a p x h d = d

primitive_at : (round r : Round) (a : Told) (p : Place) (x : Primitive) → At round r a p → lawful.primitive_drawn round x ≡ true → lawful.primitive_drawn r x ≡ true
primitive_at round r a p (primitive.CellMake x) h d = drawn_at round r a p x h d
primitive_at round r a p x h d = d

pub op_at : (round r : Round) (a : Told) (p : Place) (o : CoreOp) → At round r a p → lawful.op_lawful o round ≡ true → lawful.op_lawful o r ≡ true
op_at round r a p (op.Set x) h d = drawn_at round r a p x h d
op_at round r a p (op.Init x) h d = drawn_at round r a p x h d
op_at round r a p (op.Primitive x) h d = primitive_at round r a p x h d
op_at round r a p op.Yield h d = h.yields d
op_at round r a p op.Delegate h d = h.yields d
op_at round r a p o h d = d

pub jump_at : (round r : Round) (a : Told) (p : Place) (goes_on : Bool) (label : Option Label) → At round r a p → lawful.jump_lawful goes_on label round ≡ true → lawful.jump_lawful goes_on label r ≡ true
jump_at round r a p goes_on None h d = d
jump_at round r a p true (Some l) h d = h.loops l d
jump_at round r a p false (Some l) h d = h.labels l d

-- the place's own label is new
pub label_is_new : (round r : Round) (a : Told) (p : Place) → At round r a p → lawful.is_new r (s.label p) ≡ true
label_is_new round r a p h = ap not (no_by (has_label (s.label p) r.labels) (λ e. let z = h.below (s.label p) e in let y : ⊥ = omega arith in y))

label_new : (round r : Round) (a : Told) (p : Place) (l : Label) → At round r a p → has_number l.0 a.labels ≡ true → lawful.is_new r l ≡ true
label_new round r a p l h e = ap not (h.apart l e)

all_new : (round r : Round) (a : Told) (p : Place) (ls : List Label) → At round r a p → ((i : ℕ) → has_number i (numbers_of ls) ≡ true → has_number i a.labels ≡ true) → list_all (lawful.is_new r) ls ≡ true
all_new round r a p [] h f = refl
all_new round r a p (l ∷ ls) h f = both (label_new round r a p l h (f l.0 (or_first _ _ (eq-eqb l.0 l.0 refl)))) (all_new round r a p ls h (λ i e. f i (or_second (nat_eq i l.0) _ e)))

pub labels_are_new : (round r : Round) (a : Told) (p : Place) (ls : List Label) → At round r (t.labelled ls a) p → list_all (lawful.is_new r) ls ≡ true
labels_are_new round r a p ls h = all_new round r (t.labelled ls a) p ls h (λ i e. has_left i (numbers_of ls) a.labels e)
