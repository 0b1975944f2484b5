-- How what is lowered one after the other is lawful: the names and functions so far only grow.
use Rattle.std.specs.List.{list_all}
use Rattle.std.proofs.Common.{◌≡◌, ℕ, ◌+◌, ◌≤◌, Bool, true, false, length, length-append, nat_lt, List, [], ◌∷◌, ◌++◌, Option, None, Some, refl, arith, subst}
use Rattle.std.proofs.lemmas.Bool.{lt-ltb, ltb-true}
use Rattle.core_ast.specs.declared.parts.Var.{Var}
use Rattle.core_ast.specs.declared.parts.FunctionId.{FunctionId}
use Rattle.core_ast.specs.declared.parts.ScopedName.{ScopedName}
use Rattle.core_ast.specs.declared.tree.CoreStat.{CoreStat}
use Rattle.core_ast.specs.declared.whole.CoreFunction.{CoreFunction}
use Rattle.core_ast.specs.Lawful as lawful
use Rattle.core_ast.specs.Lawful.{Round, function_lawful, functions_lawful, own_names, numbers, names_drawn, is_drawn, stats_lawful}
use Rattle.core_ast.specs.Names.{next}
use Rattle.binding_tables.specs.declared.ids.BindingId.{BindingId}
use Rattle.scope_analysis.specs.Answers.{declared_ids, referred_ids}
use Rattle.lowering_laws.specs.InRound.{AreLawful, declared_lawful, expr_lawful, if_lawful}
use Rattle.lowering_rules.specs.Naming.{Drawn, with_raw, with_temporary}
use Rattle.lowering_rules.specs.declared.naming.Names.{Names}
use Rattle.module_lowering.specs.Bindings.{Bindings, id_var}
use Rattle.module_lowering.specs.Lowering.{Lowering, all_by, all_by_onto, along_by, choose, define, drawing, each, each_by, each_by_onto, each_onto, option, raw, temporary}
use Rattle.module_lowering.specs.declared.context.Context.{Context}
use Rattle.module_lowering.specs.declared.context.Dead.{Dead}
use Rattle.module_lowering.specs.declared.context.ThisKind.{ThisKind}
use Rattle.module_lowering.specs.declared.context.ThisKind.TheVariants.{OfConstructor, OfFunction, OfGenerator, OfMethod, OfModule}
use Rattle.module_lowering.specs.declared.lowerer.Lowerer.{Lowerer}
use Rattle.module_lowering.specs.declared.meaning.Meaning.{Meaning}
use Rattle.module_lowering.specs.declared.meaning.Meaning.TheVariants.{Elsewhere, Itself, NamespaceOf, OfHost}
use Rattle.pass_rules.proofs.pass_laws.Within.{left, right, both}
use Rattle.lowered_cores_are_lawful.specs.Standing.{AllOf, BindingsAreDrawn, Every, IfOf, IfThere, Made, Makes, Of, Stands, dead_drawn, held, here, ids_drawn, meaning_drawn, size, this_drawn, vars_drawn}
use Rattle.lowered_cores_are_lawful.proofs.Grown.{expr_grown, grown, stats_grown}

-- ## What is drawn stays drawn

pub below_more : (x n m : ℕ) → n ≤ m → nat_lt x n ≡ true → nat_lt x m ≡ true
below_more x n m l h = let a = ltb-true x n h in lt-ltb x m (omega arith)

pub vars_more : (n m : ℕ) (xs : List Var) → n ≤ m → vars_drawn n xs ≡ true → vars_drawn m xs ≡ true
vars_more n m [] l h = refl
vars_more n m (x ∷ xs) l h = both (below_more x.0 n m l (left _ _ h)) (vars_more n m xs l (right _ _ h))

ids_more : (b : Bindings) (n m : ℕ) (xs : List BindingId) → n ≤ m → ids_drawn b n xs ≡ true → ids_drawn b m xs ≡ true
ids_more b n m [] l h = refl
ids_more b n m (x ∷ xs) l h = both (below_more (id_var b x).0 n m l (left _ _ h)) (ids_more b n m xs l (right _ _ h))

meaning_more : (hosts n m : ℕ) (x : Meaning) → n ≤ m → meaning_drawn hosts n x ≡ true → meaning_drawn hosts m x ≡ true
meaning_more hosts n m Itself l h = refl
meaning_more hosts n m (Elsewhere x) l h = below_more x.0 n m l h
meaning_more hosts n m (NamespaceOf x) l h = below_more x.0 n m l h
meaning_more hosts n m (OfHost x) l h = h

meanings_more : (hosts n m : ℕ) (xs : List Meaning) → n ≤ m → list_all (meaning_drawn hosts n) xs ≡ true → list_all (meaning_drawn hosts m) xs ≡ true
meanings_more hosts n m [] l h = refl
meanings_more hosts n m (x ∷ xs) l h = both (meaning_more hosts n m x l (left _ _ h)) (meanings_more hosts n m xs l (right _ _ h))

pub bindings_more : (b : Bindings) (hosts n m : ℕ) → n ≤ m → BindingsAreDrawn b hosts n → BindingsAreDrawn b hosts m
bindings_more b hosts n m l h = record {
  some = let a = h.some in omega arith;
  declared = λ home at. ids_more b n m (declared_ids b.scopes home at) l (h.declared home at);
  referred = λ home at. ids_more b n m (referred_ids b.scopes home at) l (h.referred home at);
  meanings = meanings_more hosts n m b.meanings l h.meanings;
}

pub this_more : (n m : ℕ) (x : ThisKind) → n ≤ m → this_drawn n x ≡ true → this_drawn m x ≡ true
this_more n m OfModule l h = refl
this_more n m OfFunction l h = refl
this_more n m OfMethod l h = refl
this_more n m (OfConstructor derived) l h = refl
this_more n m (OfGenerator kept) l h = below_more kept.0 n m l h

pub dead_more : (n m : ℕ) (xs : List Dead) → n ≤ m → dead_drawn n xs ≡ true → dead_drawn m xs ≡ true
dead_more n m [] l h = refl
dead_more n m (x ∷ xs) l h = both (below_more x.stand_in.0 n m l (left _ _ h)) (dead_more n m xs l (right _ _ h))

-- ## Functions stay lawful

numbers_more : (n m : ℕ) (xs : List ℕ) → n ≤ m → list_all (λ x. nat_lt x n) xs ≡ true → list_all (λ x. nat_lt x m) xs ≡ true
numbers_more n m [] l h = refl
numbers_more n m (x ∷ xs) l h = both (below_more x n m l (left _ _ h)) (numbers_more n m xs l (right _ _ h))

same : (n : ℕ) → n ≤ n
same n = omega arith

function_more : (n m hosts number : ℕ) (f : CoreFunction) → n ≤ m → function_lawful n hosts number f ≡ true → function_lawful m hosts number f ≡ true
function_more n m hosts number f l h =
    let a = left _ _ h in let b = left _ _ a in let c = left _ _ b in let d = left _ _ c in
    both (both (both (both (both (numbers_more n m (own_names f ++ numbers f.cells) l (left _ _ d)) (right _ _ d)) (right _ _ c))
    (stats_grown m number f.setup (lawful.round_function n hosts number false) l (same number) (right _ _ b)))
    (stats_grown m number f.body (lawful.round_function n hosts number (lawful.is_generator f.kind)) l (same number) (right _ _ a)))
    (stats_grown m number f.step (lawful.round_function n hosts number false) l (same number) (right _ _ h))

pub functions_more : (n m hosts number : ℕ) (fs : List CoreFunction) → n ≤ m → functions_lawful n hosts number fs ≡ true → functions_lawful m hosts number fs ≡ true
functions_more n m hosts number [] l h = refl
functions_more n m hosts number (f ∷ fs) l h = both (function_more n m hosts number f l (left _ _ h)) (functions_more n m hosts (number + 1) fs l (right _ _ h))

-- a function that is lawful behind those of a table goes into it
pub functions_with : (n hosts number : ℕ) (fs : List CoreFunction) (f : CoreFunction) → functions_lawful n hosts number fs ≡ true → function_lawful n hosts (number + length fs) f ≡ true → functions_lawful n hosts number (fs ++ f ∷ []) ≡ true
functions_with n hosts number [] f h k = both (subst (λ i. function_lawful n hosts i f ≡ true) (omega arith) k) refl
functions_with n hosts number (g ∷ fs) f h k =
    let e : number + length (g ∷ fs) ≡ (number + 1) + length fs = omega arith in
    both (left _ _ h) (functions_with n hosts (number + 1) fs f (right _ _ h) (subst (λ i. function_lawful n hosts i f ≡ true) e k))

-- ## What stands stays so

pub stands_more : (b : Bindings) (c : Context) (hosts : ℕ) (s t : Lowerer) → size s ≤ size t → vars_drawn (size t) t.names.locals ≡ true → functions_lawful (size t) hosts 0 t.functions ≡ true → Stands b c hosts s → Stands b c hosts t
stands_more b c hosts s t l locals functions k = record {
  bindings = bindings_more b hosts (size s) (size t) l k.bindings;
  this = this_more (size s) (size t) c.this l k.this;
  dead = dead_more (size s) (size t) c.dead l k.dead;
  locals = locals;
  functions = functions;
}

-- ## One after the other

-- nothing is done but to give a value
pub stay : {A : Type 0} (Q : Round → A → Type 0) (b : Bindings) (c : Context) (r : Round) (s : Lowerer) (x : A) → Stands b c r.hosts s → Q (here s r) x → Made Q b c r s (x, s)
stay Q b c r s x k h = record { names = omega arith; functions = omega arith; stands = k; lawful = h }

pub after : {A B : Type 0} (Q : Round → A → Type 0) (R : Round → B → Type 0) (b : Bindings) (c : Context) (r : Round) (s : Lowerer) (x : A × Lowerer) (y : B × Lowerer) → Made Q b c r s x → Made R b c r x.1 y → Made R b c r s y
after Q R b c r s x y h k = record {
  names = let a = h.names in let d = k.names in omega arith;
  functions = let a = h.functions in let d = k.functions in omega arith;
  stands = k.stands;
  lawful = k.lawful;
}

-- another value, of the one that is made
pub giving : {A B : Type 0} (Q : Round → A → Type 0) (R : Round → B → Type 0) (b : Bindings) (c : Context) (r : Round) (s : Lowerer) (x : A × Lowerer) (y : B) → Made Q b c r s x → R (here x.1 r) y → Made R b c r s (y, x.1)
giving Q R b c r s x y h k = record { names = h.names; functions = h.functions; stands = h.stands; lawful = k }

-- a test that more names and functions don't turn
abbrev pub Grows : {A : Type 0} → (Round → A → Type 0) → Type 0
Grows {A} Q = (r : Round) (n g : ℕ) (x : A) → r.names ≤ n → r.functions ≤ g → Q r x → Q (grown n g r) x

pub later : {A B : Type 0} (Q : Round → A → Type 0) (R : Round → B → Type 0) (b : Bindings) (c : Context) (r : Round) (s : Lowerer) (x : A) (y : B × Lowerer) → Grows Q → Made R b c r s y → Q (here s r) x → Q (here y.1 r) x
later Q R b c r s x y g m h = g (here s r) (size y.1) (held y.1) x m.names m.functions h

-- ## Tests that grow

pub exprs_grow : Grows (Of (λ r x. expr_lawful x r))
exprs_grow r n g x l k h = expr_grown n g x r l k h

pub stats_grow : Grows (λ r (ss : List CoreStat). AreLawful r ss)
stats_grow r n g ss l k h = stats_grown n g ss r l k h

pub ids_grow : Grows (Of (λ r (f : FunctionId). nat_lt f.0 r.functions))
ids_grow r n g f l k h = below_more f.0 r.functions g k h

pub vars_grow : Grows (Of (λ r (x : Var). is_drawn r x))
vars_grow r n g x l k h = below_more x.0 r.names n l h

pub all_grow : {A : Type 0} (T : Round → A → Bool) → Grows (Of T) → Grows (AllOf T)
all_grow T g r n f [] l k h = refl
all_grow T g r n f (x ∷ xs) l k h = both (g r n f x l k (left _ _ h)) (all_grow T g r n f xs l k (right _ _ h))

pub if_grow : Grows (Of (λ r x. if_lawful x r))
if_grow r n g None l k h = refl
if_grow r n g (Some x) l k h = expr_grown n g x r l k h

pub scoped_grow : Grows (Of (λ r (xs : List ScopedName). names_drawn xs r))
scoped_grow r n g [] l k h = refl
scoped_grow r n g (x ∷ xs) l k h = both (below_more x.var.0 r.names n l (left _ _ h)) (scoped_grow r n g xs l k (right _ _ h))

pub declared_grow : Grows (Of declared_lawful)
declared_grow r n g d l k h = both (below_more d.var.0 r.names n l (left _ _ h)) (below_more d.function.0 r.functions g k (right _ _ h))

-- ## Lists and options

list_more : {A : Type 0} (f : A → Bool) (xs : List A) (x : A) → list_all f xs ≡ true → f x ≡ true → list_all f (xs ++ x ∷ []) ≡ true
list_more f [] x h k = both k refl
list_more f (y ∷ xs) x h k = both (left _ _ h) (list_more f xs x (right _ _ h) k)

pub list_both : {A : Type 0} (f : A → Bool) (xs ys : List A) → list_all f xs ≡ true → list_all f ys ≡ true → list_all f (xs ++ ys) ≡ true
list_both f [] ys h k = k
list_both f (y ∷ xs) ys h k = both (left _ _ h) (list_both f xs ys (right _ _ h) k)

each_onto_is : {A : Type 0} (T : Round → A → Bool) (b : Bindings) (c : Context) (r : Round) → Grows (Of T) → (as_ : List (Lowering A)) → Every (Makes (Of T) b c r) as_ → (made : List A) (s : Lowerer) → Stands b c r.hosts s → AllOf T (here s r) made → Made (AllOf T) b c r s (each_onto made as_ b c s)
each_onto_is T b c r g [] h made s k m = stay (AllOf T) b c r s made k m
each_onto_is T b c r g (a ∷ as_) h made s k m =
    let x = a b c s in let q = h.0 s k in
    after (Of T) (AllOf T) b c r s x _ q (each_onto_is T b c r g as_ h.1 (made ++ x.0 ∷ []) x.1 q.stands
    (list_more (T (here x.1 r)) made x.0 (later (AllOf T) (Of T) b c r s made x (all_grow T g) q m) q.lawful))

pub each_is : {A : Type 0} (T : Round → A → Bool) (b : Bindings) (c : Context) (r : Round) → Grows (Of T) → (as_ : List (Lowering A)) → Every (Makes (Of T) b c r) as_ → Makes (AllOf T) b c r (each as_)
each_is T b c r g as_ h s k = each_onto_is T b c r g as_ h [] s k refl

each_by_onto_is : {A B : Type 0} (T : Round → A → Bool) (b : Bindings) (c : Context) (r : Round) → Grows (Of T) → (f : B → Lowering A) (xs : List B) → Every (λ x. Makes (Of T) b c r (f x)) xs → (made : List A) (s : Lowerer) → Stands b c r.hosts s → AllOf T (here s r) made → Made (AllOf T) b c r s (each_by_onto f made xs b c s)
each_by_onto_is T b c r g f [] h made s k m = stay (AllOf T) b c r s made k m
each_by_onto_is T b c r g f (y ∷ xs) h made s k m =
    let x = f y b c s in let q = h.0 s k in
    after (Of T) (AllOf T) b c r s x _ q (each_by_onto_is T b c r g f xs h.1 (made ++ x.0 ∷ []) x.1 q.stands
    (list_more (T (here x.1 r)) made x.0 (later (AllOf T) (Of T) b c r s made x (all_grow T g) q m) q.lawful))

pub each_by_is : {A B : Type 0} (T : Round → A → Bool) (b : Bindings) (c : Context) (r : Round) → Grows (Of T) → (f : B → Lowering A) (xs : List B) → Every (λ x. Makes (Of T) b c r (f x)) xs → Makes (AllOf T) b c r (each_by f xs)
each_by_is T b c r g f xs h s k = each_by_onto_is T b c r g f xs h [] s k refl

-- what is done with a value that stays as it was
each_with_onto : {A B C : Type 0} (P : Round → C → Type 0) (T : Round → A → Bool) (b : Bindings) (c : Context) (r : Round) (v : C) → Grows P → Grows (Of T) → (f : B → Lowering A) (xs : List B)
    → Every (λ x. (s : Lowerer) → Stands b c r.hosts s → P (here s r) v → Made (Of T) b c r s (f x b c s)) xs
    → (made : List A) (s : Lowerer) → Stands b c r.hosts s → P (here s r) v → AllOf T (here s r) made → Made (AllOf T) b c r s (each_by_onto f made xs b c s)
each_with_onto P T b c r v e g f [] h made s k d m = stay (AllOf T) b c r s made k m
each_with_onto P T b c r v e g f (y ∷ xs) h made s k d m =
    let x = f y b c s in let q = h.0 s k d in
    after (Of T) (AllOf T) b c r s x _ q (each_with_onto P T b c r v e g f xs h.1 (made ++ x.0 ∷ []) x.1 q.stands (later P (Of T) b c r s v x e q d)
    (list_more (T (here x.1 r)) made x.0 (later (AllOf T) (Of T) b c r s made x (all_grow T g) q m) q.lawful))

pub each_with_is : {A B C : Type 0} (P : Round → C → Type 0) (T : Round → A → Bool) (b : Bindings) (c : Context) (r : Round) (v : C) → Grows P → Grows (Of T) → (f : B → Lowering A) (xs : List B)
    → Every (λ x. (s : Lowerer) → Stands b c r.hosts s → P (here s r) v → Made (Of T) b c r s (f x b c s)) xs
    → (s : Lowerer) → Stands b c r.hosts s → P (here s r) v → Made (AllOf T) b c r s (each_by f xs b c s)
each_with_is P T b c r v e g f xs h s k d = each_with_onto P T b c r v e g f xs h [] s k d refl

each_while_onto : {A C : Type 0} (P : Round → C → Type 0) (T : Round → A → Bool) (b : Bindings) (c : Context) (r : Round) (v : C) → Grows P → Grows (Of T) → (as_ : List (Lowering A))
    → Every (λ a. (s : Lowerer) → Stands b c r.hosts s → P (here s r) v → Made (Of T) b c r s (a b c s)) as_
    → (made : List A) (s : Lowerer) → Stands b c r.hosts s → P (here s r) v → AllOf T (here s r) made → Made (AllOf T) b c r s (each_onto made as_ b c s)
each_while_onto P T b c r v e g [] h made s k d m = stay (AllOf T) b c r s made k m
each_while_onto P T b c r v e g (a ∷ as_) h made s k d m =
    let x = a b c s in let q = h.0 s k d in
    after (Of T) (AllOf T) b c r s x _ q (each_while_onto P T b c r v e g as_ h.1 (made ++ x.0 ∷ []) x.1 q.stands (later P (Of T) b c r s v x e q d)
    (list_more (T (here x.1 r)) made x.0 (later (AllOf T) (Of T) b c r s made x (all_grow T g) q m) q.lawful))

pub each_while_is : {A C : Type 0} (P : Round → C → Type 0) (T : Round → A → Bool) (b : Bindings) (c : Context) (r : Round) (v : C) → Grows P → Grows (Of T) → (as_ : List (Lowering A))
    → Every (λ a. (s : Lowerer) → Stands b c r.hosts s → P (here s r) v → Made (Of T) b c r s (a b c s)) as_
    → (s : Lowerer) → Stands b c r.hosts s → P (here s r) v → Made (AllOf T) b c r s (each as_ b c s)
each_while_is P T b c r v e g as_ h s k d = each_while_onto P T b c r v e g as_ h [] s k d refl

pub stats_both : (r : Round) (xs ys : List CoreStat) → AreLawful r xs → AreLawful r ys → AreLawful r (xs ++ ys)
stats_both r [] ys h k = k
stats_both r (x ∷ xs) ys h k = both (left _ _ h) (stats_both r xs ys (right _ _ h) k)

all_by_onto_is : {B : Type 0} (b : Bindings) (c : Context) (r : Round) (f : B → Lowering (List CoreStat)) (xs : List B) → Every (λ x. Makes AreLawful b c r (f x)) xs → (made : List CoreStat) (s : Lowerer) → Stands b c r.hosts s → AreLawful (here s r) made → Made AreLawful b c r s (all_by_onto f made xs b c s)
all_by_onto_is b c r f [] h made s k m = stay AreLawful b c r s made k m
all_by_onto_is b c r f (y ∷ xs) h made s k m =
    let x = f y b c s in let q = h.0 s k in
    after AreLawful AreLawful b c r s x _ q (all_by_onto_is b c r f xs h.1 (made ++ x.0) x.1 q.stands
    (stats_both (here x.1 r) made x.0 (later AreLawful AreLawful b c r s made x stats_grow q m) q.lawful))

pub all_by_is : {B : Type 0} (b : Bindings) (c : Context) (r : Round) (f : B → Lowering (List CoreStat)) (xs : List B) → Every (λ x. Makes AreLawful b c r (f x)) xs → Makes AreLawful b c r (all_by f xs)
all_by_is b c r f xs h s k = all_by_onto_is b c r f xs h [] s k refl

lists_by_onto : {A B : Type 0} (T : Round → A → Bool) (b : Bindings) (c : Context) (r : Round) → Grows (Of T) → (f : B → Lowering (List A)) (xs : List B) → Every (λ x. Makes (AllOf T) b c r (f x)) xs → (made : List A) (s : Lowerer) → Stands b c r.hosts s → AllOf T (here s r) made → Made (AllOf T) b c r s (all_by_onto f made xs b c s)
lists_by_onto T b c r g f [] h made s k m = stay (AllOf T) b c r s made k m
lists_by_onto T b c r g f (y ∷ xs) h made s k m =
    let x = f y b c s in let q = h.0 s k in
    after (AllOf T) (AllOf T) b c r s x _ q (lists_by_onto T b c r g f xs h.1 (made ++ x.0) x.1 q.stands
    (list_both (T (here x.1 r)) made x.0 (later (AllOf T) (AllOf T) b c r s made x (all_grow T g) q m) q.lawful))

pub lists_by_is : {A B : Type 0} (T : Round → A → Bool) (b : Bindings) (c : Context) (r : Round) → Grows (Of T) → (f : B → Lowering (List A)) (xs : List B) → Every (λ x. Makes (AllOf T) b c r (f x)) xs → Makes (AllOf T) b c r (all_by f xs)
lists_by_is T b c r g f xs h s k = lists_by_onto T b c r g f xs h [] s k refl

-- each goes on with what the one before it made
pub along_by_is : {A B : Type 0} (Q : Round → A → Type 0) (b : Bindings) (c : Context) (r : Round) (f : B → A → Lowering A) (xs : List B)
    → Every (λ x. (y : A) (s : Lowerer) → Stands b c r.hosts s → Q (here s r) y → Made Q b c r s (f x y b c s)) xs
    → (y : A) (s : Lowerer) → Stands b c r.hosts s → Q (here s r) y → Made Q b c r s (along_by f xs y b c s)
along_by_is Q b c r f [] h y s k m = stay Q b c r s y k m
along_by_is Q b c r f (x ∷ xs) h y s k m =
    let z = f x y b c s in let q = h.0 y s k m in
    after Q Q b c r s z _ q (along_by_is Q b c r f xs h.1 z.0 z.1 q.stands q.lawful)

pub option_is : {A : Type 0} (Q : Round → A → Type 0) (b : Bindings) (c : Context) (r : Round) (a : Option (Lowering A)) → IfThere (Makes Q b c r) a → Makes (IfOf Q) b c r (option a)
option_is Q b c r None h s k = stay (IfOf Q) b c r s None k tt
option_is Q b c r (Some a) h s k = let x = a b c s in let q = h s k in giving Q (IfOf Q) b c r s x (Some x.0) q q.lawful

pub choose_is : {A : Type 0} (Q : Round → A → Type 0) (b : Bindings) (c : Context) (r : Round) (d : Bool) (x y : Lowering A) → (d ≡ true → Makes Q b c r x) → (d ≡ false → Makes Q b c r y) → Makes Q b c r (choose d x y)
choose_is Q b c r true x y h k = h refl
choose_is Q b c r false x y h k = k refl

-- ## Names that are drawn

-- more names, of which the temporaries are drawn where they were
pub record Extends (n m : Names) : Type 0 where
  pub more : length n.fresh.hints ≤ length m.fresh.hints
  pub locals : vars_drawn (length n.fresh.hints) n.locals ≡ true → vars_drawn (length m.fresh.hints) m.locals ≡ true

pub extends_same : (n : Names) → Extends n n
extends_same n = record { more = omega arith; locals = λ h. h }

pub extends_more : (n m p : Names) → Extends n m → Extends m p → Extends n p
extends_more n m p h k = record { more = let a = h.more in let d = k.more in omega arith; locals = λ q. k.locals (h.locals q) }

pub hint_more : (n : Names) → length (with_raw n).fresh.hints ≡ length n.fresh.hints + 1
hint_more n = let a = length-append n.fresh.hints (None ∷ []) in omega arith

pub extends_raw : (n : Names) → Extends n (with_raw n)
extends_raw n = let e = hint_more n in record { more = omega arith; locals = λ h. vars_more (length n.fresh.hints) (length (with_raw n).fresh.hints) n.locals (omega arith) h }

pub extends_one : (n : Names) → Extends n (with_temporary n)
extends_one n =
    let e = hint_more n in
    record {
      more = omega arith;
      locals = λ h. list_both (λ (x : Var). nat_lt x.0 (length (with_raw n).fresh.hints)) n.locals (next n.fresh ∷ [])
          (vars_more (length n.fresh.hints) (length (with_raw n).fresh.hints) n.locals (omega arith) h)
          (both (lt-ltb (length n.fresh.hints) (length (with_raw n).fresh.hints) (omega arith)) refl);
    }

pub newest : (n : Names) → nat_lt (length n.fresh.hints) (length (with_raw n).fresh.hints) ≡ true
newest n = let e = hint_more n in lt-ltb (length n.fresh.hints) (length (with_raw n).fresh.hints) (omega arith)

-- ---- what is drawn on the way

pub names_made : {A : Type 0} (Q : Round → A → Type 0) (b : Bindings) (c : Context) (r : Round) (s : Lowerer) (m : Names) (x : A) → Stands b c r.hosts s → Extends s.names m → Q (here (record s { names = m }) r) x → Made Q b c r s (x, record s { names = m })
names_made Q b c r s m x k e h = record {
  names = e.more;
  functions = omega arith;
  stands = stands_more b c r.hosts s (record s { names = m }) e.more (e.locals k.locals) (functions_more (size s) (length m.fresh.hints) r.hosts 0 s.functions e.more k.functions) k;
  lawful = h;
}

pub drawing_is : {A : Type 0} (Q : Round → A → Type 0) (b : Bindings) (c : Context) (r : Round) (f : Names → Drawn A) (s : Lowerer) → Stands b c r.hosts s → Extends s.names (f s.names).names → Q (here (record s { names = (f s.names).names }) r) (f s.names).value → Made Q b c r s (drawing f b c s)
drawing_is Q b c r f s k e h = names_made Q b c r s (f s.names).names (f s.names).value k e h

abbrev pub VarIs : Round → Var → Type 0
VarIs r x = is_drawn r x ≡ true

pub temporary_is : (b : Bindings) (c : Context) (r : Round) → Makes VarIs b c r temporary
temporary_is b c r s k = names_made VarIs b c r s (with_temporary s.names) (next s.names.fresh) k (extends_one s.names) (newest s.names)

pub raw_is : (b : Bindings) (c : Context) (r : Round) → Makes VarIs b c r raw
raw_is b c r s k = names_made VarIs b c r s (with_raw s.names) (next s.names.fresh) k (extends_raw s.names) (newest s.names)

abbrev pub IdIs : Round → FunctionId → Type 0
IdIs r f = nat_lt f.0 r.functions ≡ true

pub define_is : (b : Bindings) (c : Context) (r : Round) (f : CoreFunction) (s : Lowerer) → Stands b c r.hosts s → function_lawful (size s) r.hosts (held s) f ≡ true → Made IdIs b c r s (define f b c s)
define_is b c r f s k h =
    let e = length-append s.functions (f ∷ []) in
    record {
      names = omega arith;
      functions = omega arith;
      stands = stands_more b c r.hosts s (record s { functions = s.functions ++ f ∷ [] }) (omega arith) k.locals
          (functions_with (size s) r.hosts 0 s.functions f k.functions (subst (λ i. function_lawful (size s) r.hosts i f ≡ true) (omega arith) h)) k;
      lawful = lt-ltb (held s) (length (s.functions ++ f ∷ [])) (omega arith);
    }
