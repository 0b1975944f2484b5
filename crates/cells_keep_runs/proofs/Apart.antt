-- The names of lawful cores.
use Rattle.std.proofs.Common.{◌≡◌, ◌<◌, ◌≤◌, ◌+◌, ℕ, zero, suc, Bool, true, false, not, ◌||◌, ◌&&◌, cond, List, [], ◌∷◌, ◌++◌, map, flat_map, filter, replicate, set, get_or, Option, None, Some, length, nat_eq, nat_lt, slice_get, refl, sym, ap, arith, subst, ◌∙◌, ◌⊎◌, inl, inr}
use Rattle.std.specs.List.{list_all}
use Rattle.std.proofs.lemmas.Bool.{and_parts, cases_lt, eq-eqb, eqb-true}
use Rattle.std.proofs.lemmas.List.{get_or-replicate, get_or_past, length-replicate}
use Rattle.core_ast.specs.Lawful.{all_differ, declarations, declared_in, function_lawful, functions_lawful, has_number, is_empty, is_generator, number_of, numbers, own_names as declared_names, resumed, round_function, scoped_numbers, stats_lawful}
use Rattle.core_ast.specs.Mentions.{function_mentions, part_mentions}
use Rattle.core_ast.specs.declared.gathering.Mentions.{Mentions}
use Rattle.core_ast.specs.declared.parts.FunctionId.{FunctionId}
use Rattle.core_ast.specs.declared.parts.ScopedName.{ScopedName}
use Rattle.core_ast.specs.declared.parts.Var.{Var}
use Rattle.core_ast.specs.declared.whole.Core.{Core}
use Rattle.core_ast.specs.declared.whole.CoreFunction.{CoreFunction}
use Rattle.core_ast.specs.declared.whole.CorePart.{CorePart}
use Rattle.pass_rules.specs.Cells.{all_free, all_held, all_noted, all_owners, found, free, is_among, is_foreign, is_shared, noted, owner, with_owner, with_owners}
use Rattle.pass_rules.specs.Scopes.{vars}
use Rattle.cells_keep_runs.specs.Apart.{FunctionsAreApart, ModulesAreApart, NoneDeclared, OthersAreKept}
use Rattle.cells_keep_runs.specs.Named.{listed, own_names, scoped_names}
use Rattle.cells_keep_runs.specs.Started.{ScopedApart, owners_of}
use Rattle.cells_keep_runs.proofs.Renewed.{old_or_new}
use Rattle.cells_keep_runs.proofs.Writes.{differ, one_value, same_var}

-- ---- lists of numbers

eq_swap : (a b : ℕ) → nat_eq a b ≡ nat_eq b a
eq_swap a b = by_value (nat_eq a b) (nat_eq b a) refl refl
  where
    by_value : (x y : Bool) → nat_eq a b ≡ x → nat_eq b a ≡ y → x ≡ y
    by_value true true p q = refl
    by_value false false p q = refl
    by_value true false p q = absurd (differ (nat_eq b a) (eq-eqb b a (sym (eqb-true a b p))) q)
    by_value false true p q = absurd (differ (nat_eq a b) (eq-eqb a b (sym (eqb-true b a q))) p)

vars_numbers : (xs : List Var) (x : Var) → is_among x xs ≡ has_number x.0 (numbers xs)
vars_numbers [] x = refl
vars_numbers (y ∷ xs) x = ap (λ b. b || is_among x xs) (eq_swap y.0 x.0) ∙ ap (λ b. nat_eq x.0 y.0 || b) (vars_numbers xs x)

scoped_is : (ns : List ScopedName) (x : Var) → is_among x (vars ns) ≡ has_number x.0 (scoped_numbers ns)
scoped_is [] x = refl
scoped_is (n ∷ ns) x = ap (λ b. b || is_among x (vars ns)) (eq_swap n.var.0 x.0) ∙ ap (λ b. nat_eq x.0 n.var.0 || b) (scoped_is ns x)

listed_is : (o : Option Var) (x : Var) → is_among x (listed o) ≡ has_number x.0 (number_of o)
listed_is None x = refl
listed_is (Some y) x = ap (λ b. b || false) (eq_swap y.0 x.0)

or_assoc : (a b c : Bool) → a || (b || c) ≡ (a || b) || c
or_assoc true b c = refl
or_assoc false b c = refl

or_right : (a b : Bool) → b ≡ true → a || b ≡ true
or_right true b is = refl
or_right false b is = is

or_left : (a b : Bool) → a ≡ true → a || b ≡ true
or_left true b is = refl
or_left false b is = cc

has_append : (n : ℕ) (xs ys : List ℕ) → has_number n (xs ++ ys) ≡ has_number n xs || has_number n ys
has_append n [] ys = refl
has_append n (m ∷ xs) ys = ap (λ b. nat_eq n m || b) (has_append n xs ys) ∙ or_assoc (nat_eq n m) (has_number n xs) (has_number n ys)

among_append : (x : Var) (xs ys : List Var) → is_among x (xs ++ ys) ≡ is_among x xs || is_among x ys
among_append x [] ys = refl
among_append x (y ∷ xs) ys = ap (λ b. nat_eq y.0 x.0 || b) (among_append x xs ys) ∙ or_assoc (nat_eq y.0 x.0) (is_among x xs) (is_among x ys)

not_true : (b : Bool) → not b ≡ true → b ≡ true → ⊥
not_true true p q = cc
not_true false p q = cc

differ_left : (xs ys : List ℕ) → all_differ (xs ++ ys) ≡ true → all_differ xs ≡ true
differ_left [] ys d = refl
differ_left (m ∷ xs) ys d =
    let p = and_parts (not (has_number m (xs ++ ys))) (all_differ (xs ++ ys)) d in
    both_true (not (has_number m xs)) (all_differ xs) (none_here (has_number m xs) refl p.0) (differ_left xs ys p.1)
  where
    both_true : (a b : Bool) → a ≡ true → b ≡ true → a && b ≡ true
    both_true true true p q = refl
    both_true true false p q = cc
    both_true false b p q = cc

    none_here : (b : Bool) → has_number m xs ≡ b → not (has_number m (xs ++ ys)) ≡ true → not b ≡ true
    none_here false e p = refl
    none_here true e p = absurd (not_true (has_number m (xs ++ ys)) p (has_append m xs ys ∙ or_left (has_number m xs) (has_number m ys) e))

differ_right : (xs ys : List ℕ) → all_differ (xs ++ ys) ≡ true → all_differ ys ≡ true
differ_right [] ys d = d
differ_right (m ∷ xs) ys d = differ_right xs ys (and_parts (not (has_number m (xs ++ ys))) (all_differ (xs ++ ys)) d).1

differ_apart : (n : ℕ) (xs ys : List ℕ) → all_differ (xs ++ ys) ≡ true → has_number n xs ≡ true → has_number n ys ≡ true → ⊥
differ_apart n [] ys d here there = cc
differ_apart n (m ∷ xs) ys d here there =
    let p = and_parts (not (has_number m (xs ++ ys))) (all_differ (xs ++ ys)) d in
    by_number (nat_eq n m) refl here p.0 (λ on. differ_apart n xs ys p.1 on there)
  where
    by_number : (b : Bool) → nat_eq n m ≡ b → b || has_number n xs ≡ true → not (has_number m (xs ++ ys)) ≡ true → (has_number n xs ≡ true → ⊥) → ⊥
    by_number true e h none on =
        not_true (has_number m (xs ++ ys)) none
        (ap (λ i. has_number i (xs ++ ys)) (sym (eqb-true n m e)) ∙ has_append n xs ys ∙ or_right (has_number n xs) (has_number n ys) there)
    by_number false e h none on = on h

-- ---- what stands at a place of a list

has_at : {A : Type 0} (f : A → List ℕ) (xs : List A) (i : ℕ) (x : A) (n : ℕ) → slice_get xs i ≡ Some x → has_number n (f x) ≡ true → has_number n (flat_map f xs) ≡ true
has_at f [] i x n at has = cc
has_at f (y ∷ xs) zero x n at has =
    has_append n (f y) (flat_map f xs) ∙ or_left (has_number n (f y)) (has_number n (flat_map f xs)) (ap (λ z. has_number n (f z)) (one_value (Some y) y x refl at) ∙ has)
has_at f (y ∷ xs) (suc i) x n at has =
    has_append n (f y) (flat_map f xs) ∙ or_right (has_number n (f y)) (has_number n (flat_map f xs)) (has_at f xs i x n at has)

once : {A : Type 0} (f : A → List ℕ) (xs : List A) (i j : ℕ) (x y : A) (n : ℕ) → slice_get xs i ≡ Some x → slice_get xs j ≡ Some y → all_differ (flat_map f xs) ≡ true
    → has_number n (f x) ≡ true → has_number n (f y) ≡ true → i ≡ j
once f [] i j x y n at at2 d has has2 = cc
once f (z ∷ xs) zero zero x y n at at2 d has has2 = refl
once f (z ∷ xs) zero (suc j) x y n at at2 d has has2 =
    absurd (differ_apart n (f z) (flat_map f xs) d (ap (λ w. has_number n (f w)) (one_value (Some z) z x refl at) ∙ has) (has_at f xs j y n at2 has2))
once f (z ∷ xs) (suc i) zero x y n at at2 d has has2 =
    absurd (differ_apart n (f z) (flat_map f xs) d (ap (λ w. has_number n (f w)) (one_value (Some z) z y refl at2) ∙ has2) (has_at f xs i x n at has))
once f (z ∷ xs) (suc i) (suc j) x y n at at2 d has has2 = ap (λ k. suc k) (once f xs i j x y n at at2 (differ_right (f z) (flat_map f xs) d) has has2)

differ_at : {A : Type 0} (f : A → List ℕ) (xs : List A) (i : ℕ) (x : A) → slice_get xs i ≡ Some x → all_differ (flat_map f xs) ≡ true → all_differ (f x) ≡ true
differ_at f [] i x at d = cc
differ_at f (y ∷ xs) zero x at d = ap (λ z. all_differ (f z)) (sym (one_value (Some y) y x refl at)) ∙ differ_left (f y) (flat_map f xs) d
differ_at f (y ∷ xs) (suc i) x at d = differ_at f xs i x at (differ_right (f y) (flat_map f xs) d)

-- ---- what declares a name

abbrev of_function : CoreFunction → List ℕ
of_function f = declared_names f ++ declared_in (function_mentions f)

abbrev of_part : CorePart → List ℕ
of_part p = scoped_numbers p.names ++ declared_in (part_mentions p)

-- mentions are those of a function, or of a part
data Placed (fs : List CoreFunction) (ps : List CorePart) (i : ℕ) (m : Mentions) : Type 0 where
  in_functions : (f : CoreFunction) → slice_get fs i ≡ Some f → function_mentions f ≡ m → Placed fs ps i m
  in_parts : (j : ℕ) (p : CorePart) → slice_get ps j ≡ Some p → part_mentions p ≡ m → Placed fs ps i m

part_at : (ps : List CorePart) (j : ℕ) (m : Mentions) → slice_get (map part_mentions ps) j ≡ Some m → (p : CorePart) × (slice_get ps j ≡ Some p) × (part_mentions p ≡ m)
part_at [] j m at = cc
part_at (p ∷ ps) zero m at = (p, refl, one_value (Some (part_mentions p)) (part_mentions p) m refl at)
part_at (p ∷ ps) (suc j) m at = part_at ps j m at

next_place : (f : CoreFunction) (fs : List CoreFunction) (ps : List CorePart) (i : ℕ) (m : Mentions) → Placed fs ps i m → Placed (f ∷ fs) ps (suc i) m
next_place f fs ps i m (in_functions g at is) = in_functions g at is
next_place f fs ps i m (in_parts j p at is) = in_parts j p at is

place_of : (fs : List CoreFunction) (ps : List CorePart) (i : ℕ) (m : Mentions) → slice_get (map function_mentions fs ++ map part_mentions ps) i ≡ Some m → Placed fs ps i m
place_of [] ps i m at = let p = part_at ps i m at in in_parts i p.0 p.1 p.2
place_of (f ∷ fs) ps zero m at = in_functions f refl (one_value (Some (function_mentions f)) (function_mentions f) m refl at)
place_of (f ∷ fs) ps (suc i) m at = next_place f fs ps i m (place_of fs ps i m at)

has_scoped : (n : ℕ) (m : Mentions) (before : List ℕ) → has_number n (scoped_numbers m.scoped) ≡ true → has_number n (before ++ declared_in m) ≡ true
has_scoped n m before has =
    has_append n before (declared_in m)
    ∙ or_right (has_number n before) (has_number n (declared_in m)) (has_append n (scoped_numbers m.scoped) (numbers m.caught) ∙ or_left (has_number n (scoped_numbers m.scoped)) (has_number n (numbers m.caught)) has)

-- a name isn't declared in a function and elsewhere in a scope
not_twice : (core : Core) (i j n : ℕ) (f : CoreFunction) (m : Mentions) → all_differ (declarations core) ≡ true → slice_get core.functions i ≡ Some f → has_number n (of_function f) ≡ true
    → Placed core.functions core.parts j m → has_number n (scoped_numbers m.scoped) ≡ true → (j ≡ i → ⊥) → ⊥
not_twice core i j n f m d at has (in_functions g at2 is) has2 other =
    other (sym (once of_function core.functions i j f g n at at2 (differ_left (flat_map of_function core.functions) (flat_map of_part core.parts) d) has
    (has_scoped n (function_mentions g) (declared_names g) (ap (λ z. has_number n (scoped_numbers z.scoped)) is ∙ has2))))
not_twice core i j n f m d at has (in_parts k p at2 is) has2 other =
    differ_apart n (flat_map of_function core.functions) (flat_map of_part core.parts) d (has_at of_function core.functions i f n at has)
    (has_at of_part core.parts k p n at2 (has_scoped n (part_mentions p) (scoped_numbers p.names) (ap (λ z. has_number n (scoped_numbers z.scoped)) is ∙ has2)))

-- ---- the owner of a shared name declares it

set_got : (l : List ℕ) (i a x : ℕ) → ((get_or (set l i a) x 0 ≡ a) × (x ≡ i)) ⊎ (get_or (set l i a) x 0 ≡ get_or l x 0)
set_got [] i a x = inr refl
set_got (y ∷ l) zero a zero = inl (refl, refl)
set_got (y ∷ l) zero a (suc x) = inr refl
set_got (y ∷ l) (suc i) a zero = inr refl
set_got (y ∷ l) (suc i) a (suc x) = next (set_got l i a x)
  where
    next : ((get_or (set l i a) x 0 ≡ a) × (x ≡ i)) ⊎ (get_or (set l i a) x 0 ≡ get_or l x 0) → ((get_or (set l i a) x 0 ≡ a) × (suc x ≡ suc i)) ⊎ (get_or (set l i a) x 0 ≡ get_or l x 0)
    next (inl (is, same)) = inl (is, ap (λ k. suc k) same)
    next (inr is) = inr is

abbrev Owned : ℕ → List ScopedName → List ℕ → ℕ → ℕ → Type 0
Owned number names table x k = (get_or table x 0 ≡ k) ⊎ ((k ≡ number) × (has_number x (scoped_numbers names) ≡ true))

one_owned : (number : ℕ) (name : ScopedName) (names : List ScopedName) (table : List ℕ) (x k : ℕ) (b : Bool) → get_or (cond b (set table name.var.0 number) table) x 0 ≡ k → Owned number (name ∷ names) table x k
one_owned number name names table x k false is = inl is
one_owned number name names table x k true is = by_place (set_got table name.var.0 number x)
  where
    by_place : ((get_or (set table name.var.0 number) x 0 ≡ number) × (x ≡ name.var.0)) ⊎ (get_or (set table name.var.0 number) x 0 ≡ get_or table x 0) → Owned number (name ∷ names) table x k
    by_place (inl (here, same)) = inr (sym is ∙ here, or_left (nat_eq x name.var.0) (has_number x (scoped_numbers names)) (eq-eqb x name.var.0 same))
    by_place (inr same) = inl (sym same ∙ is)

names_owned : (number : ℕ) (names : List ScopedName) (table : List ℕ) (x k : ℕ) → get_or (with_owners number names table) x 0 ≡ k → Owned number names table x k
names_owned number [] table x k is = inl is
names_owned number (name ∷ names) table x k is = on (names_owned number names (with_owner number name table) x k is)
  where
    on : Owned number names (with_owner number name table) x k → Owned number (name ∷ names) table x k
    on (inl before) = one_owned number name names table x k name.shared before
    on (inr (same, has)) = inr (same, or_right (nat_eq x name.var.0) (has_number x (scoped_numbers names)) has)

record Owner (ms : List Mentions) (number x k : ℕ) : Type 0 where
  place : ℕ
  mentions : Mentions
  at : slice_get ms place ≡ Some mentions
  has : has_number x (scoped_numbers mentions.scoped) ≡ true
  is : k ≡ number + place + 1

owner_of : (number : ℕ) (ms : List Mentions) (table : List ℕ) (x k : ℕ) → get_or (all_owners number ms table) x 0 ≡ k → (get_or table x 0 ≡ k) ⊎ Owner ms number x k
owner_of number [] table x k is = inl is
owner_of number (m ∷ ms) table x k is = on (owner_of (number + 1) ms (with_owners (number + 1) m.scoped table) x k is)
  where
    here : Owned (number + 1) m.scoped table x k → (get_or table x 0 ≡ k) ⊎ Owner (m ∷ ms) number x k
    here (inl before) = inl before
    here (inr (same, has)) =
        let z : number + 1 ≡ number + 0 + 1 = omega arith in
        inr (record { place = 0; mentions = m; at = refl; has = has; is = same ∙ z })

    on : (get_or (with_owners (number + 1) m.scoped table) x 0 ≡ k) ⊎ Owner ms (number + 1) x k → (get_or table x 0 ≡ k) ⊎ Owner (m ∷ ms) number x k
    on (inl before) = here (names_owned (number + 1) m.scoped table x k before)
    on (inr o) =
        let z : number + 1 + o.place + 1 ≡ number + suc o.place + 1 = omega arith in
        inr (record { place = suc o.place; mentions = o.mentions; at = o.at; has = o.has; is = o.is ∙ z })

none_owned : (n x : ℕ) → get_or (replicate n zero) x zero ≡ zero
none_owned n x = by_length (cases_lt x n)
  where
    by_length : (x < n) ⊎ (n ≤ x) → get_or (replicate n zero) x zero ≡ zero
    by_length (inl lt) = get_or-replicate n x zero zero lt
    by_length (inr le) = get_or_past (replicate n zero) x zero (subst (λ k. k ≤ x) (sym (length-replicate n zero)) le)

no_more : (i : ℕ) → 0 + i + 1 ≡ i + 1
no_more i = omega arith

-- ---- the names that a function keeps are shared ones of others

abbrev AllForeign : List ℕ → ℕ → List Var → Type 0
AllForeign table number xs = (x : Var) → is_among x xs ≡ true → is_foreign table number x ≡ true

module _ (table : List ℕ) (number : ℕ) where
  one_more : (xs : List Var) (y x : Var) → AllForeign table number xs → is_foreign table number y ≡ true → is_among x (xs ++ y ∷ []) ≡ true → is_foreign table number x ≡ true
  one_more xs y x before is among = by_place (is_among x xs) refl (sym (among_append x xs (y ∷ [])) ∙ among)
    where
      last : (b : Bool) → nat_eq y.0 x.0 ≡ b → b || false ≡ true → is_foreign table number x ≡ true
      last true e h = ap (λ z. is_foreign table number z) (sym (same_var y x (eqb-true y.0 x.0 e))) ∙ is
      last false e h = cc

      by_place : (b : Bool) → is_among x xs ≡ b → b || (nat_eq y.0 x.0 || false) ≡ true → is_foreign table number x ≡ true
      by_place true e h = before x e
      by_place false e h = last (nat_eq y.0 x.0) refl h

  noted_keeps : (y : Var) (xs : List Var) → AllForeign table number xs → AllForeign table number (noted table number y xs)
  noted_keeps y xs before = by_note (is_foreign table number y && not (is_among y xs)) refl
    where
      by_note : (b : Bool) → is_foreign table number y && not (is_among y xs) ≡ b → AllForeign table number (cond b (xs ++ y ∷ []) xs)
      by_note true e = λ x among. one_more xs y x before (and_parts (is_foreign table number y) (not (is_among y xs)) e).0 among
      by_note false e = before

  all_noted_keep : (ys xs : List Var) → AllForeign table number xs → AllForeign table number (all_noted table number ys xs)
  all_noted_keep [] xs before = before
  all_noted_keep (y ∷ ys) xs before = all_noted_keep ys (noted table number y xs) (noted_keeps y xs before)

  all_held_keep : (lists : List (List Var)) (fs : List FunctionId) (xs : List Var) → AllForeign table number xs → AllForeign table number (all_held table number lists fs xs)
  all_held_keep lists [] xs before = before
  all_held_keep lists (f ∷ fs) xs before = all_held_keep lists fs (all_noted table number (get_or lists f.0 []) xs) (all_noted_keep (get_or lists f.0 []) xs before)

abbrev Each : List ℕ → List (List Var) → Type 0
Each table lists = (i : ℕ) (xs : List Var) → slice_get lists i ≡ Some xs → AllForeign table (i + 1) xs

none_foreign : (table : List ℕ) (number : ℕ) → AllForeign table number []
none_foreign table number x among = cc

each_free : (table : List ℕ) (lists : List (List Var)) (ms : List Mentions) → Each table lists → Each table (all_free table lists ms)
each_free table lists [] each = each
each_free table lists (m ∷ ms) each = each_free table (lists ++ free table lists m ∷ []) ms with_next
  where
    new : AllForeign table (length lists + 1) (free table lists m)
    new = all_held_keep table (length lists + 1) lists m.functions (all_noted table (length lists + 1) m.uses []) (all_noted_keep table (length lists + 1) m.uses [] (none_foreign table (length lists + 1)))

    by_age : (i : ℕ) (xs : List Var) → (slice_get lists i ≡ Some xs) ⊎ ((i ≡ length lists) × (xs ≡ free table lists m)) → AllForeign table (i + 1) xs
    by_age i xs (inl old) = each i xs old
    by_age i xs (inr (last, is)) = subst (λ zs. AllForeign table (i + 1) zs) (sym is) (subst (λ k. AllForeign table (k + 1) (free table lists m)) (sym last) new)

    with_next : Each table (lists ++ free table lists m ∷ [])
    with_next i xs at = by_age i xs (old_or_new lists (free table lists m) i xs at)

got_or : (lists : List (List Var)) (i : ℕ) → (slice_get lists i ≡ Some (get_or lists i [])) ⊎ (get_or lists i [] ≡ [])
got_or [] i = inr refl
got_or (xs ∷ lists) zero = inl refl
got_or (xs ∷ lists) (suc i) = got_or lists i

filtered : (p : Var → Bool) (xs : List Var) (x : Var) → is_among x (filter p xs) ≡ true → is_among x xs ≡ true
filtered p [] x among = among
filtered p (y ∷ xs) x among = by_test (p y) among (λ on. filtered p xs x on)
  where
    first : (b : Bool) → b || is_among x (filter p xs) ≡ true → (is_among x (filter p xs) ≡ true → is_among x xs ≡ true) → b || is_among x xs ≡ true
    first true h on = refl
    first false h on = on h

    by_test : (b : Bool) → is_among x (cond b (y ∷ filter p xs) (filter p xs)) ≡ true → (is_among x (filter p xs) ≡ true → is_among x xs ≡ true) → nat_eq y.0 x.0 || is_among x xs ≡ true
    by_test true h on = first (nat_eq y.0 x.0) h on
    by_test false h on = or_right (nat_eq y.0 x.0) (is_among x xs) (on h)

pub kept_foreign : OthersAreKept
kept_foreign core f x among = by_list (got_or (all_free (owners_of core) [] (found core)) f.0)
  where
    here : is_among x (get_or (all_free (owners_of core) [] (found core)) f.0 []) ≡ true
    here = filtered _ (get_or (all_free (owners_of core) [] (found core)) f.0 []) x among

    none : Each (owners_of core) []
    none i xs at = cc

    by_list : (slice_get (all_free (owners_of core) [] (found core)) f.0 ≡ Some (get_or (all_free (owners_of core) [] (found core)) f.0 [])) ⊎ (get_or (all_free (owners_of core) [] (found core)) f.0 [] ≡ [])
        → is_foreign (owners_of core) (f.0 + 1) x ≡ true
    by_list (inl at) = each_free (owners_of core) [] (found core) none f.0 (get_or (all_free (owners_of core) [] (found core)) f.0 []) at x here
    by_list (inr empty) = absurd (differ (is_among x (get_or (all_free (owners_of core) [] (found core)) f.0 [])) here (ap (λ ys. is_among x ys) empty))

kept_elsewhere : (core : Core) (f : FunctionId) (function : CoreFunction) (x : Var) → all_differ (declarations core) ≡ true → slice_get core.functions f.0 ≡ Some function
    → is_foreign (owners_of core) (f.0 + 1) x ≡ true → has_number x.0 (of_function function) ≡ true → ⊥
kept_elsewhere core f function x d at other has =
    let foreign = and_parts (is_shared (owners_of core) x) (not (nat_eq (owner (owners_of core) x) (f.0 + 1))) other in
    by_owner foreign.0 foreign.1 (owner_of 0 (found core) (replicate (length core.fresh.hints) 0) x.0 (owner (owners_of core) x) refl)
  where
    by_owner : is_shared (owners_of core) x ≡ true → not (nat_eq (owner (owners_of core) x) (f.0 + 1)) ≡ true
        → (get_or (replicate (length core.fresh.hints) 0) x.0 0 ≡ owner (owners_of core) x) ⊎ Owner (found core) 0 x.0 (owner (owners_of core) x) → ⊥
    by_owner shared other (inl before) =
        not_true (nat_eq (owner (owners_of core) x) 0) shared (eq-eqb (owner (owners_of core) x) 0 (sym before ∙ none_owned (length core.fresh.hints) x.0))
    by_owner shared other (inr o) =
        not_twice core f.0 o.place x.0 function o.mentions d at has (place_of core.functions core.parts o.place o.mentions o.at) o.has
        (λ same. not_true (nat_eq (owner (owners_of core) x) (f.0 + 1)) other (eq-eqb (owner (owners_of core) x) (f.0 + 1) (o.is ∙ ap (λ i. 0 + i + 1) same ∙ no_more f.0)))

-- ---- functions

reordered : (a b c d e r g : Bool) → (a || (b || (c || d))) || e ≡ true → ((((d || a) || b) || c) || r) || (e || g) ≡ true
reordered a b c true e r g h = refl
reordered true b c false e r g h = refl
reordered false true c false e r g h = refl
reordered false false true false e r g h = refl
reordered false false false false true true g h = refl
reordered false false false false true false g h = refl
reordered false false false false false r g h = cc

module _ (f : CoreFunction) (x : Var) where
  abbrev n : ℕ
  n = x.0

  names_here : is_among x (own_names f ++ scoped_names f)
      ≡ (has_number n (numbers f.parameters) || (has_number n (number_of f.arguments) || (has_number n (numbers f.locals) || has_number n (number_of f.own)))) || has_number n (scoped_numbers (function_mentions f).scoped)
  names_here =
      among_append x (own_names f) (scoped_names f)
      ∙ ap (λ b. is_among x (own_names f) || b) (scoped_is (function_mentions f).scoped x)
      ∙ ap (λ b. b || has_number n (scoped_numbers (function_mentions f).scoped))
      (among_append x f.parameters (listed f.arguments ++ (f.locals ++ listed f.own)) ∙ ap (λ b. b || is_among x (listed f.arguments ++ (f.locals ++ listed f.own))) (vars_numbers f.parameters x)
      ∙ ap (λ b. has_number n (numbers f.parameters) || b)
      (among_append x (listed f.arguments) (f.locals ++ listed f.own) ∙ ap (λ b. b || is_among x (f.locals ++ listed f.own)) (listed_is f.arguments x)
      ∙ ap (λ b. has_number n (number_of f.arguments) || b)
      (among_append x f.locals (listed f.own) ∙ ap (λ b. b || is_among x (listed f.own)) (vars_numbers f.locals x) ∙ ap (λ b. has_number n (numbers f.locals) || b) (listed_is f.own x))))

  declared_here : has_number n (of_function f)
      ≡ ((((has_number n (number_of f.own) || has_number n (numbers f.parameters)) || has_number n (number_of f.arguments)) || has_number n (numbers f.locals)) || has_number n (resumed f.resumption))
      || (has_number n (scoped_numbers (function_mentions f).scoped) || has_number n (numbers (function_mentions f).caught))
  declared_here =
      has_append n (declared_names f) (declared_in (function_mentions f))
      ∙ ap (λ b. has_number n (declared_names f) || b) (has_append n (scoped_numbers (function_mentions f).scoped) (numbers (function_mentions f).caught))
      ∙ ap (λ b. b || (has_number n (scoped_numbers (function_mentions f).scoped) || has_number n (numbers (function_mentions f).caught)))
      (has_append n (number_of f.own ++ numbers f.parameters ++ number_of f.arguments ++ numbers f.locals) (resumed f.resumption)
      ∙ ap (λ b. b || has_number n (resumed f.resumption))
      (has_append n (number_of f.own ++ numbers f.parameters ++ number_of f.arguments) (numbers f.locals)
      ∙ ap (λ b. b || has_number n (numbers f.locals))
      (has_append n (number_of f.own ++ numbers f.parameters) (number_of f.arguments)
      ∙ ap (λ b. b || has_number n (number_of f.arguments)) (has_append n (number_of f.own) (numbers f.parameters)))))

  declares : is_among x (own_names f ++ scoped_names f) ≡ true → has_number n (of_function f) ≡ true
  declares among =
      declared_here
      ∙ reordered (has_number n (numbers f.parameters)) (has_number n (number_of f.arguments)) (has_number n (numbers f.locals)) (has_number n (number_of f.own))
      (has_number n (scoped_numbers (function_mentions f).scoped)) (has_number n (resumed f.resumption)) (has_number n (numbers (function_mentions f).caught)) (sym names_here ∙ among)

  own_here : is_among x (listed f.own) ≡ true → has_number n (declared_names f) ≡ true
  own_here own =
      has_append n (number_of f.own ++ numbers f.parameters ++ number_of f.arguments ++ numbers f.locals) (resumed f.resumption)
      ∙ or_left (has_number n (number_of f.own ++ numbers f.parameters ++ number_of f.arguments ++ numbers f.locals)) (has_number n (resumed f.resumption))
      (has_append n (number_of f.own ++ numbers f.parameters ++ number_of f.arguments) (numbers f.locals)
      ∙ or_left (has_number n (number_of f.own ++ numbers f.parameters ++ number_of f.arguments)) (has_number n (numbers f.locals))
      (has_append n (number_of f.own ++ numbers f.parameters) (number_of f.arguments)
      ∙ or_left (has_number n (number_of f.own ++ numbers f.parameters)) (has_number n (number_of f.arguments))
      (has_append n (number_of f.own) (numbers f.parameters) ∙ or_left (has_number n (number_of f.own)) (has_number n (numbers f.parameters)) (sym (listed_is f.own x) ∙ own))))

false_by : (b : Bool) → (b ≡ true → ⊥) → b ≡ false
false_by true h = absurd (h refl)
false_by false h = refl

pub functions_apart : FunctionsAreApart
functions_apart core f function lawful at =
    let d : all_differ (declarations core) ≡ true = lawful.1.3 in
    let own_differ : all_differ (of_function function) ≡ true = differ_at of_function core.functions f.0 function at (differ_left (flat_map of_function core.functions) (flat_map of_part core.parts) d) in
    record {
      own_apart = λ x own. false_by (is_among x (scoped_names function))
          (λ scoped. differ_apart x.0 (declared_names function) (declared_in (function_mentions function)) own_differ (own_here function x own)
          (has_scoped x.0 (function_mentions function) [] (sym (scoped_is (function_mentions function).scoped x) ∙ scoped)));
      others_apart = λ x other. false_by (is_among x (own_names function ++ scoped_names function)) (λ among. kept_elsewhere core f function x d at other (declares function x among));
    }

-- ---- modules

parts_apart : (ps : List CorePart) → all_differ (flat_map of_part ps) ≡ true → ScopedApart ps
parts_apart [] d = tt
parts_apart (p ∷ ps) d = (
  λ x scoped. false_by (is_among x (vars p.names))
      (λ own. differ_apart x.0 (scoped_numbers p.names) (declared_in (part_mentions p)) (differ_left (of_part p) (flat_map of_part ps) d) (sym (scoped_is p.names x) ∙ own)
      (has_scoped x.0 (part_mentions p) [] (sym (scoped_is (part_mentions p).scoped x) ∙ scoped))),
  parts_apart ps (differ_right (of_part p) (flat_map of_part ps) d),
)

pub modules_apart : ModulesAreApart
modules_apart core lawful = parts_apart core.parts (differ_right (flat_map of_function core.functions) (flat_map of_part core.parts) lawful.1.3)

-- ---- declared functions

empty_by : {A : Type 0} (xs : List A) → is_empty xs ≡ true → xs ≡ []
empty_by [] is = refl
empty_by (x ∷ xs) is =
    let none : suc (length xs) ≡ 0 = eqb-true (suc (length xs)) 0 is in
    absurd (omega arith)

lawful_at : (names hosts number : ℕ) (fs : List CoreFunction) (i : ℕ) (f : CoreFunction) → functions_lawful names hosts number fs ≡ true → slice_get fs i ≡ Some f → (k : ℕ) × (function_lawful names hosts k f ≡ true)
lawful_at names hosts number [] i f all at = cc
lawful_at names hosts number (g ∷ fs) zero f all at =
    (number, ap (λ h. function_lawful names hosts number h) (sym (one_value (Some g) g f refl at)) ∙ (and_parts (function_lawful names hosts number g) (functions_lawful names hosts (number + 1) fs) all).0)
lawful_at names hosts number (g ∷ fs) (suc i) f all at =
    lawful_at names hosts (number + 1) fs i f (and_parts (function_lawful names hosts number g) (functions_lawful names hosts (number + 1) fs) all).1 at

third_of : (a b c d e g : Bool) → a && b && c && d && e && g ≡ true → c ≡ true
third_of true true true d e g h = refl
third_of true true false d e g h = cc
third_of true false c d e g h = cc
third_of false b c d e g h = cc

none_in : (names hosts number : ℕ) (f : CoreFunction) → function_lawful names hosts number f ≡ true → f.declared ≡ []
none_in names hosts number f lawful =
    empty_by f.declared
    (third_of (list_all (λ n. nat_lt n names) (declared_names f ++ numbers f.cells)) (all_differ (numbers f.parameters)) (is_empty f.declared) (stats_lawful f.setup (round_function names hosts number false))
    (stats_lawful f.body (round_function names hosts number (is_generator f.kind))) (stats_lawful f.step (round_function names hosts number false)) lawful)

pub none_declared : NoneDeclared
none_declared core f function lawful at =
    let one = lawful_at (length core.fresh.hints) lawful.0 0 core.functions f.0 function lawful.1.0 at in
    none_in (length core.fresh.hints) lawful.0 one.0 function one.1
