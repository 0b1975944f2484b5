-- Numbers and labels in lists.
use Rattle.std.proofs.Common.{◌≡◌, ℕ, Bool, true, false, ◌||◌, not, nat_eq, List, [], ◌∷◌, ◌++◌, map, refl, sym, ap, ◌∙◌}
use Rattle.std.proofs.lemmas.Bool.{false≢true, eqb-true, eq-eqb}
use Rattle.core_ast.specs.declared.parts.Label.{Label}
use Rattle.core_ast.specs.Lawful.{all_differ, has_label, has_number}
use Rattle.pass_rules.proofs.pass_laws.Within.{left, right, both}

pub or_both : (a b : Bool) → a ≡ false → b ≡ false → (a || b) ≡ false
or_both a b h k = ap (λ c. c || b) h ∙ k

pub or_left : (a b : Bool) → (a || b) ≡ false → a ≡ false
or_left true b h = h
or_left false b h = refl

pub or_right : (a b : Bool) → (a || b) ≡ false → b ≡ false
or_right true b h = absurd (false≢true (sym h))
or_right false b h = h

pub or_first : (a b : Bool) → a ≡ true → (a || b) ≡ true
or_first a b h = ap (λ c. c || b) h

pub or_second : (a b : Bool) → b ≡ true → (a || b) ≡ true
or_second true b h = refl
or_second false b h = h

pub or_map : (c a b : Bool) → (a ≡ true → b ≡ true) → (c || a) ≡ true → (c || b) ≡ true
or_map true a b f h = refl
or_map false a b f h = f h

pub or_none : (c a b : Bool) → (a ≡ false → b ≡ false) → (c || a) ≡ false → (c || b) ≡ false
or_none true a b f h = h
or_none false a b f h = f h

pub unnot : (a : Bool) → not a ≡ true → a ≡ false
unnot true h = sym h
unnot false h = refl

pub no_by : (a : Bool) → (a ≡ true → ⊥) → a ≡ false
no_by true h = absurd (h refl)
no_by false h = refl

-- ## Numbers

pub has_left : (i : ℕ) (xs ys : List ℕ) → has_number i xs ≡ true → has_number i (xs ++ ys) ≡ true
has_left i [] ys h = absurd (false≢true h)
has_left i (x ∷ xs) ys h = or_map (nat_eq i x) _ _ (has_left i xs ys) h

pub has_right : (i : ℕ) (xs ys : List ℕ) → has_number i ys ≡ true → has_number i (xs ++ ys) ≡ true
has_right i [] ys h = h
has_right i (x ∷ xs) ys h = or_second (nat_eq i x) _ (has_right i xs ys h)

pub absent_left : (i : ℕ) (xs ys : List ℕ) → has_number i (xs ++ ys) ≡ false → has_number i xs ≡ false
absent_left i [] ys h = refl
absent_left i (x ∷ xs) ys h = or_both _ _ (or_left _ _ h) (absent_left i xs ys (or_right (nat_eq i x) _ h))

pub absent_right : (i : ℕ) (xs ys : List ℕ) → has_number i (xs ++ ys) ≡ false → has_number i ys ≡ false
absent_right i [] ys h = h
absent_right i (x ∷ xs) ys h = absent_right i xs ys (or_right (nat_eq i x) _ h)

pub differ_left : (xs ys : List ℕ) → all_differ (xs ++ ys) ≡ true → all_differ xs ≡ true
differ_left [] ys h = refl
differ_left (x ∷ xs) ys h = both (ap not (absent_left x xs ys (unnot _ (left _ _ h)))) (differ_left xs ys (right _ _ h))

pub differ_right : (xs ys : List ℕ) → all_differ (xs ++ ys) ≡ true → all_differ ys ≡ true
differ_right [] ys h = h
differ_right (x ∷ xs) ys h = differ_right xs ys (right _ _ h)

-- of two parts of a list whose numbers differ, none stands in both
apart_by : (i x : ℕ) (xs ys : List ℕ) (c : Bool) → nat_eq i x ≡ c → has_number x ys ≡ false → (has_number i xs ≡ true → has_number i ys ≡ false) → (c || has_number i xs) ≡ true → has_number i ys ≡ false
apart_by i x xs ys true e h f k = ap (λ j. has_number j ys) (eqb-true i x e) ∙ h
apart_by i x xs ys false e h f k = f k

pub apart_parts : (i : ℕ) (xs ys : List ℕ) → all_differ (xs ++ ys) ≡ true → has_number i xs ≡ true → has_number i ys ≡ false
apart_parts i [] ys h k = absurd (false≢true k)
apart_parts i (x ∷ xs) ys h k = apart_by i x xs ys (nat_eq i x) refl (absent_right x xs ys (unnot _ (left _ _ h))) (apart_parts i xs ys (right _ _ h)) k

pub apart_turned : (i : ℕ) (xs ys : List ℕ) → all_differ (xs ++ ys) ≡ true → has_number i ys ≡ true → has_number i xs ≡ false
apart_turned i xs ys h k = no_by _ (λ a. false≢true (sym (apart_parts i xs ys h a) ∙ k))

eq_turned : (i j : ℕ) → nat_eq i j ≡ false → nat_eq j i ≡ false
eq_turned i j h = no_by _ (λ a. false≢true (sym h ∙ eq-eqb i j (sym (eqb-true j i a))))

absent_one : (i n : ℕ) (xs : List ℕ) → has_number i xs ≡ false → nat_eq i n ≡ false → has_number i (xs ++ n ∷ []) ≡ false
absent_one i n [] h k = or_both _ _ k refl
absent_one i n (x ∷ xs) h k = or_both _ _ (or_left _ _ h) (absent_one i n xs (or_right (nat_eq i x) _ h) k)

pub differ_one : (n : ℕ) (xs : List ℕ) → all_differ xs ≡ true → has_number n xs ≡ false → all_differ (xs ++ n ∷ []) ≡ true
differ_one n [] h k = refl
differ_one n (x ∷ xs) h k = both (ap not (absent_one x n xs (unnot _ (left _ _ h)) (eq_turned n x (or_left _ _ k)))) (differ_one n xs (right _ _ h) (or_right (nat_eq n x) _ k))

-- ## Labels

abbrev pub numbers_of : List Label → List ℕ
numbers_of ls = map (λ (l : Label). l.0) ls

pub number_label : (l : Label) (ls : List Label) → has_number l.0 (numbers_of ls) ≡ has_label l ls
number_label l [] = refl
number_label l (m ∷ ls) = ap (λ c. nat_eq l.0 m.0 || c) (number_label l ls)

pub label_left : (l : Label) (xs ys : List Label) → has_label l xs ≡ true → has_label l (xs ++ ys) ≡ true
label_left l [] ys h = absurd (false≢true h)
label_left l (x ∷ xs) ys h = or_map (nat_eq l.0 x.0) _ _ (label_left l xs ys) h

pub label_right : (l : Label) (xs ys : List Label) → has_label l ys ≡ true → has_label l (xs ++ ys) ≡ true
label_right l [] ys h = h
label_right l (x ∷ xs) ys h = or_second (nat_eq l.0 x.0) _ (label_right l xs ys h)

-- what holds of each that is in a part
pub label_split : {A : Type 0} (l : Label) (xs ys : List Label) → (has_label l xs ≡ true → A) → (has_label l ys ≡ true → A) → has_label l (xs ++ ys) ≡ true → A
label_split l [] ys f g h = g h
label_split {A} l (x ∷ xs) ys f g h = split_by (nat_eq l.0 x.0) (λ e. f (or_first _ _ e)) (label_split l xs ys (λ e. f (or_second (nat_eq l.0 x.0) _ e)) g) h
  where
    split_by : (c : Bool) → (c ≡ true → A) → (has_label l (xs ++ ys) ≡ true → A) → (c || has_label l (xs ++ ys)) ≡ true → A
    split_by true f g h = f refl
    split_by false f g h = g h

pub label_none : (l : Label) (xs ys : List Label) → has_label l xs ≡ false → has_label l ys ≡ false → has_label l (xs ++ ys) ≡ false
label_none l [] ys h k = k
label_none l (x ∷ xs) ys h k = or_both _ _ (or_left _ _ h) (label_none l xs ys (or_right (nat_eq l.0 x.0) _ h) k)

pub numbers_one : (ls : List Label) (l : Label) → numbers_of (ls ++ l ∷ []) ≡ numbers_of ls ++ l.0 ∷ []
numbers_one [] l = refl
numbers_one (x ∷ ls) l = ap (λ ns. x.0 ∷ ns) (numbers_one ls l)
