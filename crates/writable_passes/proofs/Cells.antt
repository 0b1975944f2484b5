-- A function keeps no cell twice.
use Rattle.std.specs.List.{filter, list_all}
use Rattle.std.proofs.Common.{◌≡◌, ℕ, zero, suc, ◌+◌, Bool, true, false, ◌&&◌, ◌||◌, not, cond, nat_eq, get_or, length, List, [], ◌∷◌, ◌++◌, refl, sym, ap, ◌∙◌}
use Rattle.std.proofs.lemmas.Bool.{false≢true, eq-eqb, eqb-true}
use Rattle.core_ast.specs.declared.gathering.Mentions.{Mentions}
use Rattle.core_ast.specs.declared.parts.FunctionId.{FunctionId}
use Rattle.core_ast.specs.declared.parts.Var.{Var}
use Rattle.core_ast.specs.Lawful.{all_differ, has_number, numbers}
use Rattle.pass_rules.specs.Cells as c
use Rattle.pass_rules.specs.Cells.{cells_at, is_foreign}
use Rattle.pass_rules.proofs.pass_laws.Within.{left, right, both, more}

abbrev Differ : List Var → Type 0
Differ xs = all_differ (numbers xs) ≡ true

eq_turned : (i j : ℕ) → nat_eq i j ≡ true → nat_eq j i ≡ true
eq_turned i j h = eq-eqb j i (sym (eqb-true i j h))

or_both : (a b : Bool) → a ≡ false → b ≡ false → (a || b) ≡ false
or_both a b h k = ap (λ c. c || b) h ∙ k

or_left : (a b : Bool) → (a || b) ≡ false → a ≡ false
or_left true b h = h
or_left false b h = refl

or_right : (a b : Bool) → (a || b) ≡ false → b ≡ false
or_right true b h = absurd (false≢true (sym h))
or_right false b h = h

unnot : (a : Bool) → not a ≡ true → a ≡ false
unnot true h = sym h
unnot false h = refl

flipped : (i j : ℕ) (b : Bool) → nat_eq i j ≡ b → nat_eq j i ≡ b
flipped i j true e = eq_turned i j e
flipped i j false e = by_two (nat_eq j i) refl
  where
    by_two : (c : Bool) → nat_eq j i ≡ c → nat_eq j i ≡ false
    by_two true d = absurd (false≢true (sym e ∙ eq_turned j i d))
    by_two false d = d

absent_number : (x : Var) (xs : List Var) → c.is_among x xs ≡ false → has_number x.0 (numbers xs) ≡ false
absent_number x [] h = refl
absent_number x (y ∷ xs) h = or_both _ _ (flipped y.0 x.0 false (or_left _ _ h)) (absent_number x xs (or_right (nat_eq y.0 x.0) _ h))

absent_one : (i : ℕ) (xs : List Var) (y : Var) → has_number i (numbers xs) ≡ false → nat_eq i y.0 ≡ false → has_number i (numbers (xs ++ y ∷ [])) ≡ false
absent_one i [] y h k = or_both _ _ k refl
absent_one i (x ∷ xs) y h k = or_both _ _ (or_left _ _ h) (absent_one i xs y (or_right (nat_eq i x.0) _ h) k)

differ_one : (xs : List Var) (x : Var) → Differ xs → c.is_among x xs ≡ false → Differ (xs ++ x ∷ [])
differ_one [] x h k = refl
differ_one (y ∷ xs) x h k = both (ap not (absent_one y.0 xs x (unnot _ (left _ _ h)) (or_left _ _ k))) (differ_one xs x (right _ _ h) (or_right (nat_eq y.0 x.0) _ k))

noted_by : (x : Var) (xs : List Var) (a : Bool) (b : Bool) → (a && not (c.is_among x xs)) ≡ b → Differ xs → Differ (cond b (xs ++ x ∷ []) xs)
noted_by x xs a true e h = differ_one xs x h (unnot _ (right a _ e))
noted_by x xs a false e h = h

noted_differ : (owners : List ℕ) (number : ℕ) (x : Var) (xs : List Var) → Differ xs → Differ (c.noted owners number x xs)
noted_differ owners number x xs h = noted_by x xs (is_foreign owners number x) (is_foreign owners number x && not (c.is_among x xs)) refl h

all_noted_differ : (owners : List ℕ) (number : ℕ) (ys xs : List Var) → Differ xs → Differ (c.all_noted owners number ys xs)
all_noted_differ owners number [] xs h = h
all_noted_differ owners number (y ∷ ys) xs h = all_noted_differ owners number ys (c.noted owners number y xs) (noted_differ owners number y xs h)

all_held_differ : (owners : List ℕ) (number : ℕ) (before : List (List Var)) (fs : List FunctionId) (xs : List Var) → Differ xs → Differ (c.all_held owners number before fs xs)
all_held_differ owners number before [] xs h = h
all_held_differ owners number before (f ∷ fs) xs h = all_held_differ owners number before fs _ (all_noted_differ owners number (get_or before f.0 []) xs h)

abbrev AllDiffer : List (List Var) → Type 0
AllDiffer xss = list_all (λ xs. all_differ (numbers xs)) xss ≡ true

all_free_differ : (owners : List ℕ) (before : List (List Var)) (ms : List Mentions) → AllDiffer before → AllDiffer (c.all_free owners before ms)
all_free_differ owners before [] h = h
all_free_differ owners before (a ∷ ms) h = all_free_differ owners (before ++ c.free owners before a ∷ []) ms
    (more (λ xs. all_differ (numbers xs)) before (c.free owners before a) h (all_held_differ owners (length before + 1) before a.functions _ (all_noted_differ owners (length before + 1) a.uses [] refl)))

at_differ : (xss : List (List Var)) (i : ℕ) → AllDiffer xss → Differ (get_or xss i [])
at_differ [] i h = refl
at_differ (xs ∷ xss) zero h = left _ _ h
at_differ (xs ∷ xss) (suc i) h = at_differ xss i (right _ _ h)

absent_filter : (i : ℕ) (f : Var → Bool) (xs : List Var) → has_number i (numbers xs) ≡ false → has_number i (numbers (filter f xs)) ≡ false
absent_filter i f [] h = refl
absent_filter i f (x ∷ xs) h = by_test (f x) (absent_filter i f xs (or_right (nat_eq i x.0) _ h))
  where
    by_test : (b : Bool) → has_number i (numbers (filter f xs)) ≡ false → has_number i (numbers (cond b (x ∷ filter f xs) (filter f xs))) ≡ false
    by_test true k = or_both _ _ (or_left _ _ h) k
    by_test false k = k

filter_differ : (f : Var → Bool) (xs : List Var) → Differ xs → Differ (filter f xs)
filter_differ f [] h = refl
filter_differ f (x ∷ xs) h = by_test (f x) (filter_differ f xs (right _ _ h))
  where
    by_test : (b : Bool) → Differ (filter f xs) → Differ (cond b (x ∷ filter f xs) (filter f xs))
    by_test true k = both (ap not (absent_filter x.0 f xs (unnot _ (left _ _ h)))) k
    by_test false k = k

pub cells_differ : (owners holders : List ℕ) (ms : List Mentions) (place : ℕ) → all_differ (numbers (cells_at owners holders (c.all_free owners [] ms) place)) ≡ true
cells_differ owners holders ms place = filter_differ (λ x. nat_eq (c.owner owners x) (get_or holders place 0)) (get_or (c.all_free owners [] ms) place []) (at_differ (c.all_free owners [] ms) place (all_free_differ owners [] ms refl))
