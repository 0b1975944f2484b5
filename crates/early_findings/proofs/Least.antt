-- The pair that is reported of a list is one of it, and none of them comes before it.
use Rattle.std.proofs.Common.{◌≡◌, ℕ, Bool, true, false, ◌&&◌, ◌||◌, cond, nat_lt, ◌==◌, List, [], ◌∷◌, ◌++◌, fold, map, Option, Some, None, IfSome, refl, sym, subst, ap, arith}
use Rattle.std.specs.Option.{option_map}
use Rattle.std.proofs.lemmas.Bool.Decides.{nat_tests}
use Rattle.std.proofs.lemmas.List.{append_assoc, append-nil}
use Rattle.std.proofs.lemmas.List.Elements.{All-push, All-weaker, All-nil, Contains-push, Contains-append_left}
use Rattle.es6_static_semantics.specs.Findings.{Pair, comes_first, earlier, joined, least_pair, IsFirst}

-- ---- the order

place_not_before : (a b c m n k : ℕ) → nat_lt a b || ((a == b) && nat_lt m n) ≡ false → nat_lt b c || ((b == c) && nat_lt n k) ≡ false → nat_lt a c || ((a == c) && nat_lt m k) ≡ false
place_not_before a b c m n k x y = grind (arith, nat_tests)

not_before : (p q r : Pair) → comes_first p q ≡ false → comes_first q r ≡ false → comes_first p r ≡ false
not_before p q r a b = place_not_before p.at q.at r.at p.rule q.rule r.rule a b

place_not_after : (a b m n : ℕ) → nat_lt a b || ((a == b) && nat_lt m n) ≡ true → nat_lt b a || ((b == a) && nat_lt n m) ≡ false
place_not_after a b m n x = grind (arith, nat_tests)

not_after : (p q : Pair) → comes_first p q ≡ true → comes_first q p ≡ false
not_after p q a = place_not_after p.at q.at p.rule q.rule a

place_not_itself : (a m : ℕ) → nat_lt a a || ((a == a) && nat_lt m m) ≡ false
place_not_itself a m = grind (arith, nat_tests)

not_itself : (p : Pair) → comes_first p p ≡ false
not_itself p = place_not_itself p.at p.rule

-- ---- the first of a list

first_step : (q x : Pair) (done : List Pair) (b : Bool) → comes_first x q ≡ b → IsFirst q done → IsFirst (cond b x q) (done ++ x ∷ [])
first_step q x done true e h = (
  Contains-push done x,
  All-push (λ r. comes_first r x ≡ false) done x
      (All-weaker (λ r. comes_first r q ≡ false) (λ r. comes_first r x ≡ false) (λ r n. not_before r q x n (not_after x q e)) done h.1)
      (not_itself x),
)
first_step q x done false e h =
    (Contains-append_left done (x ∷ []) q h.0, All-push (λ r. comes_first r q ≡ false) done x h.1 e)

first_of : (q : Pair) (done ps : List Pair) → IsFirst q done → (p : Pair) → fold earlier (Some q) ps ≡ Some p → IsFirst p (done ++ ps)
first_of q done [] h p e =
    let same : q ≡ p = cc in
    subst (λ qs. IsFirst p qs) (sym (append-nil done)) (subst (λ r. IsFirst r done) same h)
first_of q done (x ∷ ps) h p e =
    subst (λ qs. IsFirst p qs) (append_assoc done (x ∷ []) ps)
    (first_of (cond (comes_first x q) x q) (done ++ x ∷ []) ps (first_step q x done (comes_first x q) refl h) p e)

pub least_pair-first : (ps : List Pair) (p : Pair) → least_pair ps ≡ Some p → IsFirst p ps
least_pair-first [] p e = absurd (cc)
least_pair-first (x ∷ ps) p e =
    first_of x (x ∷ []) ps (Contains-push [] x, All-push (λ r. comes_first r x ≡ false) [] x (All-nil (λ r. comes_first r x ≡ false)) (not_itself x)) p e

some_stays : (q : Pair) (ps : List Pair) → fold earlier (Some q) ps ≡ None → ⊥
some_stays q [] e = cc
some_stays q (x ∷ ps) e = some_stays (cond (comes_first x q) x q) ps e

pub least_pair-none : (ps : List Pair) → least_pair ps ≡ None → ps ≡ []
least_pair-none [] e = refl
least_pair-none (x ∷ ps) e = absurd (some_stays x ps e)

-- the same of what the program has, by a view of it
pub view-none : {A B : Type 0} (f : A → B) (o : Option A) → option_map f o ≡ None → o ≡ None
view-none f None e = refl
view-none f (Some x) e = absurd (cc)

pub view-first : {A B : Type 0} (f : A → B) (o : Option A) (P : B → Type 0) → ((b : B) → option_map f o ≡ Some b → P b) → IfSome o (λ a. P (f a))
view-first f None P h = tt
view-first f (Some x) P h = h (f x) refl

-- pairs joined over what the elements of a list give
pub joined-map : {A B : Type 0} (f : B → List Pair) (g : A → B) (xs : List A) → joined f (map g xs) ≡ joined (λ x. f (g x)) xs
joined-map f g [] = refl
joined-map f g (x ∷ xs) = ap (λ ps. f (g x) ++ ps) (joined-map f g xs)
