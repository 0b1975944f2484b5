-- The pair that is reported of a list is one of it, and none of them comes before it.
use Rattle.std.proofs.Common.{◌≡◌, ℕ, Bool, true, false, ◌&&◌, ◌||◌, cond, nat_lt, ◌==◌, List, [], ◌∷◌, ◌++◌, fold, Option, Some, None, IfSome, refl, sym, subst, arith}
use Rattle.std.specs.Option.{option_map}
use Rattle.std.proofs.lemmas.Bool.{false≢true}
use Rattle.std.proofs.lemmas.Bool.Decides.{nat_tests}
use Rattle.std.proofs.lemmas.List.{append_assoc, append-nil}
use Rattle.std.proofs.lemmas.List.Elements.{All-push, All-weaker, All-nil, Contains-push, Contains-append_left}
use Rattle.es5_ast.specs.Early.{Rule5, F, V, Pair5, rule_comes_first, comes_first, earlier, least_pair, IsFirst}

-- ---- the order

number_not_before : (m n k : ℕ) → nat_lt m n ≡ false → nat_lt n k ≡ false → nat_lt m k ≡ false
number_not_before m n k a b = grind (arith, nat_tests)

rule_not_before : (r s t : Rule5) → rule_comes_first r s ≡ false → rule_comes_first s t ≡ false → rule_comes_first r t ≡ false
rule_not_before (F m) (F n) (F k) a b = number_not_before m n k a b
rule_not_before (F m) (F n) (V k) a b = b
rule_not_before (F m) (V n) t a b = absurd (false≢true (sym a))
rule_not_before (V m) (F n) (F k) a b = refl
rule_not_before (V m) (F n) (V k) a b = absurd (false≢true (sym b))
rule_not_before (V m) (V n) (F k) a b = refl
rule_not_before (V m) (V n) (V k) a b = number_not_before m n k a b

place_not_before : (a b c : ℕ) (x y z : Bool) → (x ≡ false → y ≡ false → z ≡ false) → nat_lt a b || ((a == b) && x) ≡ false → nat_lt b c || ((b == c) && y) ≡ false → nat_lt a c || ((a == c) && z) ≡ false
place_not_before a b c x y z h p q = grind (arith, nat_tests, h)

not_before : (p q r : Pair5) → comes_first p q ≡ false → comes_first q r ≡ false → comes_first p r ≡ false
not_before p q r a b =
    place_not_before p.at q.at r.at (rule_comes_first p.rule q.rule) (rule_comes_first q.rule r.rule) (rule_comes_first p.rule r.rule) (rule_not_before p.rule q.rule r.rule) a b

number_not_after : (m n : ℕ) → nat_lt m n ≡ true → nat_lt n m ≡ false
number_not_after m n a = grind (arith, nat_tests)

rule_not_after : (r s : Rule5) → rule_comes_first r s ≡ true → rule_comes_first s r ≡ false
rule_not_after (F m) (F n) a = number_not_after m n a
rule_not_after (F m) (V n) a = refl
rule_not_after (V m) (F n) a = absurd (false≢true a)
rule_not_after (V m) (V n) a = number_not_after m n a

place_not_after : (a b : ℕ) (x y : Bool) → (x ≡ true → y ≡ false) → nat_lt a b || ((a == b) && x) ≡ true → nat_lt b a || ((b == a) && y) ≡ false
place_not_after a b x y h p = grind (arith, nat_tests, h)

not_after : (p q : Pair5) → comes_first p q ≡ true → comes_first q p ≡ false
not_after p q a = place_not_after p.at q.at (rule_comes_first p.rule q.rule) (rule_comes_first q.rule p.rule) (rule_not_after p.rule q.rule) a

rule_not_itself : (r : Rule5) → rule_comes_first r r ≡ false
rule_not_itself (F m) = grind (arith, nat_tests)
rule_not_itself (V m) = grind (arith, nat_tests)

place_not_itself : (a : ℕ) (x : Bool) → x ≡ false → nat_lt a a || ((a == a) && x) ≡ false
place_not_itself a x h = grind (arith, nat_tests)

not_itself : (p : Pair5) → comes_first p p ≡ false
not_itself p = place_not_itself p.at (rule_comes_first p.rule p.rule) (rule_not_itself p.rule)

-- ---- the first of a list

first_step : (q x : Pair5) (done : List Pair5) (b : Bool) → comes_first x q ≡ b → IsFirst q done → IsFirst (cond b x q) (done ++ x ∷ [])
first_step q x done true e h = (
  Contains-push done x,
  All-push (λ r. comes_first r x ≡ false) done x
      (All-weaker (λ r. comes_first r q ≡ false) (λ r. comes_first r x ≡ false) (λ r n. not_before r q x n (not_after x q e)) done h.1)
      (not_itself x),
)
first_step q x done false e h =
    (Contains-append_left done (x ∷ []) q h.0, All-push (λ r. comes_first r q ≡ false) done x h.1 e)

first_of : (q : Pair5) (done ps : List Pair5) → IsFirst q done → (p : Pair5) → fold earlier (Some q) ps ≡ Some p → IsFirst p (done ++ ps)
first_of q done [] h p e =
    let same : q ≡ p = cc in
    subst (λ qs. IsFirst p qs) (sym (append-nil done)) (subst (λ r. IsFirst r done) same h)
first_of q done (x ∷ ps) h p e =
    subst (λ qs. IsFirst p qs) (append_assoc done (x ∷ []) ps)
    (first_of (cond (comes_first x q) x q) (done ++ x ∷ []) ps (first_step q x done (comes_first x q) refl h) p e)

pub least_pair-first : (ps : List Pair5) (p : Pair5) → least_pair ps ≡ Some p → IsFirst p ps
least_pair-first [] p e = absurd (cc)
least_pair-first (x ∷ ps) p e =
    first_of x (x ∷ []) ps (Contains-push [] x, All-push (λ r. comes_first r x ≡ false) [] x (All-nil (λ r. comes_first r x ≡ false)) (not_itself x)) p e

some_stays : (q : Pair5) (ps : List Pair5) → fold earlier (Some q) ps ≡ None → ⊥
some_stays q [] e = cc
some_stays q (x ∷ ps) e = some_stays (cond (comes_first x q) x q) ps e

pub least_pair-none : (ps : List Pair5) → least_pair ps ≡ None → ps ≡ []
least_pair-none [] e = refl
least_pair-none (x ∷ ps) e = absurd (some_stays x ps e)

-- the same of what the program has, by a view of it
pub view-none : {A B : Type 0} (f : A → B) (o : Option A) → option_map f o ≡ None → o ≡ None
view-none f None e = refl
view-none f (Some x) e = absurd (cc)

pub view-first : {A B : Type 0} (f : A → B) (o : Option A) (P : B → Type 0) → ((b : B) → option_map f o ≡ Some b → P b) → IfSome o (λ a. P (f a))
view-first f None P h = tt
view-first f (Some x) P h = h (f x) refl
