-- Numbers differ where each stands at most once.
use Rattle.std.proofs.Common.{◌≡◌, ℕ, ◌+◌, ◌≤◌, Bool, true, false, ◌||◌, not, cond, nat_eq, List, [], ◌∷◌, ◌++◌, refl, sym, ap, arith, ◌∙◌}
use Rattle.std.proofs.lemmas.Bool.{false≢true, eq-eqb, eqb-true}
use Rattle.core_ast.specs.Lawful.{all_differ, has_number}
use Rattle.pass_rules.proofs.pass_laws.Within.{left, right, both}

abbrev pub count : ℕ → List ℕ → ℕ
count n [] = 0
count n (m ∷ ms) = cond (nat_eq n m) 1 0 + count n ms

pub count_more : (n : ℕ) (xs ys : List ℕ) → count n (xs ++ ys) ≡ count n xs + count n ys
count_more n [] ys = omega arith
count_more n (x ∷ xs) ys = let e = count_more n xs ys in omega arith

absent_by : (b c : Bool) (k : ℕ) → (b || c) ≡ false → (c ≡ false → k ≡ 0) → cond b 1 0 + k ≡ 0
absent_by true c k h f = absurd (false≢true (sym h))
absent_by false c k h f = let e = f h in omega arith

absent : (n : ℕ) (ms : List ℕ) → has_number n ms ≡ false → count n ms ≡ 0
absent n [] h = refl
absent n (m ∷ ms) h = absent_by (nat_eq n m) (has_number n ms) (count n ms) h (absent n ms)

present_by : (b c : Bool) (k : ℕ) → cond b 1 0 + k ≡ 0 → (k ≡ 0 → c ≡ false) → (b || c) ≡ false
present_by true c k h f = absurd (let d : 1 + k ≡ 0 = h in let e : ⊥ = omega arith in e)
present_by false c k h f = f (let d : 0 + k ≡ 0 = h in omega arith)

present : (n : ℕ) (ms : List ℕ) → count n ms ≡ 0 → has_number n ms ≡ false
present n [] h = refl
present n (m ∷ ms) h = present_by (nat_eq n m) (has_number n ms) (count n ms) h (present n ms)

not_true : (b : Bool) → not b ≡ true → b ≡ false
not_true true h = sym h
not_true false h = refl

once_by : (n m : ℕ) (ms : List ℕ) (b : Bool) → nat_eq n m ≡ b → count m ms ≡ 0 → count n ms ≤ 1 → cond b 1 0 + count n ms ≤ 1
once_by n m ms true e z k = let d : n ≡ m = eqb-true n m e in let f = ap (λ i. count i ms) d in omega arith
once_by n m ms false e z k = omega arith

pub each_once : (ms : List ℕ) → all_differ ms ≡ true → (n : ℕ) → count n ms ≤ 1
each_once [] h n = omega arith
each_once (m ∷ ms) h n = once_by n m ms (nat_eq n m) refl (absent m ms (not_true (has_number m ms) (left _ _ h))) (each_once ms (right _ _ h) n)

head_once : (m : ℕ) (ms : List ℕ) (b : Bool) → nat_eq m m ≡ b → cond b 1 0 + count m ms ≤ 1 → count m ms ≡ 0
head_once m ms true e k = let d : 1 + count m ms ≤ 1 = k in omega arith
head_once m ms false e k = absurd (false≢true (sym e ∙ eq-eqb m m refl))

tail_once : (n m : ℕ) (ms : List ℕ) (b : Bool) → cond b 1 0 + count n ms ≤ 1 → count n ms ≤ 1
tail_once n m ms true k = let d : 1 + count n ms ≤ 1 = k in omega arith
tail_once n m ms false k = let d : 0 + count n ms ≤ 1 = k in omega arith

pub all_differ_by : (ms : List ℕ) → ((n : ℕ) → count n ms ≤ 1) → all_differ ms ≡ true
all_differ_by [] h = refl
all_differ_by (m ∷ ms) h = both (ap not (present m ms (head_once m ms (nat_eq m m) refl (h m)))) (all_differ_by ms (λ n. tail_once n m ms (nat_eq n m) (h n)))
