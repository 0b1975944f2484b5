-- Runs of characters of one class, and what follows them.
use Rattle.std.proofs.Common.{◌≡◌, ℕ, suc, ◌+◌, ◌≤◌, Bool, true, false, cond, List, [], ◌∷◌, ◌++◌, length, take, drop, refl, sym, ap, ◌∙◌, arith}
use Rattle.std.specs.Prelude.{slice_index}
use Rattle.std.specs.List.{prefix_len, list_all}
use Rattle.es5_ast.specs.Lexical.{next_is}

pub by_cases : {A : Type 0} (P : A → Type 0) (b : Bool) (x y : A) → (b ≡ true → P x) → (b ≡ false → P y) → P (cond b x y)
by_cases P true x y p q = p refl
by_cases P false x y p q = q refl

pub run_more : (p : ℕ → Bool) (c : ℕ) (cs : List ℕ) → p c ≡ true → prefix_len p (c ∷ cs) ≡ suc (prefix_len p cs)
run_more p c cs h = rw h (omega arith)

pub run_within : (p : ℕ → Bool) (cs : List ℕ) → prefix_len p cs ≤ length cs
run_within p [] = omega arith
run_within p (c ∷ cs) = by_cases (λ n. n ≤ suc (length cs)) (p c) _ _ (λ t. omega (arith, run_within p cs)) (λ f. omega arith)

-- a run passes its test, and what follows it does not
pub run_passes : (p : ℕ → Bool) (cs : List ℕ) → list_all p (take (prefix_len p cs) cs) ≡ true
run_passes p [] = refl
run_passes p (c ∷ cs) =
    let one : 1 + prefix_len p cs ≡ suc (prefix_len p cs) = omega arith in
    by_cases (λ n. list_all p (take n (c ∷ cs)) ≡ true) (p c) _ _ (λ t. rw (one, t) (run_passes p cs)) (λ f. refl)

pub run_ends : (p : ℕ → Bool) (cs : List ℕ) → next_is p (drop (prefix_len p cs) cs) ≡ false
run_ends p [] = refl
run_ends p (c ∷ cs) =
    let one : 1 + prefix_len p cs ≡ suc (prefix_len p cs) = omega arith in
    by_cases (λ n. next_is p (drop n (c ∷ cs)) ≡ false) (p c) _ _ (λ t. rw one (run_ends p cs)) (λ f. f)

-- what fails a test in a text fails it in a front
pub next_none : (p : ℕ → Bool) (cs body tail : List ℕ) → cs ≡ body ++ tail → p (slice_index cs 0) ≡ false → next_is p body ≡ false
next_none p cs [] tail e h = refl
next_none p cs (b ∷ body) tail e h = ap (λ x. p (slice_index x 0)) (sym e) ∙ h

pub next_front : (p : ℕ → Bool) (front rest : List ℕ) → next_is p (front ++ rest) ≡ false → next_is p front ≡ false
next_front p [] rest h = refl
next_front p (c ∷ front) rest h = h

pub next_not : (p : ℕ → Bool) (cs : List ℕ) → p (slice_index cs 0) ≡ false → next_is p cs ≡ false
next_not p [] h = refl
next_not p (c ∷ cs) h = h

-- a character that is not U+0000 stands in front
pub begins : (cs : List ℕ) (c : ℕ) → slice_index cs 0 ≡ suc c → (after : List ℕ) × (cs ≡ suc c ∷ after)
begins [] c e = cc
begins (x ∷ cs) c e = (cs, ap (λ y. y ∷ cs) e)
