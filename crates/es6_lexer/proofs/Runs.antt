-- Runs of characters, a step at a time.
use Rattle.std.proofs.Common.{◌≡◌, ℕ, zero, suc, ◌+◌, ◌<◌, ◌≤◌, Bool, true, false, cond, List, [], ◌∷◌, length, take, drop, get_or, refl, sym, ap, ◌∙◌, arith, add-one}
use Rattle.std.proofs.lemmas.List.{at_drop_more, at_drop_all}
use Rattle.es6_lexer.specs.Classes.{run_of}

run_cons : (p : ℕ → Bool) (c : ℕ) (cs : List ℕ) → p c ≡ true → run_of p (c ∷ cs) ≡ 1 + run_of p cs
run_cons p c cs h = rw h (omega arith)

stop_cons : (p : ℕ → Bool) (c : ℕ) (cs : List ℕ) → p c ≡ false → run_of p (c ∷ cs) ≡ 0
stop_cons p c cs h = rw h refl

-- a run goes on over a character that passes
pub run_more : (p : ℕ → Bool) (cs : List ℕ) (i : ℕ) → i < length cs → p (get_or cs i 0) ≡ true → run_of p (drop i cs) ≡ 1 + run_of p (drop (i + 1) cs)
run_more p cs i h t = at_drop_more (run_of p) cs i 0 h ∙ run_cons p (get_or cs i 0) (drop (i + 1) cs) t

-- and ends at one that does not, or at the end
pub run_stop : (p : ℕ → Bool) (cs : List ℕ) (i : ℕ) → i < length cs → p (get_or cs i 0) ≡ false → run_of p (drop i cs) ≡ 0
run_stop p cs i h f = at_drop_more (run_of p) cs i 0 h ∙ stop_cons p (get_or cs i 0) (drop (i + 1) cs) f

pub run_end : (p : ℕ → Bool) (cs : List ℕ) (i : ℕ) → length cs ≤ i → run_of p (drop i cs) ≡ 0
run_end p cs i h = at_drop_all (run_of p) cs i h

within_cond : (b : Bool) (n m : ℕ) → n ≤ m → cond b (suc n) 0 ≤ suc m
within_cond true n m h = omega arith
within_cond false n m h = omega arith

pub run_within : (p : ℕ → Bool) (cs : List ℕ) → run_of p cs ≤ length cs
run_within p [] = omega arith
run_within p (c ∷ cs) = within_cond (p c) (run_of p cs) (length cs) (run_within p cs)
