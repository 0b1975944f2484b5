-- A sum that stays at the greatest number.
use Rattle.std.proofs.Common.{◌≡◌, ℕ, ◌+◌, ◌≤◌, List, length, drop, min, ap, arith}
use Rattle.std.specs.Prelude.{sum_by}
use Rattle.std.proofs.lemmas.List.{drop_all}

pub all_summed : {A : Type 0} (f : A → ℕ) (xs : List A) (i sum most : ℕ) → length xs ≤ i → sum ≤ most → min (sum + sum_by f (drop i xs)) most ≡ min (sum_by f xs) most → sum ≡ min (sum_by f xs) most
all_summed f xs i sum most past within before =
    let none : sum_by f (drop i xs) ≡ 0 = ap (λ ys. sum_by f ys) (drop_all i xs past) in
    omega (arith, none, within, before)
