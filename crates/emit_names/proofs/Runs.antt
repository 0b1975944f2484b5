-- The most `$` side by side in the names of two lists.
use Rattle.std.proofs.Common.{◌≡◌, ℕ, List, [], ◌∷◌, ◌++◌, refl}
use Rattle.emission_rules.specs.Naming.{longest_run, most_dollars}

pub most_dollars_append : (best : ℕ) (xs ys : List (List ℕ)) → most_dollars best (xs ++ ys) ≡ most_dollars (most_dollars best xs) ys
most_dollars_append best [] ys = refl
most_dollars_append best (x ∷ xs) ys = most_dollars_append (longest_run best 0 x) xs ys
