-- Lists that are seen as they are.
use Rattle.std.proofs.Common.{◌≡◌, List, [], ◌∷◌, map, refl, ap}

pub map_identity : {A : Type 0} (xs : List A) → map (λ x. x) xs ≡ xs
map_identity [] = refl
map_identity (x ∷ xs) = ap (λ ys. x ∷ ys) (map_identity xs)
