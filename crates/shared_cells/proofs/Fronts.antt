-- A list without its last element.
use Rattle.std.proofs.Common.{◌≡◌, List, [], ◌∷◌, ◌++◌, Option, Some, None, refl, ap, sym, ◌∙◌}
use Rattle.std.specs.Prelude.{MatchOption}
use Rattle.shared_cells.specs.Cells.{fronts}

front-of : {A : Type 0} (ys : List A) (z : A) → fronts (ys ++ z ∷ []) ≡ ys
front-of [] z = refl
front-of (y ∷ []) z = refl
front-of (x ∷ y ∷ ys) z = ap (λ rest. x ∷ rest) (front-of (y ∷ ys) z)

pub popped : {A : Type 0} (last : Option A) (xs ys : List A) → MatchOption last ((xs ≡ []) × (ys ≡ [])) (λ z. xs ≡ ys ++ z ∷ []) → ys ≡ fronts xs
popped (Some z) xs ys e = sym (ap fronts e ∙ front-of ys z)
popped None xs ys e = e.1 ∙ sym (ap fronts e.0)
