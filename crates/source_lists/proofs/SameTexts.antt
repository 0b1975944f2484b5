-- Lists of texts that differ in length are not the same.
use Rattle.std.proofs.Common.{◌≡◌, ◌≢◌, ◌&&◌, ℕ, suc, Bool, List, [], ◌∷◌, length, false, true, refl, ap, ◌∙◌}
use Rattle.std.specs.Cmp.Lexicographic.{pointwise}
use Rattle.std.specs.Str.{bytes_eq}

never : (b : Bool) → (b && false) ≡ false
never true = refl
never false = refl

pub lengths_differ : (xs ys : List (List ℕ)) → length xs ≢ length ys → pointwise bytes_eq xs ys ≡ false
lengths_differ [] [] h = absurd (h refl)
lengths_differ [] (y ∷ ys) h = refl
lengths_differ (x ∷ xs) [] h = refl
lengths_differ (x ∷ xs) (y ∷ ys) h =
    ap (λ (b : Bool). bytes_eq x y && b) (lengths_differ xs ys (λ e. h (ap suc e))) ∙ never (bytes_eq x y)
