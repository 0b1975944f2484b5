-- Lists that are mapped piece by piece.
use Rattle.std.proofs.Common.{◌≡◌, List, [], ◌∷◌, ◌++◌, map, refl, sym, ap, ◌∙◌}
use Rattle.std.proofs.lemmas.List.{map-append}
use Rattle.es6_static_semantics.specs.Findings.{joined}

pub joined_mapped : {A B C : Type 0} (f : B → C) (g : A → List B) (xs : List A) → joined (λ x. map f (g x)) xs ≡ map f (joined g xs)
joined_mapped f g [] = refl
joined_mapped f g (x ∷ xs) = ap (λ rest. map f (g x) ++ rest) (joined_mapped f g xs) ∙ sym (map-append f (g x) (joined g xs))
