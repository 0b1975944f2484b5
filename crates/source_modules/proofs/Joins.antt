-- Lists that are joined.
use Rattle.std.proofs.Common.{◌≡◌, List, [], ◌∷◌, ◌++◌, append_assoc, ap, refl, sym, ◌∙◌}
use Rattle.es6_static_semantics.specs.Findings.{joined}

pub joined_over : {A B : Type 0} (f : A → List B) (xs ys : List A) → joined f (xs ++ ys) ≡ joined f xs ++ joined f ys
joined_over f [] ys = refl
joined_over f (x ∷ xs) ys = ap (λ zs. f x ++ zs) (joined_over f xs ys) ∙ sym (append_assoc (f x) (joined f xs) (joined f ys))
