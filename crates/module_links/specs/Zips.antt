-- Two lists that are put together, element by element.
use Rattle.std.specs.Prelude.{List, [], ◌∷◌}

abbrev pub zipped : {A B : Type 0} → (A → B → A) → List A → List B → List A
zipped f [] ys = []
zipped f (x ∷ xs) [] = []
zipped f (x ∷ xs) (y ∷ ys) = f x y ∷ zipped f xs ys
