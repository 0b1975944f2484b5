-- Lists of one or none.
use Rattle.std.specs.Prelude.{◌≡◌, List, None, Option, Some, [], ◌∷◌}

-- the one that a list has, if it has one
abbrev pub IsOnly : {A : Type 0} → Option A → List A → Type 0
IsOnly None xs = xs ≡ []
IsOnly (Some x) xs = xs ≡ x ∷ []
