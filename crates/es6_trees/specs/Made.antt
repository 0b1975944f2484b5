-- What is put together of a part that could be built, or couldn't.
use Rattle.std.specs.Prelude.{◌≡◌, List, [], ◌∷◌, ◌++◌, Result, Ok, Err}
use Rattle.es6_trees.specs.declared.made.Unbuilt.{Unbuilt}

abbrev pub with_made : {A B : Type 0} → (A → B) → Result A Unbuilt → Result B Unbuilt
with_made f (Ok x) = Ok (f x)
with_made f (Err fault) = Err fault

-- the item stands at the end
abbrev pub Adds : {A : Type 0} → List A → Result A Unbuilt → List A → Type 0
Adds before (Ok x) behind = behind ≡ before ++ x ∷ []
Adds before (Err fault) behind = ⊥
