-- Values of the program, as a loop finds them.
use Rattle.std.specs.Prelude.{List, None, Option, Some, [], ◌++◌, ◌∷◌}
use Rattle.es_value.specs.declared.value.Value.{Value}
use Rattle.core_meaning.specs.State.{CoreValue, Extra, User}

-- the values behind those that are there, if the program sees all of them
abbrev pub users_behind : {M : Type 0} → List Value → List (CoreValue M) → Option (List Value)
users_behind vs [] = Some vs
users_behind vs (User v ∷ xs) = users_behind (vs ++ v ∷ []) xs
users_behind vs (Extra m ∷ xs) = None
