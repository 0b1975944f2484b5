-- Values of the program, as a loop finds them.
use Rattle.std.proofs.Common.{◌≡◌, List, None, Option, Some, [], ◌++◌, ◌∷◌, refl, sym, ap, ◌∙◌, append_assoc, append-nil}
use Rattle.std.specs.Option.{option_map}
use Rattle.es_value.specs.declared.value.Value.{Value}
use Rattle.core_meaning.specs.Expressions.{single}
use Rattle.core_meaning.specs.Rows.{users}
use Rattle.core_meaning.specs.State.{CoreValue, Extra, User}
use Rattle.core_moves.specs.Values.{users_behind}

-- no list of two or more is a list of one
pub single_more : {A : Type 0} (x : A) (xs : List A) (y : A) → single ((x ∷ xs) ++ y ∷ []) ≡ None
single_more x [] y = refl
single_more x (z ∷ zs) y = refl

behind_map : (vs : List Value) (o : Option (List Value)) (v : Value) → option_map (λ ws. (vs ++ v ∷ []) ++ ws) o ≡ option_map (λ ws. vs ++ ws) (option_map (λ ws. v ∷ ws) o)
behind_map vs None v = refl
behind_map vs (Some ws) v = ap Some (append_assoc vs (v ∷ []) ws)

users_behind_map : {M : Type 0} (vs : List Value) (xs : List (CoreValue M)) → users_behind vs xs ≡ option_map (λ ws. vs ++ ws) (users xs)
users_behind_map vs [] = ap Some (sym (append-nil vs))
users_behind_map vs (User v ∷ xs) = users_behind_map (vs ++ v ∷ []) xs ∙ behind_map vs (users xs) v
users_behind_map vs (Extra m ∷ xs) = refl

same_option : {A : Type 0} (o : Option (List A)) → option_map (λ ws. [] ++ ws) o ≡ o
same_option None = refl
same_option (Some ws) = refl

pub users_whole : {M : Type 0} (xs : List (CoreValue M)) → users_behind [] xs ≡ users xs
users_whole xs = users_behind_map [] xs ∙ same_option (users xs)
