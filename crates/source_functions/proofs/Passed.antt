-- Parameters with their arguments, one by one, and values that are taken from the front.
use Rattle.std.proofs.Common.{◌≡◌, ℕ, zero, suc, ◌<◌, List, None, Some, [], ◌∷◌, ◌++◌, drop, refl, length, get_or, map, remove, true, arith, append_assoc, ap, sym, ◌∙◌}
use Rattle.std.specs.List.{slice_get}
use Rattle.es_value.specs.declared.value.Value.{Value}
use Rattle.source_functions.specs.Taken.{value_or_undefined}
use Rattle.source_meaning.specs.Environments.{bound, unbound}
use Rattle.source_meaning.specs.Functions.{behind_first, first_of, passed}
use Rattle.source_meaning.specs.State.{Binding}
use Rattle.source_meaning.specs.Trees.{lexical}

-- behind the last argument
missing : (xs : List (List ℕ)) (i : ℕ) (d : List ℕ) → i < length xs → passed (drop i xs) [] ≡ bound true (get_or xs i d) (value_or_undefined None) ∷ passed (drop (suc i) xs) []
missing [] i d h = absurd (omega arith)
missing (y ∷ xs) zero d h = refl
missing (y ∷ xs) (suc i) d h = missing xs i d (omega arith)

next : (xs : List (List ℕ)) (vs : List Value) (i : ℕ) (d : List ℕ) → i < length xs → passed (drop i xs) (drop i vs) ≡ bound true (get_or xs i d) (value_or_undefined (slice_get vs i)) ∷ passed (drop (suc i) xs) (drop (suc i) vs)
next [] vs i d h = absurd (omega arith)
next (y ∷ xs) [] zero d h = refl
next (y ∷ xs) [] (suc i) d h = missing xs i d (omega arith)
next (y ∷ xs) (v ∷ vs) zero d h = refl
next (y ∷ xs) (v ∷ vs) (suc i) d h = next xs vs i d (omega arith)

-- one parameter more
pub passed_step : (names : List Binding) (xs : List (List ℕ)) (vs : List Value) (i : ℕ) (d : List ℕ) → i < length xs → (names ++ bound true (get_or xs i d) (value_or_undefined (slice_get vs i)) ∷ []) ++ passed (drop (suc i) xs) (drop (suc i) vs) ≡ names ++ passed (drop i xs) (drop i vs)
passed_step names xs vs i d h = append_assoc names _ _ ∙ ap (λ ys. names ++ ys) (sym (next xs vs i d h))

pub unbound_listed : (xs : List (List ℕ)) → map unbound (map (lexical true) xs) ≡ map (λ x. unbound (record { name = x; mutable = true })) xs
unbound_listed [] = refl
unbound_listed (x ∷ xs) = ap (λ ys. unbound (lexical true x) ∷ ys) (unbound_listed xs)

pub first_taken : (vs : List Value) (v : Value) → slice_get vs 0 ≡ Some v → v ≡ first_of vs
first_taken [] v e = cc
first_taken (w ∷ vs) v e = cc

pub rest_taken : (vs : List Value) → remove vs 0 ≡ behind_first vs
rest_taken [] = refl
rest_taken (v ∷ vs) = refl
