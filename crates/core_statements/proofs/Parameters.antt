-- Parameters with their arguments, one by one.
use Rattle.std.proofs.Common.{◌≡◌, ℕ, zero, suc, ◌<◌, List, None, [], ◌∷◌, ◌++◌, drop, refl, length, get_or, arith, append_assoc, ap, sym, ◌∙◌}
use Rattle.std.specs.List.{slice_get}
use Rattle.es_value.specs.declared.value.Value.{Value}
use Rattle.core_ast.specs.declared.parts.Var.{Var}
use Rattle.core_meaning.specs.Calls.{passed}
use Rattle.core_meaning.specs.State.{Binding}
use Rattle.core_statements.specs.Entered.{passed_at}

-- behind the last argument
missing : {M : Type 0} (xs : List Var) (i : ℕ) (d : Var) → i < length xs → passed {M = M} (drop i xs) [] ≡ passed_at (get_or xs i d) None ∷ passed (drop (suc i) xs) []
missing [] i d h = absurd (omega arith)
missing (y ∷ xs) zero d h = refl
missing (y ∷ xs) (suc i) d h = missing xs i d (omega arith)

next : {M : Type 0} (xs : List Var) (vs : List Value) (i : ℕ) (d : Var) → i < length xs → passed {M = M} (drop i xs) (drop i vs) ≡ passed_at (get_or xs i d) (slice_get vs i) ∷ passed (drop (suc i) xs) (drop (suc i) vs)
next [] vs i d h = absurd (omega arith)
next (y ∷ xs) [] zero d h = refl
next (y ∷ xs) [] (suc i) d h = missing xs i d (omega arith)
next (y ∷ xs) (v ∷ vs) zero d h = refl
next (y ∷ xs) (v ∷ vs) (suc i) d h = next xs vs i d (omega arith)

-- one parameter more
pub passed_step : {M : Type 0} (names : List (Binding M)) (xs : List Var) (vs : List Value) (i : ℕ) (d : Var) → i < length xs → (names ++ passed_at (get_or xs i d) (slice_get vs i) ∷ []) ++ passed (drop (suc i) xs) (drop (suc i) vs) ≡ names ++ passed (drop i xs) (drop i vs)
passed_step names xs vs i d h = append_assoc names _ _ ∙ ap (λ ys. names ++ ys) (sym (next xs vs i d h))
