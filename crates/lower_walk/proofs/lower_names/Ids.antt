-- The last binding of a list.
use Rattle.std.proofs.Common.{◌≡◌, ◌-◌, List, [], ◌∷◌, length, refl, ap, ◌∙◌, arith}
use Rattle.std.specs.Prelude.{slice_get}
use Rattle.binding_tables.specs.declared.ids.BindingId.{BindingId}
use Rattle.module_lowering.specs.Bindings.{last_id}

last_at : (x : BindingId) (xs : List BindingId) → slice_get (x ∷ xs) (length xs) ≡ last_id (x ∷ xs)
last_at x [] = refl
last_at x (y ∷ xs) = last_at y xs

pub last_read : (xs : List BindingId) → slice_get xs (length xs - 1) ≡ last_id xs
last_read [] = refl
last_read (x ∷ xs) = ap (λ k. slice_get (x ∷ xs) k) (omega arith) ∙ last_at x xs
