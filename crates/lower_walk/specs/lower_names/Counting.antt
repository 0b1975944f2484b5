-- Which of the functions that a body declares count (9.2.12, step 10), by their places.
use Rattle.std.specs.Prelude.{◌≡◌, ℕ, Bool, true, false, not, cond, nat_eq, List, [], ◌∷◌, map}
use Rattle.std.specs.List.{list_any}
use Rattle.core_ast.specs.declared.parts.Var.{Var}
use Rattle.module_lowering.specs.declared.context.Context.{Context}
use Rattle.module_lowering.specs.Bindings.{Bindings, declared_var}

-- whether the name at another place declares the same variable
abbrev pub is_same : Bindings → Context → ℕ → ℕ → Bool
is_same b c at other = nat_eq (declared_var b c other).0 (declared_var b c at).0

-- of each whether it is the last under its name
abbrev pub counting : Bindings → Context → List ℕ → List Bool
counting b c [] = []
counting b c (at ∷ ats) = not (list_any (is_same b c at) ats) ∷ counting b c ats

-- those of a list that count
abbrev pub kept : {A : Type 0} → List Bool → List A → List A
kept [] xs = []
kept (true ∷ bs) [] = []
kept (true ∷ bs) (x ∷ xs) = x ∷ kept bs xs
kept (false ∷ bs) [] = []
kept (false ∷ bs) (x ∷ xs) = kept bs xs

-- the same of variables
abbrev pub has_var : ℕ → List Var → Bool
has_var x xs = list_any (λ y. nat_eq y.0 x) xs

abbrev pub last_ones_of : List Var → List Bool
last_ones_of [] = []
last_ones_of (x ∷ xs) = not (has_var x.0 xs) ∷ last_ones_of xs
