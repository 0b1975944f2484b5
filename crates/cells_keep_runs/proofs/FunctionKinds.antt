-- Functions behind the flattening of scopes.
use Rattle.std.proofs.Common.{◌≡◌, ℕ, zero, suc, ◌+◌, List, [], ◌∷◌, Some, length, slice_get, refl, ap, arith, ◌∙◌}
use Rattle.core_ast.specs.declared.parts.Var.{Var}
use Rattle.core_ast.specs.declared.whole.CoreFunction.{CoreFunction}
use Rattle.core_meaning.specs.Classes.{is_derived_function}
use Rattle.pass_rules.specs.Cells.{all_free, cells_at, found, holders, owners}
use Rattle.pass_rules.specs.Scopes.{function_flat, functions_flat}
use Rattle.cells_keep_runs.specs.Kept.{FunctionsAreFlattened, KindsStay}
use Rattle.cells_keep_runs.specs.Started.{owners_of}
use Rattle.cells_keep_runs.proofs.Writes.{one_value}

kept_at : (table holds : List ℕ) (all : List (List Var)) (place : ℕ) (fs : List CoreFunction) (n : ℕ)
    → is_derived_function (slice_get (functions_flat table holds all place fs) n) ≡ is_derived_function (slice_get fs n)
kept_at table holds all place [] n = refl
kept_at table holds all place (f ∷ fs) zero = refl
kept_at table holds all place (f ∷ fs) (suc n) = kept_at table holds all (place + 1) fs n

flat_at : (table holds : List ℕ) (all : List (List Var)) (place : ℕ) (fs : List CoreFunction) (n : ℕ) (f : CoreFunction) → slice_get fs n ≡ Some f
    → slice_get (functions_flat table holds all place fs) n ≡ Some (function_flat table (cells_at table holds all (place + n)) f)
flat_at table holds all place [] n f is = cc
flat_at table holds all place (g ∷ fs) zero f is =
    let here : place ≡ place + 0 = omega arith in
    ap (λ p. Some (function_flat table (cells_at table holds all p) g)) here ∙ ap (λ h. Some (function_flat table (cells_at table holds all (place + 0)) h)) (one_value (Some g) g f refl is)
flat_at table holds all place (g ∷ fs) (suc n) f is =
    let next : (place + 1) + n ≡ place + suc n = omega arith in
    flat_at table holds all (place + 1) fs n f is ∙ ap (λ p. Some (function_flat table (cells_at table holds all p) f)) next

pub functions_flattened : FunctionsAreFlattened
functions_flattened core f function is =
    let table = owners_of core in
    let holds = holders (length core.functions) (found core) in
    let all = all_free table [] (found core) in
    let here : 0 + f.0 ≡ f.0 = omega arith in
    flat_at table holds all 0 core.functions f.0 function is ∙ ap (λ p. Some (function_flat table (cells_at table holds all p) function)) here

pub kinds_stay : KindsStay
kinds_stay core f =
    let table = owners (length core.fresh.hints) (found core) in
    kept_at table (holders (length core.functions) (found core)) (all_free table [] (found core)) 0 core.functions f.0
