-- Of the variables of a parameter's name the first counts.
use Rattle.std.proofs.Common.{◌≡◌, refl, ap, true, List, [], ◌∷◌, Some, None}
use Rattle.std.specs.Prelude.{slice_get}
use Rattle.core_ast.specs.declared.parts.Var.{Var}
use Rattle.module_lowering.specs.Functions.{plain_parameter, rest_named, with_parameter, with_rest, Parameters}

pub plain_none : (ps : Parameters) (xs : List Var) → slice_get xs 0 ≡ None → plain_parameter ps xs ≡ ps
plain_none ps [] e = refl
plain_none ps (x ∷ xs) e = absurd (cc)

pub plain_some : (ps : Parameters) (xs : List Var) (x : Var) → slice_get xs 0 ≡ Some x → plain_parameter ps xs ≡ with_parameter ps true [] (record { formal = x; default = None; bound = [] })
plain_some ps [] x e = absurd (cc)
plain_some ps (y ∷ ys) x e =
    let same : y ≡ x = cc in
    ap (λ (z : Var). with_parameter ps true [] (record { formal = z; default = None; bound = [] })) same

pub rest_none : (ps : Parameters) (xs : List Var) → slice_get xs 0 ≡ None → rest_named ps xs ≡ ps
rest_none ps [] e = refl
rest_none ps (x ∷ xs) e = absurd (cc)

pub rest_some : (ps : Parameters) (xs : List Var) (x : Var) → slice_get xs 0 ≡ Some x → rest_named ps xs ≡ with_rest ps xs (record { list = x; bound = [] })
rest_some ps [] x e = absurd (cc)
rest_some ps (y ∷ ys) x e =
    let same : y ≡ x = cc in
    ap (λ (z : Var). with_rest ps (y ∷ ys) (record { list = z; bound = [] })) same
