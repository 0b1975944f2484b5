-- Lists of primitives.
use Rattle.std.proofs.Common.{◌≡◌, ◌<◌, ◌+◌, ℕ, zero, suc, List, [], ◌∷◌, Option, None, Some, fold, take, get_or, length, refl, sym, ap, ◌∙◌}
use Rattle.std.proofs.lemmas.List.{take_more}
use Rattle.std.proofs.lemmas.List.Sums.{fold_push}
use Rattle.es_value.specs.declared.value.Value.{Value}
use Rattle.es_outside.specs.declared.primitive.Primitive.{Primitive}
use Rattle.es_operators.specs.Primitives.{to_prim, to_prims, with_prim}

none_stays : (vs : List Value) → fold (λ ps v. with_prim ps (to_prim v)) None vs ≡ None
none_stays [] = refl
none_stays (v ∷ vs) = none_stays vs

-- once a value is an object, there are no primitives
pub prims_stop : (ps : Option (List Primitive)) (vs : List Value) (i : ℕ) → fold (λ ps v. with_prim ps (to_prim v)) ps (take i vs) ≡ None
    → fold (λ ps v. with_prim ps (to_prim v)) ps vs ≡ None
prims_stop ps vs zero h = ap (λ p. fold (λ ps v. with_prim ps (to_prim v)) p vs) h ∙ none_stays vs
prims_stop ps [] (suc i) h = h
prims_stop ps (v ∷ vs) (suc i) h = prims_stop (with_prim ps (to_prim v)) vs i h

pub prims_stopped : (vs : List Value) (i : ℕ) (v d : Value) (ps : List Primitive) → i < length vs → v ≡ get_or vs i d → to_prims (take i vs) ≡ Some ps → to_prim v ≡ None → None ≡ to_prims vs
prims_stopped vs i v d ps more at so_far none =
    sym (prims_stop (Some []) vs (i + 1) (
    ap to_prims (take_more vs i d more) ∙ fold_push (λ qs w. with_prim qs (to_prim w)) (Some []) (take i vs) (get_or vs i d)
    ∙ ap (λ qs. with_prim qs (to_prim (get_or vs i d))) so_far ∙ ap (λ w. with_prim (Some ps) (to_prim w)) (sym at) ∙ ap (with_prim (Some ps)) none))
