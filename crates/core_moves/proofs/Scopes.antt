-- Names along a scope from its outermost record in, and bindings in a record.
use Rattle.std.proofs.Common.{◌≡◌, ℕ, ◌<◌, List, [], ◌∷◌, ◌++◌, length, get_or, take, drop, reverse, refl, sym, ap, ◌∙◌, subst, zero, suc, true, arith, None, Some, slice_set}
use Rattle.std.proofs.lemmas.Bool.Decides.{nat_tests}
use Rattle.std.proofs.lemmas.List.{reverse-append, set-set}
use Rattle.std.proofs.lemmas.Option.{unwrap_or-slice_get}
use Rattle.std.proofs.Math.Seq.{drop-cons, take-suc}
use Rattle.std.specs.List.{slice_get}
use Rattle.std.specs.Option.{unwrap_or}
use Rattle.core_ast.specs.declared.parts.Var.{Var}
use Rattle.core_meaning.specs.Names.{binding_in, is_of, or_outer, record_at, resolved, with_value}
use Rattle.core_meaning.specs.State.{Binding, CoreValue, EnvironmentRecord}

-- one record more from outside
pub resolved_take : {M : Type 0} (records : List (EnvironmentRecord M)) (ns : List ℕ) (k c n : ℕ) (x : Var) → k < length ns → n ≡ get_or ns k n → suc k ≡ c → resolved records (reverse (take c ns)) x ≡ or_outer n (binding_in (record_at records n) x) (resolved records (reverse (take k ns)) x)
resolved_take {M} records ns k c n x h is e =
    let P : ℕ → Type 0 = λ i. resolved records (reverse (take i ns)) x ≡ or_outer n (binding_in (record_at records n) x) (resolved records (reverse (take k ns)) x) in
    subst P e (rw (take-suc ns k n h, reverse-append, ← is) refl)

-- the record of a number
pub record_none : {M : Type 0} (records : List (EnvironmentRecord M)) (n : ℕ) → slice_get records n ≡ None → record_at records n ≡ []
record_none {M} records n e =
    let d : EnvironmentRecord M = [] in
    sym (unwrap_or-slice_get records n d) ∙ ap (λ o. unwrap_or o d) e

pub record_some : {M : Type 0} (records : List (EnvironmentRecord M)) (n : ℕ) (r : EnvironmentRecord M) → slice_get records n ≡ Some r → record_at records n ≡ r
record_some {M} records n r e =
    let d : EnvironmentRecord M = [] in
    sym (unwrap_or-slice_get records n d) ∙ ap (λ o. unwrap_or o d) e

-- an entry is set between those before and those behind it
set_split : {A : Type 0} (bs : List A) (n : ℕ) (y : A) → n < length bs → take n bs ++ (y ∷ drop (suc n) bs) ≡ slice_set bs n y
set_split [] n y h = absurd (omega arith)
set_split (b ∷ bs) zero y h = refl
set_split (b ∷ bs) (suc n) y h = ap (λ r. b ∷ r) (set_split bs n y (omega arith))

-- the first binding of a name takes the value where it stands
pub with_value_at : {M : Type 0} (bs : EnvironmentRecord M) (x : Var) (v : CoreValue M) (n : ℕ) (b : Binding M) → n < length bs → b ≡ get_or bs n b → b.var.0 ≡ x.0 → take n bs ++ with_value (drop n bs) x v ≡ slice_set bs n (record b { value = v })
with_value_at {M} bs x v n b h is same =
    let here : is_of x b ≡ true = grind (arith, nat_tests, same) in
    let first : with_value (b ∷ drop (suc n) bs) x v ≡ record b { value = v } ∷ drop (suc n) bs = rw here refl in
    rw (drop-cons bs n b h, ← is, first) (set_split bs n (record b { value = v }) h)

-- where there is no entry nothing is set
pub set_none : {A : Type 0} (xs : List A) (n : ℕ) (a b : A) → slice_get xs n ≡ None → slice_set xs n a ≡ slice_set xs n b
set_none [] n a b e = refl
set_none (x ∷ xs) zero a b e = cc
set_none (x ∷ xs) (suc n) a b e = ap (λ r. x ∷ r) (set_none xs n a b e)

-- an entry is taken out, and set again
pub set_twice : {M : Type 0} (rs : List (EnvironmentRecord M)) (n : ℕ) (r : EnvironmentRecord M) (x : Var) (v : CoreValue M) → slice_get rs n ≡ Some r → slice_set (slice_set rs n []) n (with_value r x v) ≡ slice_set rs n (with_value (record_at rs n) x v)
set_twice {M} rs n r x v e =
    let d : EnvironmentRecord M = [] in
    set-set rs n d (with_value r x v) ∙ ap (λ q. slice_set rs n (with_value q x v)) (sym (record_some rs n r e))
