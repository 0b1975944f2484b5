-- The record of a number, and records that are taken out and put back.
use Rattle.std.proofs.Common.{◌≡◌, ℕ, List, [], ◌∷◌, refl, sym, ap, ◌∙◌, zero, suc, None, Some, slice_set}
use Rattle.std.proofs.lemmas.List.{set-set}
use Rattle.std.proofs.lemmas.Option.{unwrap_or-slice_get}
use Rattle.std.specs.List.{slice_get}
use Rattle.std.specs.Option.{unwrap_or}
use Rattle.es_value.specs.declared.value.Value.{Value}
use Rattle.source_meaning.specs.Environments.{held_at, record_at, record_of}
use Rattle.source_meaning.specs.State.{EnvironmentRecord}

pub record_none : (records : List EnvironmentRecord) (n : ℕ) → slice_get records n ≡ None → record_at records n ≡ record_of []
record_none records n e = sym (unwrap_or-slice_get records n (record_of [])) ∙ ap (λ o. unwrap_or o (record_of [])) e

pub record_some : (records : List EnvironmentRecord) (n : ℕ) (r : EnvironmentRecord) → slice_get records n ≡ Some r → record_at records n ≡ r
record_some records n r e = sym (unwrap_or-slice_get records n (record_of [])) ∙ ap (λ o. unwrap_or o (record_of [])) e

-- where there is no entry nothing is set
pub set_none : {A : Type 0} (xs : List A) (n : ℕ) (a b : A) → slice_get xs n ≡ None → slice_set xs n a ≡ slice_set xs n b
set_none [] n a b e = refl
set_none (x ∷ xs) zero a b e = cc
set_none (x ∷ xs) (suc n) a b e = ap (λ r. x ∷ r) (set_none xs n a b e)

-- a record is taken out, and put back with the name, or with its `this`
pub held_twice : (rs : List EnvironmentRecord) (n : ℕ) (r z : EnvironmentRecord) (x : List ℕ) (v : Value) → slice_get rs n ≡ Some r → slice_set (slice_set rs n z) n (held_at r x v) ≡ slice_set rs n (held_at (record_at rs n) x v)
held_twice rs n r z x v e =
    set-set rs n z (held_at r x v) ∙ ap (λ q. slice_set rs n (held_at q x v)) (sym (record_some rs n r e))

pub this_twice : (rs : List EnvironmentRecord) (n : ℕ) (r z : EnvironmentRecord) (v : Value) → slice_get rs n ≡ Some r → slice_set (slice_set rs n z) n (record r { this = Some v }) ≡ slice_set rs n (record (record_at rs n) { this = Some v })
this_twice rs n r z v e =
    set-set rs n z (record r { this = Some v }) ∙ ap (λ q. slice_set rs n (record q { this = Some v })) (sym (record_some rs n r e))
