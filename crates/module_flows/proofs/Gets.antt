-- What a look-up that finds nothing, and a stack that is empty, say.
use Rattle.std.proofs.Common.{◌≡◌, ℕ, zero, suc, List, [], ◌∷◌, ◌++◌, get_or, Option, Some, None, refl}
use Rattle.std.specs.Prelude.{slice_get, MatchOption}

-- where nothing is, the default is read
pub default_read : {A : Type 0} (xs : List A) (k : ℕ) (d : A) → None ≡ slice_get xs k → d ≡ get_or xs k d
default_read [] k d e = refl
default_read (x ∷ xs) zero d e = absurd (cc)
default_read (x ∷ xs) (suc k) d e = default_read xs k d e

-- a stack that gives nothing is empty
pub empty-stack : (r : Option ℕ) (old new : List ℕ) → MatchOption r ((old ≡ []) × (new ≡ [])) (λ last. old ≡ new ++ last ∷ []) → ((x : ℕ) → r ≡ Some x → ⊥) → old ≡ []
empty-stack None old new h none = h.0
empty-stack (Some x) old new h none = absurd (none x refl)
