-- What a look-up says of a read with a default.
use Rattle.std.proofs.Common.{◌≡◌, ℕ, zero, suc, List, [], ◌∷◌, get_or, Some, None, refl, sym}
use Rattle.std.specs.Prelude.{slice_get}
use Rattle.std.proofs.lemmas.Option.{get_or_from_slice_get}

-- where nothing is, the default is read
pub default_read : {A : Type 0} (xs : List A) (k : ℕ) (d : A) → None ≡ slice_get xs k → d ≡ get_or xs k d
default_read [] k d e = refl
default_read (x ∷ xs) zero d e = absurd (cc)
default_read (x ∷ xs) (suc k) d e = default_read xs k d e

pub item_read : {A : Type 0} (xs : List A) (k : ℕ) (x d : A) → Some x ≡ slice_get xs k → x ≡ get_or xs k d
item_read xs k x d e = sym (get_or_from_slice_get xs k x d (sym e))
