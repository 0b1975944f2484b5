-- What holds of refinements, put together along their parts.
use Rattle.std.proofs.Common.{◌≡◌, ℕ, Bool, true, false, List, ◌∷◌, refl}
use Rattle.es6_reading.specs.Refine.{Refined, refined_map, refined_cons, refined_then, fits_if}
use Rattle.es6_reading.specs.Refinements.{IfFits, fits, misfits, too_nested}

pub map-fits : {A B : Type 0} {P : A → Type 0} {Q : B → Type 0} {r : Refined A} (k : A → B) → IfFits P r → ((x : A) → P x → Q (k x)) → IfFits Q (refined_map k r)
map-fits k (fits h) f = fits (f _ h)
map-fits k misfits f = misfits
map-fits k too_nested f = too_nested

pub weaken-fits : {A : Type 0} {P Q : A → Type 0} {r : Refined A} → IfFits P r → ((x : A) → P x → Q x) → IfFits Q r
weaken-fits (fits h) f = fits (f _ h)
weaken-fits misfits f = misfits
weaken-fits too_nested f = too_nested

pub cons-fits : {A : Type 0} {P : A → Type 0} {Q R : List A → Type 0} {r : Refined A} {rs : Refined (List A)} → IfFits P r → IfFits Q rs → ((x : A) (xs : List A) → P x → Q xs → R (x ∷ xs)) → IfFits R (refined_cons r rs)
cons-fits (fits h) (fits hs) f = fits (f _ _ h hs)
cons-fits (fits h) misfits f = misfits
cons-fits (fits h) too_nested f = too_nested
cons-fits misfits hs f = misfits
cons-fits too_nested hs f = too_nested

pub then-fits : {A B : Type 0} {P : A → Type 0} {Q R : B → Type 0} {r : Refined A} {s : Refined B} → IfFits P r → IfFits Q s → ((x : A) (y : B) → P x → Q y → R y) → IfFits R (refined_then r s)
then-fits (fits h) (fits k) f = fits (f _ _ h k)
then-fits (fits h) misfits f = misfits
then-fits (fits h) too_nested f = too_nested
then-fits misfits k f = misfits
then-fits too_nested k f = too_nested

pub if-fits : {Q : Unit {0} → Type 0} (b : Bool) (at : ℕ) → (b ≡ true → Q tt) → IfFits Q (fits_if b at)
if-fits true at h = fits (h refl)
if-fits false at h = misfits
