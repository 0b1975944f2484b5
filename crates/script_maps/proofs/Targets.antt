-- Where a map has no target.
use Rattle.std.proofs.Common.{◌≡◌, ℕ, Bool, true, false, List, sym, subst, true≢false}
use Rattle.es_text.specs.declared.Place.{Place}
use Rattle.es_text.specs.Places.{IsPlace}
use Rattle.es_text.proofs.Walk.{one_place}
use Rattle.script_maps.specs.Mapped.{IsSmall}

-- an offset has one place, so where its numbers are too large, there is no other
pub none_small : (text : List ℕ) (number at : ℕ) (p : Place) (small : Bool) → IsPlace text at p → (IsSmall number p → small ≡ true) → small ≡ false
    → (q : Place) → IsPlace text at q → IsSmall number q → ⊥
none_small text number at p true there tells large q also h = absurd (true≢false large)
none_small text number at p false there tells large q also h = absurd (true≢false (sym (tells (subst (IsSmall number) (one_place text at q p also there) h))))
