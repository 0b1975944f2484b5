use Rattle.std.proofs.Common.{◌≡◌, Option, Some, None, sym, ap, ◌∙◌}
use Rattle.module_places.proofs.place_of.Goals as goal

some-same : {A : Type 0} {x y : A} → Some x ≡ Some y → x ≡ y
some-same {x = x} e = ap (λ o. or x o) e
  where
    or : {A : Type 0} → A → Option A → A
    or d None = d
    or d (Some z) = z

pub returns-in-None : goal.returns-in-None
returns-in-None c = λ place is. absurd (cc (c.in-None.is, (c.place.ensures.place place).1 is))

pub returns-in-Some : goal.returns-in-Some
returns-in-Some c = λ place is. some-same (sym c.in-Some.is ∙ (c.place.ensures.place place).1 is)
