-- What the nodes of a list do one after the other.
use Rattle.std.specs.Prelude.{List, [], ◌∷◌, Option, None, Some}

abbrev pub along : {A : Type 0} → List (A → A) → A → A
along [] x = x
along (f ∷ fs) x = along fs (f x)

abbrev pub perhaps : {A : Type 0} → Option (A → A) → A → A
perhaps None x = x
perhaps (Some f) x = f x
