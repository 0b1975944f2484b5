-- A text as bytes in which another text stands exactly where it stands in the text itself: three bytes a unit, of which the first
-- alone is 224 or above. So a search for bytes, in time linear in both texts, is one for units.
use Rattle.std.specs.Prelude.{ℕ, ◌+◌, ◌/◌, ◌%◌, List, [], ◌∷◌}

abbrev pub first_byte : ℕ → ℕ
first_byte u = 224 + u / 4096

abbrev pub second_byte : ℕ → ℕ
second_byte u = 128 + u / 64 % 64

abbrev pub third_byte : ℕ → ℕ
third_byte u = 128 + u % 64

abbrev pub unit_bytes : ℕ → List ℕ
unit_bytes u = first_byte u ∷ second_byte u ∷ third_byte u ∷ []

abbrev pub encoded : List ℕ → List ℕ
encoded [] = []
encoded (u ∷ us) = first_byte u ∷ second_byte u ∷ third_byte u ∷ encoded us
