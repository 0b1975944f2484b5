-- What a mark says of a text.
use Rattle.std.specs.Prelude.{◌≡◌, ℕ, ◌≤◌, List, length}
use Rattle.es_text.specs.declared.lines.Mark.{Mark}
use Rattle.es_text.specs.Places.{offset_at, place_at}

-- the mark has the offset and the place of its character, or of the end
pub record IsMark (cs : List ℕ) (m : Mark) : Type 0 where
  pub inside : m.index ≤ length cs
  pub offset_is : m.offset ≡ offset_at cs m.index
  pub place_is : m.place ≡ place_at cs m.index
