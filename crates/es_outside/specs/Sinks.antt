-- What a sink tells of the bytes that were written to it.
use Rattle.std.specs.Prelude.{◌≡◌, ℕ, ◌<◌, List, ◌++◌, take, length, Option, Some, None}

-- A sink that tells its bytes now told them before, and this piece was added to them.
abbrev pub Adds : List ℕ → Option (List ℕ) → Option (List ℕ) → Type 0
Adds piece old None = Unit {0}
Adds piece None (Some bytes) = ⊥
Adds piece (Some front) (Some bytes) = bytes ≡ front ++ piece

-- a front of these bytes was added, and not all of them
abbrev pub AddsFront : List ℕ → Option (List ℕ) → Option (List ℕ) → Type 0
AddsFront bytes old new = (count : ℕ) × (count < length bytes) × Adds (take count bytes) old new
