-- A sink in memory that never fails, and tells its bytes while they fit into its room.
use Rattle.std.specs.Prelude.{ℕ, ◌-◌, List, [], ◌++◌, length, nat_lt, if◌then◌else◌, Option, Some, None, option_map}

-- the bytes that are told, and how many bytes of the room are left
pub record SureRoom : Type 0 where
  pub told : Option (List ℕ)
  pub left : ℕ

-- a room of so many bytes before the first call
abbrev pub empty : ℕ → SureRoom
empty size = record { told = Some []; left = size }

-- once a piece didn't fit
abbrev pub silent : SureRoom
silent = record { told = None; left = 0 }

-- after a call, which takes the piece
abbrev pub after_write : SureRoom → List ℕ → SureRoom
after_write room piece = if nat_lt room.left (length piece) then silent else record {
  told = option_map (λ bytes. bytes ++ piece) room.told;
  left = room.left - length piece;
}
