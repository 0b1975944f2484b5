-- A sink in memory, which writes over a room of fixed length from the front.
use Rattle.std.specs.Prelude.{ℕ, ◌-◌, ◌||◌, Bool, List, [], ◌++◌, length, nat_lt}
use Rattle.es_outside.specs.declared.calls.Calls.{Calls}
use Rattle.es_outside.specs.Calls.{fails_by_number, after_call, after_fault, calls_before}

-- what was written, how many bytes of the room are left, and the calls
pub record Room : Type 0 where
  pub written : List ℕ
  pub left : ℕ
  pub calls : Calls

-- a room of so many bytes before the first call, with these numbers listed
abbrev pub empty_room : ℕ → List ℕ → Room
empty_room size failing = record { written = []; left = size; calls = calls_before failing }

-- A call fails where its number is listed, and where the piece is longer than what is left.
abbrev pub fails_at : Room → List ℕ → Bool
fails_at room piece = fails_by_number room.calls || nat_lt room.left (length piece)

-- after a call that took the piece
abbrev pub after_piece : Room → List ℕ → Room
after_piece room piece = record {
  written = room.written ++ piece;
  left = room.left - length piece;
  calls = after_call room.calls;
}

-- after a call that failed
abbrev pub after_failure : Room → Room
after_failure room = record room { calls = after_fault room.calls }
