-- A sink in memory of which a call takes a few bytes at most.
use Rattle.std.specs.Prelude.{ℕ}
use Rattle.es_outside.specs.Rooms.{Room}

-- the most bytes that a call takes, and the room
pub record SlowRoom : Type 0 where
  pub step : ℕ
  pub room : Room
