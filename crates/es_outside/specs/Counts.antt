-- Counts of faults, of which a layer above learns only that they rose.
use Rattle.std.specs.Prelude.{ℕ, ◌+◌, ◌<◌, ◌≢◌, min}

-- where a count stays once it is there: the last value of 64 bits
abbrev pub last_count : ℕ
last_count = 18446744073709551615

-- a count rose: it grew, or stands at its last value
abbrev pub CountRose : ℕ → ℕ → Type 0
CountRose old new = new ≢ last_count → old < new

-- a count after one more fault
abbrev pub counted : ℕ → ℕ
counted faults = min (faults + 1) last_count
