-- Lengths that an array can have.
use Rattle.std.specs.Prelude.{if◌then◌else◌, nat_lt, ℕ, ◌+◌}

-- one more, up to the first that none has
abbrev pub next_length : ℕ → ℕ
next_length n = if nat_lt n 4294967296 then n + 1 else 4294967296
