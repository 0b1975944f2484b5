-- The calls that an object in memory counts, of which the listed ones fail.
use Rattle.std.specs.Prelude.{ℕ, ◌+◌, ◌==◌, ◌&&◌, Bool, List, min, nat_lt}
use Rattle.std.specs.List.{list_any}
use Rattle.es_outside.specs.declared.calls.Calls.{Calls}
use Rattle.es_outside.specs.Counts.{counted}

-- where the number of a call stays once it is there: the last value of 32 bits
abbrev pub last_number : ℕ
last_number = 4294967295

-- The next call fails by its number: it is listed, and numbers haven't come to their end.
abbrev pub fails_by_number : Calls → Bool
fails_by_number calls = nat_lt calls.next last_number && list_any (λ n. n == calls.next) calls.failing

-- before the first call, with these numbers listed
abbrev pub calls_before : List ℕ → Calls
calls_before failing = record { failing = failing; next = 0; faults = 0 }

-- after one more call
abbrev pub after_call : Calls → Calls
after_call calls = record calls { next = min (calls.next + 1) last_number }

-- after one more call, which failed
abbrev pub after_fault : Calls → Calls
after_fault calls = record (after_call calls) { faults = counted calls.faults }
