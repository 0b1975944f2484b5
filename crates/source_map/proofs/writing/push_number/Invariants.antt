use Rattle.std.proofs.Common.{◌≡◌, ℕ, ◌++◌}
use Rattle.std.specs.Prelude.{string_bytes}
use Rattle.source_map.specs.Written.{digits_text}
use Rattle.source_map.proofs.Numbers.{IsShort}
use Rattle.source_map.proofs.writing.push_number.Given as goal

-- the digits of what is left come after those so far
abbrev pub invariant-loop-rest : goal.invariant-loop-rest
invariant-loop-rest l = (k : ℕ) × IsShort k l.rest × (string_bytes l.out ++ digits_text k l.rest ≡ string_bytes l.fn.out ++ digits_text 6 l.number)

abbrev pub decreases-loop-rest : goal.decreases-loop-rest
decreases-loop-rest l = l.rest
