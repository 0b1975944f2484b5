-- Which generator runs above the context of pending work (ECMA-262, 6th edition, 25.3.3.5).
use Rattle.std.specs.Prelude.{None, Option, Some, ℕ}
use Rattle.source_takers.specs.declared.takers.CallerTaker.TheVariants.{Generates}
use Rattle.source_takers.specs.declared.takers.Taker.{Taker}
use Rattle.source_takers.specs.declared.takers.Taker.TheVariants.{Caller}

abbrev pub number_in : Taker → Option ℕ
number_in (Caller (Generates n)) = Some n
number_in t = None
