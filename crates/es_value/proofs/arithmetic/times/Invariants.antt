use Rattle.std.proofs.Common.{◌≡◌, true}
use Rattle.es_value.specs.Arithmetic.{is_safe, times}
use Rattle.es_value.proofs.arithmetic.times.Given as goal

abbrev pub invariant-loop : goal.invariant-loop
invariant-loop l = record { power_so_far : l.done ≡ times l.base l.counter; safe : is_safe l.done ≡ true }
