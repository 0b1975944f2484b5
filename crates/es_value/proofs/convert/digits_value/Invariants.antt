use Rattle.std.proofs.Common.{◌≡◌, true, min, take}
use Rattle.std.specs.List.{list_all}
use Rattle.es_value.specs.Convert.{is_digit, digits_value}
use Rattle.es_value.proofs.convert.digits_value.Given as goal

abbrev pub invariant-loop-unit : goal.invariant-loop-unit
invariant-loop-unit l = record { digits : list_all is_digit (take l.unit-index l.units) ≡ true; value : l.value ≡ min (digits_value (take l.unit-index l.units)) 9007199254740992 }
