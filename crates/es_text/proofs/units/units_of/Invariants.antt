use Rattle.std.proofs.Common.{◌≡◌, take}
use Rattle.es_text.specs.Units.{units}
use Rattle.es_text.proofs.units.units_of.Given as goal

abbrev pub invariant-loop-c : goal.invariant-loop-c
invariant-loop-c l = l.units.items ≡ units (take l.c-index l.c-items)
