use Rattle.std.proofs.Common.{◌≡◌, drop}
use Rattle.es5_printable.specs.Printable.{are_units}
use Rattle.es5_printable.proofs.names.are_units.Given as goal

abbrev pub invariant-loop-unit : goal.invariant-loop-unit
invariant-loop-unit l = are_units (drop l.unit-index l.text) ≡ are_units l.text
