use Rattle.std.proofs.Common.{◌≡◌, ◌++◌, drop}
use Rattle.es5_printer.specs.Layout.{units_text}
use Rattle.es5_printer.proofs.sheet.push_units.Given as goal

abbrev pub invariant-loop-unit : goal.invariant-loop-unit
invariant-loop-unit l = l.bytes.items ++ units_text (drop l.unit-index l.units) ≡ l.initial.bytes.items ++ units_text l.units
