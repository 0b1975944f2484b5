use Rattle.std.proofs.Common.{◌≡◌, ◌++◌, drop}
use Rattle.graph_refusals.specs.Quoted.{quoted_units}
use Rattle.graph_refusals.proofs.quoted.push_units.Given as goal

abbrev pub invariant-loop-unit : goal.invariant-loop-unit
invariant-loop-unit l = l.line.items ++ quoted_units (drop l.unit-index l.units) ≡ l.initial.line.items ++ quoted_units l.units
