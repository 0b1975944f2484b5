use Rattle.std.proofs.Common.{◌≡◌, ◌++◌, drop}
use Rattle.module_lowering.specs.Names.{places}
use Rattle.lower_listed.proofs.names.name_places.Given as goal

abbrev pub invariant-loop-name : goal.invariant-loop-name
invariant-loop-name l = l.ats ++ places (drop l.name-index l.names) ≡ places l.names
