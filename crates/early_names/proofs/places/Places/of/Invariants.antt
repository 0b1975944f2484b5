use Rattle.std.proofs.Common.{take}
use Rattle.early_names.specs.Indexes.{Indexes}
use Rattle.early_names.proofs.places.Places.of.Given as goal

abbrev pub invariant-loop-name : goal.invariant-loop-name
invariant-loop-name l = Indexes l.places (take l.name-index l.names)
