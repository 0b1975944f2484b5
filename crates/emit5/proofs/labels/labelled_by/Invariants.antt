use Rattle.std.proofs.Common.{◌≡◌, drop}
use Rattle.emission_rules.specs.Emission.{labelled_by}
use Rattle.emit5.proofs.labels.labelled_by.Given as goal

abbrev pub invariant-loop-label : goal.invariant-loop-label
invariant-loop-label l = labelled_by (drop l.label-index l.labels) l.made ≡ labelled_by l.labels l.initial.made
