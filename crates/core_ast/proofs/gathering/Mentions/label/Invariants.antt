use Rattle.std.proofs.Common.{◌≡◌, drop}
use Rattle.core_ast.specs.Mentions.{labelled}
use Rattle.core_ast.proofs.gathering.Mentions.label.Given as goal

abbrev pub invariant-loop-label : goal.invariant-loop-label
invariant-loop-label l = labelled (drop l.label-index l.labels) l.self ≡ labelled l.labels l.initial.self
