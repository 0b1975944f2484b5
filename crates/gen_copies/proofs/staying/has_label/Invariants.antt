use Rattle.std.proofs.Common.{◌≡◌, drop}
use Rattle.core_ast.specs.Lawful.{has_label}
use Rattle.gen_copies.proofs.staying.has_label.Given as goal

abbrev pub invariant-loop-one : goal.invariant-loop-one
invariant-loop-one l = has_label l.label l.inside ≡ has_label l.label (drop l.one-index l.inside)
