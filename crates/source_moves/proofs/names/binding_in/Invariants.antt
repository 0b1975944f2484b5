use Rattle.std.proofs.Common.{◌≡◌, drop}
use Rattle.source_meaning.specs.Environments.{binding_in}
use Rattle.source_moves.proofs.names.binding_in.Given as goal

abbrev pub invariant-loop-binding : goal.invariant-loop-binding
invariant-loop-binding l = binding_in (drop l.binding-index l.bindings) l.name ≡ binding_in l.bindings l.name
