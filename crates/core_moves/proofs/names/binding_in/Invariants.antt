use Rattle.std.proofs.Common.{◌≡◌, drop}
use Rattle.core_meaning.specs.Names.{binding_in}
use Rattle.core_moves.proofs.names.binding_in.Given as goal

abbrev pub invariant-loop-binding : goal.invariant-loop-binding
invariant-loop-binding g l = binding_in (drop l.binding-index l.bindings) l.var ≡ binding_in l.bindings l.var
