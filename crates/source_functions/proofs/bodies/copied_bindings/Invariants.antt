use Rattle.std.proofs.Common.{◌≡◌, map, take}
use Rattle.source_meaning.specs.Functions.{copied_binding}
use Rattle.source_moves.specs.Seen.{state_of}
use Rattle.source_functions.proofs.bodies.copied_bindings.Given as goal

abbrev pub invariant-loop-name : goal.invariant-loop-name
invariant-loop-name g l = l.bindings ≡ map (copied_binding (state_of g.W.PendingWork.seen l.st) l.functions) (take l.name-index l.names)
