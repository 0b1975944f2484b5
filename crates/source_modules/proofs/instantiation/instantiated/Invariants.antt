use Rattle.std.proofs.Common.{◌≡◌, drop}
use Rattle.source_meaning.specs.Modules.{instantiated}
use Rattle.source_moves.specs.Seen.{state_of}
use Rattle.source_modules.proofs.instantiation.instantiated.Given as goal

abbrev pub invariant-loop-at : goal.invariant-loop-at
invariant-loop-at g l =
    instantiated l.graph l.at (drop l.at l.graph.modules) (state_of g.W.PendingWork.seen l.st)
    ≡ instantiated l.graph 0 l.graph.modules (state_of g.W.PendingWork.seen l.initial.st)
