use Rattle.std.proofs.Common.{◌≡◌, fold, take}
use Rattle.source_meaning.specs.Functions.{with_function}
use Rattle.source_moves.specs.Seen.{state_of}
use Rattle.source_functions.proofs.declared.with_functions.Given as goal

abbrev pub invariant-loop-function : goal.invariant-loop-function
invariant-loop-function g l = state_of g.W.PendingWork.seen l.st ≡ fold with_function (state_of g.W.PendingWork.seen l.fn.st) (take l.function-index l.functions)
