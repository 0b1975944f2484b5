use Rattle.std.proofs.Common.{◌≡◌, drop, fold}
use Rattle.es6_static_semantics.specs.Findings.{joined}
use Rattle.source_meaning.specs.Modules.{item_functions, with_item_function}
use Rattle.source_moves.specs.Seen.{state_of}
use Rattle.source_modules.proofs.instantiation.with_item_functions.Given as goal

abbrev pub invariant-loop-item : goal.invariant-loop-item
invariant-loop-item g l =
    fold with_item_function (state_of g.W.PendingWork.seen l.st) (joined item_functions (drop l.item-index l.items))
    ≡ fold with_item_function (state_of g.W.PendingWork.seen l.initial.st) (joined item_functions l.items)
