use Rattle.std.proofs.Common.{◌≡◌, take}
use Rattle.source_moves.proofs.records.share_bindings.Given as goal

abbrev pub invariant-loop-binding : goal.invariant-loop-binding
invariant-loop-binding l = l.list ≡ take l.binding-index l.bindings
