use Rattle.std.proofs.Common.{◌≡◌, ◌++◌, drop}
use Rattle.gen_flatten.proofs.pass.push_slots.Given as goal

abbrev pub invariant-loop-slot : goal.invariant-loop-slot
invariant-loop-slot l = l.locals ++ drop l.slot-index l.slots ≡ l.initial.locals ++ l.slots
