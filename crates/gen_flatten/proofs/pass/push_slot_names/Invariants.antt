use Rattle.std.proofs.Common.{◌≡◌, ◌++◌, drop, map}
use Rattle.pass_rules.specs.yield_rules.Yields.{slot_name}
use Rattle.gen_flatten.proofs.pass.push_slot_names.Given as goal

abbrev pub invariant-loop-slot : goal.invariant-loop-slot
invariant-loop-slot l = l.names ++ map slot_name (drop l.slot-index l.slots) ≡ l.initial.names ++ map slot_name l.slots
