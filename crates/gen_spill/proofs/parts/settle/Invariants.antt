use Rattle.std.proofs.Common.{◌≡◌, length}
use Rattle.pass_rules.specs.yield_rules.Yields.{settle}
use Rattle.gen_spill.proofs.parts.settle.Given as goal

abbrev pub invariant-loop-part : goal.invariant-loop-part
invariant-loop-part l = settle l.at l.i l.last l.left.items l.made ≡ settle l.fn.place 0 l.fn.last l.fn.parts.items l.fn.begin

abbrev pub decreases-loop-part : goal.decreases-loop-part
decreases-loop-part l = length l.left.items
