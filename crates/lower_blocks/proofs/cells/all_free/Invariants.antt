use Rattle.std.proofs.Common.{◌≡◌, [], drop}
use Rattle.pass_rules.specs.Cells.{all_free}
use Rattle.lower_blocks.proofs.cells.all_free.Given as goal

abbrev pub invariant-loop-mentions : goal.invariant-loop-mentions
invariant-loop-mentions l = all_free l.owners l.before (drop l.mentions-index l.found) ≡ all_free l.owners [] l.found
