use Rattle.std.proofs.Common.{◌≡◌, drop}
use Rattle.pass_rules.specs.Cells.{all_owners}
use Rattle.lower_blocks.proofs.cells.owners.Given as goal

abbrev pub invariant-loop-mentions : goal.invariant-loop-mentions
invariant-loop-mentions l = all_owners l.number (drop l.mentions-index l.found) l.table ≡ all_owners 0 l.found l.initial.table
