use Rattle.std.proofs.Common.{◌≡◌, drop}
use Rattle.pass_rules.specs.Cells.{all_holders}
use Rattle.lower_blocks.proofs.cells.holders.Given as goal

abbrev pub invariant-loop-mentions : goal.invariant-loop-mentions
invariant-loop-mentions l = all_holders l.number (drop l.mentions-index l.found) l.table ≡ all_holders 0 l.found l.initial.table
