use Rattle.std.proofs.Common.{◌≡◌, drop}
use Rattle.pass_rules.specs.Cells.{with_owners}
use Rattle.lower_blocks.proofs.cells.put_owners.Given as goal

abbrev pub invariant-loop-name : goal.invariant-loop-name
invariant-loop-name l = with_owners l.number (drop l.name-index l.names) l.table ≡ with_owners l.number l.names l.initial.table
