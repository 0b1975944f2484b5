use Rattle.std.proofs.Common.{◌≡◌, ◌++◌, drop}
use Rattle.helpers.specs.Table.{row_names}
use Rattle.helpers.proofs.wanted.push_all.Given as goal

abbrev pub invariant-loop-name : goal.invariant-loop-name
invariant-loop-name l = l.names ++ row_names (drop l.name-index l.row) ≡ l.initial.names ++ row_names l.row
