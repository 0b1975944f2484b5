use Rattle.std.proofs.Common.{◌≡◌, ◌++◌, drop}
use Rattle.pass_rules.specs.Cells.{cells}
use Rattle.lower_blocks.proofs.cells.cells.Given as goal

abbrev pub invariant-loop-name : goal.invariant-loop-name
invariant-loop-name l = l.kept ++ cells l.owners l.holder (drop l.name-index l.names) ≡ cells l.owners l.holder l.names
