use Rattle.std.proofs.Common.{◌≡◌, drop}
use Rattle.pass_rules.specs.Cells.{with_holder}
use Rattle.lower_blocks.proofs.cells.put_holders.Given as goal

abbrev pub invariant-loop-function : goal.invariant-loop-function
invariant-loop-function l = with_holder l.number (drop l.function-index l.functions) l.table ≡ with_holder l.number l.functions l.initial.table
