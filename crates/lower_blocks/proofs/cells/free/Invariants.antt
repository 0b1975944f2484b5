use Rattle.std.proofs.Common.{◌≡◌, drop}
use Rattle.pass_rules.specs.Cells.{all_held}
use Rattle.lower_blocks.proofs.cells.free.Given as goal

abbrev pub invariant-loop-function : goal.invariant-loop-function
invariant-loop-function l = all_held l.owners l.number l.before (drop l.function-index l.mentions.functions) l.names ≡ all_held l.owners l.number l.before l.mentions.functions l.initial.names
