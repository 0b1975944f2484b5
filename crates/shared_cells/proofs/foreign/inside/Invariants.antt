use Rattle.std.proofs.Common.{◌≡◌, drop}
use Rattle.shared_cells.specs.Cells.{held}
use Rattle.shared_cells.proofs.foreign.inside.Given as goal

abbrev pub invariant-loop-function : goal.invariant-loop-function
invariant-loop-function l =
    held l.before (drop l.function-index l.mentions.functions) l.names ≡ held l.before l.mentions.functions l.initial.names
