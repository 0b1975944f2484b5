use Rattle.std.proofs.Common.{◌≡◌, [], drop}
use Rattle.shared_cells.specs.Cells.{all_inside}
use Rattle.shared_cells.proofs.foreign.all_inside.Given as goal

abbrev pub invariant-loop-function : goal.invariant-loop-function
invariant-loop-function l = all_inside l.homes l.before (drop l.function-index l.functions) ≡ all_inside l.homes [] l.functions
