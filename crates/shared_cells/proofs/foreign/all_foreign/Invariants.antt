use Rattle.std.proofs.Common.{◌≡◌, ◌++◌, drop}
use Rattle.shared_cells.specs.Cells.{all_foreign}
use Rattle.shared_cells.proofs.foreign.all_foreign.Given as goal

abbrev pub invariant-loop-part : goal.invariant-loop-part
invariant-loop-part l =
    l.all ++ all_foreign l.homes l.before l.number (drop l.part-index l.parts) ≡ all_foreign l.homes l.before 0 l.parts
