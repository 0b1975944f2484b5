use Rattle.std.proofs.Common.{◌≡◌, drop}
use Rattle.shared_cells.specs.Cells.{with_homes}
use Rattle.shared_cells.proofs.tables.homes.Given as goal

abbrev pub invariant-loop-part : goal.invariant-loop-part
invariant-loop-part l = with_homes l.number (drop l.part-index l.parts) l.table ≡ with_homes 0 l.parts l.initial.table
