use Rattle.std.proofs.Common.{◌≡◌, drop}
use Rattle.pass_rules.specs.Cells.{is_among}
use Rattle.shared_cells.proofs.foreign.is_among.Given as goal

abbrev pub invariant-loop-name : goal.invariant-loop-name
invariant-loop-name l = is_among l.var (drop l.name-index l.names) ≡ is_among l.var l.names
