use Rattle.std.proofs.Common.{◌≡◌, ◌++◌, drop}
use Rattle.std.specs.List.{filter}
use Rattle.pass_rules.specs.Cells.{is_shared}
use Rattle.shared_cells.proofs.foreign.of_parts.Given as goal

abbrev pub invariant-loop-var : goal.invariant-loop-var
invariant-loop-var l = l.kept ++ filter (is_shared l.homes) (drop l.var-index l.vars) ≡ filter (is_shared l.homes) l.vars
