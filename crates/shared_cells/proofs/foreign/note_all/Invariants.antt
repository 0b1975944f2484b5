use Rattle.std.proofs.Common.{◌≡◌, drop}
use Rattle.pass_rules.specs.Cells.{all_noted}
use Rattle.shared_cells.proofs.foreign.note_all.Given as goal

abbrev pub invariant-loop-var : goal.invariant-loop-var
invariant-loop-var l = all_noted l.homes l.number (drop l.var-index l.vars) l.names ≡ all_noted l.homes l.number l.vars l.initial.names
