use Rattle.std.proofs.Common.{◌≡◌, drop}
use Rattle.pass_rules.specs.yield_rules.Yields.{name_behind}
use Rattle.gen_flatten.proofs.pass.name_behind.Given as goal

abbrev pub invariant-loop-var : goal.invariant-loop-var
invariant-loop-var l = name_behind (drop l.var-index l.vars) l.behind ≡ name_behind l.vars l.begin
