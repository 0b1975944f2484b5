use Rattle.std.proofs.Common.{◌≡◌}
use Rattle.pass_rules.specs.yield_rules.Yields.{drawn}
use Rattle.gen_flatten.proofs.pass.draw.Given as goal

abbrev pub invariant-loop-i : goal.invariant-loop-i
invariant-loop-i l = record { names = l.names; fresh = l.fresh } ≡ drawn l.i l.initial.fresh
