use Rattle.std.proofs.Common.{◌≡◌, drop}
use Rattle.module_lowering.specs.Bindings.{stand_in}
use Rattle.lower_walk.proofs.lower_names.references.stand_in.Given as goal

abbrev pub invariant-loop-one : goal.invariant-loop-one
invariant-loop-one l = stand_in l.var (drop l.one-index l.dead) ≡ stand_in l.var l.dead
