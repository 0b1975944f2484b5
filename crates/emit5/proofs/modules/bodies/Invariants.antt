use Rattle.std.proofs.Common.{◌≡◌, drop}
use Rattle.emission_rules.specs.Functions.{bodies}
use Rattle.emit5.proofs.modules.bodies.Given as goal

abbrev pub invariant-loop-number : goal.invariant-loop-number
invariant-loop-number l = bodies l.parts (drop l.number-index l.order) l.out l.scene ≡ bodies l.parts l.order l.initial.out l.initial.scene
