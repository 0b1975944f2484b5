use Rattle.std.proofs.Common.{◌≡◌, drop}
use Rattle.emission_rules.specs.Functions.{instantiations}
use Rattle.emit5.proofs.modules.instantiations.Given as goal

abbrev pub invariant-loop-part : goal.invariant-loop-part
invariant-loop-part l = instantiations (drop l.part-index l.parts) l.out l.scene ≡ instantiations l.parts l.initial.out l.initial.scene
