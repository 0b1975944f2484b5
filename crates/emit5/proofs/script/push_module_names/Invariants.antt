use Rattle.std.proofs.Common.{◌≡◌, ◌++◌, drop}
use Rattle.emission_rules.specs.Functions.{module_names}
use Rattle.emit5.proofs.script.push_module_names.Given as goal

abbrev pub invariant-loop-part : goal.invariant-loop-part
invariant-loop-part l = l.out ++ module_names l.scene (drop l.part-index l.parts) ≡ l.initial.out ++ module_names l.scene l.parts
