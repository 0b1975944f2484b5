use Rattle.std.proofs.Common.{◌≡◌, drop}
use Rattle.emission_rules.specs.Functions.{functions_emitted}
use Rattle.emit5.proofs.functions.all_functions.Given as goal

abbrev pub invariant-loop-function : goal.invariant-loop-function
invariant-loop-function l = functions_emitted (drop l.function-index l.source) l.scene ≡ functions_emitted l.source l.initial.scene
