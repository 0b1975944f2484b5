use Rattle.std.proofs.Common.{◌≡◌, ◌++◌, drop, map}
use Rattle.script_lowering.specs.Scripts.{made_at_start}
use Rattle.script_lowering.proofs.script.instantiated.Given as goal

abbrev pub invariant-loop-one : goal.invariant-loop-one
invariant-loop-one l = l.made ++ map made_at_start (drop l.one-index l.declared) ≡ map made_at_start l.declared
