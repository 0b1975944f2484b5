use Rattle.std.proofs.Common.{◌≡◌, ◌++◌, drop, map}
use Rattle.script_lowering.specs.Scripts.{script_name}
use Rattle.script_lowering.proofs.script.names.Given as goal

abbrev pub invariant-loop-one : goal.invariant-loop-one
invariant-loop-one l = l.made ++ map (λ d. script_name d.var) (drop l.one-index l.declared) ≡ map (λ d. script_name d.var) l.declared

abbrev pub invariant-loop-var : goal.invariant-loop-var
invariant-loop-var l = l.made ++ map script_name (drop l.var-index l.vars) ≡ l.initial.made ++ map script_name l.vars
