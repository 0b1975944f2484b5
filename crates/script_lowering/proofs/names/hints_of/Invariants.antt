use Rattle.std.proofs.Common.{◌≡◌, ◌++◌, Some, drop, map}
use Rattle.script_lowering.proofs.names.hints_of.Given as goal

abbrev pub invariant-loop-name : goal.invariant-loop-name
invariant-loop-name l =
    l.hints ++ map (λ n. Some n) (map (λ k. k.now) (drop l.name-index l.names)) ≡ map (λ n. Some n) (map (λ k. k.now) l.names)
