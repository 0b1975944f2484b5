use Rattle.std.proofs.Common.{◌≡◌, drop, map}
use Rattle.script_lowering.specs.Reading.{named, reads_onto}
use Rattle.script_lowering.proofs.functions.parameters.Given as goal

abbrev pub invariant-loop-one : goal.invariant-loop-one
invariant-loop-one l =
    reads_onto l.made (map named (map (λ p. p.name) (drop l.one-index l.source))) l.reading
    ≡ reads_onto l.initial.made (map named (map (λ p. p.name) l.source)) l.initial.reading
