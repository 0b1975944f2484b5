use Rattle.std.proofs.Common.{◌≡◌, ◌++◌, drop, map}
use Rattle.module_lowering.specs.Lowered.{part_lowered}
use Rattle.module_lowering.specs.Statements.{parts_names}
use Rattle.lower_listed.proofs.patterns.push_parts.Given as goal

abbrev pub invariant-loop-part : goal.invariant-loop-part
invariant-loop-part l = l.out ++ parts_names (map part_lowered (drop l.part-index l.parts)) ≡ l.initial.out ++ parts_names (map part_lowered l.parts)
