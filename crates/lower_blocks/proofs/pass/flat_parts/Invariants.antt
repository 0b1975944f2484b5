use Rattle.std.proofs.Common.{◌≡◌, ◌++◌, drop, map}
use Rattle.pass_rules.specs.Scopes.{part_flat}
use Rattle.lower_blocks.proofs.pass.flat_parts.Given as goal

abbrev pub invariant-loop-part : goal.invariant-loop-part
invariant-loop-part l = l.made ++ map (part_flat l.owners) (drop l.part-index l.parts) ≡ map (part_flat l.owners) l.parts
