use Rattle.std.proofs.Common.{◌≡◌, [], drop}
use Rattle.pass_rules.specs.yield_rules.Yields.{all_parts}
use Rattle.gen_flatten.proofs.pass.all_parts.Given as goal

abbrev pub invariant-loop-part : goal.invariant-loop-part
invariant-loop-part l = all_parts (drop l.part-index l.parts) l.made l.fresh ≡ all_parts l.parts [] l.initial.fresh
