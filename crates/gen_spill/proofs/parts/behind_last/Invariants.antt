use Rattle.std.proofs.Common.{◌≡◌, drop}
use Rattle.pass_rules.specs.yield_rules.Yields.{behind_last}
use Rattle.gen_spill.proofs.parts.behind_last.Given as goal

abbrev pub invariant-loop-part : goal.invariant-loop-part
invariant-loop-part l = behind_last l.i l.last (drop l.part-index l.parts) ≡ behind_last 0 0 l.parts
