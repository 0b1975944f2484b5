use Rattle.std.proofs.Common.{◌≡◌, drop, false}
use Rattle.script_lowering.specs.Expressions.{last_refers}
use Rattle.script_lowering.proofs.makers.refers_last.Given as goal

abbrev pub invariant-loop-link : goal.invariant-loop-link
invariant-loop-link l = last_refers l.refers_now (drop l.link-index l.links) ≡ last_refers false l.links
