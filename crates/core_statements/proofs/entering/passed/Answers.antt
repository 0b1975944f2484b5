use Rattle.std.proofs.Common.{◌∙◌, add-one}
use Rattle.core_statements.proofs.Parameters.{passed_step}
use Rattle.core_statements.proofs.entering.passed.Goals as goal

pub loop-at-preserved : goal.loop-at-preserved
loop-at-preserved g c = rw (c.in_ok-push_passed.ensures, c.get.ensures.value, add-one) (passed_step c.loop-at.names c.args.parameters.now c.args.args.now c.loop-at.at _ c.loop-at-test.true ∙ c.loop-at.invariant)
