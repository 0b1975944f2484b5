use Rattle.std.proofs.Common.{sym, ◌∙◌, arith}
use Rattle.source_map.proofs.Ends.{text_end-feed, text_end-other, text_end-zero}
use Rattle.source_map.proofs.line.end_of.Goals as goal

pub loop-end-preserved : goal.loop-end-preserved
loop-end-preserved c = record {
  same = text_end-feed _ _ c.loop-end-test.true c.if-script-end-eq10.true ∙ c.loop-end.invariant.same;
  within = omega arith;
}

pub returns-else-script-end-eq10-clause-exact : goal.returns-else-script-end-eq10-clause-exact
returns-else-script-end-eq10-clause-exact c = sym (text_end-other _ _ c.loop-end-test.true c.if-script-end-eq10.false) ∙ c.loop-end.invariant.same

pub returns-after-loop-end-clause-exact : goal.returns-after-loop-end-clause-exact
returns-after-loop-end-clause-exact c = sym (text_end-zero _ _ c.loop-end-test.false) ∙ c.loop-end.invariant.same
