use Rattle.std.proofs.Common.{sym, ◌∙◌, arith}
use Rattle.source_map.proofs.Ends.{line_begin-feed, line_begin-other, line_begin-zero}
use Rattle.source_map.proofs.line.begin_of.Goals as goal

pub loop-begin-preserved : goal.loop-begin-preserved
loop-begin-preserved c = record {
  same = line_begin-other _ _ c.loop-begin-test.true c.if-script-begin-ne10.true ∙ c.loop-begin.invariant.same;
  within = omega arith;
}

pub returns-else-script-begin-ne10-clause-exact : goal.returns-else-script-begin-ne10-clause-exact
returns-else-script-begin-ne10-clause-exact c = sym (line_begin-feed _ _ c.loop-begin-test.true c.if-script-begin-ne10.false) ∙ c.loop-begin.invariant.same

pub returns-after-loop-begin-clause-exact : goal.returns-after-loop-begin-clause-exact
returns-after-loop-begin-clause-exact c = sym (line_begin-zero _ _ c.loop-begin-test.false) ∙ c.loop-begin.invariant.same
