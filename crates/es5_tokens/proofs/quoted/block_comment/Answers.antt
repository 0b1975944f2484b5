-- Each branch is one step of the reading.
use Rattle.std.proofs.Common.{◌∙◌, sym, arith, length, ◌+◌, ◌≤◌, ap}
use Rattle.std.specs.Prelude.{◌&&◌, ◌||◌, eqb, drop}
use Rattle.es5_tokens.specs.Quoted.{block_from}
use Rattle.es5_tokens.proofs.Steps.{block_close, block_more, block_end}
use Rattle.es5_tokens.proofs.quoted.block_comment.Goals as goal

pub returns-then-c-peek : goal.returns-then-c-peek
returns-then-c-peek c =
    let closes = ap (λ y. eqb c.index-rest-at.result 42 && eqb y 47) (sym c.peek.ensures) ∙ c.if-c-peek.true in
    sym (block_close c.loop-at.at c.loop-at.line c.args.rest.now c.index-rest-at.result c.loop-at-test.true c.index-rest-at.is closes) ∙ c.loop-at.invariant.same

pub loop-at-preserved : goal.loop-at-preserved
loop-at-preserved c =
    let plain = ap (λ y. eqb c.index-rest-at.result 42 && eqb y 47) (sym c.peek.ensures) ∙ c.if-c-peek.false in
    record {
      same = ap (λ t. block_from (c.loop-at.at + 1) (c.loop-at.line || t) (drop (c.loop-at.at + 1) c.args.rest.now)) c.is_line_terminator-line.ensures
          ∙ sym (block_more c.loop-at.at c.loop-at.line c.args.rest.now c.index-rest-at.result c.loop-at-test.true c.index-rest-at.is plain) ∙ c.loop-at.invariant.same;
      inside = omega arith;
    }

pub returns : goal.returns
returns c = c.fault.ensures ∙ sym (block_end c.loop-at.at c.loop-at.line c.args.rest.now (let h : length c.args.rest.now ≤ c.loop-at.at = omega arith in h)) ∙ c.loop-at.invariant.same
