-- Each branch is one step of the reading.
use Rattle.std.proofs.Common.{◌≡◌, ◌∙◌, sym, arith, drop, length, ◌+◌, ◌≤◌, ap, length-drop}
use Rattle.std.proofs.lemmas.List.{take_rest}
use Rattle.es6_lexer.specs.Quoted.{escape}
use Rattle.es6_lexer.proofs.Steps.{text_quote, text_cut, text_wrong, text_spelled, text_line, text_char, text_end}
use Rattle.es6_lexer.proofs.quoted.text_element.Goals as goal

pub returns-then-c-quote : goal.returns-then-c-quote
returns-then-c-quote c =
    sym (text_quote _ c.loop-at.at c.args.rest.now c.index-rest-at.result c.loop-at-test.true c.index-rest-at.is c.if-c-quote.true) ∙ c.loop-at.invariant.same

pub returns-in-Cut : goal.returns-in-Cut
returns-in-Cut c =
    let end = ap escape (sym (take_rest c.args.rest.now (c.loop-at.at + 1))) ∙ sym c.in-Cut.ensures.value in
    c.fault.ensures ∙ sym (text_cut c.index-rest-0.result c.loop-at.at c.args.rest.now c.index-rest-at.result c.loop-at-test.true c.index-rest-at.is c.if-c-quote.false c.if-c-eq92.true end) ∙ c.loop-at.invariant.same

pub returns-in-Wrong : goal.returns-in-Wrong
returns-in-Wrong c =
    let end = ap escape (sym (take_rest c.args.rest.now (c.loop-at.at + 1))) ∙ sym c.in-Wrong.ensures.value in
    c.fault-in-Wrong.ensures ∙ sym (text_wrong c.index-rest-0.result c.loop-at.at c.args.rest.now c.index-rest-at.result c.in-Wrong.kind c.loop-at-test.true c.index-rest-at.is c.if-c-quote.false c.if-c-eq92.true end) ∙ c.loop-at.invariant.same

pub loop-at-preserved-in-Spelled : goal.loop-at-preserved-in-Spelled
loop-at-preserved-in-Spelled c =
    let end = ap escape (sym (take_rest c.args.rest.now (c.loop-at.at + 1))) ∙ sym c.in-Spelled.ensures.value in
    record {
      same = sym (text_spelled c.index-rest-0.result c.loop-at.at c.args.rest.now c.index-rest-at.result c.in-Spelled.length c.loop-at-test.true c.index-rest-at.is c.if-c-quote.false c.if-c-eq92.true end) ∙ c.loop-at.invariant.same;
      inside = omega (arith, c.in-Spelled.ensures.within, ap length (take_rest c.args.rest.now (c.loop-at.at + 1)), length-drop (c.loop-at.at + 1) c.args.rest.now);
    }

pub returns-then-is_line_terminator : goal.returns-then-is_line_terminator
returns-then-is_line_terminator c =
    c.fault-then-is_line_terminator.ensures ∙ sym (text_line c.index-rest-0.result c.loop-at.at c.args.rest.now c.index-rest-at.result c.loop-at-test.true c.index-rest-at.is c.if-c-quote.false c.if-c-eq92.false (sym c.is_line_terminator.ensures ∙ c.if-is_line_terminator.true)) ∙ c.loop-at.invariant.same

pub loop-at-preserved : goal.loop-at-preserved
loop-at-preserved c = record {
  same = sym (text_char c.index-rest-0.result c.loop-at.at c.args.rest.now c.index-rest-at.result c.loop-at-test.true c.index-rest-at.is c.if-c-quote.false c.if-c-eq92.false (sym c.is_line_terminator.ensures ∙ c.if-is_line_terminator.false)) ∙ c.loop-at.invariant.same;
  inside = omega arith;
}

pub returns : goal.returns
returns c = c.fault-2.ensures ∙ sym (text_end c.index-rest-0.result c.loop-at.at c.args.rest.now (let h : length c.args.rest.now ≤ c.loop-at.at = omega arith in h)) ∙ c.loop-at.invariant.same
