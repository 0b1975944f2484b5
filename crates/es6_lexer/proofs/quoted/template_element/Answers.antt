-- Each branch is one step of the reading.
use Rattle.std.proofs.Common.{◌≡◌, ◌∙◌, sym, arith, drop, length, ◌+◌, ◌≤◌, ap, length-drop}
use Rattle.std.specs.Prelude.{◌&&◌, eqb}
use Rattle.std.proofs.lemmas.List.{take_rest}
use Rattle.es6_lexer.specs.Quoted.{escape}
use Rattle.es6_lexer.proofs.Steps.{template_close, template_cut, template_wrong, template_spelled, template_open, template_char, template_end}
use Rattle.es6_lexer.proofs.quoted.template_element.Goals as goal

pub returns-then-c-eq96 : goal.returns-then-c-eq96
returns-then-c-eq96 c =
    c.template.ensures ∙ sym (template_close c.loop-at.at c.args.rest.now c.index-rest-at.result c.loop-at-test.true c.index-rest-at.is c.if-c-eq96.true) ∙ c.loop-at.invariant.same

pub returns-in-Cut : goal.returns-in-Cut
returns-in-Cut c =
    let end = ap escape (sym (take_rest c.args.rest.now (c.loop-at.at + 1))) ∙ sym c.in-Cut.ensures.value in
    c.fault.ensures ∙ sym (template_cut c.loop-at.at c.args.rest.now c.index-rest-at.result c.loop-at-test.true c.index-rest-at.is c.if-c-eq92.true end) ∙ c.loop-at.invariant.same

pub returns-in-Wrong : goal.returns-in-Wrong
returns-in-Wrong c =
    let end = ap escape (sym (take_rest c.args.rest.now (c.loop-at.at + 1))) ∙ sym c.in-Wrong.ensures.value in
    c.fault-in-Wrong.ensures ∙ sym (template_wrong c.loop-at.at c.args.rest.now c.index-rest-at.result c.in-Wrong.kind c.loop-at-test.true c.index-rest-at.is c.if-c-eq92.true end) ∙ c.loop-at.invariant.same

pub loop-at-preserved-in-Spelled : goal.loop-at-preserved-in-Spelled
loop-at-preserved-in-Spelled c =
    let end = ap escape (sym (take_rest c.args.rest.now (c.loop-at.at + 1))) ∙ sym c.in-Spelled.ensures.value in
    record {
      same = sym (template_spelled c.loop-at.at c.args.rest.now c.index-rest-at.result c.in-Spelled.length c.loop-at-test.true c.index-rest-at.is c.if-c-eq92.true end) ∙ c.loop-at.invariant.same;
      inside = omega (arith, c.in-Spelled.ensures.within, ap length (take_rest c.args.rest.now (c.loop-at.at + 1)), length-drop (c.loop-at.at + 1) c.args.rest.now);
    }

pub returns-then-c-peek : goal.returns-then-c-peek
returns-then-c-peek c =
    let opens = ap (λ y. eqb c.index-rest-at.result 36 && eqb y 123) (sym c.peek.ensures) ∙ c.if-c-peek.true in
    c.template-then-c-peek.ensures ∙ sym (template_open c.loop-at.at c.args.rest.now c.index-rest-at.result c.loop-at-test.true c.index-rest-at.is c.if-c-eq96.false c.if-c-eq92.false opens) ∙ c.loop-at.invariant.same

pub loop-at-preserved : goal.loop-at-preserved
loop-at-preserved c =
    let plain = ap (λ y. eqb c.index-rest-at.result 36 && eqb y 123) (sym c.peek.ensures) ∙ c.if-c-peek.false in
    record {
      same = sym (template_char c.loop-at.at c.args.rest.now c.index-rest-at.result c.loop-at-test.true c.index-rest-at.is c.if-c-eq96.false c.if-c-eq92.false plain) ∙ c.loop-at.invariant.same;
      inside = omega arith;
    }

pub returns : goal.returns
returns c = c.fault-2.ensures ∙ sym (template_end c.loop-at.at c.args.rest.now (let h : length c.args.rest.now ≤ c.loop-at.at = omega arith in h)) ∙ c.loop-at.invariant.same
