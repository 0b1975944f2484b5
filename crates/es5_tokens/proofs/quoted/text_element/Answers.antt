-- Each branch is one step of the reading.
use Rattle.std.proofs.Common.{◌∙◌, sym, arith, drop, length, ◌+◌, ◌≤◌, ap, length-drop}
use Rattle.std.proofs.lemmas.List.{take_rest}
use Rattle.es5_tokens.specs.declared.shape.Element.TheVariants.{Take}
use Rattle.es5_tokens.specs.declared.token.TokenKind.TheVariants.{Text}
use Rattle.es5_tokens.specs.Quoted.{escape, text_from}
use Rattle.es5_tokens.proofs.Steps.{text_quote, text_cut, text_wrong, text_stands, text_continues, text_line, text_char, text_end}
use Rattle.es5_tokens.proofs.quoted.text_element.Goals as goal

pub returns-then-c-quote : goal.returns-then-c-quote
returns-then-c-quote c =
    ap (λ us. Take (Text us) (c.loop-at.at + 1)) c.of_units.ensures ∙ sym (text_quote c.index-rest-0.result c.loop-at.units.items c.loop-at.at c.args.rest.now c.index-rest-at.result c.loop-at-test.true c.index-rest-at.is c.if-c-quote.true) ∙ c.loop-at.invariant.same

pub returns-in-Cut : goal.returns-in-Cut
returns-in-Cut c =
    let end = ap escape (sym (take_rest c.args.rest.now (c.loop-at.at + 1))) ∙ sym c.in-Cut.ensures.value in
    c.fault.ensures ∙ sym (text_cut c.index-rest-0.result c.loop-at.units.items c.loop-at.at c.args.rest.now c.index-rest-at.result c.loop-at-test.true c.index-rest-at.is c.if-c-quote.false c.if-c-eq92.true end) ∙ c.loop-at.invariant.same

pub returns-in-Wrong : goal.returns-in-Wrong
returns-in-Wrong c =
    let end = ap escape (sym (take_rest c.args.rest.now (c.loop-at.at + 1))) ∙ sym c.in-Wrong.ensures.value in
    c.fault-in-Wrong.ensures ∙ sym (text_wrong c.index-rest-0.result c.loop-at.units.items c.loop-at.at c.args.rest.now c.index-rest-at.result c.loop-at-test.true c.index-rest-at.is c.if-c-quote.false c.if-c-eq92.true end) ∙ c.loop-at.invariant.same

pub loop-at-preserved-in-Stands : goal.loop-at-preserved-in-Stands
loop-at-preserved-in-Stands c =
    let end = ap escape (sym (take_rest c.args.rest.now (c.loop-at.at + 1))) ∙ sym c.in-Stands.ensures.value in
    let at = c.loop-at.at + (1 + c.in-Stands.length) in
    record {
      same = ap (λ us. text_from c.index-rest-0.result us at 0 (drop at c.args.rest.now)) c.in_ok-push_units-in-Stands.ensures
          ∙ sym (text_stands c.index-rest-0.result c.loop-at.units.items c.loop-at.at c.args.rest.now c.index-rest-at.result c.in-Stands.code c.in-Stands.length c.loop-at-test.true c.index-rest-at.is c.if-c-quote.false c.if-c-eq92.true end) ∙ c.loop-at.invariant.same;
      inside = omega (arith, c.in-Stands.ensures.within, ap length (take_rest c.args.rest.now (c.loop-at.at + 1)), length-drop (c.loop-at.at + 1) c.args.rest.now);
    }

pub loop-at-preserved-in-Continues : goal.loop-at-preserved-in-Continues
loop-at-preserved-in-Continues c =
    let end = ap escape (sym (take_rest c.args.rest.now (c.loop-at.at + 1))) ∙ sym c.in-Continues.ensures.value in
    record {
      same = sym (text_continues c.index-rest-0.result c.loop-at.units.items c.loop-at.at c.args.rest.now c.index-rest-at.result c.in-Continues.length c.loop-at-test.true c.index-rest-at.is c.if-c-quote.false c.if-c-eq92.true end) ∙ c.loop-at.invariant.same;
      inside = omega (arith, c.in-Continues.ensures.within, ap length (take_rest c.args.rest.now (c.loop-at.at + 1)), length-drop (c.loop-at.at + 1) c.args.rest.now);
    }

pub returns-then-is_line_terminator : goal.returns-then-is_line_terminator
returns-then-is_line_terminator c =
    c.fault-then-is_line_terminator.ensures ∙ sym (text_line c.index-rest-0.result c.loop-at.units.items c.loop-at.at c.args.rest.now c.index-rest-at.result c.loop-at-test.true c.index-rest-at.is c.if-c-quote.false c.if-c-eq92.false (sym c.is_line_terminator.ensures ∙ c.if-is_line_terminator.true)) ∙ c.loop-at.invariant.same

pub loop-at-preserved : goal.loop-at-preserved
loop-at-preserved c = record {
  same = ap (λ us. text_from c.index-rest-0.result us (c.loop-at.at + 1) 0 (drop (c.loop-at.at + 1) c.args.rest.now)) c.in_ok-push_units.ensures
      ∙ sym (text_char c.index-rest-0.result c.loop-at.units.items c.loop-at.at c.args.rest.now c.index-rest-at.result c.loop-at-test.true c.index-rest-at.is c.if-c-quote.false c.if-c-eq92.false (sym c.is_line_terminator.ensures ∙ c.if-is_line_terminator.false)) ∙ c.loop-at.invariant.same;
  inside = omega arith;
}

pub returns : goal.returns
returns c = c.fault-2.ensures ∙ sym (text_end c.index-rest-0.result c.loop-at.units.items c.loop-at.at c.args.rest.now (let h : length c.args.rest.now ≤ c.loop-at.at = omega arith in h)) ∙ c.loop-at.invariant.same
