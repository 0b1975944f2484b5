-- Each turn adds the units of one character or escape.
use Rattle.std.proofs.Common.{◌≡◌, ◌∙◌, sym, arith, drop, length, ◌+◌, ◌≤◌, ◌++◌, ap, length-drop}
use Rattle.std.proofs.lemmas.List.{take_rest}
use Rattle.es6_lexer.specs.Values.{cooked_from, cooked, escape_units, escape_length, character_units}
use Rattle.es6_lexer.proofs.Steps.{cooked_escape, cooked_char, cooked_end}
use Rattle.es6_lexer.proofs.values.cooked.Goals as goal

pub loop-at-preserved-then-c-eq92 : goal.loop-at-preserved-then-c-eq92
loop-at-preserved-then-c-eq92 c =
    let text = c.args.text.now in
    let at = c.loop-at.at in
    let units = c.in_ok-push_escape.ensures.ok ∙ ap (λ r. c.loop-at.units.items ++ escape_units r) (take_rest text (at + 1)) in
    let n = c.escape_length.ensures.value ∙ ap escape_length (take_rest text (at + 1)) in
    record {
      same = ap (λ u. u ++ cooked_from 0 (drop (at + (1 + c.escape_length.result)) text)) units
          ∙ ap (λ m. (c.loop-at.units.items ++ escape_units (drop (at + 1) text)) ++ cooked_from 0 (drop (at + (1 + m)) text)) n
          ∙ cooked_escape c.loop-at.units.items at text c.index-text-at.result c.loop-at-test.true c.index-text-at.is c.if-c-eq92.true ∙ c.loop-at.invariant.same;
      inside = omega (arith, c.escape_length.ensures.within, ap length (take_rest text (at + 1)), length-drop (at + 1) text);
    }

pub loop-at-preserved : goal.loop-at-preserved
loop-at-preserved c =
    let text = c.args.text.now in
    let at = c.loop-at.at in
    let units = c.in_ok-push_character.ensures.ok ∙ ap (λ y. c.loop-at.units.items ++ character_units c.index-text-at.result y) c.peek.ensures in
    record {
      same = ap (λ u. u ++ cooked_from 0 (drop (at + 1) text)) units
          ∙ cooked_char c.loop-at.units.items at text c.index-text-at.result c.loop-at-test.true c.index-text-at.is c.if-c-eq92.false ∙ c.loop-at.invariant.same;
      inside = omega arith;
    }

pub returns : goal.returns
returns c = c.of_units.ensures ∙ sym (cooked_end c.loop-at.units.items c.loop-at.at c.args.text.now c.loop-at-test.false) ∙ c.loop-at.invariant.same
