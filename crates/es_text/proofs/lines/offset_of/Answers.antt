-- The count ends at the place, past it, or at the end of the text.
use Rattle.std.proofs.Common.{sym, ◌∙◌}
use Rattle.es_text.proofs.Marked.{placed_first, placed_next, none_placed, none_placed_at_end, offset_found, offset_missing, same_by_test, differ_by_test, not_true}
use Rattle.es_text.proofs.lines.offset_of.Goals as goal

pub loop-place-init : goal.loop-place-init
loop-place-init c = record { mark = c.requires.mark; before = placed_first _ _ _ c.requires.mark c.requires.below }

pub returns-then-mark-text : goal.returns-then-mark-text
returns-then-mark-text c =
    offset_missing _ _ (none_placed_at_end _ _ _ c.loop-place.invariant.mark c.if-mark-text.true (c.is_before.ensures.0 c.loop-place-test.true))

pub loop-place-preserved : goal.loop-place-preserved
loop-place-preserved c = record {
  mark = c.step-mark.ensures.mark;
  before = placed_next _ _ _ _ c.loop-place.invariant.mark (c.is_before.ensures.0 c.loop-place-test.true) c.step-mark.ensures.next c.loop-place.invariant.before;
}

pub returns-then-eq : goal.returns-then-eq
returns-then-eq c = offset_found _ _ _ c.loop-place.invariant.mark (same_by_test c.loop-place.mark.place c.args.place (sym c.eq.ensures ∙ c.if-eq.true))

pub returns-else-eq : goal.returns-else-eq
returns-else-eq c = offset_missing _ _ (none_placed _ _ _ c.loop-place.invariant.mark c.loop-place.invariant.before (λ b. not_true _ c.loop-place-test.false (c.is_before.ensures.1 b)) (differ_by_test c.loop-place.mark.place c.args.place (sym c.eq.ensures ∙ c.if-eq.false)))
