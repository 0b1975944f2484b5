-- The count ends at the offset, past it, or at the end of the text.
use Rattle.std.proofs.Common.{arith, ◌<◌}
use Rattle.es_text.proofs.Marked.{before_first, before_next, none_after_end, none_past, place_found, place_missing, boundary_missing, IsNoOffset}
use Rattle.es_text.proofs.lines.place_of.Goals as goal
use Rattle.es_text.proofs.lines.place_of.Goals.{Then-mark-text, Else-mark-offset}

pub loop-mark-init : goal.loop-mark-init
loop-mark-init c = record { mark = c.requires.mark; before = before_first _ _ _ c.requires.mark c.requires.below }

none_at_end : (c : Then-mark-text) → IsNoOffset c.args.text.now c.args.offset
none_at_end c = none_after_end _ _ _ c.loop-mark.invariant.mark c.if-mark-text.true c.loop-mark-test.true

pub returns-then-mark-text-clause-place : goal.returns-then-mark-text-clause-place
returns-then-mark-text-clause-place c = place_missing _ _ (none_at_end c)

pub returns-then-mark-text-clause-boundary : goal.returns-then-mark-text-clause-boundary
returns-then-mark-text-clause-boundary c = (λ some. absurd (cc), λ b. absurd (boundary_missing _ _ (none_at_end c) b))

pub loop-mark-preserved : goal.loop-mark-preserved
loop-mark-preserved c = record { mark = c.step-mark.ensures.mark; before = before_next _ _ _ _ c.loop-mark.invariant.mark c.loop-mark-test.true c.step-mark.ensures.next c.loop-mark.invariant.before }

pub returns-then-mark-offset-clause-place : goal.returns-then-mark-offset-clause-place
returns-then-mark-offset-clause-place c = place_found _ _ _ c.loop-mark.invariant.mark c.if-mark-offset.true

none_here : (c : Else-mark-offset) → IsNoOffset c.args.text.now c.args.offset
none_here c = none_past _ _ _ c.loop-mark.invariant.mark c.loop-mark.invariant.before (let h : c.args.offset < c.loop-mark.mark.offset = omega (arith, c.if-mark-offset.false, c.loop-mark-test.false) in h)

pub returns-else-mark-offset-clause-place : goal.returns-else-mark-offset-clause-place
returns-else-mark-offset-clause-place c = place_missing _ _ (none_here c)

pub returns-else-mark-offset-clause-boundary : goal.returns-else-mark-offset-clause-boundary
returns-else-mark-offset-clause-boundary c = (λ some. absurd (cc), λ b. absurd (boundary_missing _ _ (none_here c) b))
