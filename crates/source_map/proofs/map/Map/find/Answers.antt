use Rattle.std.proofs.Common.{inl, inr, refl, arith, subst, sym, ap, ◌∙◌}
use Rattle.std.proofs.lemmas.Bool.{true≢false}
use Rattle.source_map.specs.Maps.{AreOrdered, target_at}
use Rattle.source_map.proofs.Found.{below_or_above, below_more, above_more, target_at-none, target_at-found, is_place-between}
use Rattle.source_map.proofs.map.Map.find.Goals as goal

pub loop-low-preserved-then-is_before : goal.loop-low-preserved-then-is_before
loop-low-preserved-then-is_before c =
    let ordered = subst AreOrdered (sym c.as_slice-segments.ensures) c.requires in
    record {
      low = omega arith;
      high = c.loop-low.invariant.high;
      below = below_more _ ordered _ _ _ (omega arith) (c.if-is_before.ensures.0 refl);
      above = c.loop-low.invariant.above;
    }

pub loop-low-preserved : goal.loop-low-preserved
loop-low-preserved c =
    let ordered = subst AreOrdered (sym c.as_slice-segments.ensures) c.requires in
    record {
      low = omega arith;
      high = omega arith;
      below = c.loop-low.invariant.below;
      above = above_more _ ordered _ _ _ (omega arith) (c.if-is_before-2.ensures.0 refl);
    }

pub returns-else-is_before-2 : goal.returns-else-is_before-2
returns-else-is_before-2 c =
    let ordered = subst AreOrdered (sym c.as_slice-segments.ensures) c.requires in
    c.as_ref.ensures.value
    ∙ sym (target_at-found _ ordered _ _ _ (omega arith)
    (is_place-between _ _ (λ h. true≢false (sym (c.if-is_before.ensures.1 h))) (λ h. true≢false (sym (c.if-is_before-2.ensures.1 h)))))
    ∙ ap (λ ss. target_at ss c.args.generated) c.as_slice-segments.ensures

pub returns : goal.returns
returns c =
    sym (target_at-none _ _ (λ k d h. elim (below_or_above k c.loop-low.low) [
      | inl less ↦ inl (c.loop-low.invariant.below k d less)
      | inr above ↦ inr (c.loop-low.invariant.above k d (omega (arith, c.loop-low-test.false)) h)
    ]))
    ∙ ap (λ ss. target_at ss c.args.generated) c.as_slice-segments.ensures
