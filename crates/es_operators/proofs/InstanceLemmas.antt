-- One step of the walk of `instanceof`.
use Rattle.std.proofs.Common.{◌≡◌, ◌<◌, ◌-◌, ℕ, zero, suc, Bool, false, ◌||◌, Option, None, Some, refl, sym, ap, ◌∙◌, arith}
use Rattle.es_value.specs.declared.value.ObjId.{ObjId}
use Rattle.es_heap.specs.Heaps.{Heap, object_at}
use Rattle.es_operators.specs.declared.functions.Instance.{Instance}
use Rattle.es_operators.specs.declared.functions.Instance.TheVariants.{Is}
use Rattle.es_operators.specs.Functions.{instance_within, instance_above, is_parent_step, met_at, unless_met}

module _ (heap : Heap) (at target : ObjId) (past : Bool) where
  pub instance_none : (n : ℕ) → None ≡ (object_at heap at).proto → instance_within n heap at target past ≡ Is false
  instance_none zero e = refl
  instance_none (suc n) e = ap (λ p. instance_above heap at target past p (λ up past. instance_within n heap up target past)) (sym e)

  module _ (up : ObjId) (above : Some up ≡ (object_at heap at).proto) where
    pub instance_met : (n : ℕ) (found : Instance) → 0 < n → met_at at up target (past || is_parent_step heap at up) ≡ Some found
        → instance_within n heap at target past ≡ found
    instance_met zero found more e = absurd (omega arith)
    instance_met (suc n) found more e =
        ap (λ p. instance_above heap at target past p (λ up past. instance_within n heap up target past)) (sym above)
        ∙ ap (λ m. unless_met m (instance_within n heap up target (past || is_parent_step heap at up))) e

    pub instance_goes_up : (n : ℕ) → 0 < n → met_at at up target (past || is_parent_step heap at up) ≡ None
        → instance_within n heap at target past ≡ instance_within (n - 1) heap up target (past || is_parent_step heap at up)
    instance_goes_up zero more e = absurd (omega arith)
    instance_goes_up (suc n) more e =
        let less : suc n - 1 ≡ n = omega arith in
        ap (λ p. instance_above heap at target past p (λ up past. instance_within n heap up target past)) (sym above)
        ∙ ap (λ m. unless_met m (instance_within n heap up target (past || is_parent_step heap at up))) e
        ∙ ap (λ m. instance_within m heap up target (past || is_parent_step heap at up)) (sym less)
