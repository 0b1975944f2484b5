-- One step of the walk that looks for a kind of error on a chain.
use Rattle.std.proofs.Common.{◌≡◌, ◌<◌, ◌-◌, ℕ, zero, suc, Option, None, Some, refl, sym, ap, ◌∙◌, arith}
use Rattle.es_value.specs.declared.value.ObjId.{ObjId}
use Rattle.es_outside.specs.declared.events.Seen.{Seen}
use Rattle.es_outside.specs.declared.events.Seen.TheVariants as seen
use Rattle.es_heap.specs.Heaps.{Heap, object_at}
use Rattle.es_operators.specs.Seen.{kind_at, seen_or, seen_within}

module _ (heap : Heap) where
  pub seen_none : (n : ℕ) → seen_within n heap None ≡ seen.Object
  seen_none zero = refl
  seen_none (suc n) = refl

  pub seen_here : (n : ℕ) (up : ObjId) (kind : Seen) → 0 < n → kind_at up ≡ Some kind → seen_within n heap (Some up) ≡ kind
  seen_here zero up kind h e = absurd (omega arith)
  seen_here (suc n) up kind h e = ap (λ k. seen_or k (seen_within n heap (object_at heap up).proto)) e

  pub seen_up : (n : ℕ) (up : ObjId) → 0 < n → kind_at up ≡ None → seen_within n heap (Some up) ≡ seen_within (n - 1) heap (object_at heap up).proto
  seen_up zero up h e = absurd (omega arith)
  seen_up (suc n) up h e =
      let less : suc n - 1 ≡ n = omega arith in
      ap (λ k. seen_or k (seen_within n heap (object_at heap up).proto)) e ∙ ap (λ m. seen_within m heap (object_at heap up).proto) (sym less)
