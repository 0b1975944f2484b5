-- One step of the walk up a chain.
use Rattle.std.proofs.Common.{◌≡◌, ◌<◌, ◌-◌, ℕ, zero, suc, Bool, ◌||◌, sym, ap, ◌∙◌, arith}
use Rattle.es_value.specs.declared.value.ObjId.{ObjId}
use Rattle.es_heap.specs.declared.key.Key.{Key}
use Rattle.es_heap.specs.Heaps.{Heap}
use Rattle.es_realm.specs.declared.edition.Edition.{Edition}
use Rattle.es_realm.specs.declared.look.Look.{Look}
use Rattle.es_realm.specs.declared.look.Visit.TheVariants.{Stops, Above}
use Rattle.es_realm.specs.Look.{visit_object, after_visit, walk_within, passes_unrecorded}

module _ (edition : Edition) (heap : Heap) (id : ObjId) (k : Key) (past : Bool) where
  pub walk_stops : (n : ℕ) (found : Look) → 0 < n → visit_object edition heap id k past ≡ Stops found → walk_within n edition heap id k past ≡ found
  walk_stops zero found more e = absurd (omega arith)
  walk_stops (suc n) found more e = ap (λ v. after_visit v (λ up. walk_within n edition heap up k (past || passes_unrecorded heap id up k))) e

  pub walk_goes_up : (n : ℕ) (up : ObjId) → 0 < n → visit_object edition heap id k past ≡ Above up
      → walk_within n edition heap id k past ≡ walk_within (n - 1) edition heap up k (past || passes_unrecorded heap id up k)
  walk_goes_up zero up more e = absurd (omega arith)
  walk_goes_up (suc n) up more e =
      let less : suc n - 1 ≡ n = omega arith in
      ap (λ v. after_visit v (λ up. walk_within n edition heap up k (past || passes_unrecorded heap id up k))) e
      ∙ ap (λ m. walk_within m edition heap up k (past || passes_unrecorded heap id up k)) (sym less)
