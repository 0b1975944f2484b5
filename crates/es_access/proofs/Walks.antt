-- One step of the walk that looks for an object on a chain.
use Rattle.std.proofs.Common.{◌≡◌, ◌≢◌, ◌<◌, ◌-◌, ℕ, zero, suc, true, false, ◌||◌, nat_eq, None, Some, refl, sym, ap, ◌∙◌, arith}
use Rattle.std.proofs.lemmas.Bool.Decides.{nat_tests}
use Rattle.es_value.specs.declared.value.ObjId.{ObjId}
use Rattle.es_heap.specs.Heaps.{Heap, object_at}
use Rattle.es_access.specs.Access.{on_chain}

module _ (heap : Heap) (target : ObjId) where
  pub on_chain_none : (n : ℕ) → on_chain n heap None target ≡ false
  on_chain_none zero = refl
  on_chain_none (suc n) = refl

  pub on_chain_here : (n : ℕ) (up : ObjId) → 0 < n → up.0 ≡ target.0 → on_chain n heap (Some up) target ≡ true
  on_chain_here zero up h e = absurd (omega arith)
  on_chain_here (suc n) up h e =
      let test : nat_eq up.0 target.0 ≡ true = grind (arith, nat_tests) in
      ap (λ b. b || on_chain n heap (object_at heap up).proto target) test

  pub on_chain_up : (n : ℕ) (up : ObjId) → 0 < n → up.0 ≢ target.0 → on_chain n heap (Some up) target ≡ on_chain (n - 1) heap (object_at heap up).proto target
  on_chain_up zero up h e = absurd (omega arith)
  on_chain_up (suc n) up h e =
      let test : nat_eq up.0 target.0 ≡ false = grind (arith, nat_tests) in
      let less : suc n - 1 ≡ n = omega arith in
      ap (λ b. b || on_chain n heap (object_at heap up).proto target) test ∙ ap (λ m. on_chain m heap (object_at heap up).proto target) (sym less)
