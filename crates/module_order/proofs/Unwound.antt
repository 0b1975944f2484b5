-- What is left of an evaluation with a stack: the module on the top goes on with its requests and runs, and then the one below.
use Rattle.std.proofs.Common.{◌≡◌, ◌-◌, ◌<◌, ℕ, zero, suc, Bool, true, false, cond, List, [], ◌∷◌, ◌++◌, length, refl, ap, ◌∙◌, arith}
use Rattle.std.specs.Prelude.{drop}
use Rattle.module_order.specs.declared.walk.Evaluation.{Evaluation}
use Rattle.module_order.specs.declared.walk.Frame.{Frame}
use Rattle.module_order.specs.Order.{evaluated, is_marked, marked, one_by_one, ran, requests_of}
use Rattle.module_order.specs.Steps.{begins, frame}

module _ (graph : List (List ℕ)) where
  abbrev pub closed : ℕ → Frame → Evaluation → Evaluation
  closed depth f e = ran f.number (one_by_one (evaluated depth graph) (drop f.next (requests_of graph f.number)) e)

  abbrev pub unwound : ℕ → List Frame → Evaluation → Evaluation
  unwound depth [] e = e
  unwound depth (f ∷ fs) e = closed depth f (unwound (depth - 1) fs e)

  pub unwound-push : (depth : ℕ) (fs : List Frame) (f : Frame) (e : Evaluation) → unwound depth (fs ++ f ∷ []) e ≡ unwound depth fs (closed (depth - length fs) f e)
  unwound-push depth [] f e = let same : depth ≡ depth - 0 = omega arith in ap (λ d. closed d f e) same
  unwound-push depth (g ∷ fs) f e =
      let same : depth - 1 - length fs ≡ depth - suc (length fs) = omega arith in
      ap (closed depth g) (unwound-push (depth - 1) fs f e ∙ ap (λ d. unwound (depth - 1) fs (closed d f e)) same)

  -- a module is evaluated as far as chains may still go
  pub reached : (count depth : ℕ) (fs : List Frame) (m : ℕ) (e : Evaluation) (b : Bool) → is_marked m e ≡ b → (b ≡ false → length fs < count) → depth ≡ count - length fs
      → unwound (count - 1) (cond b (record { evaluation = e; stack = fs }) (begins m (record { evaluation = e; stack = fs }))).stack
      (cond b (record { evaluation = e; stack = fs }) (begins m (record { evaluation = e; stack = fs }))).evaluation
      ≡ unwound (count - 1) fs (evaluated depth graph m e)
  reached count zero fs m e true is few same = refl
  reached count (suc depth) fs m e true is few same = rw is refl
  reached count zero fs m e false is few same = let short : length fs < count = few refl in absurd (omega (arith, short, same))
  reached count (suc depth) fs m e false is few same =
      let deep : count - 1 - length fs ≡ depth = omega (arith, same) in
      unwound-push (count - 1) fs (frame m 0) (marked m e) ∙ ap (λ d. unwound (count - 1) fs (closed d (frame m 0) (marked m e))) deep ∙ rw is refl
